use Rattle.std.proofs.Common.{◌++◌, ap, ◌∙◌, sym, arith, Some}
use Rattle.std.proofs.lemmas.Option.{slice_get-get_or}
use Rattle.lock_core.specs.declared.views.View.{View}
use Rattle.lock_core.specs.Machine.{grant_of, held_at}
use Rattle.lock_core.proofs.Opening.{grants_more}
use Rattle.lock_core.proofs.state.grants_of.Goals as goal

-- the grant of the next view, if it has one, goes behind those before
pub loop-view-preserved : goal.loop-view-preserved
loop-view-preserved c = record {
  seat = let e = c.loop-view.invariant.seat in omega arith;
  list =
      let v = c.view-item.result in
      let at = slice_get-get_or c.args.views.now c.loop-view.view-index v c.loop-view-test.true ∙ ap (λ (u : View). Some u) (sym c.view-item.is) in
      c.in_ok-add_grant.ensures {u = tt} ∙ (λ i. c.loop-view.invariant.list i ++ grant_of (c.loop-view.invariant.seat i)
      (held_at v.own)) ∙ grants_more c.args.views.now c.loop-view.view-index v at;
}
