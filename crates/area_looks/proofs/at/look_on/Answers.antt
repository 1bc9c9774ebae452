use Rattle.std.proofs.Common.{◌≡◌, ◌<◌, ◌≤◌, ◌∙◌, refl, sym, subst, arith}
use Rattle.lock_core.specs.declared.range.Held.{Held}
use Rattle.range_rw.specs.Contract.{AsksAmong}
use Rattle.range_rw.proofs.Asking.{asks_on, asks_stay, asks_wider, for_only}
use Rattle.area_rows.specs.Callers.{CallerView}
use Rattle.area_looks.specs.declared.at.Found.{Found}
use Rattle.area_looks.specs.Shown.{HasLookedAt, IsReadAround}
use Rattle.area_looks.specs.Found.{IsLast}
use Rattle.area_looks.proofs.Showing.{looked_none, looked_on}
use Rattle.area_looks.proofs.Ends.{found_last}
use Rattle.area_looks.proofs.at.look_on.Goals.{in-None, in-Some+in-Free}
use Rattle.area_looks.proofs.at.look_on.Goals as goal

-- before the first look nothing is asked
pub loop-init : goal.loop-init
loop-init g c = record {
  held = c.requires.free;
  looked = looked_none c.args.caller.now (c.holds_pages.ensures.rest c.requires.free);
  inside = ((let l = c.of_page-wide.ensures.lo in omega arith), (let h = c.of_page-wide.ensures.hi in omega arith));
  asks = asks_stay refl;
}

-- the caller is of the space still
pub look_once-last-requires-clause-table : goal.look_once-last-requires-clause-table
look_once-last-requires-clause-table g c = c.loop.invariant.looked.same.table ∙ c.requires.table

-- a look that wants more pages leaves the caller as it was
pub loop-preserved : goal.loop-preserved
loop-preserved g c =
    let i = c.loop.invariant in let e = c.in-Wider.ensures in
    record {
      held = e.free;
      looked = looked_on i.looked e.looked;
      inside = e.found;
      asks = asks_on i.asks (asks_wider (λ (h : Held) is. subst (IsReadAround c.args.page) (sym is) (refl, i.inside.0, i.inside.1)) (for_only e.asks));
    }

-- the last look, told from the caller as it was before the first one
pub returns-clause-last : goal.returns-clause-last
returns-clause-last g c = elim c.match-next.branch [
  | in-None w ↦ let never = w.in-None.ensures.steps in absurd cc
  | in-Some+in-Free w ↦
      let a = w.look_once-last in
      subst (λ (f : Found). IsLast c.args.caller.now.seat c.args.page f) (sym w.last-is)
      (found_last c.args.caller.now.seat c.loop.caller.seat c.loop.wide c.args.page a.result c.loop.invariant.looked.same a.ensures.found)
]

-- all of them are a look
pub returns-clause-looked : goal.returns-clause-looked
returns-clause-looked g c = elim c.match-next.branch [
  | in-None w ↦ let never = w.in-None.ensures.steps in absurd cc
  | in-Some+in-Free w ↦
      let a = w.look_once-last in
      subst (λ (z : CallerView). HasLookedAt c.args.caller.now z) (sym w.caller-is) (looked_on c.loop.invariant.looked a.ensures.looked)
]

-- and ask for pages round this one
pub returns-clause-asks : goal.returns-clause-asks
returns-clause-asks g c = elim c.match-next.branch [
  | in-None w ↦ let never = w.in-None.ensures.steps in absurd cc
  | in-Some+in-Free w ↦
      let a = w.look_once-last in let i = c.loop.invariant in
      subst (λ (z : CallerView). AsksAmong (IsReadAround c.args.page) c.args.caller.now.seat.trace.asked z.seat.trace.asked) (sym w.caller-is)
      (asks_on i.asks (asks_wider (λ (h : Held) is. subst (IsReadAround c.args.page) (sym is) (refl, i.inside.0, i.inside.1)) (for_only a.ensures.asks)))
]
