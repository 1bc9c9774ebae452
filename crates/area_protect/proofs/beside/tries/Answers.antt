use Rattle.std.proofs.Common.{◌∙◌, sym, subst, inr}
use Rattle.area_rows.specs.Callers.{CallerView}
use Rattle.area_protect.specs.Protects.{AsksPagesFirst}
use Rattle.area_protect.proofs.Asking.{attempts_first}
use Rattle.area_protect.proofs.Looking.{looked_on, made_since, same_made}
use Rattle.area_protect.proofs.beside.tries.Goals.{in-None, in-Some+in-Done}
use Rattle.area_protect.proofs.beside.tries.Goals as goal

-- the last attempt, told from the caller as it was before the first one
pub returns-clause-made : goal.returns-clause-made
returns-clause-made g c = elim c.match-next.branch [
  | in-None w ↦ let never = w.in-None.ensures.steps in absurd cc
  | in-Some+in-Done w ↦
      let a = w.try_beside-last in
      same_made c.args.caller.now c.args.request w.caller-is w.last-is
      (made_since a.new.caller c.args.request a.result c.loop.invariant.looked (c.loop.invariant.held ∙ sym c.requires.caller.free) a.ensures.made)
]

-- an attempt that ends at other boundaries leaves the history to others
pub loop-preserved : goal.loop-preserved
loop-preserved g c =
    let i = c.loop.invariant in let new = c.try_beside-last.new.caller in let e = c.in-Again.ensures in
    record {
      held = e.free;
      looked = looked_on i.looked e.made;
      asks = inr (attempts_first c.args.pages.lo c.args.pages.hi c.args.caller.now.seat.trace.asked c.loop.caller.seat.trace.asked
          new.seat.trace.asked i.asks c.try_beside-last.ensures.asks);
    }

-- the attempts ask for the pages first
pub returns-clause-asks : goal.returns-clause-asks
returns-clause-asks g c = elim c.match-next.branch [
  | in-None w ↦ let never = w.in-None.ensures.steps in absurd cc
  | in-Some+in-Done w ↦
      let a = w.try_beside-last in
      subst (λ (z : CallerView). AsksPagesFirst c.args.pages.lo c.args.pages.hi c.args.caller.now.seat.trace.asked z.seat.trace.asked) (sym w.caller-is)
      (attempts_first c.args.pages.lo c.args.pages.hi c.args.caller.now.seat.trace.asked c.loop.caller.seat.trace.asked
      a.new.caller.seat.trace.asked c.loop.invariant.asks a.ensures.asks)
]
