use Rattle.std.proofs.Common.{◌∙◌, sym, subst, inr}
use Rattle.area_rows.specs.Callers.{CallerView}
use Rattle.area_protect.specs.Looks.{LooksFirst}
use Rattle.area_protect.specs.Protects.{AsksPagesFirst}
use Rattle.area_protect.proofs.Asking.{attempts_first}
use Rattle.area_protect.proofs.Looking.{looked_on, attempt_since, same_attempt, first_since, first_again}
use Rattle.area_protect.proofs.protecting.attempts.Goals.{in-None, in-Some+in-Done}
use Rattle.area_protect.proofs.protecting.attempts.Goals as goal

-- the last attempt, told from the caller as it was before the first one
pub returns-clause-attempt : goal.returns-clause-attempt
returns-clause-attempt g c = elim c.match-next.branch [
  | in-None w ↦ let never = w.in-None.ensures.steps in absurd cc
  | in-Some+in-Done w ↦
      let a = w.one_attempt-last in
      same_attempt c.args.caller.now c.args.request w.caller-is w.last-is
      (attempt_since a.new.caller c.args.request a.result c.loop.invariant.looked (c.loop.invariant.held ∙ sym c.requires.caller.free) a.ensures.attempt)
]

-- its first look was made under the pages as a reader
pub returns-clause-first : goal.returns-clause-first
returns-clause-first g c = elim c.match-next.branch [
  | in-None w ↦ let never = w.in-None.ensures.steps in absurd cc
  | in-Some+in-Done w ↦
      let a = w.one_attempt-last in
      subst (λ (z : CallerView). LooksFirst c.args.caller.now.seat c.args.pages.lo c.args.pages.hi z.seat) (sym w.caller-is)
      (first_since c.args.caller.now.seat c.loop.caller.seat a.new.caller.seat c.args.pages.lo c.args.pages.hi c.loop.invariant.first a.ensures.first)
]

-- an attempt that ends at other boundaries has only looked
pub loop-preserved : goal.loop-preserved
loop-preserved g c =
    let i = c.loop.invariant in let new = c.one_attempt-last.new.caller in let e = c.in-Again.ensures in
    record {
      held = e.free;
      looked = looked_on i.looked e.attempt;
      asks = inr (attempts_first c.args.pages.lo c.args.pages.hi c.args.caller.now.seat.trace.asked c.loop.caller.seat.trace.asked
          new.seat.trace.asked i.asks c.one_attempt-last.ensures.asks);
      first = first_again c.args.caller.now.seat c.loop.caller.seat new.seat c.args.pages.lo c.args.pages.hi i.first e.first;
    }

-- the attempts ask for the pages first
pub returns-clause-asks : goal.returns-clause-asks
returns-clause-asks g c = elim c.match-next.branch [
  | in-None w ↦ let never = w.in-None.ensures.steps in absurd cc
  | in-Some+in-Done w ↦
      let a = w.one_attempt-last in
      subst (λ (z : CallerView). AsksPagesFirst c.args.pages.lo c.args.pages.hi c.args.caller.now.seat.trace.asked z.seat.trace.asked) (sym w.caller-is)
      (attempts_first c.args.pages.lo c.args.pages.hi c.args.caller.now.seat.trace.asked c.loop.caller.seat.trace.asked
      a.new.caller.seat.trace.asked c.loop.invariant.asks a.ensures.asks)
]
