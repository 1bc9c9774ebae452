use Rattle.std.proofs.Common.{rules, refl, sym, subst}
use Rattle.event_count.specs.Calls.{SeatView}
use Rattle.event_count.specs.Sleeping.{DozesUntil}
use Rattle.event_count.specs.declared.sleeping.Slept.{Slept}
use Rattle.event_count.proofs.Dozing.{one_turn, dozed_until}
use Rattle.event_count.proofs.table.EventCount.doze_until.Goals.{in-None, in-Some+in-Some-turn_until}
use Rattle.event_count.proofs.table.EventCount.doze_until.Goals as goal

-- one turn more found the number seen
pub loop-preserved : goal.loop-preserved
loop-preserved g c = record {
  table = search rules;
  counted = search rules;
  turned = one_turn c.args.seen c.args.seen c.args.seat.now.steps c.loop.seat.steps c.turn_until.new.seat.steps
      c.loop.invariant.turned c.in-None-turn_until.ensures.turn refl;
}

-- the last turn says how the sleep ended
pub returns-clause-dozes : goal.returns-clause-dozes
returns-clause-dozes g c = elim c.match-next.branch [
  | in-None w ↦ let never = w.in-None.ensures.steps in absurd cc
  | in-Some+in-Some-turn_until w ↦
      subst (λ (z : SeatView × Slept). DozesUntil c.args.seen c.args.deadline c.args.seat.now.steps z.1 z.0.steps)
      (λ i. (sym w.seat-is i, sym w.slept-is i))
      (dozed_until c.args.seen c.args.deadline c.args.seat.now.steps c.loop.seat.steps w.turn_until.new.seat.steps w.in-Some-turn_until.how
      c.loop.invariant.turned w.in-Some-turn_until.ensures.turn)
]
