use Rattle.std.proofs.Common.{refl, true, rules, ◌∙◌, sym, subst}
use Rattle.lock_core.specs.declared.range.Held.{Held}
use Rattle.range_rw.specs.Contract.{SeatState}
use Rattle.event_count.specs.Calls.{SeatView}
use Rattle.range_wait.specs.Moves.{IsWaited}
use Rattle.range_wait.specs.declared.waiting.TheConstants.{AWAKE_TRIES}
use Rattle.range_wait.specs.Seats.{both}
use Rattle.range_wait.proofs.Waited.{gone_on, now_silent, then_gone, tries_gone, tries_held}
use Rattle.range_wait.proofs.waiting.acquire_in.Goals.{in-None, in-Some+then-round}
use Rattle.range_wait.proofs.waiting.acquire_in.Goals as goal

-- a round that didn't hold the range is moves more
pub loop-preserved : goal.loop-preserved
loop-preserved g c = let i = c.loop.invariant in let e = c.if-round.ensures in record {
  table = e.table ∙ i.table;
  events = e.events ∙ i.events;
  held = search rules;
  out = e.out;
  gone = gone_on i.gone e.gone.0 (both c.round.new.seat c.round.new.event) e.gone.1;
}

-- one of the tries awake held it
pub returns-in-Ok-clause-waited : goal.returns-in-Ok-clause-waited
returns-in-Ok-clause-waited g c = tries_held AWAKE_TRIES (both c.tries_awake.new.seat c.tries_awake.new.event) c.in-Ok.ensures.tried

-- all were refused
pub loop-init : goal.loop-init
loop-init g c = record {
  table = search rules;
  events = search rules;
  held = c.in-Err.ensures.free;
  out = c.tries_awake.ensures.out;
  gone = (0, refl);
}

-- the moves awake, those of the rounds, and the try by which it is held
pub returns-clause-waited : goal.returns-clause-waited
returns-clause-waited g c = elim c.match-next.branch [
  | in-None w ↦ let never = w.in-None.ensures.steps in absurd cc
  | in-Some+then-round w ↦ let asked : Held = record { range = c.args.range; mode = c.args.mode } in
      subst (λ (s : SeatState _). IsWaited asked (both c.args.seat.now c.args.event.now) (both s c.match-next.event)) (sym w.seat-is)
      (subst (λ (e : SeatView). IsWaited asked (both c.args.seat.now c.args.event.now) (both w.round.new.seat e)) (sym w.event-is)
      (then_gone true (both w.round.new.seat w.round.new.event)
      (tries_gone AWAKE_TRIES c.in-Err.field-0 (both c.tries_awake.new.seat c.tries_awake.new.event) c.in-Err.ensures.tried)
      (then_gone true (both w.round.new.seat w.round.new.event) c.loop.invariant.gone w.if-round.ensures.gone)))
]

pub returns-clause-held : goal.returns-clause-held
returns-clause-held g c = (returns-clause-waited g c).3.held

pub returns-clause-silent : goal.returns-clause-silent
returns-clause-silent g c = now_silent (returns-clause-waited g c)
