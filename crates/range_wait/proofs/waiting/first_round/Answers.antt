use Rattle.std.proofs.Common.{true, false, inl}
use Rattle.range_wait.specs.Seats.{both}
use Rattle.range_wait.proofs.Waited.{announced, at_once, one_move, then_gone}
use Rattle.range_wait.proofs.waiting.first_round.Goals as goal

pub returns-in-Ok-turn-clause-gone : goal.returns-in-Ok-turn-clause-gone
returns-in-Ok-turn-clause-gone g c = then_gone true (both c.turn.new.seat c.turn.new.event)
    (announced c.announce.result c.args.seat.now c.announce.new.seat c.args.event.now c.announce.ensures.beside c.announce.ensures.same c.announce.ensures.told)
    (at_once c.in-Ok-turn.ensures.round)

pub returns-in-Err-turn-clause-gone : goal.returns-in-Err-turn-clause-gone
returns-in-Err-turn-clause-gone g c = then_gone false (both c.turn.new.seat c.turn.new.event)
    (announced c.announce.result c.args.seat.now c.announce.new.seat c.args.event.now c.announce.ensures.beside c.announce.ensures.same c.announce.ensures.told)
    (one_move c.in-Err-turn.ensures.round)

pub returns-in-Ok-try_awake-clause-gone : goal.returns-in-Ok-try_awake-clause-gone
returns-in-Ok-try_awake-clause-gone g c = then_gone true (both c.try_awake.new.seat c.try_awake.new.event)
    (announced c.announce.result c.args.seat.now c.announce.new.seat c.args.event.now c.announce.ensures.beside c.announce.ensures.same c.announce.ensures.told)
    (at_once c.in-Ok-try_awake.ensures.tried.0)

pub returns-in-Err-try_awake-clause-gone : goal.returns-in-Err-try_awake-clause-gone
returns-in-Err-try_awake-clause-gone g c = then_gone false (both c.try_awake.new.seat c.try_awake.new.event)
    (announced c.announce.result c.args.seat.now c.announce.new.seat c.args.event.now c.announce.ensures.beside c.announce.ensures.same c.announce.ensures.told)
    (one_move (inl (c.in-Err-try_awake.field-0, c.in-Err-try_awake.ensures.tried)))
