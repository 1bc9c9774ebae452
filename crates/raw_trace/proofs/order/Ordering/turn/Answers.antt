use Rattle.std.proofs.Common.{refl}
use Rattle.raw_trace.specs.Waiting.{entry}
use Rattle.raw_trace.specs.Stages.{made_due}
use Rattle.raw_trace.proofs.Turns.{due_two}
use Rattle.raw_trace.proofs.order.Ordering.turn.Goals as goal

-- the first that frees pages is due before it
pub returns-in_ok-push-in-Some-2-clause-took : goal.returns-in_ok-push-in-Some-2-clause-took
returns-in_ok-push-in-Some-2-clause-took c =
    made_due (record { first = entry c.in-Some.other; others = c.take_that_frees.new.self }) c.in-Some.ensures.some
    refl (due_two _ _ _ c.args.piece c.in-Some.other c.in_ok-push-in-Some.ensures.items c.in_ok-push-in-Some-2.ensures.items) refl
