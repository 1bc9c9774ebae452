use Rattle.std.proofs.Common.{Err, subst}
use Rattle.range_queue.specs.declared.answers.NotYet.{NotYet}
use Rattle.range_queue.specs.Tries.{IsQueueTry}
use Rattle.range_wait.proofs.trying.try_twice.Goals as goal

pub returns-in-Err-Refused-clause-tried : goal.returns-in-Err-Refused-clause-tried
returns-in-Err-Refused-clause-tried g c = (
  c.try_acquire.new.seat,
  subst (λ (why : NotYet). IsQueueTry {A = Unit {0}} (record { range = c.args.range; mode = c.args.mode }) (Err why) c.args.seat.now c.try_acquire.new.seat)
      c.in-Err-Refused.field-0-is c.in-Err-Refused.ensures.tried,
  c.gives_way-way.ensures.looked,
)
