use Rattle.std.proofs.Common.{refl}
use Rattle.range_wait.specs.Seats.{both}
use Rattle.range_wait.proofs.up_to.told_up_to.Goals as goal

-- it announced the range, or couldn't, and then made its tries
pub returns-in-Ok-clause-tried : goal.returns-in-Ok-clause-tried
returns-in-Ok-clause-tried g c = let e = c.announce.ensures in (
  both c.announce.new.seat c.args.event.now,
  record { answer = c.announce.result; beside = e.beside; same = e.same; told = e.told; events = refl },
  c.in-Ok.ensures.tried,
)

pub returns-in-Err-clause-tried : goal.returns-in-Err-clause-tried
returns-in-Err-clause-tried g c = let e = c.announce.ensures in (
  both c.announce.new.seat c.args.event.now,
  both c.tries_awake.new.seat c.tries_awake.new.event,
  record { answer = c.announce.result; beside = e.beside; same = e.same; told = e.told; events = refl },
  c.in-Err.ensures.tried,
  c.give_up.ensures.gave,
)
