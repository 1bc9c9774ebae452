use Rattle.std.proofs.Common.{refl}
use Rattle.test_lock.proofs.SeatLists.{nobody_yet}
use Rattle.test_lock.proofs.opened.open_turnstile.Goals as goal

pub open_cut-requires-clause-rule : goal.open_cut-requires-clause-rule
open_cut-requires-clause-rule c = λ ok. nobody_yet _ _ c.args.seats (λ k. refl)
