use Rattle.std.proofs.Common.{refl}
use Rattle.example_ranges.proofs.Marking.{nothing_read}
use Rattle.example_ranges.proofs.marks.open_mark.Goals as goal

-- the rule holds at the opening, since no seat has read anything
pub open-requires-clause-rule : goal.open-requires-clause-rule
open-requires-clause-rule c = λ ok. nothing_read _ _ c.args.seats (λ k. refl) (λ k. refl)
