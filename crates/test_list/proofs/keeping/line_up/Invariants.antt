use Rattle.std.proofs.Common.{◌≤◌, length}
use Rattle.test_list.specs.Trials.{AreInOrder}
use Rattle.test_list.proofs.keeping.line_up.Given as goal

-- the number is that of a hand or one above all, and the hands are in order
abbrev pub invariant-hands : goal.invariant-hands
invariant-hands l = record { below : l.number ≤ length l.hands; order : AreInOrder l.list.table l.hands }

-- the number falls
abbrev pub decreases-hands : goal.decreases-hands
decreases-hands l = l.number
