use Rattle.std.proofs.Common.{◌≤◌}
use Rattle.test_list.specs.Trials.{AreInOrder}
use Rattle.test_list.proofs.keeping.mark_between.Given as goal

-- at most sixteen places are left, and the hands are in order
abbrev pub invariant-places : goal.invariant-places
invariant-places l = record { below : l.place ≤ 16; order : AreInOrder l.list.table l.hands }

-- the places that are left grow fewer
abbrev pub decreases-places : goal.decreases-places
decreases-places l = l.place
