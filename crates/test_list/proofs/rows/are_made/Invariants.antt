use Rattle.test_list.specs.Trials.{IsSameHand}
use Rattle.test_list.proofs.rows.are_made.Given as goal

-- after each call the hand is of the same list and number
abbrev pub invariant-row : goal.invariant-row
invariant-row l = IsSameHand l.initial.hand l.hand
