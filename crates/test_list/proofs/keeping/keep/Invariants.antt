use Rattle.test_list.specs.Trials.{IsSameHand}
use Rattle.test_list.proofs.keeping.keep.Given as goal

-- after each call the hand is of the same list and number
abbrev pub invariant-calls : goal.invariant-calls
invariant-calls l = IsSameHand l.initial.hand l.hand
