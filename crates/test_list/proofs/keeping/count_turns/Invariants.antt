use Rattle.test_list.specs.Trials.{IsSameHand}
use Rattle.test_list.proofs.keeping.count_turns.Given as goal

-- after each turn the hand is of the same list and number
abbrev pub invariant-turns : goal.invariant-turns
invariant-turns g l = IsSameHand l.initial.hand l.hand
