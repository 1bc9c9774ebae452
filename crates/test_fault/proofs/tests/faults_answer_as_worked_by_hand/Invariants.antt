use Rattle.test_crews.specs.Crews.{IsCrew}
use Rattle.test_fault.proofs.tests.faults_answer_as_worked_by_hand.Given as goal

-- after each case the callers are a crew
abbrev pub invariant-loop-addr : goal.invariant-loop-addr
invariant-loop-addr g l = IsCrew l.space.table l.space.seats l.callers.items
