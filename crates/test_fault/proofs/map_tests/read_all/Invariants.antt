use Rattle.test_crews.specs.Crews.{IsCrew}
use Rattle.test_fault.proofs.map_tests.read_all.Given as goal

-- after each read the callers are a crew
abbrev pub invariant-loop-index : goal.invariant-loop-index
invariant-loop-index g l = IsCrew l.space.table l.space.seats l.callers
