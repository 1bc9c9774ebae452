use Rattle.test_crews.specs.Crews.{IsCrew}
use Rattle.test_fault.proofs.map_tests.tries.Given as goal

-- after each page the callers are a crew
abbrev pub invariant-loop-page : goal.invariant-loop-page
invariant-loop-page g l = IsCrew l.space.table l.space.seats l.callers
