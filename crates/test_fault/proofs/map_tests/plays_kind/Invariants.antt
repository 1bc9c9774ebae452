use Rattle.test_crews.specs.Crews.{IsCrew}
use Rattle.test_fault.proofs.map_tests.plays_kind.Given as goal

-- after each case the callers are a crew
abbrev pub invariant-loop-case : goal.invariant-loop-case
invariant-loop-case g l = IsCrew l.space.table l.space.seats l.callers.items
