use Rattle.test_crews.specs.Crews.{IsCrew}
use Rattle.test_protect.proofs.block_tests.plays_kind.Given as goal

-- after each call the callers are a crew
abbrev pub invariant-loop-call : goal.invariant-loop-call
invariant-loop-call g l = IsCrew l.space.table l.space.seats l.callers.items
