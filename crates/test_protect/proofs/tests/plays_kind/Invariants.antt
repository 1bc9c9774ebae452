use Rattle.test_crews.specs.Crews.{IsCrew}
use Rattle.test_protect.proofs.tests.plays_kind.Given as goal

-- after each area that is mapped the callers are a crew
abbrev pub invariant-loop-area : goal.invariant-loop-area
invariant-loop-area g l = IsCrew l.space.table l.space.seats l.callers.items

-- after each case the callers are a crew
abbrev pub invariant-loop-case : goal.invariant-loop-case
invariant-loop-case g l = IsCrew l.space.table l.space.seats l.callers.items
