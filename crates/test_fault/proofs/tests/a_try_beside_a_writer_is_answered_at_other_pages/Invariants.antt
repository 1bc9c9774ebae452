use Rattle.std.proofs.Common.{◌≤◌}
use Rattle.test_crews.specs.Crews.{IsCrew}
use Rattle.test_fault.proofs.tests.a_try_beside_a_writer_is_answered_at_other_pages.Given as goal

-- after each page the callers are a crew of two or more
abbrev pub invariant-loop-page : goal.invariant-loop-page
invariant-loop-page g l = IsCrew l.space.table l.space.seats l.callers.items × (2 ≤ l.space.seats)
