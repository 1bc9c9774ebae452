use Rattle.std.proofs.Common.{rules, ◌≡◌, length, ◌∙◌}
use Rattle.test_crews.specs.Crews.{IsCrew}
use Rattle.test_crews.proofs.Crews.{idle_kept}
use Rattle.test_protect.proofs.scan_tests.an_open_scan_hinders_no_fault.Goals as goal

-- the callers that were lent as a slice are idle again
pub close-requires-clause-idle : goal.close-requires-clause-idle
close-requires-clause-idle g c =
    let before : IsCrew c.expect-space.result.0.table c.expect-space.result.0.seats c.expect-space.result.1.items = search rules in
    let after : IsCrew c.expect-space.result.0.table c.expect-space.result.0.seats c.try_beside_scan-answer.new.callers = search rules in
    let same : c.expect-space.result.1.len ≡ length c.expect-space.result.1.items = search rules in
    idle_kept _ _ c.expect-space.result.1.len c.try_beside_scan-answer.new.callers c.expect-space.result.1.items after before.count (same ∙ before.count)
