use Rattle.std.proofs.Common.{rules, ◌≡◌, length, ◌∙◌}
use Rattle.test_crews.specs.Crews.{IsCrew}
use Rattle.test_crews.proofs.Crews.{idle_kept}
use Rattle.test_fault.proofs.tests.faults_answer_as_worked_by_hand.Goals as goal

-- the callers that were lent as a slice are idle again
pub close-requires-clause-idle : goal.close-requires-clause-idle
close-requires-clause-idle g c =
    let before : IsCrew c.expect-space.result.0.table c.expect-space.result.0.seats c.loop-addr.callers.items = search rules in
    let after : IsCrew c.expect-space.result.0.table c.expect-space.result.0.seats c.call_by-2.new.callers = search rules in
    let same : c.loop-addr.callers.len ≡ length c.loop-addr.callers.items = search rules in
    idle_kept _ _ c.loop-addr.callers.len c.call_by-2.new.callers c.loop-addr.callers.items after before.count (same ∙ before.count)
