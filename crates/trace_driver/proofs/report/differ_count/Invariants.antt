use Rattle.std.proofs.Common.{◌≤◌}
use Rattle.trace_driver.proofs.Differences.{Completes}
use Rattle.trace_driver.proofs.report.differ_count.Given as goal

-- with those that are left the count is that of all
abbrev pub invariant-entries : goal.invariant-entries
invariant-entries l = Completes l.lines l.entries l.entry-index l.count × (l.count ≤ l.entry-index)
