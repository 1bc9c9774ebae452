use Rattle.trace_driver.proofs.Differences.{ListsSoFar}
use Rattle.trace_driver.proofs.shown.differing.Given as goal

-- with those that are left the list is that of all
abbrev pub invariant-entries : goal.invariant-entries
invariant-entries l = ListsSoFar l.lines l.entries l.entry-index l.list.items
