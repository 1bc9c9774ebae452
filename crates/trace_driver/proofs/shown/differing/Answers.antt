use Rattle.trace_driver.proofs.Differences.{lists_next, listed}
use Rattle.trace_driver.proofs.shown.differing.Goals as goal

-- an entry is listed where it differs from its line
pub entries-preserved : goal.entries-preserved
entries-preserved c = lists_next c.other_result-other.result.0 c.args.lines.now c.args.entries.now c.entries.list.items _ c.entries.entry-index
    c.entry-item.result c.entries-test.true c.entry-item.is c.other_result-other.ensures.some c.other_result-other.ensures.none
    c.in_ok-keep.ensures c.entries.invariant

-- behind the last entry the list is that of all
pub returns : goal.returns
returns c = listed _ _ _ c.entries.entry-index c.entries-test.false c.entries.invariant
