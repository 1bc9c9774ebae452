use Rattle.raw_logs.proofs.Decided.{is_so, is_not}
use Rattle.raw_logs.proofs.NumberFacts.{numbered_start_at, numbered_as_printed, numbering_by}
use Rattle.raw_logs.proofs.numbering.numbering_of.Goals as goal

-- the log begins with the number
pub returns-in-Some : goal.returns-in-Some
returns-in-Some c = numbered_start_at _ _ c.in-Some.pid c.in-Some.ensures

-- nothing needs one
pub returns-then-not-mixed : goal.returns-then-not-mixed
returns-then-not-mixed c =
    numbered_as_printed _ _ c.in_default.ensures (is_not c.in_ok-mixed.mixed c.in_ok-mixed.ensures c.if-not-mixed.true)

-- by the first thread's number, where it is found
pub returns : goal.returns
returns c =
    numbering_by _ _ c.in_ok-first.first c.in_default.ensures (is_so c.in_ok-mixed.mixed c.in_ok-mixed.ensures c.if-not-mixed.false)
    (c.in_ok-first.ensures _ _ c.in_ok-later.ensures)
