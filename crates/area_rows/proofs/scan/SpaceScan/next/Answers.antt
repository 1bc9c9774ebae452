use Rattle.std.proofs.Common.{◌≤◌, ◌+◌, ◌∙◌, ap, subst}
use Rattle.range_rw.specs.Contract.{TableShape, scan_steps}
use Rattle.area_rows.specs.Callers.{CallerView}
use Rattle.area_rows.proofs.scan.SpaceScan.next.Goals as goal

-- a call makes the steps of a call of the table's scan
pub returns-clause-bound : goal.returns-clause-bound
returns-clause-bound c = λ was opened.
    subst (λ (z : TableShape × CallerView). c.scan_next.new.seat.trace.taken ≤ z.1.seat.trace.taken + scan_steps z.0 was)
    (λ i. (c.space.view_is i, c.caller.view_is i)) (c.scan_next.ensures.bound was (ap (λ (v : CallerView). v.seat.scan) c.caller.view_is ∙ opened))
