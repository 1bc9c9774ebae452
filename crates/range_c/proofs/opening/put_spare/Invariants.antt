use Rattle.std.proofs.Common.{◌≤◌, length}
use Rattle.list_cuts.specs.Cut.{list_count}
use Rattle.range_rw.specs.Contract.{AreNewSeatsIn}
use Rattle.range_c.specs.Recording.{begun}
use Rattle.range_c.proofs.opening.put_spare.Given as goal

-- the seats that are left are new ones of the table still
abbrev pub invariant-spare : goal.invariant-spare
invariant-spare l = AreNewSeatsIn (list_count l.lock.table.cut) l.lock.table.table (begun l.seat.pass.opened) l.spare.items × (length l.spare.items ≤ l.number)

-- there is one seat less each time
abbrev pub decreases-spare : goal.decreases-spare
decreases-spare l = goal.left-spare l
