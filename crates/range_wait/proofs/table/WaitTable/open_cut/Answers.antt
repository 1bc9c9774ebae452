use Rattle.std.proofs.Common.{◌≡◌, List, false, refl, subst}
use mathlib.Core.Option.{some}
use lib.ListN.{get_elem?}
use Rattle.event_count.specs.Calls.{SeatView, new_seat}
use Rattle.range_wait.proofs.Opened.{copies_are}
use Rattle.range_wait.proofs.table.WaitTable.open_cut.Goals as goal

-- none of the new seats is counted
pub seat_all-requires-clause-out : goal.seat_all-requires-clause-out
seat_all-requires-clause-out g c = λ k s at. copies_are (λ (e : SeatView). e.counted ≡ false) (new_seat c.in-Ok-open.events.table) c.args.seats refl k s
    (subst (λ (l : List SeatView). get_elem? l k ≡ some s) c.in-Ok-open.ensures.seats at)
