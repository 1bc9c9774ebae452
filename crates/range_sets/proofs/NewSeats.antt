-- The seats of a new table, as a client takes them for sets.
use Rattle.std.proofs.Common.{◌≡◌, ℕ, List, All, None, get_or, ap}
use Rattle.atomic_table.specs.Seated.{TableId}
use Rattle.atomic_table.proofs.Lists.{at_index}
use Rattle.lock_core.proofs.ByPlace.{same_or}
use Rattle.range_rw.specs.Contract.{SeatState, AreNewSeats}

-- each seat of a new table is of that table, and holds nothing
pub new_are_idle : {P : Type 0} (table : TableId) (first : ℕ → P) (seats : List (SeatState P)) → AreNewSeats table first seats
    → All (λ s. (s.table ≡ table) × (s.held ≡ None)) seats
new_are_idle table first seats new k d lt = let s = get_or seats k d in let is = new k s (at_index seats k s lt (same_or seats k d s lt)) in
    (ap (λ x. x.table) is, ap (λ x. x.held) is)
