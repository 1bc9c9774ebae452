-- What the seats of a new table are: one for each number, in order, each with its own view.
-- The views are those of the table's rule; `atomic_table` has what a seat and its view are.
use Rattle.std.specs.Prelude.{◌≡◌, ℕ, List, []}
use mathlib.Core.Option.{some}
use lib.ListN.{get_elem?}
use Rattle.atomic_table.specs.Seated.{TableId}
use Rattle.atomic_table.specs.declared.shared.Seat.{Seat}

-- the seats are of one table, and the seat at place k begins with `one k` (this project's own)
abbrev pub IsSeated : {V : Type 0} → TableId → (ℕ → V) → List (Seat (Unit {0}) V) → Type 0
IsSeated {V} table one seats = (k : ℕ) (s : Seat (Unit {0}) V) → get_elem? seats k ≡ some s → (s.table_id ≡ table) × (s.me ≡ (one k, []))
