-- Seats as the cases have them between two calls. This project's own.
use Rattle.std.specs.Prelude.{◌≡◌, ℕ, List, None}
use mathlib.Core.Option.{some}
use lib.ListN.{get_elem?}
use Rattle.atomic_table.specs.Seated.{TableId}
use Rattle.range_wait.specs.Seats.{WaitState}

module _ {P : Type 0} where
  -- a seat of this lock and of this event count
  pub record IsOf (table count : TableId) (s : WaitState P) : Type 0 where
    pub lock : s.lock.table ≡ table
    pub events : s.event.table ≡ count

  -- one that holds nothing
  pub record IsIdle (table count : TableId) (s : WaitState P) : Type 0 where
    pub lock : s.lock.table ≡ table
    pub events : s.event.table ≡ count
    pub free : s.lock.held ≡ None

  -- all these seats are such ones
  abbrev pub AreIdle : TableId → TableId → List (WaitState P) → Type 0
  AreIdle table count seats = (k : ℕ) (s : WaitState P) → get_elem? seats k ≡ some s → IsIdle table count s
