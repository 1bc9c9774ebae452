-- Seats as the cases have them between two calls. This project's own.
use Rattle.std.specs.Prelude.{◌≡◌, ℕ, List, None}
use mathlib.Core.Option.{some}
use lib.ListN.{get_elem?}
use Rattle.atomic_table.specs.Seated.{TableId}
use Rattle.range_rw.specs.Contract.{SeatState}
use Rattle.queue_laws.specs.declared.places.Telling.TheVariants.{Silent}
use Rattle.queue_guard.specs.declared.passes.QueuePass.{QueuePass}

module _ {P : Type 0} where
  -- a seat of this table that holds nothing
  pub record IsFree (table : TableId) (s : SeatState (QueuePass P)) : Type 0 where
    pub of : s.table ≡ table
    pub free : s.held ≡ None

  -- and has announced nothing
  pub record IsIdle (table : TableId) (s : SeatState (QueuePass P)) : Type 0 where
    pub of : s.table ≡ table
    pub free : s.held ≡ None
    pub silent : s.pass.telling ≡ Silent

  -- all these seats are such ones
  abbrev pub AreIdle : TableId → List (SeatState (QueuePass P)) → Type 0
  AreIdle table seats = (k : ℕ) (s : SeatState (QueuePass P)) → get_elem? seats k ≡ some s → IsIdle table s
