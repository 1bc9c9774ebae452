-- A table of the lock with its event count, and a seat in both.
use Rattle.std.specs.Prelude.{◌≡◌, ℕ, false, List, [], ◌∷◌, length, replicate}
use mathlib.Core.Option.{some}
use lib.ListN.{get_elem?}
use Rattle.atomic_table.specs.Seated.{TableId}
use Rattle.event_count.specs.Calls.{EventShape, SeatView, new_seat}
use Rattle.queue_laws.specs.declared.places.Telling.TheVariants.{Silent}
use Rattle.queue_guard.specs.declared.passes.QueuePass.{QueuePass}
use Rattle.range_rw.specs.Contract.{AreNewSeatsIn, SeatState, TableShape}

pub record WaitShape : Type 0 where
  pub lock : TableShape
  pub events : EventShape

pub record WaitState (P : Type 0) : Type 0 where
  pub lock : SeatState (QueuePass P)
  pub event : SeatView

module _ {P : Type 0} where
  abbrev pub both : SeatState (QueuePass P) → SeatView → WaitState P
  both lock event = record { lock = lock; event = event }

  -- seats of the lock, each with one of the event count, in their order
  abbrev pub seats_of : List (SeatState (QueuePass P)) → List SeatView → List (WaitState P)
  seats_of [] events = []
  seats_of (lock ∷ locks) [] = []
  seats_of (lock ∷ locks) (event ∷ events) = both lock event ∷ seats_of locks events

  -- so many seats of a new table: those of the lock at its opening, each with a new one of the event count
  abbrev pub AreNewWaitSeats : ℕ → ℕ → TableId → TableId → (ℕ → QueuePass P) → List (WaitState P) → Type 0
  AreNewWaitSeats seats lists lock events first items = (locks : List (SeatState (QueuePass P))) × (length locks ≡ seats)
      × AreNewSeatsIn lists lock first locks × (items ≡ seats_of locks (replicate seats (new_seat events)))

  -- seats of the lock that have announced nothing
  abbrev pub AreSilent : List (SeatState (QueuePass P)) → Type 0
  AreSilent items = (k : ℕ) (s : SeatState (QueuePass P)) → get_elem? items k ≡ some s → s.pass.telling ≡ Silent

-- seats of the event count that aren't counted
abbrev pub AreOut : List SeatView → Type 0
AreOut items = (k : ℕ) (s : SeatView) → get_elem? items k ≡ some s → s.counted ≡ false
