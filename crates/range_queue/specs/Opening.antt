-- The words and the seats of a new table: nobody is counted, the next ticket is the first, and each seat has announced
-- nothing. This project's own.
use Rattle.std.specs.Prelude.{◌≡◌, ℕ, ◌+◌, List, ◌++◌, replicate, slice_set, None}
use mathlib.Core.Option.{some}
use lib.ListN.{get_elem?}
use Rattle.range_rw.specs.Contract.{SeatState}
use Rattle.queue_laws.specs.declared.places.Telling.TheVariants.{Silent}
use Rattle.queue_guard.specs.declared.passes.QueuePass.{QueuePass}
use Rattle.queue_guard.specs.Places.{seats_place, next_place, queue_words}

-- the words of a queue of so many seats, and behind them those of the guard
abbrev pub first_words : ℕ → List ℕ → List ℕ
first_words seats client = slice_set (slice_set (replicate queue_words 0) seats_place seats) next_place 1 ++ client

module _ {P : Type 0} where
  -- a seat of that number that has announced nothing and has no open scan
  pub record IsQuiet (seats k : ℕ) (s : SeatState (QueuePass P)) : Type 0 where
    pub number : s.number ≡ k
    pub seats_are : s.pass.seats ≡ seats
    pub telling : s.pass.telling ≡ Silent
    pub scan : s.scan ≡ None

  -- these seats are such ones, from number n on
  abbrev pub AreQuietFrom : ℕ → ℕ → List (SeatState (QueuePass P)) → Type 0
  AreQuietFrom seats n items = (k : ℕ) (s : SeatState (QueuePass P)) → get_elem? items k ≡ some s → IsQuiet seats (n + k) s
