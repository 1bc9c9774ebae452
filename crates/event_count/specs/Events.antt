-- The rule of an event count's words, which holds between any two steps of any threads: the first word is the number
-- of seats that are counted, the second how often the seats together have advanced it, round the end of 64 bits. The
-- event word is that of Reed and Kanodia (CACM 1979), the count of sleepers beside it that of Vyukov's eventcount.
use Rattle.std.specs.Prelude.{◌≡◌, ℕ, ◌+◌, ◌%◌, ◌^◌, ◌<◌, ◌≤◌, true, false, if◌then◌else◌, List, [], ◌∷◌, ◌++◌, slice_index, sum_by}
use mathlib.Core.Option.{some}
use lib.ListN.{get_elem?}
use Rattle.atomic_table.specs.Table.{State, Me}
use Rattle.event_count.specs.declared.records.Sleeper.{Sleeper}
use Rattle.event_count.specs.declared.records.EventStep.{EventStep}
use Rattle.event_count.specs.declared.records.EventStep.TheVariants.{Counted, Read, Left, Asked, Advanced}

-- what belongs to a seat that has made no step
abbrev pub begin : ℕ → Sleeper
begin spare = record { spare = spare; counted = false; wakes = 0; steps = [] }

-- what belongs to it after a step
abbrev pub after_step : EventStep → Sleeper → Sleeper
after_step (Counted n) v = record { spare = v.spare; counted = true; wakes = v.wakes; steps = v.steps ++ Counted n ∷ [] }
after_step (Read n) v = record { spare = v.spare; counted = v.counted; wakes = v.wakes; steps = v.steps ++ Read n ∷ [] }
after_step (Left n) v = record { spare = v.spare; counted = false; wakes = v.wakes; steps = v.steps ++ Left n ∷ [] }
after_step (Asked n) v = record { spare = v.spare; counted = v.counted; wakes = v.wakes; steps = v.steps ++ Asked n ∷ [] }
after_step (Advanced n) v = record { spare = v.spare; counted = v.counted; wakes = v.wakes + 1; steps = v.steps ++ Advanced n ∷ [] }

-- 1 for a seat that is counted
abbrev pub one_if_counted : Sleeper → ℕ
one_if_counted v = if v.counted then 1 else 0

-- how often a seat has advanced the event word
abbrev pub wakes_of : Sleeper → ℕ
wakes_of v = v.wakes

-- a seat and those that may be cut off it
abbrev pub places_of : Sleeper → ℕ
places_of v = v.spare + 1

-- how many seats are counted
abbrev pub sleepers : List Sleeper → ℕ
sleepers views = sum_by one_if_counted views

-- how often they have advanced the event word
abbrev pub advances : List Sleeper → ℕ
advances views = sum_by wakes_of views

-- the rule, for so many seats
pub record Ruled (seats : ℕ) (words : List ℕ) (views : List Sleeper) : Type 0 where
  pub few : seats ≤ 16
  pub places : sum_by places_of views ≡ seats
  pub both : words ≡ sleepers views ∷ (advances views % 2 ^ 64) ∷ []

-- the same, as the table of the library asks for it
abbrev pub IsEventTable : ℕ → State (Unit {0}) Sleeper → Type 0
IsEventTable seats s = Ruled seats s.words s.views

-- what a step says, in the words of its play; who counts itself out had been counted
abbrev pub counts_play : Me (Unit {0}) Sleeper → ℕ → Me (Unit {0}) Sleeper → Type 0
counts_play me found me' = (me'.1 ≡ me.1) × (me'.0 ≡ after_step (Counted found) me.0) × (found < 16)

abbrev pub reads_play : Me (Unit {0}) Sleeper → ℕ → Me (Unit {0}) Sleeper → Type 0
reads_play me found me' = (me'.1 ≡ me.1) × (me'.0 ≡ after_step (Read found) me.0)

abbrev pub leaves_play : Me (Unit {0}) Sleeper → ℕ → Me (Unit {0}) Sleeper → Type 0
leaves_play me found me' = (me'.1 ≡ me.1) × (me'.0 ≡ after_step (Left found) me.0) × (0 < found)

abbrev pub asks_play : Me (Unit {0}) Sleeper → ℕ → Me (Unit {0}) Sleeper → Type 0
asks_play me found me' = (me'.1 ≡ me.1) × (me'.0 ≡ after_step (Asked found) me.0) × (found ≤ 16)

abbrev pub advances_play : Me (Unit {0}) Sleeper → ℕ → Me (Unit {0}) Sleeper → Type 0
advances_play me found me' = (me'.1 ≡ me.1) × (me'.0 ≡ after_step (Advanced found) me.0)

-- Between any two steps the first word is the number of seats that are counted, above 0 if any is; the second is the
-- number of advances, round the end of 64 bits
pub record CountsSleepers (words : List ℕ) (views : List Sleeper) : Type 0 where
  pub count : slice_index words 0 ≡ sleepers views
  pub found : (id : ℕ) (v : Sleeper) → get_elem? views id ≡ some v → v.counted ≡ true → 0 < slice_index words 0
  pub event : slice_index words 1 ≡ advances views % 2 ^ 64

-- whichever steps were made on an event count, its words and seats are so
abbrev pub CountsEachSleeper : Type 0
CountsEachSleeper = (seats : ℕ) (s : State (Unit {0}) Sleeper) → IsEventTable seats s → CountsSleepers s.words s.views
