-- The rule of the table of touched pages, which holds between any two steps of any threads. A word is 0 or a page plus
-- 1, and stays what it is once it has a page; a page is looked for by linear probing (Knuth, The Art of Computer
-- Programming, volume 3, 6.4) from its own place on. The rule counts over what belongs to the seats together, and
-- speaks of no seat's number, so that a seat may be cut off or joined by one line for each sum.
use Rattle.std.specs.Prelude.{◌≡◌, ◌≢◌, ◌⊎◌, ℕ, zero, suc, ◌+◌, ◌%◌, ◌<◌, ◌≤◌, ◌==◌, if◌then◌else◌, List, [], length, slice_index, sum_by, Contains, Some, None}
use mathlib.Core.Option.{some}
use lib.ListN.{get_elem?}
use Rattle.atomic_table.specs.Table.{State}
use Rattle.page_touch.specs.declared.records.SeatRecord.{SeatRecord}
use Rattle.page_touch.specs.declared.records.Looking.{Looking}

-- the quotas of so many seats from one on, together
abbrev pub share_sum : List ℕ → ℕ → ℕ → ℕ
share_sum shares s zero = 0
share_sum shares s (suc k) = slice_index shares s + share_sum shares (suc s) k

-- what belongs to a seat that has touched nothing yet
abbrev pub begin : ℕ → SeatRecord
begin quota = record { quota = quota; touched = []; firsts = []; looking = None; taken = 0; last = None }

-- 1 where two numbers are equal
abbrev pub one_if : ℕ → ℕ → ℕ
one_if x y = if y == x then 1 else 0

-- how often a number is in a list
abbrev pub times : ℕ → List ℕ → ℕ
times x list = sum_by (one_if x) list

-- 1 for a word that has a page
abbrev pub full_word : ℕ → ℕ
full_word w = if w == 0 then 0 else 1

-- how many pages a seat may touch
abbrev pub quota_of : SeatRecord → ℕ
quota_of v = v.quota

-- how many First answers a seat has had
abbrev pub first_count : SeatRecord → ℕ
first_count v = length v.firsts

-- how often a page is among the First answers of a seat
abbrev pub first_times : ℕ → SeatRecord → ℕ
first_times page v = times page v.firsts

-- the place is so many words on from another one, round the end of the room
abbrev pub IsOn : ℕ → ℕ → ℕ → ℕ → Type 0
IsOn room start count place = (place ≡ start + count) ⊎ (place + room ≡ start + count)

-- each of so many words from a place on has a page
abbrev pub AreFull : ℕ → List ℕ → ℕ → ℕ → Type 0
AreFull room words start count = (place d : ℕ) → place < room → d < count → IsOn room start d place
    → slice_index words place ≢ 0

-- each of so many words from a page's own place on has another page
abbrev pub AreOthers : ℕ → List ℕ → ℕ → ℕ → Type 0
AreOthers room words page count = (place d : ℕ) → place < room → d < count → IsOn room (page % room) d place
    → (slice_index words place ≢ 0) × (slice_index words place ≢ page + 1)

-- the place is behind a page's own one with full words between
pub record IsProbed (room : ℕ) (words : List ℕ) (page place : ℕ) : Type 0 where
  pub count : ℕ
  pub below : count < room
  pub on : IsOn room (page % room) count place
  pub full : AreFull room words (page % room) count

-- the page stands in a word
abbrev pub IsIn : ℕ → List ℕ → ℕ → Type 0
IsIn room words page = (i : ℕ) × (i < room) × (slice_index words i ≡ page + 1)

-- a seat's calls are within its quota, and what it wrote is among what it touched
pub record IsWithin (v : SeatRecord) : Type 0 where
  pub quota : length v.touched ≤ v.quota
  pub firsts : length v.firsts ≤ length v.touched
  pub member : (page : ℕ) → Contains v.firsts page → Contains v.touched page

-- the rule, over so many words, with so large a sum of quotas
pub record Ruled (room total : ℕ) (words : List ℕ) (views : List SeatRecord) : Type 0 where
  pub wide : length words ≡ room
  pub some_room : 0 < room
  pub enough : total ≤ room
  pub shares : sum_by quota_of views ≡ total
  pub within : (id : ℕ) (v : SeatRecord) → get_elem? views id ≡ some v → IsWithin v
  -- as many words have a page as First was answered
  pub full : sum_by full_word words ≡ sum_by first_count views
  -- each page is as often among the First answers as it stands in words
  pub told : (page : ℕ) → sum_by (first_times page) views ≡ times (page + 1) words
  -- no two words have one page
  pub alone : (i j : ℕ) → i < room → j < room → slice_index words i ≡ slice_index words j → slice_index words i ≢ 0 → i ≡ j
  -- a page stands behind its own place with full words between, so a free word there shows that it stands nowhere
  pub probed : (i page : ℕ) → i < room → slice_index words i ≡ page + 1 → IsProbed room words page i
  -- what a call has looked at has other pages
  pub looked : (id : ℕ) (v : SeatRecord) (l : Looking) → get_elem? views id ≡ some v → v.looking ≡ Some l
      → AreOthers room words l.page l.count
  -- what was touched stands in a word
  pub kept : (id page : ℕ) (v : SeatRecord) → get_elem? views id ≡ some v → Contains v.touched page → IsIn room words page

-- the same, as the table of the library asks for it
abbrev pub IsTouchTable : ℕ → ℕ → State (Unit {0}) SeatRecord → Type 0
IsTouchTable room total s = Ruled room total s.words s.views

-- Each page stands in at most one word. One that stands in a word is among the First answers of exactly one seat, once,
-- since these are one together over all seats; and every other page is among none. What a seat touched stands in a word
pub record AreFirstTouches (room : ℕ) (words : List ℕ) (views : List SeatRecord) : Type 0 where
  pub once : (page : ℕ) → times (page + 1) words ≤ 1
  pub told : (page : ℕ) → sum_by (first_times page) views ≡ times (page + 1) words
  pub kept : (id page : ℕ) (v : SeatRecord) → get_elem? views id ≡ some v → Contains v.touched page → IsIn room words page

-- whichever steps were made on a table of touched pages, its words and seats are so
abbrev pub KeepsFirstTouches : Type 0
KeepsFirstTouches = (room total : ℕ) (s : State (Unit {0}) SeatRecord) → IsTouchTable room total s
    → AreFirstTouches room s.words s.views
