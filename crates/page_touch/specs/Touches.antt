-- What a caller sees of a set of touched pages: its table, its seats, when it is opened, what a touch answers, and what
-- the closing gives. A touch is First where it put the page there itself, and Seen where it read it; that each page's
-- First comes once over all threads is `AreFirstTouches` of `Touched`. The limits are this project's own profile.
use Rattle.std.specs.Prelude.{◌≡◌, ℕ, ◌^◌, ◌<◌, ◌≤◌, ◌+◌, ◌*◌, min, max, List, [], ◌∷◌, ◌++◌, true, Option, Some, None, AllPairs, length, sum}
use Rattle.atomic_table.specs.Seated.{TableId}
use Rattle.page_touch.specs.declared.table.TouchFault.{TouchFault}
use Rattle.page_touch.specs.declared.table.TouchFault.TheVariants.{Seats, Room, Memory}
use Rattle.page_touch.specs.declared.touching.Touched.{Touched}
use Rattle.page_touch.specs.declared.touching.Touched.TheVariants.{First, Seen}
use Rattle.page_touch.specs.declared.records.SeatRecord.{SeatRecord}
use Rattle.page_touch.specs.declared.records.LastStep.{LastStep}

-- a set of touched pages: its table, the number of its seats, the number of its words, and the sum of the quotas
pub record TouchShape : Type 0 where
  pub table : TableId
  pub seats : ℕ
  pub room : ℕ
  pub total : ℕ

-- a seat: its table, how many pages it may touch, the pages of its calls and those that it was the first to touch, each
-- in the order of the calls, how many steps it has made, and the last of them
pub record TouchView : Type 0 where
  pub table : TableId
  pub quota : ℕ
  pub touched : List ℕ
  pub firsts : List ℕ
  pub taken : ℕ
  pub last : Option LastStep

-- a seat while a call of it goes on: its table and its record
pub record TokenView : Type 0 where
  pub table : TableId
  pub own : SeatRecord

-- what a caller sees of it between two calls
abbrev pub shown : TokenView → TouchView
shown t = record { table = t.table; quota = t.own.quota; touched = t.own.touched; firsts = t.own.firsts; taken = t.own.taken; last = t.own.last }

-- a table has from 1 to 16 seats
abbrev pub IsQuotaCount : ℕ → Type 0
IsQuotaCount n = (0 < n) × (n ≤ 16)

-- why no table is opened for these quotas
abbrev pub IsTouchFault : List ℕ → TouchFault → Type 0
IsTouchFault quotas (Seats n) = (n ≡ length quotas) × ¬ (IsQuotaCount (length quotas))
IsTouchFault quotas (Room n) = IsQuotaCount (length quotas) × (n ≡ sum quotas) × (2 ^ 20 < n)
IsTouchFault quotas Memory = IsQuotaCount (length quotas) × (sum quotas ≤ 2 ^ 20)

-- how many words a set has for so many touches: an odd number of about twice as many, at most 2^20
abbrev pub room_for : ℕ → ℕ
room_for total = max (min (2 * total + 1) 1048575) total

-- a seat of a new table
abbrev pub new_seat : TableId → ℕ → TouchView
new_seat table quota = record { table = table; quota = quota; touched = []; firsts = []; taken = 0; last = None }

-- Of a seat that had made so many steps before, and so many after with this one as the last: the last one is newer than
-- those before, and wrote the page at that place, by an exchange that found 0
pub record HasWritten (page place before : ℕ) (last : Option LastStep) (after : ℕ) : Type 0 where
  pub step : LastStep
  pub last_is : last ≡ Some step
  pub newer : before ≤ step.number
  pub latest : step.number + 1 ≡ after
  pub place_is : step.place ≡ place
  pub exchange : step.puts ≡ true
  pub page_is : step.page ≡ page
  pub free : step.found ≡ 0

-- the last one is newer than those before, and found the page at that place
pub record HasRead (page place before : ℕ) (last : Option LastStep) (after : ℕ) : Type 0 where
  pub step : LastStep
  pub last_is : last ≡ Some step
  pub newer : before ≤ step.number
  pub latest : step.number + 1 ≡ after
  pub place_is : step.place ≡ place
  pub found : step.found ≡ page + 1

-- the call wrote the page at that place, below the room
pub record IsFirstTouch (room page place : ℕ) (before after : TouchView) : Type 0 where
  pub within : place < room
  pub touched : after.touched ≡ before.touched ++ page ∷ []
  pub firsts : after.firsts ≡ before.firsts ++ page ∷ []
  pub wrote : HasWritten page place before.taken after.last after.taken

-- the call read the page at that place, below the room
pub record IsLaterTouch (room page place : ℕ) (before after : TouchView) : Type 0 where
  pub within : place < room
  pub touched : after.touched ≡ before.touched ++ page ∷ []
  pub firsts : after.firsts ≡ before.firsts
  pub read : HasRead page place before.taken after.last after.taken

-- what a touch answers: First where this call's last step wrote the page at that place, Seen where it found it there
abbrev pub IsTouch : ℕ → ℕ → TouchView → Touched → TouchView → Type 0
IsTouch room page before (First place) after = IsFirstTouch room page place before after
IsTouch room page before (Seen place) after = IsLaterTouch room page place before after

-- the numbers rise, so each is there once
abbrev pub IsRising : List ℕ → Type 0
IsRising = AllPairs (λ p q. p < q)

-- how many pages a seat may touch
abbrev pub seat_quota : TouchView → ℕ
seat_quota s = s.quota

-- the pages of a seat's calls
abbrev pub seat_touched : TouchView → List ℕ
seat_touched s = s.touched

-- those that it was the first to touch
abbrev pub seat_firsts : TouchView → List ℕ
seat_firsts s = s.firsts
