-- What contracts see of what is behind a handle: its seat, how many seats are left to share, how many client words and
-- seats the table has, and how the numbers are cut for its lists; and what each call answers and leaves of it. The
-- causes of a refused try are those of `range_rw`; the answers are this project's own.
use Rattle.std.specs.Prelude.{◌≡◌, ◌≢◌, ◌⊎◌, ℕ, zero, suc, ◌+◌, ◌*◌, ◌%◌, ◌<◌, ◌≤◌, ◌^◌, ◌↔◌, Bool}
use Rattle.std.specs.Prelude.{List, length, slice_index_or, Option, Some, None}
use Rattle.atomic_table.specs.Seated.{TableId}
use Rattle.list_cuts.specs.Cut.{Regions, IsCut, list_count}
use Rattle.lock_core.specs.Client.{IsMade}
use Rattle.lock_core.specs.Range.{Interval, IsRange}
use Rattle.lock_core.specs.declared.range.Held.{Held}
use Rattle.range_rw.specs.declared.refusals.NotHeld.{NotHeld}
use Rattle.range_rw.specs.Contract.{SeatState, AsksOnly, IsSeatCount, IsLockCall, IsClientCall, IsRelease, IsCause, IsLongRefusal, IsReadyLeft, IsSpentIn}
use Rattle.range_rw.specs.Contract.{KeepsOthers, StandsIn, TakesMany, TellsList, new_seat_in, pools_at, try_steps}
use Rattle.range_rw.specs.Several.{TakesAlone}
use Rattle.c_handles.specs.Asked.{cut_into, mode_for}
use Rattle.range_c.specs.declared.answers.Answer.{Answer}
use Rattle.range_c.specs.declared.answers.Answer.TheVariants.{Done, Refused, NotTried, BadRange, HasOne, HasNone, Memory, Seats, Words, NoneLeft, NoWord, Other}
use Rattle.range_c.specs.declared.answers.Answer.TheVariants.{BadCut}
use Rattle.range_c.specs.declared.answers.GzBusy.{GzBusy}
use Rattle.range_c.specs.declared.recording.Recorded.{Recorded}
use Rattle.range_c.specs.declared.recording.WordStep.{WordStep}
use Rattle.range_c.specs.declared.recording.WordStep.TheVariants.{Load, Store, Add, Exchange}
use Rattle.range_c.specs.Codes.{held_shown}
use Rattle.range_c.specs.Recording.{IsBegun, IsRecorded, begun, step_on, with_last}

-- a seat of a table for C, with what it knows of the client words
abbrev pub RecordingSeat : Type 0
RecordingSeat = SeatState Recorded

pub record Behind : Type 0 where
  pub seat : RecordingSeat
  pub spare : ℕ
  pub words : ℕ
  pub seats : ℕ
  pub cut : Regions

-- what is behind a new handle of a new table over a cut: the seat of the highest number, which holds nothing and knows
-- that the client words were these at the opening, and the others
pub record IsNewBehindIn (cut : Regions) (seats : ℕ) (client : List ℕ) (b : Behind) : Type 0 where
  pub seat_count : IsSeatCount seats
  pub word_count : length client ≤ 2 ^ 20
  pub spare : b.spare + 1 ≡ seats
  pub seat : b.seat ≡ new_seat_in (list_count cut) b.seat.table (begun client) b.spare
  pub words : b.words ≡ length client
  pub table_seats : b.seats ≡ seats
  pub table_cut : b.cut ≡ cut

-- the same of a table of one region, which has one list
abbrev pub IsNewBehind : ℕ → List ℕ → Behind → Type 0
IsNewBehind = IsNewBehindIn (cut_into 1 62)

-- why no table was opened
abbrev pub IsNotOpened : ℕ → ℕ → Answer → Type 0
IsNotOpened seats count Words = 2 ^ 20 < count
IsNotOpened seats count Seats = (count ≤ 2 ^ 20) × ¬ (IsSeatCount seats)
IsNotOpened seats count Memory = (count ≤ 2 ^ 20) × IsSeatCount seats
IsNotOpened seats count _ = ⊥

-- why no table was opened over a cut: the two numbers make none, or they do and it is another cause
abbrev pub IsNotCut : ℕ → ℕ → ℕ → ℕ → Answer → Type 0
IsNotCut regions bits seats count why = ((why ≡ BadCut) × ¬ (IsCut regions bits)) ⊎ (IsCut regions bits × IsNotOpened seats count why)

-- a seat is free: it is of the same table as another one, has one of so many numbers, holds nothing, has no open scan,
-- and knows of the same words at the opening
pub record IsFreeIn (seats : ℕ) (mine seat : RecordingSeat) : Type 0 where
  pub table : seat.table ≡ mine.table
  pub number : seat.number < seats
  pub held : seat.held ≡ None
  pub scan : seat.scan ≡ None
  pub opened : seat.pass.opened ≡ mine.pass.opened

-- a seat with its number fits a place for a seat that was given back: it is free, and of the table of the seat of the
-- highest number, by which the place was made
abbrev pub FitsPlace : RecordingSeat → RecordingSeat → ℕ → Type 0
FitsPlace highest seat number = IsFreeIn (highest.number + 1) highest seat × (seat.number ≡ number)

-- a seat with its number was taken from one of these places
abbrev pub IsFromPlace : List RecordingSeat → RecordingSeat → ℕ → Type 0
IsFromPlace places seat number = (k : ℕ) × (place : RecordingSeat) × (k < length places) × (place ≡ slice_index_or places k place)
    × FitsPlace place seat number

-- a place is one for the seats of that table, which are so many and know that these were the words at the opening
pub record IsPlaceOf (t : TableId) (seats : ℕ) (words : List ℕ) (place : RecordingSeat) : Type 0 where
  pub table : place.table ≡ t
  pub number : place.number + 1 ≡ seats
  pub opened : place.pass.opened ≡ words

-- a seat with its number may go behind a further handle of the table
abbrev pub IsSeatFor : Behind → RecordingSeat → ℕ → Type 0
IsSeatFor b seat number = IsFreeIn b.seats b.seat seat × (seat.number ≡ number)

-- the last of the seats that were left was taken out for a handle of its own: it is new, and of the same table
pub record IsSpareShared (before after new : Behind) : Type 0 where
  pub kept : after ≡ record before { spare = after.spare }
  pub spare : after.spare + 1 ≡ before.spare
  pub seat : new.seat ≡ new_seat_in (list_count before.cut) before.seat.table (begun before.seat.pass.opened) after.spare
  pub rest : new ≡ record before { seat = new.seat; spare = 0 }

-- no seat was left, and a free one of the same table has a handle of its own
pub record IsFreeShared (before new : Behind) : Type 0 where
  pub spent : before.spare ≡ 0
  pub seat : IsFreeIn before.seats before.seat new.seat
  pub rest : new ≡ record before { seat = new.seat; spare = 0 }

-- a seat was taken out for a handle of its own: the last of those that were left; or where none was, one that a closed
-- handle gave back, and nothing has changed
abbrev pub IsShared : Behind → Behind → Behind → Type 0
IsShared before after new = IsSpareShared before after new ⊎ ((after ≡ before) × IsFreeShared before new)

-- why no seat was taken out of so many that were left. That none was given back is no part of what contracts see: other
-- threads may give seats back at any moment
abbrev pub IsUnshared : ℕ → Answer → Type 0
IsUnshared spare NoneLeft = spare ≡ 0
IsUnshared spare Memory = Unit {0}
IsUnshared spare _ = ⊥

-- no seat was taken out, for that cause, and nothing has changed
abbrev pub IsNotShared : Answer → Behind → Behind → Type 0
IsNotShared why before after = IsUnshared before.spare why × (after ≡ before)

-- tries were made, and nothing else: the seat is the same one of the same table
pub record IsTrial (before after : Behind) : Type 0 where
  pub call : IsLockCall before.seat after.seat
  pub spare : after.spare ≡ before.spare
  pub words : after.words ≡ before.words
  pub seats : after.seats ≡ before.seats
  pub cut : after.cut ≡ before.cut

-- the most steps on words of the lock that one try makes in a table of so many seats and lists
abbrev pub most_steps : ℕ → ℕ → ℕ
most_steps seats lists = (64 + 386 * seats) * lists

-- one try of a seat that holds nothing, in a table of so many seats over a cut, from one state of the seat to another.
-- It asks for that range alone, so it holds no other on the way. What the seat has in each list in which the try
-- doesn't work stays, and its ready nodes in each list, but perhaps for the first; it has no open scan afterwards. Its
-- steps are bounded by the lists that the range takes, and where that is one alone, they are those in a table of one
-- list
pub record IsOneTry (seats : ℕ) (cut : Regions) (asked : Held) (entry after : RecordingSeat) : Type 0 where
  pub call : IsLockCall entry after
  pub free : entry.held ≡ None
  pub asks : AsksOnly asked entry.trace.asked after.trace.asked
  pub only : KeepsOthers cut asked.range entry after
  pub ready : (j : ℕ) → IsReadyLeft (pools_at entry j).ready (pools_at after j).ready
  pub outside : after.scan ≡ None
  pub bound : after.trace.taken ≤ entry.trace.taken + most_steps seats (list_count cut)
  pub alone : TakesAlone cut asked.range → after.trace.taken ≤ entry.trace.taken + most_steps seats 1
  pub each : (k : ℕ) → TakesMany cut asked.range k → after.trace.taken ≤ entry.trace.taken + try_steps seats k

-- one try that holds what was asked for, in the list that the range takes alone, or else in the one for wide ranges
pub record IsGranted (seats : ℕ) (cut : Regions) (asked : Held) (entry after : RecordingSeat) : Type 0 where
  pub one : IsOneTry seats cut asked entry after
  pub held : after.held ≡ Some asked
  pub stands : StandsIn cut asked.range after.list

-- one try that was refused for that cause, as `range_rw` says, which tells a list in which the try works, if any; that
-- it was too long exactly where a walk of it looked at as many nodes as one may
pub record IsRefused (seats : ℕ) (cut : Regions) (asked : Held) (entry after : RecordingSeat) (why : NotHeld) : Type 0 where
  pub one : IsOneTry seats cut asked entry after
  pub free : after.held ≡ None
  pub cause : IsCause entry after asked why
  pub told : TellsList cut asked.range why
  pub long : IsLongRefusal why ↔ IsSpentIn seats entry after

-- so many tries, one behind the other, each of which was refused
abbrev pub AreRefused : ℕ → Regions → Held → ℕ → RecordingSeat → RecordingSeat → Type 0
AreRefused seats cut asked zero before after = after ≡ before
AreRefused seats cut asked (suc n) before after = (entry : RecordingSeat) × (why : NotHeld)
    × AreRefused seats cut asked n before entry × IsRefused seats cut asked entry after why

-- what the tries that were made, at most as many as were asked for, came to: all but the last were refused, and the
-- last one was granted; or as many as were asked for were refused, the last one for that cause
abbrev pub IsTrialAnswer : Held → ℕ → ℕ → Behind → Behind → Answer → Type 0
IsTrialAnswer asked tries made before after Done = (n : ℕ) × (n + 1 ≡ made) × (made ≤ tries) × (entry : RecordingSeat)
    × AreRefused before.seats before.cut asked n before.seat entry × IsGranted before.seats before.cut asked entry after.seat
IsTrialAnswer asked tries made before after (Refused why) = (n : ℕ) × (n + 1 ≡ made) × (made ≡ tries) × (entry : RecordingSeat)
    × AreRefused before.seats before.cut asked n before.seat entry × IsRefused before.seats before.cut asked entry after.seat why
IsTrialAnswer asked tries made before after NotTried = (made ≡ 0) × (tries ≡ 0) × (after ≡ before)
IsTrialAnswer asked tries made before after _ = ⊥

-- the grant that a call asks for
abbrev pub asked : ℕ → ℕ → Bool → Held
asked lo hi writer = record { range = record { lo = lo; hi = hi }; mode = mode_for writer }

-- a call that came to tries: the ends bound a range and the seat held nothing, so many tries were made, and this is
-- their answer. All together asked for that range alone; they made as many times the steps of one, by the lists that
-- the range takes, or those in one list where it takes one alone
pub record IsTriedFor (lo hi : ℕ) (writer : Bool) (tries made : ℕ) (answer : Answer) (before after : Behind) : Type 0 where
  pub range : IsRange lo hi
  pub free : before.seat.held ≡ None
  pub kept : IsTrial before after
  pub answered : IsTrialAnswer (asked lo hi writer) tries made before after answer
  pub few : made ≤ tries
  pub asks : AsksOnly (asked lo hi writer) before.seat.trace.asked after.seat.trace.asked
  pub bound : after.seat.trace.taken ≤ before.seat.trace.taken + made * most_steps before.seats (list_count before.cut)
  pub alone : TakesAlone before.cut (record { lo = lo; hi = hi }) → after.seat.trace.taken ≤ before.seat.trace.taken + made * most_steps before.seats 1
  pub each : (k : ℕ) → TakesMany before.cut (record { lo = lo; hi = hi }) k
      → after.seat.trace.taken ≤ before.seat.trace.taken + made * try_steps before.seats k

-- what a call for a range that made so many tries answers and leaves
abbrev pub IsTriedIn : ℕ → ℕ → Bool → ℕ → ℕ → Answer → Behind → Behind → Type 0
IsTriedIn lo hi writer tries made HasOne before after = (made ≡ 0) × (before.seat.held ≢ None) × (after ≡ before)
IsTriedIn lo hi writer tries made BadRange before after = (made ≡ 0) × (before.seat.held ≡ None) × ¬ (IsRange lo hi) × (after ≡ before)
IsTriedIn lo hi writer tries made answer before after = IsTriedFor lo hi writer tries made answer before after

-- the same, however many it made
abbrev pub IsTried : ℕ → ℕ → Bool → ℕ → Answer → Behind → Behind → Type 0
IsTried lo hi writer tries answer before after = (made : ℕ) × IsTriedIn lo hi writer tries made answer before after

-- what a release answers and leaves
abbrev pub IsReleased : Answer → Behind → Behind → Type 0
IsReleased Done before after = (before.seat.held ≢ None) × IsRelease (λ p. p) before.seat after.seat
    × (after.spare ≡ before.spare) × (after.words ≡ before.words) × (after.seats ≡ before.seats) × (after.cut ≡ before.cut)
IsReleased HasNone before after = (before.seat.held ≡ None) × (after ≡ before)
IsReleased _ before after = ⊥

-- what a look at a seat answers and shows: what it holds, with its number. Nothing has changed
abbrev pub IsLooked : GzBusy → Answer → Behind → Behind → Type 0
IsLooked shown Done before after = (before.seat.held ≢ None) × (shown ≡ held_shown before.seat.number before.seat.held) × (after ≡ before)
IsLooked shown HasNone before after = (before.seat.held ≡ None) × (shown ≡ held_shown before.seat.number None) × (after ≡ before)
IsLooked shown _ before after = ⊥

-- one step was made on a client word, at a moment at which it found that value, and left that one; it is the last step
-- that the seat knows of, and the seat holds what it held
pub record IsWordStep (i : ℕ) (step : WordStep) (found left : ℕ) (before after : Behind) : Type 0 where
  pub there : i < before.words
  pub call : IsClientCall before.seat i after.seat
  pub made : IsMade IsBegun IsRecorded tt before.seat.number before.seat.held before.seat.pass (step_on i step) found after.seat.pass
  pub last : after.seat.pass ≡ with_last before.seat.pass (record { place = i; step = step; found = found; left = left })
  pub spare : after.spare ≡ before.spare
  pub words : after.words ≡ before.words
  pub seats : after.seats ≡ before.seats
  pub cut : after.cut ≡ before.cut

-- what a step on client word i answers and leaves, with the value that it says: what it found, or else the one that the
-- call brought
abbrev pub IsStepped : ℕ → WordStep → ℕ → ℕ → Answer → Behind → Behind → Type 0
IsStepped i step told said NoWord before after = (said ≡ told) × (before.words ≤ i) × (after ≡ before)
IsStepped i Load told said Done before after = IsWordStep i Load said said before after
IsStepped i (Store value) told said Done before after = (said ≡ told) × ((found : ℕ) × IsWordStep i (Store value) found value before after)
IsStepped i (Add by) told said Done before after = IsWordStep i (Add by) said ((said + by) % 2 ^ 64) before after
IsStepped i (Exchange expected new) told said Done before after = (said ≡ expected) × IsWordStep i (Exchange expected new) expected new before after
IsStepped i (Exchange expected new) told said Other before after = (said ≢ expected) × IsWordStep i (Exchange expected new) said said before after
IsStepped i step told said _ before after = ⊥
