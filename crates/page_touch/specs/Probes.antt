-- One step of a touch: a load of a word, or an exchange of it from 0 to the page plus 1. What belongs to the seat after
-- it follows from what was found. Only private functions speak of this; what a caller sees of a whole touch is
-- `IsTouch` of `Touches`.
use Rattle.std.specs.Prelude.{◌≡◌, ◌≢◌, ℕ, ◌+◌, ◌%◌, ◌<◌, ◌==◌, if◌then◌else◌, Bool, true, false, [], ◌∷◌, ◌++◌, length, Option, Some, None}
use Rattle.atomic_table.specs.Table.{Me}
use Rattle.page_touch.specs.declared.records.SeatRecord.{SeatRecord}
use Rattle.page_touch.specs.declared.records.Looking.{Looking}
use Rattle.page_touch.specs.declared.records.LastStep.{LastStep}
use Rattle.page_touch.specs.declared.touching.Looked.{Looked}
use Rattle.page_touch.specs.declared.touching.Looked.TheVariants.{Wrote, Stands, Other}
use Rattle.page_touch.specs.Touches.{HasWritten, HasRead}
use Rattle.page_touch.specs.Touched.{IsOn}

-- how many words a call has looked at
abbrev pub count_of : Option Looking → ℕ
count_of None = 0
count_of (Some l) = l.count

-- the looking is for this page, if there is one
abbrev pub IsFor : ℕ → Option Looking → Type 0
IsFor page None = Unit {0}
IsFor page (Some l) = l.page ≡ page

-- the seat may look at that word for the page
pub record MayProbe (room page place : ℕ) (v : SeatRecord) : Type 0 where
  pub within : place < room
  pub below : count_of v.looking < room
  pub on : IsOn room (page % room) (count_of v.looking) place
  pub same : IsFor page v.looking
  pub left : length v.touched < v.quota

-- the step as the record has it
abbrev pub last_of : ℕ → Bool → ℕ → ℕ → SeatRecord → LastStep
last_of page puts place found v = record { number = v.taken; place = place; puts = puts; page = page; found = found }

-- the page was found
abbrev pub seen : ℕ → Bool → ℕ → ℕ → SeatRecord → SeatRecord
seen page puts place found v = record {
  quota = v.quota;
  touched = v.touched ++ page ∷ [];
  firsts = v.firsts;
  looking = None;
  taken = v.taken + 1;
  last = Some (last_of page puts place found v);
}

-- the page was written
abbrev pub wrote : ℕ → Bool → ℕ → ℕ → SeatRecord → SeatRecord
wrote page puts place found v = record {
  quota = v.quota;
  touched = v.touched ++ page ∷ [];
  firsts = v.firsts ++ page ∷ [];
  looking = None;
  taken = v.taken + 1;
  last = Some (last_of page puts place found v);
}

-- the word was free, and still is
abbrev pub stayed : ℕ → Bool → ℕ → ℕ → SeatRecord → SeatRecord
stayed page puts place found v = record {
  quota = v.quota;
  touched = v.touched;
  firsts = v.firsts;
  looking = v.looking;
  taken = v.taken + 1;
  last = Some (last_of page puts place found v);
}

-- another page was found
abbrev pub passed : ℕ → Bool → ℕ → ℕ → SeatRecord → SeatRecord
passed page puts place found v = record {
  quota = v.quota;
  touched = v.touched;
  firsts = v.firsts;
  looking = Some (record { page = page; count = count_of v.looking + 1 });
  taken = v.taken + 1;
  last = Some (last_of page puts place found v);
}

-- a free word was found: an exchange wrote it, and a load leaves it
abbrev pub at_free : ℕ → Bool → ℕ → ℕ → SeatRecord → SeatRecord
at_free page true place found v = wrote page true place found v
at_free page false place found v = stayed page false place found v

-- what belongs to the seat after a step that found that value
abbrev pub after_probe : ℕ → Bool → ℕ → ℕ → SeatRecord → SeatRecord
after_probe page puts place found v = if found == page + 1 then seen page puts place found v
    else if found == 0 then at_free page puts place found v else passed page puts place found v

-- a step was made: it is as the record after says, and where it found another page there are words left
pub record IsProbe (room page : ℕ) (puts : Bool) (place : ℕ) (v : SeatRecord) (found : ℕ) (w : SeatRecord) : Type 0 where
  pub after : w ≡ after_probe page puts place found v
  pub more : found ≢ 0 → found ≢ page + 1 → count_of v.looking + 1 < room

-- the same of a seat
abbrev pub probe_play : ℕ → ℕ → Bool → ℕ → Me (Unit {0}) SeatRecord → ℕ → Me (Unit {0}) SeatRecord → Type 0
probe_play room page puts place me found me' = (me'.1 ≡ me.1) × IsProbe room page puts place me.0 found me'.0

-- one word was looked at, by a load or by a load and an exchange
abbrev pub IsFound : ℕ → ℕ → ℕ → SeatRecord → Looked → SeatRecord → Type 0
IsFound room page place v Wrote w = (w.quota ≡ v.quota) × (w.looking ≡ None) × (w.touched ≡ v.touched ++ page ∷ [])
    × (w.firsts ≡ v.firsts ++ page ∷ []) × HasWritten page place v.taken w.last w.taken
IsFound room page place v Stands w = (w.quota ≡ v.quota) × (w.looking ≡ None) × (w.touched ≡ v.touched ++ page ∷ [])
    × (w.firsts ≡ v.firsts) × HasRead page place v.taken w.last w.taken
IsFound room page place v Other w = (w.quota ≡ v.quota)
    × (w.looking ≡ Some (record { page = page; count = count_of v.looking + 1 })) × (w.touched ≡ v.touched)
    × (w.firsts ≡ v.firsts) × (count_of v.looking + 1 < room) × (v.taken < w.taken)
