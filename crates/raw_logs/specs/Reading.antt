-- The reading of a raw log as a whole: from its bytes to the texts that are written, each step a definition of its own:
-- the lines of the log (Log.antt), their numbers (Numbering.antt), and whose they are (Spaces.antt).
use Rattle.std.specs.Prelude.{◌≡◌, ℕ, List, [], Bool, false, Option, Some, None}
use Rattle.raw_logs.specs.declared.counts.Counts.{Counts}
use Rattle.raw_logs.specs.declared.counts.Sort.TheVariants.{Stripped, Numbered as OfNumbered}
use Rattle.raw_logs.specs.declared.fault.LogFault.{LogFault}
use Rattle.raw_logs.specs.declared.numbering.Numbering.{Numbering}
use Rattle.raw_logs.specs.declared.told.Told.{Told}
use Rattle.raw_logs.specs.Choosing.{Picked, picked_of, fault_of}
use Rattle.raw_logs.specs.Counting.{both}
use Rattle.raw_logs.specs.Log.{Numbered, texts_of, IsLog, LineKind, IsKind, Each, healed, changed, count_changes, IsStripped}
use Rattle.raw_logs.specs.Numbering.{IsNumbering, IsRenumbered}
use Rattle.raw_logs.specs.Told.{AreTold}

-- the texts of a log, plain and with their numbers, with how many lines were changed or left out on the way
pub record IsNumberedLog (bytes : List ℕ) (whole : List Numbered) (counts : Counts) : Type 0 where
  pub lines : List (List ℕ)
  pub cut : List ℕ
  pub log : IsLog bytes lines cut
  pub kinds : List LineKind
  pub of_kinds : Each IsKind lines kinds
  pub stripped : List (Option (List ℕ))
  pub plain : Each IsStripped (healed lines kinds).texts stripped
  pub numbering : Numbering
  pub numbered : IsNumbering lines (texts_of (changed (healed lines kinds).texts stripped)) numbering
  pub renumbered : List (Option (List ℕ))
  pub numbers : Each (IsRenumbered numbering) (changed (healed lines kinds).texts stripped) renumbered
  pub is : whole ≡ changed (changed (healed lines kinds).texts stripped) renumbered
  pub sum : counts ≡ both (healed lines kinds).counts (both (count_changes Stripped stripped) (count_changes OfNumbered renumbered))

-- a log is read so: this is picked of its lines, with how many were changed or left out on the way, and this fault
pub record IsRead (process : Option ℕ) (bytes : List ℕ) (found : Picked) (fault : Option LogFault) : Type 0 where
  pub whole : List Numbered
  pub before : Counts
  pub numbered : IsNumberedLog bytes whole before
  pub tolds : List Told
  pub told : AreTold whole tolds
  pub is : found ≡ (let p = picked_of process whole tolds in record p { counts = both before p.counts })
  pub fault_is : fault ≡ fault_of process tolds found.too_long

-- the texts of a log that are written, with how many lines were changed or left out on the way
abbrev pub AreTexts : Option ℕ → List ℕ → List Numbered → Counts → Type 0
AreTexts process bytes chosen counts = (found : Picked) × IsRead process bytes found None × (chosen ≡ found.lines) × (counts ≡ found.counts)

-- the first line whose beginning isn't known
abbrev pub IsFirstUnknown : Option ℕ → List ℕ → Option ℕ → Type 0
IsFirstUnknown process bytes unknown = (found : Picked) × IsRead process bytes found None × (unknown ≡ found.unknown)

-- why a log isn't read, but for want of memory
abbrev pub IsLogFault : Option ℕ → List ℕ → LogFault → Type 0
IsLogFault process bytes fault = (found : Picked) × IsRead process bytes found (Some fault)

-- what the log ends with that isn't written: bytes behind the last newline, or a line that a message broke off and that
-- doesn't go on
pub record EndsCut (bytes : List ℕ) (ends : Bool) : Type 0 where
  pub lines : List (List ℕ)
  pub cut : List ℕ
  pub log : IsLog bytes lines cut
  pub kinds : List LineKind
  pub of_kinds : Each IsKind lines kinds
  pub none_left : ends ≡ false → (cut ≡ []) × ((healed lines kinds).part ≡ None)
  pub some_left : (cut ≡ []) → (healed lines kinds).part ≡ None → ends ≡ false
