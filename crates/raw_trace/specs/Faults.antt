-- Why a log isn't rewritten: its texts can't be had; or, of the lines in their order, the first that may not be
-- written: it is too long, or it can't be read where every line has to be. Its column counts in the text that stands
-- there: a plain text, or what two halves make. Where every line has to be read, one whose beginning isn't known comes
-- before that, if it stands before that in the log.
use Rattle.std.specs.Prelude.{◌≡◌, ◌⊎◌, ℕ, ◌<◌, ◌≤◌, List, [], ◌∷◌, ◌++◌, length, Bool, true, nat_lt, if◌then◌else◌, Option, Some, None}
use Rattle.raw_logs.specs.declared.counts.Counts.{Counts}
use Rattle.raw_logs.specs.Log.{Numbered, Each}
use Rattle.raw_logs.specs.Reading.{AreTexts, IsFirstUnknown, IsLogFault}
use Rattle.raw_logs.specs.declared.fault.LogFault.{LogFault}
use Rattle.raw_logs.specs.declared.fault.LogFault.TheVariants.{LongLine as LogLong, NoProcess as LogSilent, Memory as LogMemory}
use Rattle.raw_trace.specs.declared.fault.Cause.TheVariants.{Unknown}
use Rattle.raw_trace.specs.declared.fault.Fault.{Fault}
use Rattle.raw_trace.specs.declared.fault.Fault.TheVariants.{Unreadable, LongLine, NoProcess, Memory}
use Rattle.raw_trace.specs.Order.{Entry, Step, frees_for, order}
use Rattle.raw_trace.specs.Places.{ReadText, IsReadText, AreSteps}

-- why an entry may not be written
abbrev pub IsEntryFault : Bool → Entry → Fault → Type 0
IsEntryFault strict entry (LongLine number) = (65535 < length entry.line) × (number ≡ entry.number)
IsEntryFault strict entry (Unreadable number column cause) = (strict ≡ true) × (length entry.line ≤ 65535) × (number ≡ entry.number)
    × (entry.trouble ≡ Some (record { column = column; cause = cause }))
IsEntryFault strict entry NoProcess = ⊥
IsEntryFault strict entry Memory = ⊥

-- the first of the entries that may not be written is the cause
abbrev pub IsFirstFault : Bool → List Entry → Fault → Type 0
IsFirstFault strict [] fault = ⊥
IsFirstFault strict (entry ∷ entries) fault = IsEntryFault strict entry fault
    ⊎ (((other : Fault) → ¬ IsEntryFault strict entry other) × IsFirstFault strict entries fault)

-- the writing of texts ends so: of what the first of them give, an entry may not be written
pub record Stops (strict : Bool) (texts : List Numbered) (fault : Fault) : Type 0 where
  pub fed : List ReadText
  pub later : List ReadText
  pub reads : Each IsReadText texts (fed ++ later)
  pub steps : List Step
  pub are : AreSteps [] fed later steps
  pub first : IsFirstFault strict (order frees_for [] steps) fault

-- why the texts of a log can't be had
abbrev pub of_log : LogFault → Fault
of_log (LogLong line) = LongLine line
of_log LogSilent = NoProcess
of_log LogMemory = Memory

-- the first line whose beginning isn't known, where it matters
abbrev pub asked_unknown : Bool → Option ℕ → Option ℕ
asked_unknown strict unknown = if strict then unknown else None

-- the beginning of a line isn't known
abbrev pub unknown_at : ℕ → Fault
unknown_at number = Unreadable number 1 Unknown

-- of a fault of the writing and a line whose beginning isn't known, the one that stands first in the log
abbrev pub earlier_of : Option ℕ → Fault → Fault
earlier_of None fault = fault
earlier_of (Some number) (Unreadable line column cause) = if nat_lt number line then unknown_at number else Unreadable line column cause
earlier_of (Some number) (LongLine line) = if nat_lt number line then unknown_at number else LongLine line
earlier_of (Some number) fault = fault

-- Why texts aren't written, where this is the first line whose beginning isn't known: of these the writing ends; or it
-- doesn't, and there is such a line.
abbrev pub IsTextsFault : Bool → List Numbered → Option ℕ → Fault → Type 0
IsTextsFault strict texts unknown fault = ((found : Fault) × Stops strict texts found × (fault ≡ earlier_of unknown found))
    ⊎ (((found : Fault) → ¬ Stops strict texts found) × (number : ℕ) × (unknown ≡ Some number) × (fault ≡ unknown_at number))

-- Why a log isn't rewritten, but for want of memory: its texts can't be had; or they aren't written.
abbrev pub IsCausedFault : Option ℕ → Bool → List ℕ → Fault → Type 0
IsCausedFault process strict bytes fault = ((why : LogFault) × IsLogFault process bytes why × (fault ≡ of_log why))
    ⊎ ((texts : List Numbered) × (before : Counts) × (unknown : Option ℕ) × AreTexts process bytes texts before
    × IsFirstUnknown process bytes unknown × IsTextsFault strict texts (asked_unknown strict unknown) fault)

-- why a log isn't rewritten; out of memory has no cause
abbrev pub IsFault : Option ℕ → Bool → List ℕ → Fault → Type 0
IsFault process strict bytes (Unreadable line column cause) = IsCausedFault process strict bytes (Unreadable line column cause)
IsFault process strict bytes (LongLine line) = IsCausedFault process strict bytes (LongLine line)
IsFault process strict bytes NoProcess = IsCausedFault process strict bytes NoProcess
IsFault process strict bytes Memory = Unit {0}
