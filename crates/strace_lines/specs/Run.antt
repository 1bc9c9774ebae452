-- What a run writes, and why it ends. With words that ask for a log to be rewritten the whole input is read, and its
-- one rewriting is written; nothing is written before all of it is known. Each status comes only with its cause.
use Rattle.std.specs.Prelude.{◌≡◌, ◌⊎◌, ℕ, ◌<◌, ◌≤◌, List, length, Bool, Option, IfSome, ⊤}
use Rattle.std.specs.Io.KnownBytes.{Appends, Keeps}
use Rattle.byte_ports.specs.Bytes.{AppendsPrefix}
use Rattle.byte_ports.specs.Counts.{Rose}
use Rattle.byte_ports.specs.Input.{Drains}
use Rattle.raw_logs.specs.declared.counts.Counts.{Counts}
use Rattle.raw_trace.specs.declared.fault.Fault.{Fault}
use Rattle.raw_trace.specs.declared.tally.Tally.{Tally}
use Rattle.raw_trace.specs.declared.fault.Fault.TheVariants.{Unreadable as CantRead, LongLine as TooLong, NoProcess as Silent, Memory as NoMemory}
use Rattle.raw_trace.specs.Faults.{IsFault, IsCausedFault}
use Rattle.raw_trace.specs.Rewriting.{IsRewriting}
use Rattle.raw_logs.specs.Reading.{EndsCut}
use Rattle.strace_lines.specs.declared.status.Status.{Status}
use Rattle.strace_lines.specs.declared.status.Status.TheVariants.{Done, Helped, Usage, Unreadable, NoProcess, ReadFault, WriteFault, Memory, LongInput, LongLine}
use Rattle.strace_lines.specs.declared.words.Asked.TheVariants.{Help, Rewrite}
use Rattle.strace_lines.specs.Words.{AskFor, RefusesWords}
use Rattle.strace_lines.specs.Texts.{help_text, said}

-- with words that ask for it the whole input was read, within its limit, and this holds of what was asked and its bytes
pub record Heard (words : List (List ℕ)) (input_old input_new : Option (List ℕ)) (P : Option ℕ → Bool → List ℕ → Type 0) : Type 0 where
  pub process : Option ℕ
  pub strict : Bool
  pub accepted : AskFor words (Rewrite process strict)
  pub bytes : List ℕ
  pub drained : Drains input_old input_new bytes
  pub within : length bytes ≤ 67108864
  pub holds : P process strict bytes

-- these bytes are the lines of a log that calls for no fault
abbrev pub AreLines : List (List ℕ) → Option (List ℕ) → Option (List ℕ) → List ℕ → Type 0
AreLines words input_old input_new out = Heard words input_old input_new
    (λ process strict bytes. (counts : Counts) × (calls : Tally) × IsRewriting process bytes out counts calls
    × ((fault : Fault) → ¬ IsCausedFault process strict bytes fault))

-- What a run wrote: the lines, or the help; a first part of these where the output failed; else nothing.
abbrev pub Wrote : List (List ℕ) → Option (List ℕ) → Option (List ℕ) → Option (List ℕ) → Option (List ℕ) → Status → Type 0
Wrote words input_old input_new out_old out_new (Done calls counts ends_cut) = (out : List ℕ) × Appends out_old out_new out
    × Heard words input_old input_new (λ process strict bytes. IsRewriting process bytes out counts calls × EndsCut bytes ends_cut)
Wrote words input_old input_new out_old out_new Helped = AskFor words Help × Appends out_old out_new help_text
Wrote words input_old input_new out_old out_new WriteFault = (out : List ℕ) × AppendsPrefix out_old out_new out
    × (AreLines words input_old input_new out ⊎ (AskFor words Help × (out ≡ help_text)))
Wrote words input_old input_new out_old out_new Usage = Keeps out_old out_new
Wrote words input_old input_new out_old out_new (Unreadable line column cause) = Keeps out_old out_new
Wrote words input_old input_new out_old out_new NoProcess = Keeps out_old out_new
Wrote words input_old input_new out_old out_new ReadFault = Keeps out_old out_new
Wrote words input_old input_new out_old out_new Memory = Keeps out_old out_new
Wrote words input_old input_new out_old out_new LongInput = Keeps out_old out_new
Wrote words input_old input_new out_old out_new (LongLine line) = Keeps out_old out_new

-- a run that ends so leaves its output alone
abbrev pub IsUnwritten : Status → Type 0
IsUnwritten (Done calls counts ends_cut) = ⊥
IsUnwritten Helped = ⊥
IsUnwritten WriteFault = ⊥
IsUnwritten Usage = ⊤
IsUnwritten (Unreadable line column cause) = ⊤
IsUnwritten NoProcess = ⊤
IsUnwritten ReadFault = ⊤
IsUnwritten Memory = ⊤
IsUnwritten LongInput = ⊤
IsUnwritten (LongLine line) = ⊤

-- the cause of each status; out of memory has none
abbrev pub HasCause : List (List ℕ) → Option (List ℕ) → Option (List ℕ) → (ℕ × ℕ) → (ℕ × ℕ) → Status → Type 0
HasCause words input_old input_new input_failures out_failures (Done calls counts ends_cut) = ⊤
HasCause words input_old input_new input_failures out_failures Helped = ⊤
HasCause words input_old input_new input_failures out_failures Usage = RefusesWords words
HasCause words input_old input_new input_failures out_failures (Unreadable line column cause) =
    Heard words input_old input_new (λ process strict bytes. IsFault process strict bytes (CantRead line column cause))
HasCause words input_old input_new input_failures out_failures NoProcess =
    Heard words input_old input_new (λ process strict bytes. IsFault process strict bytes Silent)
HasCause words input_old input_new input_failures out_failures ReadFault = Rose input_failures.0 input_failures.1
HasCause words input_old input_new input_failures out_failures WriteFault = Rose out_failures.0 out_failures.1
HasCause words input_old input_new input_failures out_failures Memory = ⊤
HasCause words input_old input_new input_failures out_failures LongInput = IfSome input_old (λ all. 67108864 < length all)
HasCause words input_old input_new input_failures out_failures (LongLine line) =
    Heard words input_old input_new (λ process strict bytes. IsFault process strict bytes (TooLong line))

-- how a run ends whose log isn't rewritten
abbrev pub status_of : Fault → Status
status_of (CantRead line column cause) = Unreadable line column cause
status_of (TooLong line) = LongLine line
status_of Silent = NoProcess
status_of NoMemory = Memory

-- the words and an input with these bytes call for this status
pub data IsOutcome (words : List (List ℕ)) (bytes : List ℕ) : Status → Type 0 where
  -- the words are not accepted
  usage : RefusesWords words → IsOutcome words bytes Usage
  -- help is asked for, whatever the input is
  helped : AskFor words Help → IsOutcome words bytes Helped
  -- the input has more bytes than it may have
  input_too_long : {process : Option ℕ} {strict : Bool} → AskFor words (Rewrite process strict) → 67108864 < length bytes → IsOutcome words bytes LongInput
  -- the log isn't rewritten
  not_rewritten : {process : Option ℕ} {strict : Bool} {status : Status} → AskFor words (Rewrite process strict) → length bytes ≤ 67108864 →
      (cause : Fault) → IsCausedFault process strict bytes cause → status ≡ status_of cause → IsOutcome words bytes status
  -- it is
  done : {process : Option ℕ} {strict : Bool} {out : List ℕ} {counts : Counts} {calls : Tally} {ends_cut : Bool} → AskFor words (Rewrite process strict) →
      length bytes ≤ 67108864 → ((cause : Fault) → ¬ IsCausedFault process strict bytes cause) → IsRewriting process bytes out counts calls →
      EndsCut bytes ends_cut → IsOutcome words bytes (Done calls counts ends_cut)

-- they call for this status and for no other
pub record IsOnlyOutcome (words : List (List ℕ)) (bytes : List ℕ) (status : Status) : Type 0 where
  pub called_for : IsOutcome words bytes status
  pub only : (other : Status) → IsOutcome words bytes other → other ≡ status

-- a run may end so whatever was called for: there was no memory, or a port's count of failed calls rose
abbrev pub IsHindered : (ℕ × ℕ) → (ℕ × ℕ) → Status → Type 0
IsHindered input_failures out_failures (Done calls counts ends_cut) = ⊥
IsHindered input_failures out_failures Helped = ⊥
IsHindered input_failures out_failures Usage = ⊥
IsHindered input_failures out_failures (Unreadable line column cause) = ⊥
IsHindered input_failures out_failures NoProcess = ⊥
IsHindered input_failures out_failures ReadFault = Rose input_failures.0 input_failures.1
IsHindered input_failures out_failures WriteFault = Rose out_failures.0 out_failures.1
IsHindered input_failures out_failures Memory = ⊤
IsHindered input_failures out_failures LongInput = ⊥
IsHindered input_failures out_failures (LongLine line) = ⊥

-- what the run says was written on standard error, or a first part of it where that failed
abbrev pub Says : Option (List ℕ) → Option (List ℕ) → ℕ → ℕ → Status → Type 0
Says err_old err_new before after status =
    Appends err_old err_new (said status) ⊎ (AppendsPrefix err_old err_new (said status) × Rose before after)
