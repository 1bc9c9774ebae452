-- What a run of the program says, and why it ends: the sentence that the whole program is proved to keep. Nothing here
-- speaks of how lines are read or areas are kept. The statuses and their order are this project's own profile; the
-- definitions below are in two directions, what comes only with its cause and what comes wherever its cause is there.
use Rattle.std.specs.Prelude.{◌≡◌, ◌⊎◌, ℕ, ◌<◌, ◌≤◌, Bool, true, List, [], length, map, Option, None, Some, ⊤}
use Rattle.std.specs.Io.KnownBytes.{Appends, Keeps}
use Rattle.byte_ports.specs.Bytes.{AppendsPrefix}
use Rattle.byte_ports.specs.Counts.{Rose}
use Rattle.space_model.specs.declared.areas.Area.{Area}
use Rattle.area_changes.specs.declared.changes.EntryChange.{EntryChange}
use Rattle.area_changes.specs.Changes.{Make}
use Rattle.area_rows.specs.Callers.{ClosedView}
use Rattle.maps_printer.specs.declared.differing.DifferingReply.{DifferingReply}
use Rattle.maps_printer.specs.Lines.{summary_text}
use Rattle.load_lines.specs.Calls.{drawn_lines}
use Rattle.command_words.specs.declared.commands.Command.TheVariants.{Play, Load, Check}
use Rattle.command_words.specs.declared.commands.Options.{Options}
use Rattle.trace_driver.specs.declared.status.EarlyEnd.{EarlyEnd}
use Rattle.trace_driver.specs.declared.status.EarlyEnd.TheVariants.{Refused, Above}
use Rattle.trace_driver.specs.declared.status.Status.{Status}
use Rattle.trace_driver.specs.declared.status.Status.TheVariants.{Done, Usage, BadLine, ReadFault, WriteFault, Memory, Limit, Wrong}
use Rattle.trace_driver.specs.declared.status.Which.{Which}
use Rattle.trace_driver.specs.declared.status.Which.TheVariants.{Input, Line as OfLine, Lines as OfLines, Rows}
use Rattle.trace_driver.specs.declared.trace.Line.{Line}
use Rattle.command_words.specs.Commands.{AskFor, RefusesWords, AskForCheck, AskToRead}
use Rattle.history_check.specs.declared.verdict.Verdict.{Verdict}
use Rattle.trace_driver.specs.Checking.{IsInputVerdict, EndsCheck, Judged, verdict_status}
use Rattle.trace_driver.specs.ErrorLine.{error_line}
use Rattle.trace_driver.specs.Script.{IsInput, IsScript}
use Rattle.trace_driver.specs.Endings.{IsTooLong, EndsInput}
use Rattle.trace_driver.specs.Play.{line_of, IsHistoryOf}
use Rattle.trace_driver.specs.Report.{report_text, refused_count, CountsTouched, AreDiffering, Differing}
use Rattle.trace_driver.specs.Status.{status_of, ending}

-- the report of an input with these options, by a space that was closed: the input's lines, played by so many workers
-- from the areas that it starts with, are the space's history, and the areas printed are those of its last state
pub record IsReport (options : Options) (threads : ℕ) (bytes : List ℕ) (closed : ClosedView) (report : List ℕ) : Type 0 where
  pub start : List Area
  pub lines : List Line
  pub skipped : ℕ
  pub script : IsScript options bytes start lines skipped
  pub played : IsHistoryOf threads start lines closed.entries closed.areas
  pub differ : ℕ
  pub differs : Differing lines closed.entries differ
  pub touched : ℕ
  pub touches : options.touched ≡ true → CountsTouched closed.entries touched
  pub differing : List DifferingReply
  pub differing_are : options.differ ≡ true → AreDiffering lines closed.entries differing
  pub changes : List EntryChange
  pub changes_are : options.changes ≡ true → Make start closed.entries changes
  pub text : report ≡ report_text options closed.areas closed.entries differing changes
      (record { skipped = skipped; refused = refused_count closed.entries; differ = differ; touched = touched })

-- with words that ask for an input to be played the whole input was read, within its limit, and this holds of its bytes
pub record Heard (words : List (List ℕ)) (input_old input_new : Option (List ℕ)) (P : Options → ℕ → List ℕ → Type 0) : Type 0 where
  pub options : Options
  pub threads : ℕ
  pub accepted : AskFor words (Play options threads)
  pub bytes : List ℕ
  pub input : IsInput input_old input_new bytes
  pub holds : P options threads bytes

-- with words that ask for a load this is its report, by a space that was closed: the lines that the seed makes, played
-- by so many workers from an empty space, are the space's history, and the summary is all that is printed. No line has
-- a recorded result, so no reply differs from one
pub record Loaded (words : List (List ℕ)) (closed : ClosedView) (report : List ℕ) : Type 0 where
  pub seed : ℕ
  pub threads : ℕ
  pub calls : ℕ
  pub accepted : AskFor words (Load seed threads calls)
  pub played : IsHistoryOf threads [] (map line_of (drawn_lines seed threads calls)) closed.entries closed.areas
  pub text : report ≡ summary_text (length closed.entries) 0 (refused_count closed.entries) 0

-- this is the report of the input or of the load, by that space
abbrev pub Reports : List (List ℕ) → Option (List ℕ) → Option (List ℕ) → ClosedView → List ℕ → Type 0
Reports words input_old input_new closed report =
    Heard words input_old input_new (λ options threads bytes. IsReport options threads bytes closed report) ⊎ Loaded words closed report

-- What a play or a load wrote: the whole report, or a first part of it where the output failed, else nothing. Where a
-- report was written the status carries the closed space whose history it is. The other statuses with an output are
-- those of a check: what that wrote is `ChecksAs` of `Checking`.
abbrev pub Wrote : List (List ℕ) → Option (List ℕ) → Option (List ℕ) → Option (List ℕ) → Option (List ℕ) → Status → Type 0
Wrote words input_old input_new out_old out_new (Done None) = AskForCheck words
Wrote words input_old input_new out_old out_new (Done (Some closed)) = (report : List ℕ)
    × Reports words input_old input_new closed report × Appends out_old out_new report
Wrote words input_old input_new out_old out_new (WriteFault None) = AskForCheck words
Wrote words input_old input_new out_old out_new (WriteFault (Some closed)) = (report : List ℕ)
    × Reports words input_old input_new closed report × AppendsPrefix out_old out_new report
Wrote words input_old input_new out_old out_new Usage = Keeps out_old out_new
Wrote words input_old input_new out_old out_new (BadLine line column what) = Keeps out_old out_new
Wrote words input_old input_new out_old out_new ReadFault = Keeps out_old out_new
Wrote words input_old input_new out_old out_new Memory = Keeps out_old out_new
Wrote words input_old input_new out_old out_new (Limit which value) = Keeps out_old out_new
Wrote words input_old input_new out_old out_new (Wrong line) = AskForCheck words

-- a run that ends so has written its whole report, or that a log is legal
abbrev pub IsDone : Status → Type 0
IsDone (Done closed) = ⊤
IsDone Usage = ⊥
IsDone (BadLine line column what) = ⊥
IsDone ReadFault = ⊥
IsDone (WriteFault closed) = ⊥
IsDone Memory = ⊥
IsDone (Limit which value) = ⊥
IsDone (Wrong line) = ⊥

-- a run that ends so leaves its output alone
abbrev pub IsUnwritten : Status → Type 0
IsUnwritten (Done closed) = ⊥
IsUnwritten (WriteFault closed) = ⊥
IsUnwritten Usage = ⊤
IsUnwritten (BadLine line column what) = ⊤
IsUnwritten ReadFault = ⊤
IsUnwritten Memory = ⊤
IsUnwritten (Limit which value) = ⊤
IsUnwritten (Wrong line) = ⊥

-- with words that ask for a log to be checked the whole input was read, within its limit, and its bytes end the run so
pub record EndsByLog (words : List (List ℕ)) (input_old input_new : Option (List ℕ)) (end : EarlyEnd) : Type 0 where
  pub opening : Bool
  pub accepted : AskFor words (Check opening)
  pub bytes : List ℕ
  pub input : IsInput input_old input_new bytes
  pub ends : EndsCheck opening bytes end

-- the input ends the run so: by the first of its lines that ends a run, or behind them by the rows that it opens with
abbrev pub EndsByInput : List (List ℕ) → Option (List ℕ) → Option (List ℕ) → EarlyEnd → Type 0
EndsByInput words input_old input_new end =
    Heard words input_old input_new (λ options threads bytes. EndsInput options bytes end) ⊎ EndsByLog words input_old input_new end

-- which limit was passed
abbrev pub PassedLimit : List (List ℕ) → Option (List ℕ) → Option (List ℕ) → Which → ℕ → Type 0
PassedLimit words input_old input_new Input value = (value ≡ 67108865) × IsTooLong input_old × AskToRead words
PassedLimit words input_old input_new OfLine value = EndsByInput words input_old input_new (Above OfLine value)
PassedLimit words input_old input_new OfLines value = EndsByInput words input_old input_new (Above OfLines value)
PassedLimit words input_old input_new Rows value = EndsByInput words input_old input_new (Above Rows value)

-- the cause of each status: the words, the input, its verdict, or a count of failed calls that rose; out of memory has
-- none
abbrev pub HasCause : List (List ℕ) → Option (List ℕ) → Option (List ℕ) → (ℕ × ℕ) → (ℕ × ℕ) → Status → Type 0
HasCause words input_old input_new input_failures out_failures (Done closed) = ⊤
HasCause words input_old input_new input_failures out_failures Usage = RefusesWords words
HasCause words input_old input_new input_failures out_failures (BadLine line column what) = EndsByInput words input_old input_new (Refused line column what)
HasCause words input_old input_new input_failures out_failures ReadFault = Rose input_failures.0 input_failures.1
HasCause words input_old input_new input_failures out_failures (WriteFault closed) = Rose out_failures.0 out_failures.1
HasCause words input_old input_new input_failures out_failures Memory = ⊤
HasCause words input_old input_new input_failures out_failures (Limit which value) = PassedLimit words input_old input_new which value
HasCause words input_old input_new input_failures out_failures (Wrong line) = (opening : Bool) × AskFor words (Check opening)
    × Judged opening (input_old, input_new) (λ before verdict. verdict_status before verdict ≡ Wrong line)

-- the words and an input with these bytes call for this status, whatever history it carries
pub data IsOutcome (words : List (List ℕ)) (bytes : List ℕ) : Status → Type 0 where
  -- the words are not accepted
  usage : RefusesWords words → IsOutcome words bytes Usage
  -- the input has more bytes than it may have
  too_long : AskToRead words → 67108864 < length bytes → IsOutcome words bytes (Limit Input 67108865)
  -- one of its lines ends the run, or the rows of the areas that it starts with do
  early : {options : Options} {threads : ℕ} {end : EarlyEnd} {status : Status} → AskFor words (Play options threads) → length bytes ≤ 67108864 →
      EndsInput options bytes end → status ≡ status_of end → IsOutcome words bytes status
  -- every line is readable and all limits are kept
  done : {options : Options} {threads : ℕ} {start : List Area} {lines : List Line} {skipped : ℕ} {closed : Option ClosedView}
      → AskFor words (Play options threads) →
      length bytes ≤ 67108864 → IsScript options bytes start lines skipped → IsOutcome words bytes (Done closed)
  -- a load is asked for, whatever the input is
  loaded : {seed threads calls : ℕ} {closed : Option ClosedView} → AskFor words (Load seed threads calls) → IsOutcome words bytes (Done closed)
  -- a log is asked to be checked, and one of the lines ends the run, or the rows of the areas that it starts with do
  check_early : {opening : Bool} {end : EarlyEnd} {status : Status} → AskFor words (Check opening) → length bytes ≤ 67108864 →
      EndsCheck opening bytes end → status ≡ status_of end → IsOutcome words bytes status
  -- its opening lines are readable and all limits are kept: it has a verdict
  checked : {opening : Bool} {before : ℕ} {verdict : Verdict} {status : Status} → AskFor words (Check opening) → length bytes ≤ 67108864 →
      IsInputVerdict opening bytes before verdict → status ≡ verdict_status before verdict → IsOutcome words bytes status

-- they call for this status, and for no other but with another history
pub record IsOnlyOutcome (words : List (List ℕ)) (bytes : List ℕ) (status : Status) : Type 0 where
  pub called_for : IsOutcome words bytes status
  pub only : (other : Status) → IsOutcome words bytes other → ending other ≡ ending status

-- a run may end so whatever was called for: there was no memory, or a port's count of failed calls rose
abbrev pub IsHindered : (ℕ × ℕ) → (ℕ × ℕ) → Status → Type 0
IsHindered input_failures out_failures (Done closed) = ⊥
IsHindered input_failures out_failures Usage = ⊥
IsHindered input_failures out_failures (BadLine line column what) = ⊥
IsHindered input_failures out_failures ReadFault = Rose input_failures.0 input_failures.1
IsHindered input_failures out_failures (WriteFault closed) = Rose out_failures.0 out_failures.1
IsHindered input_failures out_failures Memory = ⊤
IsHindered input_failures out_failures (Limit which value) = ⊥
IsHindered input_failures out_failures (Wrong line) = ⊥

-- the status's line was written, or a first part of it where that output failed
abbrev pub Complains : Option (List ℕ) → Option (List ℕ) → ℕ → ℕ → Status → Type 0
Complains err_old err_new before after status =
    Appends err_old err_new (error_line status) ⊎ (AppendsPrefix err_old err_new (error_line status) × Rose before after)
