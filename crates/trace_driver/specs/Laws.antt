-- What follows for a run: by one worker nothing is left to the threads, and words and input have one report; and a log
-- that was printed is one that a check of it finds legal.
use Rattle.std.specs.Prelude.{◌≡◌, ◌⊎◌, ℕ, Bool, true, false, List, ◌++◌, Option, Some, length, map}
use Rattle.space_model.specs.Areas.{HasKinds, kind_at}
use Rattle.area_rows.specs.Callers.{ClosedView}
use Rattle.line_parts.specs.Lines.{lines_of}
use Rattle.history_check.specs.declared.verdict.Verdict.TheVariants.{Legal}
use Rattle.history_check.specs.Laws.{PrintedLogIsGood}
use Rattle.history_check.specs.Verdicts.{IsVerdict}
use Rattle.command_words.specs.declared.commands.Command.TheVariants.{Play, Load}
use Rattle.command_words.specs.declared.commands.Options.{Options}
use Rattle.command_words.specs.Commands.{AskFor, AskForOne}
use Rattle.trace_driver.specs.declared.status.Status.{Status}
use Rattle.trace_driver.specs.declared.status.Status.TheVariants.{Done}
use Rattle.trace_driver.specs.Checking.{HasRead}
use Rattle.trace_driver.specs.Script.{Begins}
use Rattle.space_model.specs.declared.areas.Area.{Area}
use Rattle.space_model.specs.declared.entries.Entry.{Entry}
use Rattle.trace_driver.specs.declared.trace.Line.{Line}
use Rattle.trace_driver.specs.Play.{IsHistoryOf}
use Rattle.trace_driver.specs.Run.{Reports, Loaded}

-- the entries agree in all but the ranges that were held
pub record AreAlike (entries others : List Entry) : Type 0 where
  pub numbers : map (λ e. e.number) entries ≡ map (λ e. e.number) others
  pub workers : map (λ e. e.worker) entries ≡ map (λ e. e.worker) others
  pub lines : map (λ e. e.line) entries ≡ map (λ e. e.line) others
  pub calls : map (λ e. e.call) entries ≡ map (λ e. e.call) others
  pub replies : map (λ e. e.reply) entries ≡ map (λ e. e.reply) others

-- One worker plays lines from given areas in one way: order, replies and last areas follow from the lines. What each
-- call holds does too, since one worker alone holds an area wherever it may.
abbrev pub OneWorkerPlaysOneHistory : Type 0
OneWorkerPlaysOneHistory =
    (opening : List Area) (lines : List Line) (entries others : List Entry) (last end : List Area) →
    IsHistoryOf 1 opening lines entries last → IsHistoryOf 1 opening lines others end → AreAlike entries others × (last ≡ end)

-- the words ask for a run by one worker
abbrev pub AskForOneWorker : List (List ℕ) → Type 0
AskForOneWorker words =
    ((options : Options) × AskFor words (Play options 1)) ⊎ ((seed : ℕ) × (calls : ℕ) × AskFor words (Load seed 1 calls))

-- two reports are the same bytes, of the same entries, with all that these say, and of the same last areas
pub record AreOneReport (one other : ClosedView) (first second : List ℕ) : Type 0 where
  pub entries : one.entries ≡ other.entries
  pub areas : one.areas ≡ other.areas
  pub bytes : first ≡ second

-- Where the words ask for one worker, all is decided by them and by the bytes of the input: two reports of them are
-- one, whatever the threads do. A load's is decided by the words alone, whatever the input is.
pub record HasOneReport (words : List (List ℕ)) : Type 0 where
  pub of_input : (bytes : List ℕ) (left other_left : Option (List ℕ)) (one other : ClosedView) (first second : List ℕ) → AskForOneWorker words
      → Reports words (Some bytes) left one first → Reports words (Some bytes) other_left other second → AreOneReport one other first second
  pub of_load : (one other : ClosedView) (first second : List ℕ) → AskForOneWorker words → Loaded words one first → Loaded words other second
      → AreOneReport one other first second

-- so of all words that ask for one thing at most, as all do
abbrev pub OneWorkerHasOneReport : Type 0
OneWorkerHasOneReport = (words : List (List ℕ)) → AskForOne words → HasOneReport words

-- the lines are a good log of so many entries from the areas with which this input begins
pub record LegalFrom (opening : Bool) (bytes : List ℕ) (lines : List (List ℕ)) (entries : ℕ) : Type 0 where
  pub head : Begins opening bytes
  pub start : List Area
  pub kinds : HasKinds (kind_at head.areas) start
  pub verdict_is : IsVerdict start lines (Legal entries)

-- Where a run that is done was asked for its whole log and for no changes, and its output tells its bytes, the lines of
-- what was written are a good log of its entries. So a check of them behind the same maps lines finds as many entries,
-- within its limits.
abbrev pub LogsAreGood : List (List ℕ) → Option (List ℕ) → Option (List ℕ) → Option (List ℕ) → Option (List ℕ) → Status → Type 0
LogsAreGood words input_old input_new out_old out_new status =
    (closed : ClosedView) (options : Options) (threads : ℕ) (old report : List ℕ) → status ≡ Done (Some closed)
    → AskFor words (Play options threads) → options.log ≡ true → options.differ ≡ false → options.changes ≡ false
    → out_old ≡ Some old → out_new ≡ Some (old ++ report)
    → HasRead input_old input_new (λ bytes. LegalFrom options.opening bytes (lines_of report) (length closed.entries))

-- whatever is printed of the history that a status carries is a good log
abbrev pub HasGoodLog : Status → Type 0
HasGoodLog status = (closed : ClosedView) → status ≡ Done (Some closed) → PrintedLogIsGood closed.entries
