-- What a check of a log reads and says: the input begins with maps lines where these are asked for, and the lines
-- behind them are checked from the areas that it begins with. Which verdict lines have is the checker's matter; here
-- stand the limits, the number of a line in the whole input, and the text. The order of refusals is that of a trace,
-- and this project's own profile: the lines one after another, then the rows.
use Rattle.std.specs.Prelude.{◌≡◌, ◌⊎◌, ℕ, ◌+◌, ◌<◌, ◌≤◌, Bool, List, [], ◌∷◌, ◌++◌, Option, None, All, length, codes}
use Rattle.std.specs.Io.KnownBytes.{Appends, Keeps}
use Rattle.byte_ports.specs.Bytes.{AppendsPrefix, numbered}
use Rattle.command_words.specs.Commands.{AskFor}
use Rattle.command_words.specs.declared.commands.Command.TheVariants.{Check}
use Rattle.page_types.specs.declared.TheConstants.{ROWS}
use Rattle.space_model.specs.declared.areas.Area.{Area}
use Rattle.space_model.specs.Areas.{kind_at, row_count, HasKinds}
use Rattle.line_parts.specs.Lines.{lines_of}
use Rattle.history_check.specs.declared.verdict.Verdict.{Verdict}
use Rattle.history_check.specs.declared.verdict.Verdict.TheVariants.{Legal, Wrong as WrongVerdict}
use Rattle.history_check.specs.declared.verdict.WrongLog.{WrongLog}
use Rattle.history_check.specs.declared.verdict.WrongLog.TheVariants.{Form, Number, Order, Held, Reply, Rest}
use Rattle.history_check.specs.LogLines.{BeginsLog}
use Rattle.history_check.specs.Verdicts.{IsVerdict}
use Rattle.trace_driver.specs.declared.status.EarlyEnd.{EarlyEnd}
use Rattle.trace_driver.specs.declared.status.EarlyEnd.TheVariants.{Refused, Failed, NoMemory, Above}
use Rattle.trace_driver.specs.declared.status.Status.{Status}
use Rattle.trace_driver.specs.declared.status.Status.TheVariants.{Done, Usage, BadLine, ReadFault, WriteFault, Memory, Limit, Wrong}
use Rattle.trace_driver.specs.declared.status.Which.{Which}
use Rattle.trace_driver.specs.declared.status.Which.TheVariants.{Input, Line as OfLine, Lines as OfLines, Rows}
use Rattle.trace_driver.specs.declared.trace.TheConstants.{LINE_LIMIT}
use Rattle.trace_driver.specs.Script.{IsInput, Begins}
use Rattle.trace_driver.specs.Endings.{EndsReading, EndsOpening, IsShort, IsTooLongLine}

-- each line is short enough, and no more lines belong to the log than there may be: the lines of the log are the first
-- ones, as long as they begin as log lines do
pub record KeepsLimits (lines : List (List ℕ)) : Type 0 where
  pub short : All (λ text. length text ≤ LINE_LIMIT) lines
  pub few : (log rest : List (List ℕ)) → lines ≡ log ++ rest → All BeginsLog log → length log ≤ 1048576

-- which limit a line behind these passes: it is too long, or the first line of the log that is one too many
abbrev pub PassesBehind : List (List ℕ) → List ℕ → Which → ℕ → Type 0
PassesBehind front text Input value = ⊥
PassesBehind front text OfLine value = IsTooLongLine text value
PassesBehind front text OfLines value = IsShort text × (value ≡ 1048577) × All BeginsLog (front ++ text ∷ []) × (length front ≡ 1048576)
PassesBehind front text Rows value = ⊥

-- a line behind these ends the run so
abbrev pub EndsBehind : List (List ℕ) → List ℕ → EarlyEnd → Type 0
EndsBehind front text (Refused line column what) = ⊥
EndsBehind front text Failed = ⊥
EndsBehind front text NoMemory = ⊥
EndsBehind front text (Above which value) = PassesBehind front text which value

-- the first of the lines that passes a limit ends the run so
pub record EndsLog (lines : List (List ℕ)) (end : EarlyEnd) : Type 0 where
  pub front : List (List ℕ)
  pub text : List ℕ
  pub behind : List (List ℕ)
  pub whole : lines ≡ front ++ text ∷ behind
  pub kept : KeepsLimits front
  pub ends : EndsBehind front text end

-- a line behind the maps lines ends the run so
pub record EndsByLine (opening : Bool) (bytes : List ℕ) (end : EarlyEnd) : Type 0 where
  pub head : Begins opening bytes
  pub ends : EndsLog head.left end

-- no line ends the run, and the areas that the input begins with have more rows than there may be
pub record EndsByStart (opening : Bool) (bytes : List ℕ) (end : EarlyEnd) : Type 0 where
  pub head : Begins opening bytes
  pub limits : KeepsLimits head.left
  pub start : List Area
  pub kinds : HasKinds (kind_at head.areas) start
  pub many_rows : ROWS < row_count start
  pub is : end ≡ Above Rows (row_count start)

-- the bytes of an input end a check so: the first line that ends the run does, or behind all lines the rows do
abbrev pub EndsCheck : Bool → List ℕ → EarlyEnd → Type 0
EndsCheck opening bytes end = EndsOpening opening (lines_of bytes) end ⊎ (EndsByLine opening bytes end ⊎ EndsByStart opening bytes end)

-- The verdict on an input: on the lines behind its maps lines, from the one area list with the kinds of the areas that
-- it begins with. So many lines stand before these; lines of the verdict are counted behind them. An input has one.
pub record IsInputVerdict (opening : Bool) (bytes : List ℕ) (before : ℕ) (verdict : Verdict) : Type 0 where
  pub head : Begins opening bytes
  pub next : head.next ≡ before + 1
  pub limits : KeepsLimits head.left
  pub start : List Area
  pub kinds : HasKinds (kind_at head.areas) start
  pub few_rows : row_count start ≤ ROWS
  pub verdict_is : IsVerdict start head.left verdict

-- how a cause is written
abbrev pub wrong_text : WrongLog → List ℕ
wrong_text Form = codes ": form\n"
wrong_text Number = codes ": number\n"
wrong_text Order = codes ": order\n"
wrong_text Held = codes ": held\n"
wrong_text Reply = codes ": reply\n"
wrong_text Rest = codes ": rest\n"

-- the line of a verdict, where so many lines of the input stand before those that were checked
abbrev pub verdict_line : ℕ → Verdict → List ℕ
verdict_line before (Legal entries) = numbered (codes "legal ") entries (codes "\n")
verdict_line before (WrongVerdict line why) = numbered (codes "wrong line ") (before + line) (wrong_text why)

-- the status of a run that wrote it
abbrev pub verdict_status : ℕ → Verdict → Status
verdict_status before (Legal entries) = Done None
verdict_status before (WrongVerdict line why) = Wrong (before + line)

-- the whole input was read, within its limit, and this holds of the verdict on it. The bytes of an input or an output
-- before and after stand as a pair
pub record Judged (opening : Bool) (input : Option (List ℕ) × Option (List ℕ)) (P : ℕ → Verdict → Type 0) : Type 0 where
  pub bytes : List ℕ
  pub read : IsInput input.0 input.1 bytes
  pub before : ℕ
  pub verdict : Verdict
  pub is : IsInputVerdict opening bytes before verdict
  pub holds : P before verdict

-- the verdict has this status, and its line was written
abbrev pub SaysVerdict : Bool → Option (List ℕ) × Option (List ℕ) → Option (List ℕ) × Option (List ℕ) → Status → Type 0
SaysVerdict opening input out status =
    Judged opening input (λ before verdict. (verdict_status before verdict ≡ status) × Appends out.0 out.1 (verdict_line before verdict))

-- What a check says of its input, by its status: where it is done or the log is wrong, the line of the verdict was
-- written, and the status is that of the verdict; where the output failed, a first part of this line was. Else nothing
-- was written.
abbrev pub IsChecked : Bool → Option (List ℕ) × Option (List ℕ) → Option (List ℕ) × Option (List ℕ) → Status → Type 0
IsChecked opening input out (Done closed) = SaysVerdict opening input out (Done closed)
IsChecked opening input out (Wrong line) = SaysVerdict opening input out (Wrong line)
IsChecked opening input out (WriteFault closed) =
    (closed ≡ None) × Judged opening input (λ before verdict. AppendsPrefix out.0 out.1 (verdict_line before verdict))
IsChecked opening input out Usage = ⊥
IsChecked opening input out (BadLine line column what) = Keeps out.0 out.1
IsChecked opening input out ReadFault = Keeps out.0 out.1
IsChecked opening input out Memory = Keeps out.0 out.1
IsChecked opening input out (Limit which value) = Keeps out.0 out.1

-- where the words ask for a check, the run is one
abbrev pub ChecksAs : List (List ℕ) → Option (List ℕ) × Option (List ℕ) → Option (List ℕ) × Option (List ℕ) → Status → Type 0
ChecksAs words input out status = (opening : Bool) → AskFor words (Check opening) → IsChecked opening input out status

-- the input was read to its end, and this holds of its bytes
abbrev pub HasRead : Option (List ℕ) → Option (List ℕ) → (List ℕ → Type 0) → Type 0
HasRead input_old input_new P = (bytes : List ℕ) × IsInput input_old input_new bytes × P bytes

-- a check ends so before there is a verdict: while the input is read, or by its bytes
abbrev pub EndsCheckEarly : Bool → Option (List ℕ) → Option (List ℕ) → ℕ → ℕ → EarlyEnd → Type 0
EndsCheckEarly opening input_old input_new before after end =
    EndsReading input_old before after end ⊎ HasRead input_old input_new (λ bytes. EndsCheck opening bytes end)
