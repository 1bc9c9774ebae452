-- What an input asks to play: the areas that it begins with, and its lines, each played, kept as the first half of a
-- call, passed over or blank. The form of one line is the reader's, after proc_pid_maps(5) and strace(1), and what
-- becomes of a Brk by the base that the trace told stands in the reader's Playing.antt. The limits, 64 MiB of input,
-- 65,535 bytes of a line and 1,048,576 played lines, that maps lines come in order, and the index of a process are this
-- project's own profile. How an input ends a run instead is said in Endings.antt.
use Rattle.std.specs.Prelude.{◌≡◌, ℕ, ◌≤◌, List, [], length, Option, Some, IfSome, ◌≢◌, ◌+◌, ◌*◌, Bool, ◌∷◌, ◌++◌, ◌==◌, if◌then◌else◌}
use Rattle.std.specs.Bool.{MatchBool}
use Rattle.std.specs.List.{list_any, position_or_len}
use Rattle.byte_ports.specs.Input.{Drains}
use Rattle.command_words.specs.declared.commands.Options.{Options}
use Rattle.line_parts.specs.Lines.{lines_of}
use Rattle.page_types.specs.declared.TheConstants.{ROWS}
use Rattle.space_model.specs.Areas.{kind_at, row_count, HasKinds}
use Rattle.space_model.specs.declared.areas.Area.{Area}
use Rattle.strace_reader.specs.Joining.{CountsKept, IsAnswer}
use Rattle.strace_reader.specs.Maps.{SpellsMaps}
use Rattle.strace_reader.specs.Playing.{base_behind, on_base, skipped_by}
use Rattle.strace_reader.specs.declared.joiner.Fed.{Fed}
use Rattle.strace_reader.specs.declared.joiner.Fed.TheVariants.{Played, Kept, Skipped, Blank}
use Rattle.strace_reader.specs.declared.maps.MapsItem.{MapsItem}
use Rattle.strace_reader.specs.declared.maps.MapsItem.TheVariants.{Area as Mapped, Past}
use Rattle.trace_driver.specs.declared.script.Script.{Script}
use Rattle.trace_driver.specs.declared.trace.Line.{Line}
use Rattle.trace_driver.specs.declared.trace.TheConstants.{LINE_LIMIT}

-- ---- the bytes

-- these are the bytes of the input: it was read to its end, where it tells its bytes these are all of them and none is
-- left, and they are no more than it may have
abbrev pub IsInput : Option (List ℕ) → Option (List ℕ) → List ℕ → Type 0
IsInput old new bytes = Drains old new bytes × (length bytes ≤ 67108864)

-- ---- the maps lines with which an input may begin

-- the address, in bytes, at which a maps line starts, and the one behind it
abbrev pub map_start : MapsItem → ℕ
map_start (Mapped area) = area.lo * 4096
map_start (Past start stop) = start

-- behind a line that ends at this address, the text is this maps line
pub record IsNext (from : ℕ) (text : List ℕ) (item : MapsItem) : Type 0 where
  pub short : length text ≤ LINE_LIMIT
  pub some : text ≢ []
  pub spells : SpellsMaps text item
  pub in_order : from ≤ map_start item

-- the maps lines from line `number` on, behind a line that ends at this address, have these areas and so many lines
-- past the user addresses; the trace begins at line `next` with the texts that are left
pub data ReadsMaps : ℕ → ℕ → List (List ℕ) → List Area → ℕ → ℕ → List (List ℕ) → Type 0 where
  over : {number from : ℕ} → ReadsMaps number from [] [] 0 number []
  empty : {number from : ℕ} {texts : List (List ℕ)} → ReadsMaps number from ([] ∷ texts) [] 0 (number + 1) texts
  mapped : {number from past next : ℕ} {text : List ℕ} {texts left : List (List ℕ)} {area : Area} {areas : List Area} →
      IsNext from text (Mapped area) → ReadsMaps (number + 1) (area.hi * 4096) texts areas past next left →
      ReadsMaps number from (text ∷ texts) (area ∷ areas) past next left
  past_end : {number from past next start stop : ℕ} {text : List ℕ} {texts left : List (List ℕ)} {areas : List Area} →
      IsNext from text (Past start stop) → ReadsMaps (number + 1) stop texts areas past next left →
      ReadsMaps number from (text ∷ texts) areas (1 + past) next left

-- How an input begins: with maps lines where they are asked for, else with its trace or its log. It has these areas, so
-- many lines more lie past the user addresses, and what follows begins at line `next` with the texts that are left.
pub record Begins (opening : Bool) (bytes : List ℕ) : Type 0 where
  pub areas : List Area
  pub past : ℕ
  pub next : ℕ
  pub left : List (List ℕ)
  pub opens : MatchBool opening (ReadsMaps 1 0 (lines_of bytes) areas past next left)
      ((areas ≡ []) × (past ≡ 0) × (next ≡ 1) × (left ≡ lines_of bytes))

-- ---- the lines of a trace

-- Where the reading of a trace stands: the number of the next line, how many lines are played so far, the texts that
-- were fed to the joiner, the last one first, the processes of the played calls, each once, the first one first, and
-- the base of heaps that was told, or 0.
pub record TracePosition : Type 0 where
  pub number : ℕ
  pub played : ℕ
  pub fed : List (List ℕ)
  pub seen : List ℕ
  pub base : ℕ

-- before the first line of a trace, which has this number
abbrev pub start_at : ℕ → TracePosition
start_at number = record { number = number; played = 0; fed = []; seen = []; base = 0 }

-- the processes of the played calls, each once, with that of an answer
abbrev pub seen_by : List ℕ → Fed → List ℕ
seen_by seen (Played pid call recorded skipped) = if list_any (λ first. first == pid) seen then seen else seen ++ pid ∷ []
seen_by seen (Kept skipped) = seen
seen_by seen (Skipped skipped) = seen
seen_by seen Blank = seen

-- The line that is played where this becomes of the next text, or none. It has that text's number, also where the text
-- is a second half. Its process has an index: 0, 1, 2 and so on, as processes first appear; a new one gets the next.
abbrev pub lines_by : TracePosition → Fed → List Line
lines_by stand (Played pid call recorded skipped) =
    record { number = stand.number; process = position_or_len (λ first. first == pid) stand.seen; call = call; recorded = recorded } ∷ []
lines_by stand (Kept skipped) = []
lines_by stand (Skipped skipped) = []
lines_by stand Blank = []

-- what becomes of a text that answered so: its call has the base that the trace told, or isn't played
abbrev pub taken : TracePosition → Fed → Fed
taken stand answer = on_base (base_behind stand.base answer) answer

-- where the reading stands behind a text that answered so
abbrev pub after : TracePosition → List ℕ → Fed → TracePosition
after stand text answer = record {
  number = stand.number + 1;
  played = stand.played + length (lines_by stand (taken stand answer));
  fed = text ∷ stand.fed;
  seen = seen_by stand.seen (taken stand answer);
  base = base_behind stand.base answer;
}

-- the next line answers so, and the limits are kept
abbrev pub Asks : TracePosition → List ℕ → Fed → Type 0
Asks stand text answer = (length text ≤ LINE_LIMIT) × IsAnswer stand.fed text answer
    × (stand.played + length (lines_by stand (taken stand answer)) ≤ 1048576)

-- From where the reading stands, all these lines are read: these are played and so many are skipped. First halves that
-- are left at the end are skipped too.
pub data Reads : TracePosition → List (List ℕ) → List Line → ℕ → Type 0 where
  nothing : {stand : TracePosition} {left : ℕ} → CountsKept stand.fed left → Reads stand [] [] left
  line : {stand : TracePosition} {text : List ℕ} {texts : List (List ℕ)} {lines : List Line} {skipped : ℕ} → (answer : Fed) →
      Asks stand text answer → Reads (after stand text answer) texts lines skipped →
      Reads stand (text ∷ texts) (lines_by stand (taken stand answer) ++ lines) (skipped_by (taken stand answer) + skipped)

-- ---- the whole

-- the input asks for these lines, from the one area list with the kinds of the areas that it begins with, and so many
-- lines are skipped
pub record IsScript (options : Options) (bytes : List ℕ) (start : List Area) (lines : List Line) (skipped : ℕ) : Type 0 where
  pub head : Begins options.opening bytes
  pub passed : ℕ
  pub reads : Reads (start_at head.next) head.left lines passed
  pub kinds : HasKinds (kind_at head.areas) start
  pub few_rows : row_count start ≤ ROWS
  pub counted : skipped ≡ head.past + passed

abbrev pub IsScriptOf : Options → List ℕ → Script → Type 0
IsScriptOf options bytes script = IsScript options bytes script.opening script.lines.items script.skipped

-- the input was read to its end, and asks for this
abbrev pub IsReadScript : Options → Option (List ℕ) → Option (List ℕ) → Script → Type 0
IsReadScript options input_old input_new script = (bytes : List ℕ) × IsInput input_old input_new bytes × IsScriptOf options bytes script
