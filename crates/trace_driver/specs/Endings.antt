-- How an input ends a run before anything is played, each line behind those before it, which are as Script.antt has
-- them. The order of refusals is this project's own profile: the lines one after another, and last the rows of the
-- areas that the input starts with. So an input has at most one early end.
use Rattle.std.specs.Prelude.{◌≡◌, ℕ, ◌<◌, ◌≤◌, List, [], length, Option, IfSome, ◌≢◌, ◌⊎◌, ◌+◌, ◌*◌, Bool, true, false, ◌∷◌}
use Rattle.byte_ports.specs.Counts.{Rose}
use Rattle.command_words.specs.declared.commands.Options.{Options}
use Rattle.line_parts.specs.Lines.{lines_of}
use Rattle.line_parts.specs.declared.refusal.What.TheVariants.{Order}
use Rattle.page_types.specs.declared.TheConstants.{ROWS}
use Rattle.space_model.specs.Areas.{kind_at, row_count, HasKinds}
use Rattle.space_model.specs.declared.areas.Area.{Area}
use Rattle.strace_reader.specs.Joining.{IsAnswer, RefusesFed}
use Rattle.strace_reader.specs.Maps.{SpellsMaps, RefusesMaps}
use Rattle.strace_reader.specs.declared.item.BadCall.{BadCall}
use Rattle.strace_reader.specs.declared.joiner.Fed.{Fed}
use Rattle.strace_reader.specs.declared.maps.MapsItem.{MapsItem}
use Rattle.strace_reader.specs.declared.maps.MapsItem.TheVariants.{Area as Mapped, Past}
use Rattle.trace_driver.specs.Script.{IsInput, Reads, start_at, TracePosition, Asks, after, lines_by, taken, map_start, IsNext, Begins}
use Rattle.trace_driver.specs.declared.status.EarlyEnd.{EarlyEnd}
use Rattle.trace_driver.specs.declared.status.EarlyEnd.TheVariants.{Refused, Failed, NoMemory, Above}
use Rattle.trace_driver.specs.declared.status.Which.{Which}
use Rattle.trace_driver.specs.declared.status.Which.TheVariants.{Input, Rows, Line as OfLine, Lines as OfLines}
use Rattle.trace_driver.specs.declared.trace.Line.{Line}
use Rattle.trace_driver.specs.declared.trace.TheConstants.{LINE_LIMIT}

-- ---- while it is read

-- the input has more bytes than it may have
abbrev pub IsTooLong : Option (List ℕ) → Type 0
IsTooLong bytes = IfSome bytes (λ all. 67108864 < length all)

-- reading ends so: the source's count of failed calls rose, or the input is too long
abbrev pub EndsReading : Option (List ℕ) → ℕ → ℕ → EarlyEnd → Type 0
EndsReading bytes before after (Refused line column what) = ⊥
EndsReading bytes before after Failed = Rose before after
EndsReading bytes before after NoMemory = ⊥
EndsReading bytes before after (Above Input value) = (value ≡ 67108865) × IsTooLong bytes
EndsReading bytes before after (Above OfLine value) = ⊥
EndsReading bytes before after (Above OfLines value) = ⊥
EndsReading bytes before after (Above Rows value) = ⊥

-- ---- by a maps line

-- the line is short enough to be looked at
abbrev pub IsShort : List ℕ → Type 0
IsShort text = length text ≤ LINE_LIMIT

-- the line is too long; the value is the first length above the limit
abbrev pub IsTooLongLine : List ℕ → ℕ → Type 0
IsTooLongLine text value = (65535 < length text) × (value ≡ 65536)

abbrev pub map_stop : MapsItem → ℕ
map_stop (Mapped area) = area.hi * 4096
map_stop (Past start stop) = stop

-- the line's refusal: by its form, or since it starts below the end of the line before it
abbrev pub IsRefused : ℕ → List ℕ → BadCall → Type 0
IsRefused from text bad =
    RefusesMaps text bad ⊎ ((item : MapsItem) × SpellsMaps text item × (map_start item < from) × (bad ≡ record { column = 1; what = Order }))

-- maps line `number`, behind a line that ends at this address, ends the run so
abbrev pub EndsMap : ℕ → ℕ → List ℕ → EarlyEnd → Type 0
EndsMap number from text (Refused line column what) =
    IsShort text × (text ≢ []) × IsRefused from text (record { column = column; what = what }) × (line ≡ number)
EndsMap number from text Failed = ⊥
EndsMap number from text NoMemory = ⊥
EndsMap number from text (Above Input value) = ⊥
EndsMap number from text (Above OfLine value) = IsTooLongLine text value
EndsMap number from text (Above OfLines value) = ⊥
EndsMap number from text (Above Rows value) = ⊥

-- the first of the maps lines that ends the run ends it so
pub data EndsMaps : ℕ → ℕ → List (List ℕ) → EarlyEnd → Type 0 where
  here : {number from : ℕ} {text : List ℕ} {texts : List (List ℕ)} {end : EarlyEnd} → EndsMap number from text end →
      EndsMaps number from (text ∷ texts) end
  later : {number from : ℕ} {text : List ℕ} {texts : List (List ℕ)} {end : EarlyEnd} → (item : MapsItem) → IsNext from text item →
      EndsMaps (number + 1) (map_stop item) texts end → EndsMaps number from (text ∷ texts) end

-- a maps line ends the run so, where the input has any
abbrev pub EndsOpening : Bool → List (List ℕ) → EarlyEnd → Type 0
EndsOpening true texts end = EndsMaps 1 0 texts end
EndsOpening false texts end = ⊥

-- ---- by a line of a trace

-- which limit the next line passes
abbrev pub Passes : TracePosition → List ℕ → Which → ℕ → Type 0
Passes stand text Input value = ⊥
Passes stand text OfLine value = IsTooLongLine text value
Passes stand text OfLines value = IsShort text × (value ≡ 1048577)
    × ((answer : Fed) × IsAnswer stand.fed text answer × (1048576 < stand.played + length (lines_by stand (taken stand answer))))
Passes stand text Rows value = ⊥

-- The next line ends the run so. Halves that are refused together have the number of the second, and a column in both.
abbrev pub Ends : TracePosition → List ℕ → EarlyEnd → Type 0
Ends stand text (Refused line column what) = IsShort text × RefusesFed stand.fed text (record { column = column; what = what }) × (line ≡ stand.number)
Ends stand text Failed = ⊥
Ends stand text NoMemory = ⊥
Ends stand text (Above which value) = Passes stand text which value

-- the first of the lines that ends the run ends it so
pub data EndsAt : TracePosition → List (List ℕ) → EarlyEnd → Type 0 where
  here : {stand : TracePosition} {text : List ℕ} {texts : List (List ℕ)} {end : EarlyEnd} → Ends stand text end →
      EndsAt stand (text ∷ texts) end
  later : {stand : TracePosition} {text : List ℕ} {texts : List (List ℕ)} {end : EarlyEnd} → (answer : Fed) →
      Asks stand text answer → EndsAt (after stand text answer) texts end → EndsAt stand (text ∷ texts) end

-- ---- by the whole

-- a line of the trace ends the run so
pub record EndsTrace (options : Options) (bytes : List ℕ) (end : EarlyEnd) : Type 0 where
  pub head : Begins options.opening bytes
  pub ends : EndsAt (start_at head.next) head.left end

-- all lines are read, and the areas that the input starts with have more rows than there may be
pub record EndsByRows (options : Options) (bytes : List ℕ) (end : EarlyEnd) : Type 0 where
  pub head : Begins options.opening bytes
  pub lines : List Line
  pub passed : ℕ
  pub reads : Reads (start_at head.next) head.left lines passed
  pub start : List Area
  pub kinds : HasKinds (kind_at head.areas) start
  pub many_rows : ROWS < row_count start
  pub is : end ≡ Above Rows (row_count start)

-- the bytes of an input end the run so: the first line that ends a run does, or behind all lines the rows do
abbrev pub EndsInput : Options → List ℕ → EarlyEnd → Type 0
EndsInput options bytes end =
    EndsOpening options.opening (lines_of bytes) end ⊎ (EndsTrace options bytes end ⊎ EndsByRows options bytes end)

-- the run ends so before anything is played: while the input is read, or by its bytes
abbrev pub EndsEarly : Options → Option (List ℕ) → Option (List ℕ) → ℕ → ℕ → EarlyEnd → Type 0
EndsEarly options input_old input_new before after end =
    EndsReading input_old before after end ⊎ ((bytes : List ℕ) × IsInput input_old input_new bytes × EndsInput options bytes end)
