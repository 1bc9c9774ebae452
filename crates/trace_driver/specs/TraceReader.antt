-- What the private functions that read an input say: what a maps line adds, and what the reader of a trace holds where
-- the reading stands at some line: a joiner that was fed the texts before it, the index of each process that was seen,
-- and the played lines. It ties the code to the definitions of Script.antt, which speak of texts alone.
use Rattle.std.specs.Prelude.{◌≡◌, ℕ, ◌<◌, List, [], length, Option, Some, IfSome, ◌⊎◌, ◌+◌, ◌∷◌, ◌++◌, ◌==◌, if◌then◌else◌, None, Bool}
use Rattle.std.specs.Bool.{MatchBool}
use Rattle.std.specs.BTreeMap.{get}
use Rattle.std.specs.List.{list_any, position_or_len}
use Rattle.std.specs.Ordering.{nat_cmp}
use Rattle.page_types.specs.Named.{IsNamedCall}
use Rattle.space_model.specs.declared.areas.Area.{Area}
use Rattle.strace_reader.specs.Joiner.{IsFed}
use Rattle.strace_reader.specs.declared.joiner.Fed.{Fed}
use Rattle.strace_reader.specs.declared.joiner.Fed.TheVariants.{Played, Kept, Skipped, Blank}
use Rattle.strace_reader.specs.declared.maps.MapsItem.{MapsItem}
use Rattle.strace_reader.specs.declared.maps.MapsItem.TheVariants.{Area as Mapped, Past}
use Rattle.strace_reader.specs.Playing.{skipped_by}
use Rattle.trace_driver.specs.Script.{ReadsMaps, TracePosition, Asks, after, lines_by, taken}
use Rattle.trace_driver.specs.declared.processes.Processes.{Processes}
use Rattle.trace_driver.specs.declared.status.EarlyEnd.{EarlyEnd}
use Rattle.trace_driver.specs.declared.status.EarlyEnd.TheVariants.{NoMemory, Above}
use Rattle.trace_driver.specs.declared.status.Which.TheVariants.{Lines}
use Rattle.trace_driver.specs.declared.trace.Line.{Line}
use Rattle.trace_driver.specs.declared.trace.TraceReader.{TraceReader}

-- an input whose lines are these texts begins so, as `Begins` has it
abbrev pub Opens : Bool → List (List ℕ) → List Area → ℕ → ℕ → List (List ℕ) → Type 0
Opens opening texts areas past next left =
    MatchBool opening (ReadsMaps 1 0 texts areas past next left) ((areas ≡ []) × (past ≡ 0) × (next ≡ 1) × (left ≡ texts))

-- the areas with those of one more line
abbrev pub areas_with : List Area → MapsItem → List Area
areas_with areas (Mapped area) = areas ++ area ∷ []
areas_with areas (Past start stop) = areas

-- the lines past the user addresses with one more line
abbrev pub past_with : ℕ → MapsItem → ℕ
past_with past (Mapped area) = past
past_with past (Past start stop) = past + 1

-- the sets of bits of a line's call have no bit but the named ones
abbrev pub IsNamedLine : Line → Type 0
IsNamedLine line = IsNamedCall line.call

abbrev pub IsNamedAnswer : Fed → Type 0
IsNamedAnswer (Played pid call recorded skipped) = IsNamedCall call
IsNamedAnswer (Kept skipped) = Unit {0}
IsNamedAnswer (Skipped skipped) = Unit {0}
IsNamedAnswer Blank = Unit {0}

-- how many lines more are played where this becomes of a text
abbrev pub played_by : Fed → ℕ
played_by (Played pid call recorded skipped) = 1
played_by (Kept skipped) = 0
played_by (Skipped skipped) = 0
played_by Blank = 0

-- the index of a process where these were seen, as `lines_by` has it
abbrev pub index_among : List ℕ → ℕ → ℕ
index_among seen pid = position_or_len (λ first. first == pid) seen

-- those that were seen with one more, as `seen_by` has them
abbrev pub seen_with : List ℕ → ℕ → List ℕ
seen_with seen pid = if list_any (λ first. first == pid) seen then seen else seen ++ pid ∷ []

-- the place before it, counted on by one
abbrev pub one_on : Option ℕ → Option ℕ
one_on None = None
one_on (Some place) = Some (place + 1)

-- where a process is among those that were seen, from 0 on
abbrev pub place_among : List ℕ → ℕ → Option ℕ
place_among [] pid = None
place_among (first ∷ seen) pid = if first == pid then Some 0 else one_on (place_among seen pid)

-- each process that was seen has its place as its index
pub record IsIndexed (processes : Processes) (seen : List ℕ) : Type 0 where
  pub places : (pid : ℕ) → get nat_cmp processes.indexes pid ≡ place_among seen pid
  pub next : processes.count ≡ length seen

-- the reader holds what there is where the reading stands so
pub record StandsAt (reader : TraceReader) (stand : TracePosition) : Type 0 where
  pub fed : IsFed reader.joiner stand.fed
  pub indexed : IsIndexed reader.processes stand.seen
  pub played : stand.played ≡ length reader.lines.items
  pub base : stand.base ≡ reader.base

-- the reading stands somewhere, before the line of this number
abbrev pub IsBefore : TraceReader → ℕ → Type 0
IsBefore reader number = (stand : TracePosition) × StandsAt reader stand × (stand.number ≡ number)

-- the reader took the next text
pub record Takes (stand : TracePosition) (text : List ℕ) (old new : TraceReader) : Type 0 where
  pub answer : Fed
  pub asks : Asks stand text answer
  pub stands : StandsAt new (after stand text answer)
  pub lines : new.lines.items ≡ old.lines.items ++ lines_by stand (taken stand answer)
  pub skipped : new.skipped ≡ old.skipped + skipped_by (taken stand answer)

-- why what became of a text is not taken, with so many lines played before it
abbrev pub IsFull : ℕ → Fed → EarlyEnd → Type 0
IsFull played answer end = (end ≡ NoMemory) ⊎ ((end ≡ Above Lines 1048577) × (1048576 < played + played_by answer))
