-- When a run over ports that fail as seldom as they can meets no failure: its sinks have room for the line on standard
-- error and for every report that the words and the input may have. The ports are `CleanSource` and `CleanSink` of
-- byte_ports, of which a sink fails only where its store is full.
use Rattle.std.specs.Prelude.{◌≡◌, ◌⊎◌, ℕ, ◌-◌, ◌<◌, List, length, take, drop, vec_len, Option, None, Some}
use Rattle.area_rows.specs.Callers.{ClosedView}
use Rattle.byte_ports.specs.declared.clean.CleanSink.{CleanSink}
use Rattle.byte_ports.specs.declared.clean.CleanSource.{CleanSource}
use Rattle.trace_driver.specs.declared.status.Status.{Status}
use Rattle.trace_driver.specs.declared.status.Status.TheVariants.{Done, Memory}
use Rattle.trace_driver.specs.Run.{Reports, IsOutcome, IsOnlyOutcome, IsDone}

-- the bytes that are left in a source
abbrev pub left_in : CleanSource → List ℕ
left_in source = drop source.at source.bytes.items

-- the bytes that a sink holds
abbrev pub held_by : CleanSink → List ℕ
held_by sink = take sink.used sink.store.items

-- how many bytes it can still take
abbrev pub free_in : CleanSink → ℕ
free_in sink = vec_len sink.store - sink.used

-- the sink can take more bytes than each line on standard error has
abbrev pub HasRoomForLine : CleanSink → Type 0
HasRoomForLine sink = 200 < free_in sink

-- the sink can take more bytes than every report for these words and this input has, whatever history the workers make
abbrev pub HasRoomForReports : List (List ℕ) → List ℕ → CleanSink → Type 0
HasRoomForReports words bytes sink =
    (left : Option (List ℕ)) (closed : ClosedView) (report : List ℕ) → Reports words (Some bytes) left closed report → length report < free_in sink

-- the words are accepted, every line that they ask for is readable, and all limits are kept
abbrev pub CallForDone : List (List ℕ) → List ℕ → Type 0
CallForDone words bytes = IsOutcome words bytes (Done None)

-- the run ended with the one status that the words and the input call for, or there was no memory
abbrev pub EndsAsCalledFor : List (List ℕ) → List ℕ → Status → Type 0
EndsAsCalledFor words bytes status = IsOnlyOutcome words bytes status ⊎ (status ≡ Memory)

-- the run wrote its whole report, or there was no memory
abbrev pub IsDoneOrMemory : Status → Type 0
IsDoneOrMemory status = IsDone status ⊎ (status ≡ Memory)
