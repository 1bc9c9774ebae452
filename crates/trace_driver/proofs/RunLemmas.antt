-- What ends a run early wrote nothing and has its cause, and a check that has its verdict wrote that.
use Rattle.std.proofs.Common.{◌≡◌, Bool, true, false, ◌⊎◌, inl, inr, ℕ, List, Option, None, Some, refl, sym, ap, subst}
use Rattle.std.specs.Io.KnownBytes.{Appends, Keeps}
use Rattle.byte_ports.specs.Bytes.{AppendsPrefix}
use Rattle.trace_driver.specs.declared.status.EarlyEnd.{EarlyEnd}
use Rattle.trace_driver.specs.declared.status.EarlyEnd.TheVariants.{Refused, Failed, NoMemory, Above}
use Rattle.trace_driver.specs.declared.status.Status.{Status}
use Rattle.trace_driver.specs.declared.status.Status.TheVariants.{Usage, WriteFault}
use Rattle.trace_driver.specs.declared.status.Which.TheVariants.{Input, Line as OfLine, Lines as OfLines}
use Rattle.command_words.specs.declared.commands.Command.{Command}
use Rattle.command_words.specs.declared.commands.Command.TheVariants.{Play, Load, Check}
use Rattle.command_words.specs.declared.commands.Options.{Options}
use Rattle.history_check.specs.declared.verdict.Verdict.{Verdict}
use Rattle.history_check.specs.declared.verdict.Verdict.TheVariants.{Legal, Wrong as WrongVerdict}
use Rattle.trace_driver.specs.Checking.{EndsBehind, EndsCheck, EndsCheckEarly, HasRead, IsInputVerdict, verdict_line, verdict_status}
use Rattle.trace_driver.specs.Checking.{Judged, IsChecked, ChecksAs}
use Rattle.trace_driver.specs.Endings.{EndsReading, EndsMap, EndsMaps, EndsOpening, EndsInput, EndsEarly, Ends, EndsAt}
use Rattle.trace_driver.specs.Endings.EndsMaps.{here as here_map, later as later_map}
use Rattle.trace_driver.specs.Status.{status_of, OrMemory}
use Rattle.trace_driver.specs.Script.{TracePosition}
use Rattle.trace_driver.specs.Endings.EndsAt.{here, later}
use Rattle.command_words.specs.Commands.{AskFor, AskForOne, AskToRead, RefusesWords}
use Rattle.trace_driver.specs.Run.{Wrote, HasCause, EndsByInput, IsUnwritten}

-- the bytes of an input end a run with a refusal, or with another limit than that on their number
abbrev IsOfBytes : EarlyEnd → Type 0
IsOfBytes Failed = ⊥
IsOfBytes NoMemory = ⊥
IsOfBytes (Above Input value) = ⊥
IsOfBytes other = Unit {0}

of_line : (stand : TracePosition) (text : List ℕ) (end : EarlyEnd) → Ends stand text end → IsOfBytes end
of_line stand text (Refused line column what) h = tt
of_line stand text (Above OfLine value) h = tt
of_line stand text (Above OfLines value) h = tt
of_line stand text other h = absurd h

of_lines : {stand : TracePosition} {texts : List (List ℕ)} {end : EarlyEnd} → EndsAt stand texts end → IsOfBytes end
of_lines (here {stand = s} {text = t} {end = e} h) = of_line s t e h
of_lines (later answer asks h) = of_lines h

of_map : (number from : ℕ) (text : List ℕ) (end : EarlyEnd) → EndsMap number from text end → IsOfBytes end
of_map number from text (Refused line column what) h = tt
of_map number from text (Above OfLine value) h = tt
of_map number from text other h = absurd h

of_maps : {number from : ℕ} {texts : List (List ℕ)} {end : EarlyEnd} → EndsMaps number from texts end → IsOfBytes end
of_maps (here_map {number = n} {from = p} {text = t} {end = e} h) = of_map n p t e h
of_maps (later_map item next h) = of_maps h

of_opening : (has : Bool) (texts : List (List ℕ)) (end : EarlyEnd) → EndsOpening has texts end → IsOfBytes end
of_opening true texts end h = of_maps h
of_opening false texts end h = absurd h

of_bytes : (options : Options) (bytes : List ℕ) (end : EarlyEnd) → EndsInput options bytes end → IsOfBytes end
of_bytes options bytes end (inl h) = of_opening options.opening _ end h
of_bytes options bytes end (inr (inl h)) = of_lines h.ends
of_bytes options bytes end (inr (inr h)) = rw h.is tt

of_behind : (front : List (List ℕ)) (text : List ℕ) (end : EarlyEnd) → EndsBehind front text end → IsOfBytes end
of_behind front text (Above OfLine value) h = tt
of_behind front text (Above OfLines value) h = tt
of_behind front text other h = absurd h

of_check : (opening : Bool) (bytes : List ℕ) (end : EarlyEnd) → EndsCheck opening bytes end → IsOfBytes end
of_check opening bytes end (inl h) = of_opening opening _ end h
of_check opening bytes end (inr (inl h)) = of_behind h.ends.front h.ends.text end h.ends.ends
of_check opening bytes end (inr (inr h)) = rw h.is tt

keeps_same : (known : Option (List ℕ)) → Keeps known known
keeps_same None = tt
keeps_same (Some bytes) = refl

-- where the run ends early nothing was written
pub wrote_nothing : (words : List (List ℕ)) (a b out : Option (List ℕ)) (end : EarlyEnd) → Wrote words a b out out (status_of end)
wrote_nothing words a b out Failed = keeps_same out
wrote_nothing words a b out other = keeps_same out

-- so it is where a check ends early
pub checked_nothing : (opening : Bool) (a b out : Option (List ℕ)) (end : EarlyEnd) → IsChecked opening (a, b) (out, out) (status_of end)
checked_nothing opening a b out Failed = keeps_same out
checked_nothing opening a b out other = keeps_same out

-- an early end is never that of words that are not accepted
pub never_usage : (end : EarlyEnd) → status_of end ≡ Usage → ⊥
never_usage Failed is = cc
never_usage other is = cc

-- ---- the cause of an early end

-- an end while the input is read or by its bytes has its cause
early_cause : (words : List (List ℕ)) (a b : Option (List ℕ)) (m n : ℕ) (failures : ℕ × ℕ) (end : EarlyEnd) → AskToRead words
    → EndsReading a m n end ⊎ (EndsByInput words a b end × IsOfBytes end) → HasCause words a b (m, n) failures (status_of end)
early_cause words a b m n failures NoMemory asked h = tt
early_cause words a b m n failures Failed asked (inl h) = h
early_cause words a b m n failures Failed asked (inr h) = absurd h.1
early_cause words a b m n failures (Above Input value) asked (inl h) = (h.0, h.1, asked)
early_cause words a b m n failures (Above Input value) asked (inr h) = absurd h.1
early_cause words a b m n failures other asked (inl h) = absurd h
early_cause words a b m n failures other asked (inr h) = h.0

no_memory : (words : List (List ℕ)) (a b : Option (List ℕ)) (m n : ℕ) (failures : ℕ × ℕ) (end : EarlyEnd) → end ≡ NoMemory
    → HasCause words a b (m, n) failures (status_of end)
no_memory words a b m n failures end is = subst (λ e. HasCause words a b (m, n) failures (status_of e)) (sym is) tt

-- an early end of a trace has its cause
pub has_cause : (words : List (List ℕ)) (options : Options) (threads : ℕ) (a b : Option (List ℕ)) (m n : ℕ) (failures : ℕ × ℕ)
    (end : EarlyEnd) → AskFor words (Play options threads) → OrMemory (EndsEarly options a b m n) end → HasCause words a b (m, n) failures (status_of end)
has_cause words options threads a b m n failures end accepted (inl memory) = no_memory words a b m n failures end memory
has_cause words options threads a b m n failures end accepted (inr (inl h)) = early_cause words a b m n failures end (inl (options, threads, accepted)) (inl h)
has_cause words options threads a b m n failures end accepted (inr (inr h)) = early_cause words a b m n failures end (inl (options, threads, accepted))
    (inr (inl (record { options = options; threads = threads; accepted = accepted; bytes = h.0; input = h.1; holds = h.2 }), of_bytes options h.0 end h.2))

-- so has an early end of a check
pub has_check_cause : (words : List (List ℕ)) (opening : Bool) (a b : Option (List ℕ)) (m n : ℕ) (failures : ℕ × ℕ)
    (end : EarlyEnd) → AskFor words (Check opening) → OrMemory (EndsCheckEarly opening a b m n) end → HasCause words a b (m, n) failures (status_of end)
has_check_cause words opening a b m n failures end accepted (inl memory) = no_memory words a b m n failures end memory
has_check_cause words opening a b m n failures end accepted (inr (inl h)) = early_cause words a b m n failures end (inr (opening, accepted)) (inl h)
has_check_cause words opening a b m n failures end accepted (inr (inr h)) = early_cause words a b m n failures end (inr (opening, accepted))
    (inr (inr (record { opening = opening; accepted = accepted; bytes = h.0; input = h.1; ends = h.2 }), of_check opening h.0 end h.2))

-- ---- what a check wrote

-- words that ask for a play ask for no check
pub play_is_no_check : (words : List (List ℕ)) (options : Options) (threads : ℕ) (opening : Bool)
    → AskForOne words → AskFor words (Play options threads) → AskFor words (Check opening) → ⊥
play_is_no_check words options threads opening one spells asked =
    let same : Play options threads ≡ Check opening = one (Play options threads) (Check opening) spells asked in cc

-- nor do those that ask for a load
pub load_is_no_check : (words : List (List ℕ)) (seed threads calls : ℕ) (opening : Bool)
    → AskForOne words → AskFor words (Load seed threads calls) → AskFor words (Check opening) → ⊥
load_is_no_check words seed threads calls opening one spells asked =
    let same : Load seed threads calls ≡ Check opening = one (Load seed threads calls) (Check opening) spells asked in cc

abbrev opening_of : Command → Bool
opening_of (Play options threads) = false
opening_of (Load seed threads calls) = false
opening_of (Check opening) = opening

-- where the words ask for a check, it is the one that was made
pub checks_as_asked : (words : List (List ℕ)) (opening : Bool) (input out : Option (List ℕ) × Option (List ℕ)) (status : Status)
    → AskForOne words → AskFor words (Check opening) → IsChecked opening input out status → ChecksAs words input out status
checks_as_asked words opening input out status one spells is other asked =
    subst (λ o. IsChecked o input out status) (ap opening_of (one (Check opening) (Check other) spells asked)) is
