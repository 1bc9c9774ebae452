-- How an input begins, as one record, and how a line of the trace behind that ends the run.
use Rattle.std.proofs.Common.{inl, inr, Bool, ℕ, List}
use Rattle.space_model.specs.declared.areas.Area.{Area}
use Rattle.trace_driver.specs.declared.status.EarlyEnd.{EarlyEnd}
use Rattle.command_words.specs.declared.commands.Options.{Options}
use Rattle.line_parts.specs.Lines.{lines_of}
use Rattle.trace_driver.specs.Script.{Begins, start_at}
use Rattle.trace_driver.specs.Endings.{EndsInput, EndsAt}
use Rattle.trace_driver.specs.TraceReader.{Opens}
use Rattle.trace_driver.specs.Status.{OrMemory}

-- the beginning of an input, by the areas that were read and the texts that are left
abbrev pub head_of : (opening : Bool) (bytes : List ℕ) (areas : List Area) (past next : ℕ) (left : List (List ℕ))
    → Opens opening (lines_of bytes) areas past next left → Begins opening bytes
head_of opening bytes areas past next left h = record { areas = areas; past = past; next = next; left = left; opens = h }

-- what ends the run in the texts behind the opening ends it for the whole input
pub ends_by_trace : (options : Options) (bytes : List ℕ) (areas : List Area) (past next : ℕ) (left : List (List ℕ)) (end : EarlyEnd)
    → Opens options.opening (lines_of bytes) areas past next left → OrMemory (EndsAt (start_at next) left) end → OrMemory (EndsInput options bytes) end
ends_by_trace options bytes areas past next left end h (inl memory) = inl memory
ends_by_trace options bytes areas past next left end h (inr ends) =
    inr (inr (inl (record { head = head_of options.opening bytes areas past next left h; ends = ends })))
