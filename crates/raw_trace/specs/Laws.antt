-- What the definitions come to. The lines that are written are read by the project's own reader as exactly the calls of
-- the log, each once, in the order of the rule; each process' lines keep their order; and a line that is good already
-- stays byte for byte. The laws speak of every log, and say nothing of how one is read.
use Rattle.std.specs.Prelude.{◌≡◌, ℕ, ◌≤◌, List, [], ◌∷◌, ◌++◌, length, Bool, false, Option, All, option_to_list, ◌==◌, if◌then◌else◌}
use Rattle.line_parts.specs.Lines.{lines_of}
use Rattle.strace_reader.specs.declared.joiner.Fed.{Fed}
use Rattle.strace_reader.specs.declared.joiner.Fed.TheVariants.{Played as Answered, Kept, Skipped, Blank}
use Rattle.strace_reader.specs.Joining.{IsAnswer}
use Rattle.raw_logs.specs.declared.counts.Counts.{Counts}
use Rattle.raw_logs.specs.Log.{Numbered, texts_of, Each}
use Rattle.raw_logs.specs.Reading.{AreTexts}
use Rattle.raw_trace.specs.declared.calls.ReadCall.{ReadCall}
use Rattle.raw_trace.specs.declared.fault.Fault.{Fault}
use Rattle.raw_trace.specs.declared.settling.Ending.TheVariants.{AsItIs}
use Rattle.raw_trace.specs.declared.tally.Tally.{Tally}
use Rattle.raw_trace.specs.Faults.{IsCausedFault}
use Rattle.raw_trace.specs.Order.{Entry, Step, Comes, frees_for, order}
use Rattle.raw_trace.specs.Places.{ReadText, IsReadText, IsGood, IsStep, AreSteps}
use Rattle.raw_trace.specs.Rewriting.{IsRewriting, calls_of, no_calls, shown_all, text_of}

-- ---- the calls that the reader finds in lines

-- the call that a text answers
abbrev pub calls_by : Fed → List ReadCall
calls_by (Answered pid call recorded skipped) = record { pid = pid; call = call; recorded = recorded } ∷ []
calls_by (Kept skipped) = []
calls_by (Skipped skipped) = []
calls_by Blank = []

-- Behind texts that were fed, the reader takes all of these, refuses none, and finds these calls.
pub data ReadsAs : List (List ℕ) → List (List ℕ) → List ReadCall → Type 0 where
  all_read : {fed : List (List ℕ)} → ReadsAs fed [] []
  reads_text : {fed texts : List (List ℕ)} {text : List ℕ} {calls : List ReadCall} → (answer : Fed) → IsAnswer fed text answer →
      ReadsAs (text ∷ fed) texts calls → ReadsAs fed (text ∷ texts) (calls_by answer ++ calls)

-- ---- the laws

-- What is written is read by the reader, no line of it is refused, and the calls that are found are just those of the
-- log, in the order of the rule: each that was cut in two at its second half, or before the first that takes what it
-- frees; and where the heap is mapped over each brk as what it did.
abbrev pub KeepsCalls : Type 0
KeepsCalls = (process : Option ℕ) (bytes out : List ℕ) (counts : Counts) (number : Tally) → (is : IsRewriting process bytes out counts number)
    → ReadsAs [] (lines_of out) (calls_of (shown_all no_calls (order frees_for [] is.steps)))

-- the calls of the lines of one process
abbrev pub of_process : ℕ → List Entry → List ReadCall
of_process process [] = []
of_process process (entry ∷ entries) = (if entry.process == process then option_to_list entry.call else []) ++ of_process process entries

-- Whichever calls free pages for others: each process has the same calls in the same order. Where none does, each call
-- stands at its last half.
abbrev pub KeepsOrders : Type 0
KeepsOrders = (lines : List Numbered) (texts : List ReadText) (steps : List Step) → Each IsReadText lines texts → AreSteps [] texts [] steps
    → (frees other : Entry → Entry → Bool) → (process : ℕ) → of_process process (order frees [] steps) ≡ of_process process (order other [] steps)

-- A line that is read as a whole and stays so comes as it is, byte for byte.
abbrev pub KeepsGoodLines : Type 0
KeepsGoodLines = (fed later : List ReadText) (line : Numbered) (text : ReadText) (step : Step) → IsGood line.text → IsReadText line text
    → IsStep fed text later step → (entry : Entry) × (step ≡ Comes entry) × (entry.line ≡ line.text) × (entry.ending ≡ AsItIs) × (entry.joined ≡ false)

-- A log whose texts are all good lines, and whose heap isn't mapped over, is written as these, byte for byte.
abbrev pub KeepsGoodTexts : Type 0
KeepsGoodTexts = (process : Option ℕ) (bytes out : List ℕ) (texts : List Numbered) (before counts : Counts) (number : Tally)
    → AreTexts process bytes texts before → All IsGood (texts_of texts) → IsRewriting process bytes out counts number → number.over ≡ false
    → out ≡ text_of (texts_of texts)

-- each line of a text is no longer than a line may be
abbrev pub HasShortLines : List ℕ → Type 0
HasShortLines text = All (λ line. length line ≤ 65535) (lines_of text)

-- A log is rewritten in one way.
abbrev pub HasOneRewriting : Type 0
HasOneRewriting = (process : Option ℕ) (bytes out other : List ℕ) (counts more : Counts) (calls many : Tally) → IsRewriting process bytes out counts calls
    → IsRewriting process bytes other more many → (out ≡ other) × (counts ≡ more) × (calls ≡ many)

-- A log has one fault at most, but for want of memory.
abbrev pub HasOneFault : Type 0
HasOneFault = (process : Option ℕ) (strict : Bool) (bytes : List ℕ) (fault other : Fault) → IsCausedFault process strict bytes fault
    → IsCausedFault process strict bytes other → fault ≡ other
