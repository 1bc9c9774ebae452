-- Good lines are written as they are.
use Rattle.std.proofs.Common.{◌≡◌, suc, List, [], ◌∷◌, ◌++◌, false, Option, Some, None, inl, inr, refl, sym, ap, subst, ◌∙◌, arith}
use Rattle.std.specs.Prelude.{All}
use Rattle.raw_logs.specs.Log.{Numbered, texts_of, Each}
use Rattle.raw_logs.proofs.OneLog.{texts_one}
use Rattle.raw_trace.specs.declared.settling.Ending.TheVariants.{AsItIs}
use Rattle.raw_trace.specs.Order.{Entry, Step, Comes, frees_for, order}
use Rattle.raw_trace.specs.Places.{ReadText, IsReadText, Whole, IsDone, IsGood, becomes_itself, AreSteps}
use Rattle.raw_trace.specs.declared.calls.ReadCall.{ReadCall}
use Rattle.raw_trace.specs.declared.tally.Tally.{Tally}
use Rattle.raw_trace.specs.Rewriting.{text_of, lines_as, no_calls, counted_call, calls_after, shown_all}
use Rattle.raw_trace.specs.Laws.{KeepsGoodLines, KeepsGoodTexts}
use Rattle.raw_trace.specs.Heaps.{instead}
use Rattle.line_parts.proofs.Leaves.{bool_cases}
use Rattle.raw_trace.proofs.GoodLines.{good_done}
use Rattle.raw_trace.proofs.HeapLines.{shown_same}
use Rattle.raw_trace.proofs.OneWay.{becomes_one}

-- a good line comes as it is
pub good_line : KeepsGoodLines
good_line fed later line text step good read is = by step (good_done fed later line text step good read is)
  where
    by : (step : Step) → IsDone line Whole step
        → (entry : Entry) × (step ≡ Comes entry) × (entry.line ≡ line.text) × (entry.ending ≡ AsItIs) × (entry.joined ≡ false)
    by (Comes e) h =
        let s = becomes_one line.text e.line line.text e.ending AsItIs h.becomes (becomes_itself good) in
        (e, refl, s.0, s.1, h.joined_is)
    by step h = absurd h

-- texts that are all good come one by one, and nothing waits
good_steps : (fed : List ReadText) (lines : List Numbered) (texts : List ReadText) (steps : List Step) → All IsGood (texts_of lines)
    → Each IsReadText lines texts → AreSteps fed texts [] steps → lines_as (order frees_for [] steps) ≡ texts_of lines
good_steps fed [] [] [] good reads are = refl
good_steps fed (line ∷ lines) (text ∷ texts) (step ∷ steps) good reads are =
    let one = good_line fed (texts ++ []) line text step (good 0 line.text (omega arith)) reads.0 are.0 in
    let r = good_steps (text ∷ fed) lines texts steps (λ k d l. good (suc k) d (omega (arith, l))) reads.1 are.1 in
    subst (λ (x : Step). lines_as (order frees_for [] (x ∷ steps)) ≡ texts_of (line ∷ lines)) (sym one.1) (λ i. one.2 i ∷ r i)
good_steps fed [] [] steps good reads are = absurd are
good_steps fed (line ∷ lines) (text ∷ texts) steps good reads are = absurd are
good_steps fed lines texts steps good reads are = absurd reads

-- where the heap isn't mapped over yet behind a call, it wasn't before
not_yet : (t : Tally) (call : Option ReadCall) → (counted_call call t).over ≡ false → t.over ≡ false
not_yet t None h = h
not_yet t (Some read) h = elim (bool_cases t.over) [
  | inl is ↦ let k = rw is at h in cc
  | inr never ↦ never
]

never_yet : (t : Tally) (entries : List Entry) → (calls_after t entries).over ≡ false → t.over ≡ false
never_yet t [] h = h
never_yet t (e ∷ entries) h = not_yet t e.call (never_yet (counted_call e.call t) entries h)

-- so nothing is written instead
none_instead : (t : Tally) (call : Option ReadCall) → t.over ≡ false → instead t call ≡ None
none_instead t None h = refl
none_instead t (Some read) h = rw h refl

all_same : (t : Tally) (entries : List Entry) → (calls_after t entries).over ≡ false → shown_all t entries ≡ entries
all_same t [] h = refl
all_same t (e ∷ entries) h =
    let s = shown_same t e (none_instead t e.call (never_yet t (e ∷ entries) h)) in
    let r = all_same (counted_call e.call t) entries h in
    λ i. s i ∷ r i

-- good texts are written as they are
pub good_texts : KeepsGoodTexts
good_texts process bytes out texts before counts number are good is never =
    let s = (texts_one process bytes is.chosen texts is.before before is.texts are).0 in
    let entries = order frees_for [] is.steps in
    let same = all_same no_calls entries (ap (λ (t : Tally). t.over) (sym is.number) ∙ never) in
    is.bytes_of ∙ ap (λ (x : List Entry). text_of (lines_as x)) same
    ∙ ap text_of (good_steps [] texts is.read is.steps good (subst (λ (x : List Numbered). Each IsReadText x is.read) s is.reads) is.are)
