-- The rule of the client words that C works with: every step is allowed, and is recorded in the pass of the seat that
-- makes it, with what it found and what it left, as `words_after` of `lock_core` says. Before the first step the words
-- are those of the opening. Rule and laws are this project's own; the laws are here, since the guard cites them.
use Rattle.std.specs.Prelude.{◌≡◌, ℕ, ◌+◌, ◌%◌, ◌^◌, ◌<◌, ◌==◌, List, length, slice_index, slice_set, Some, None}
use Rattle.std.proofs.Common.{set, sym, ap, ◌∙◌, subst}
use mathlib.Core.Option.{some}
use lib.ListN.{get_elem?}
use prog.Atomic.{either}
use Rattle.atomic_table.proofs.Lists.{set_here, set_again}
use Rattle.lock_core.proofs.ByPlace.{below}
use Rattle.lock_core.specs.Client.{ClientStep, loads, stores, adds, exchanges, place_of, words_after}
use Rattle.lock_core.specs.Grants.{Grants}
use Rattle.range_c.specs.declared.recording.Made.{Made}
use Rattle.range_c.specs.declared.recording.Recorded.{Recorded}
use Rattle.range_c.specs.declared.recording.WordStep.{WordStep}
use Rattle.range_c.specs.declared.recording.WordStep.TheVariants.{Load, Store, Add, Exchange}

-- the step on client word i that a call of C's asks for
abbrev pub step_on : ℕ → WordStep → ClientStep
step_on i Load = loads i
step_on i (Store value) = stores i value
step_on i (Add by) = adds i by
step_on i (Exchange expected new) = exchanges i expected new

-- what such a step is, whatever word it is on
abbrev pub kind_of : ClientStep → WordStep
kind_of (loads i) = Load
kind_of (stores i value) = Store value
kind_of (adds i by) = Add by
kind_of (exchanges i expected new) = Exchange expected new

-- what a step leaves in a word in which it finds that value
abbrev pub left_by : WordStep → ℕ → ℕ
left_by Load found = found
left_by (Store value) found = value
left_by (Add by) found = (found + by) % 2 ^ 64
left_by (Exchange expected new) found = either (found == expected) new found

-- a step on these words, as it is recorded
abbrev pub made_on : List ℕ → ClientStep → Made
made_on words step = record {
  place = place_of step;
  step = kind_of step;
  found = slice_index words (place_of step);
  left = slice_index (words_after words step) (place_of step);
}

-- what the seat of a number knows at first, over the words of the opening
abbrev pub begun : List ℕ → ℕ → Recorded
begun words seat = record { opened = words; last = None }

-- a pass that knows of this last step
abbrev pub with_last : Recorded → Made → Recorded
with_last p made = record { opened = p.opened; last = Some made }

-- no seat has made a step
abbrev pub IsUntouched : List Recorded → Type 0
IsUntouched passes = (seat : ℕ) (p : Recorded) → get_elem? passes seat ≡ some p → p.last ≡ None

-- the rule: before the first step the words are those of the opening, as every seat knows them
abbrev pub IsBegun : Grants → List ℕ → List Recorded → Type 0
IsBegun grants words passes = IsUntouched passes → (seat : ℕ) (p : Recorded) → get_elem? passes seat ≡ some p → words ≡ p.opened

-- every step on one of the words is allowed, and is the last one that the seat knows of
abbrev pub IsRecorded : Grants → List ℕ → List Recorded → ℕ → ClientStep → Unit {0} → Recorded → Type 0
IsRecorded grants words passes seat step note after = (place_of step < length words)
    × ((p : Recorded) × (get_elem? passes seat ≡ some p) × (after ≡ with_last p (made_on words step)))

-- the law of steps: after one, some seat has made a step
pub keeps_begun : (grants : Grants) (words : List ℕ) (passes : List Recorded) (seat : ℕ) (step : ClientStep) (after : Recorded)
    → IsBegun grants words passes → IsRecorded grants words passes seat step tt after
    → IsBegun grants (words_after words step) (slice_set passes seat after)
keeps_begun grants words passes seat step after met may untouched =
    let now = set_here passes seat after (below passes seat may.1.0 may.1.1) in
    let none : Some (made_on words step) ≡ None = sym (ap (λ (p : Recorded). p.last) may.1.2) ∙ untouched seat after now in
    absurd cc

-- the law of loss: a pass stays when a range is given back
pub loses_begun : (grants : Grants) (words : List ℕ) (passes : List Recorded) (seat : ℕ) (pass : Recorded)
    → IsBegun grants words passes → get_elem? passes seat ≡ some pass
    → IsBegun (slice_set grants seat None) words (slice_set passes seat pass)
loses_begun grants words passes seat pass met own = subst (IsBegun (set grants seat None) words) (sym (set_again passes seat pass own)) met
