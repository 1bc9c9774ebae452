-- The rule of a high-water mark in client word 0, as an example of a guard: what each seat has read is not above the
-- mark, and a seat that is sure holds a range with the number 0 in it, under which the mark stays what it has read.
-- The definitions are this project's own; the laws are here, since the guard cites them.
use Rattle.std.specs.Prelude.{◌≡◌, ◌≢◌, ℕ, ◌<◌, ◌≤◌, List, length, slice_index, slice_set, Option, Some, None, true, false}
use Rattle.std.proofs.Common.{set, get_or, sym, ap, ◌∙◌, subst, arith, inr, ⊎_elim, length-set, get_or-set_same}
use Rattle.std.proofs.lemmas.Bool.{false≢true}
use mathlib.Core.Option.{some, some-injective}
use lib.ListN.{get_elem?}
use Rattle.atomic_table.proofs.Lists.{at_set, set_else}
use Rattle.lock_core.specs.Grants.{Grants, Holds, IsExclusive, IsFree}
use Rattle.lock_core.specs.Client.{ClientStep, loads, stores, adds, exchanges, words_after}
use Rattle.lock_core.specs.declared.range.Mode.TheVariants.{Writer}
use Rattle.lock_core.specs.declared.range.Held.{Held}
use Rattle.example_ranges.specs.declared.high_water.Reading.{Reading}

-- a held range has the number 0 in it
abbrev pub HasZero : Held → Type 0
HasZero h = (h.range.lo ≡ 0) × (0 < h.range.hi)

-- what a seat holds lets it read the mark, and as a writer raise it
abbrev pub MayRead : Option Held → Type 0
MayRead held = (h : Held) × (held ≡ Some h) × HasZero h

abbrev pub MayRaise : Option Held → Type 0
MayRaise held = (h : Held) × (held ≡ Some h) × HasZero h × (h.mode ≡ Writer)

-- the seat of that number holds such a range, or such a range as a writer
abbrev pub ReadsMark : Grants → ℕ → Type 0
ReadsMark grants seat = (h : Held) × Holds grants seat h × HasZero h

abbrev pub RaisesMark : Grants → ℕ → Type 0
RaisesMark grants seat = (h : Held) × Holds grants seat h × HasZero h × (h.mode ≡ Writer)

-- the rule, over the held ranges, the client words and what each seat knows
pub record IsHighWater (grants : Grants) (words : List ℕ) (passes : List Reading) : Type 0 where
  pub there : 0 < length words
  pub seen : (seat : ℕ) (p : Reading) → get_elem? passes seat ≡ some p → p.seen ≤ slice_index words 0
  pub sure : (seat : ℕ) (p : Reading) → get_elem? passes seat ≡ some p → p.sure ≡ true
      → ReadsMark grants seat × (p.seen ≡ slice_index words 0)

-- the steps: a read by who holds a range for it, and a rise by who holds one as a writer and knows the mark
abbrev pub IsMarkStep : Grants → List ℕ → List Reading → ℕ → ClientStep → Unit {0} → Reading → Type 0
IsMarkStep grants words passes seat (loads i) note after = (i ≡ 0) × ReadsMark grants seat
    × (after ≡ record { seen = slice_index words 0; sure = true })
IsMarkStep grants words passes seat (stores i value) note after = (i ≡ 0) × IsExclusive grants × RaisesMark grants seat
    × ((p : Reading) × (get_elem? passes seat ≡ some p) × (p.sure ≡ true) × (p.seen ≤ value))
    × (after ≡ record { seen = value; sure = true })
IsMarkStep grants words passes seat (adds i by) note after = ⊥
IsMarkStep grants words passes seat (exchanges i expected new) note after = ⊥

-- what is known once the range is given back: what was read, and no more
abbrev pub unsure : Reading → Reading
unsure p = record { seen = p.seen; sure = false }

-- a new reading of the mark keeps the rule, where the mark is as it was
reads : (grants : Grants) (words : List ℕ) (passes : List Reading) (seat : ℕ) (after : Reading)
    → IsHighWater grants words passes → ReadsMark grants seat → after ≡ record { seen = get_or words 0 0; sure = true }
    → IsHighWater grants words (set passes seat after)
reads grants words passes seat after m may is = let as_now : after.seen ≡ get_or words 0 0 = ap (λ (p : Reading). p.seen) is in record {
  there = m.there;
  seen = λ n p at. ⊎_elim (λ t. let own : p.seen ≡ after.seen = ap (λ (q : Reading). q.seen) (sym t.1) in omega arith)
      (λ t. m.seen n p t.1) (at_set passes seat n after p at);
  sure = λ n p at yes. ⊎_elim
      (λ t. (subst (ReadsMark grants) (sym t.0) may, ap (λ (q : Reading). q.seen) (sym t.1) ∙ as_now))
      (λ t. m.sure n p t.1 yes)
      (at_set passes seat n after p at);
}

-- so does a rise, since nobody else can be sure beside a writer
rises : (grants : Grants) (words : List ℕ) (passes : List Reading) (seat value : ℕ) (before after : Reading)
    → IsHighWater grants words passes → IsExclusive grants → RaisesMark grants seat
    → get_elem? passes seat ≡ some before → before.sure ≡ true → before.seen ≤ value
    → after ≡ record { seen = value; sure = true }
    → IsHighWater grants (set words 0 value) (set passes seat after)
rises grants words passes seat value before after m exclusive may own sure_now more is =
    let long = length-set words 0 value in
    let now : get_or (set words 0 value) 0 0 ≡ value = get_or-set_same words 0 value 0 m.there in
    let was : before.seen ≡ get_or words 0 0 = (m.sure seat before own sure_now).1 in
    let as_now : after.seen ≡ value = ap (λ (p : Reading). p.seen) is in
    record {
      there = let t = m.there in omega arith;
      seen = λ n p at. ⊎_elim
          (λ t. let mine : p.seen ≡ after.seen = ap (λ (q : Reading). q.seen) (sym t.1) in omega arith)
          (λ t. let old = m.seen n p t.1 in omega arith)
          (at_set passes seat n after p at);
      sure = λ n p at yes. ⊎_elim
          (λ t. (subst (ReadsMark grants) (sym t.0) (may.0, may.1, may.2), ap (λ (q : Reading). q.seen) (sym t.1) ∙ (as_now ∙ sym now)))
          (λ t. let r = (m.sure n p t.1 yes).0 in let a = r.2 in let b = may.2 in
          absurd (exclusive n seat r.0 may.0 t.0 r.1 may.1 ((omega arith, omega arith), inr may.3)))
          (at_set passes seat n after p at);
    }

-- the law of steps
pub keeps_mark : (grants : Grants) (words : List ℕ) (passes : List Reading) (seat : ℕ) (step : ClientStep) (note : Unit {0}) (after : Reading)
    → IsHighWater grants words passes → IsMarkStep grants words passes seat step note after
    → IsHighWater grants (words_after words step) (slice_set passes seat after)
keeps_mark grants words passes seat (loads i) note after m may = reads grants words passes seat after m may.1 may.2
keeps_mark grants words passes seat (stores i value) note after m may =
    subst (λ (z : ℕ). IsHighWater grants (set words z value) (set passes seat after)) (sym may.0)
    (rises grants words passes seat value may.3.0 after m may.1 may.2 may.3.1 may.3.2 may.3.3 may.4)
keeps_mark grants words passes seat (adds i by) note after m never = absurd never
keeps_mark grants words passes seat (exchanges i expected new) note after m never = absurd never

-- the law of gain
pub gains_range : (grants : Grants) (words : List ℕ) (passes : List Reading) (seat : ℕ) (h : Held)
    → IsHighWater grants words passes → get_elem? grants seat ≡ some None → IsFree grants seat h
    → IsHighWater (slice_set grants seat (Some h)) words passes
gains_range grants words passes seat h m nothing free = record {
  there = m.there;
  seen = m.seen;
  sure = λ n p at yes. let s = m.sure n p at yes in let r = s.0 in
      let differ : n ≢ seat = λ e. let z : Some r.0 ≡ None = some-injective _ _ (sym r.1 ∙ (ap (get_elem? grants) e ∙ nothing)) in cc in
      ((r.0, set_else grants seat n (Some h) differ ∙ r.1, r.2), s.1);
}

-- the law of loss
pub loses_range : (grants : Grants) (words : List ℕ) (passes : List Reading) (seat : ℕ) (pass : Reading)
    → IsHighWater grants words passes → get_elem? passes seat ≡ some pass
    → IsHighWater (slice_set grants seat None) words (slice_set passes seat (unsure pass))
loses_range grants words passes seat pass m own = record {
  there = m.there;
  seen = λ n p at. ⊎_elim
      (λ t. let mine : p.seen ≡ pass.seen = ap (λ (q : Reading). q.seen) (sym t.1) in let old = m.seen seat pass own in omega arith)
      (λ t. m.seen n p t.1)
      (at_set passes seat n (unsure pass) p at);
  sure = λ n p at yes. ⊎_elim
      (λ t. absurd (false≢true (ap (λ (q : Reading). q.sure) t.1 ∙ yes)))
      (λ t. let s = m.sure n p t.1 yes in let r = s.0 in ((r.0, set_else grants seat n None t.0 ∙ r.1, r.2), s.1))
      (at_set passes seat n (unsure pass) p at);
}
