-- The rule of the tally: client word 0 is all that the seats have brought in, modulo 2^64, where the first seat begins
-- with the word of the opening; and a seat that is sure holds a range with the door in it as a writer, under which the
-- word stays what it has read. So an addition by a load and a store loses nothing. The rule and its laws are this
-- project's own; they are here, since the guard cites them.
use Rattle.std.specs.Prelude.{◌≡◌, ◌≢◌, ℕ, zero, suc, ◌+◌, ◌%◌, ◌^◌, ◌<◌, List, length, slice_index, slice_set, sum_by, Some, None, true, false}
use Rattle.std.proofs.Common.{set, get_or, sym, ap, ◌∙◌, subst, arith, inl, ⊎_elim, length-set, get_or-set_same}
use Rattle.std.proofs.Math.Nat.{mod-add-mod}
use Rattle.std.proofs.lemmas.Bool.{false≢true}
use Rattle.std.proofs.lemmas.List.Sums.{sum_by-set}
use mathlib.Core.Option.{some, some-injective}
use lib.ListN.{get_elem?}
use Rattle.atomic_table.proofs.Lists.{at_set, set_else}
use Rattle.lock_core.proofs.ByPlace.{below, at_or}
use Rattle.lock_core.specs.Grants.{Grants, IsExclusive, IsFree}
use Rattle.lock_core.specs.Client.{ClientStep, loads, stores, adds, exchanges, words_after}
use Rattle.lock_core.specs.declared.range.Held.{Held}
use Rattle.test_lock.specs.declared.tally.Brought.{Brought}
use Rattle.test_lock.specs.Turnstile.{MayEnter}

-- how much the seat of a number begins with, over the word of the opening: the first seat with that word
abbrev pub first_amount : ℕ → ℕ → ℕ
first_amount word zero = word
first_amount word (suc n) = 0

abbrev pub first_share : List ℕ → ℕ → Brought
first_share words n = record { amount = first_amount (slice_index words 0) n; seen = 0; sure = false }

abbrev pub amount_of : Brought → ℕ
amount_of p = p.amount

-- all that the seats have brought in
abbrev pub total : List Brought → ℕ
total passes = sum_by amount_of passes

-- the rule
pub record IsTallied (grants : Grants) (words : List ℕ) (passes : List Brought) : Type 0 where
  pub there : 0 < length words
  pub count : slice_index words 0 ≡ total passes % 2 ^ 64
  pub sure : (seat : ℕ) (p : Brought) → get_elem? passes seat ≡ some p → p.sure ≡ true → MayEnter grants seat × (p.seen ≡ slice_index words 0)

-- the pass of a seat that has read the word
abbrev pub has_read : Brought → ℕ → Brought
has_read p word = record { amount = p.amount; seen = word; sure = true }

-- the pass of a seat that has written one more
abbrev pub has_written : Brought → ℕ → Brought
has_written p word = record { amount = p.amount + 1; seen = word; sure = true }

-- the pass of a seat that has given its range back
abbrev pub forgets : Brought → Brought
forgets p = record { amount = p.amount; seen = p.seen; sure = false }

-- the steps: a load by who may enter, and a store of one more by who may enter and knows the word
abbrev pub IsTallyStep : Grants → List ℕ → List Brought → ℕ → ClientStep → Unit {0} → Brought → Type 0
IsTallyStep grants words passes seat (loads i) note after = (i ≡ 0) × MayEnter grants seat
    × ((p : Brought) × (get_elem? passes seat ≡ some p) × (after ≡ has_read p (slice_index words 0)))
IsTallyStep grants words passes seat (stores i value) note after = (i ≡ 0) × IsExclusive grants × MayEnter grants seat
    × ((p : Brought) × (get_elem? passes seat ≡ some p) × (p.sure ≡ true) × (value ≡ (p.seen + 1) % 2 ^ 64) × (after ≡ has_written p value))
IsTallyStep grants words passes seat (adds i by) note after = ⊥
IsTallyStep grants words passes seat (exchanges i expected new) note after = ⊥

-- the total after one seat's pass has become another
total_set : (passes : List Brought) (seat : ℕ) (p q : Brought) → get_elem? passes seat ≡ some p → total (set passes seat q) + p.amount ≡ total passes + q.amount
total_set passes seat p q at =
    let s = sum_by-set amount_of passes seat q p (below passes seat p at) in
    let same = ap amount_of (at_or passes seat p p at) in
    omega arith

-- a load keeps the rule, since nothing is brought in
load_keeps : (grants : Grants) (words : List ℕ) (passes : List Brought) (seat : ℕ) (p after : Brought)
    → IsTallied grants words passes → MayEnter grants seat → get_elem? passes seat ≡ some p
    → after ≡ has_read p (get_or words 0 0)
    → IsTallied grants words (set passes seat after)
load_keeps grants words passes seat p after t may own is =
    let as_now : after.seen ≡ get_or words 0 0 = ap (λ (q : Brought). q.seen) is in
    let amount : after.amount ≡ p.amount = ap (λ (q : Brought). q.amount) is in
    let kept : total passes ≡ total (set passes seat after) = let s = total_set passes seat p after own in omega arith in
    record {
      there = t.there;
      count = t.count ∙ ap (λ n. n % 2 ^ 64) kept;
      sure = λ n q at yes. ⊎_elim
          (λ e. (subst (MayEnter grants) (sym e.0) may, ap (λ (r : Brought). r.seen) (sym e.1) ∙ as_now))
          (λ e. t.sure n q e.1 yes)
          (at_set passes seat n after q at);
    }

-- so does a store of one more, since nobody else can be sure beside a writer
store_keeps : (grants : Grants) (words : List ℕ) (passes : List Brought) (seat value : ℕ) (p after : Brought)
    → IsTallied grants words passes → IsExclusive grants → MayEnter grants seat
    → get_elem? passes seat ≡ some p → p.sure ≡ true → value ≡ (p.seen + 1) % 2 ^ 64 → after ≡ has_written p value
    → IsTallied grants (set words 0 value) (set passes seat after)
store_keeps grants words passes seat value p after t exclusive may own sure_now next is =
    let long = length-set words 0 value in
    let now : get_or (set words 0 value) 0 0 ≡ value = get_or-set_same words 0 value 0 t.there in
    let was : p.seen ≡ get_or words 0 0 = (t.sure seat p own sure_now).1 in
    let as_now : after.seen ≡ value = ap (λ (q : Brought). q.seen) is in
    let amount : after.amount ≡ p.amount + 1 = ap (λ (q : Brought). q.amount) is in
    let more : total passes + 1 ≡ total (set passes seat after) = let s = total_set passes seat p after own in omega arith in
    let count : (p.seen + 1) % 2 ^ 64 ≡ (total passes + 1) % 2 ^ 64 = ap (λ n. (n + 1) % 2 ^ 64) (was ∙ t.count) ∙ mod-add-mod (total passes) (2 ^ 64) 1 in
    record {
      there = let h = t.there in omega arith;
      count = now ∙ (next ∙ (count ∙ ap (λ n. n % 2 ^ 64) more));
      sure = λ n q at yes. ⊎_elim
          (λ e. (subst (MayEnter grants) (sym e.0) may, ap (λ (r : Brought). r.seen) (sym e.1) ∙ (as_now ∙ sym now)))
          (λ e. let r = (t.sure n q e.1 yes).0 in let a = r.2 in let b = may.2 in
          absurd (exclusive n seat r.0 may.0 e.0 r.1 may.1 ((omega arith, omega arith), inl r.3)))
          (at_set passes seat n after q at);
    }

-- the law of steps
pub keeps_tally : (grants : Grants) (words : List ℕ) (passes : List Brought) (seat : ℕ) (step : ClientStep) (note : Unit {0})
    (after : Brought) → IsTallied grants words passes → IsTallyStep grants words passes seat step note after
    → IsTallied grants (words_after words step) (slice_set passes seat after)
keeps_tally grants words passes seat (loads i) note after t may = load_keeps grants words passes seat may.2.0 after t may.1 may.2.1 may.2.2
keeps_tally grants words passes seat (stores i value) note after t may =
    subst (λ (z : ℕ). IsTallied grants (set words z value) (set passes seat after)) (sym may.0)
    (store_keeps grants words passes seat value may.3.0 after t may.1 may.2 may.3.1 may.3.2 may.3.3 may.3.4)
keeps_tally grants words passes seat (adds i by) note after t never = absurd never
keeps_tally grants words passes seat (exchanges i expected new) note after t never = absurd never

-- the law of gain
pub gains_tally : (grants : Grants) (words : List ℕ) (passes : List Brought) (seat : ℕ) (h : Held) → IsTallied grants words passes
    → get_elem? grants seat ≡ some None → IsFree grants seat h → IsTallied (slice_set grants seat (Some h)) words passes
gains_tally grants words passes seat h t nothing free = record {
  there = t.there;
  count = t.count;
  sure = λ n p at yes. let s = t.sure n p at yes in let r = s.0 in
      let differ : n ≢ seat = λ e. let z : Some r.0 ≡ None = some-injective _ _ (sym r.1 ∙ (ap (get_elem? grants) e ∙ nothing)) in cc in
      ((r.0, set_else grants seat n (Some h) differ ∙ r.1, r.2, r.3), s.1);
}

-- the law of loss
pub loses_tally : (grants : Grants) (words : List ℕ) (passes : List Brought) (seat : ℕ) (pass : Brought)
    → IsTallied grants words passes → get_elem? passes seat ≡ some pass
    → IsTallied (slice_set grants seat None) words (slice_set passes seat (forgets pass))
loses_tally grants words passes seat pass t own =
    let kept : total passes ≡ total (set passes seat (forgets pass)) = let s = total_set passes seat pass (forgets pass) own in omega arith in
    record {
      there = t.there;
      count = t.count ∙ ap (λ n. n % 2 ^ 64) kept;
      sure = λ n p at yes. ⊎_elim
          (λ e. absurd (false≢true (ap (λ (q : Brought). q.sure) e.1 ∙ yes)))
          (λ e. let s = t.sure n p e.1 yes in let r = s.0 in ((r.0, set_else grants seat n None e.0 ∙ r.1, r.2, r.3), s.1))
          (at_set passes seat n (forgets pass) p at);
    }
