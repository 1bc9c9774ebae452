-- The rule of the turnstile: client word 0 counts the writers inside, and who is inside holds a range with the door
-- in it as a writer. No two such ranges are held together, so the count is 0 or 1. The rule and its laws are this
-- project's own; they are here, since the guard cites them.
use Rattle.std.specs.Prelude.{◌≡◌, ◌≢◌, ℕ, ◌+◌, ◌-◌, ◌%◌, ◌^◌, ◌<◌, ◌≤◌, List, ◌∷◌, length, slice_index, slice_set, Option, Some, None, true, false, ◌⊎◌}
use Rattle.std.proofs.Common.{set, get_or, sym, ap, ◌∙◌, subst, arith, inl, inr, ⊎_elim, length-set, get_or-set_same}
use Rattle.std.proofs.lemmas.Bool.{false≢true}
use mathlib.Core.Option.{some, some-injective}
use lib.ListN.{get_elem?}
use Rattle.atomic_table.proofs.Lists.{at_set, set_here, set_else, set_again}
use Rattle.lock_core.proofs.ByPlace.{below}
use Rattle.lock_core.specs.Range.{Interval}
use Rattle.lock_core.specs.Grants.{Grants, Holds, IsExclusive, IsFree}
use Rattle.lock_core.specs.Client.{ClientStep, loads, stores, adds, exchanges, words_after}
use Rattle.lock_core.specs.declared.range.Mode.TheVariants.{Writer}
use Rattle.lock_core.specs.declared.range.Held.{Held}
use Rattle.test_lock.specs.declared.turnstile.Visits.{Visits}

-- the number that every range of a visit has in it
abbrev pub door : ℕ
door = 7

-- a range has the door in it
abbrev pub HasDoorIn : Interval → Type 0
HasDoorIn range = (range.lo ≤ door) × (door < range.hi)

abbrev pub HasDoor : Held → Type 0
HasDoor h = HasDoorIn h.range

-- what a seat holds has the door in it
abbrev pub IsIn : Option Held → Type 0
IsIn held = (h : Held) × (held ≡ Some h) × HasDoor h

-- the same as a writer
abbrev pub IsWriterIn : Option Held → Type 0
IsWriterIn held = (h : Held) × (held ≡ Some h) × HasDoor h × (h.mode ≡ Writer)

-- the seat of that number holds a range with the door in it as a writer
abbrev pub MayEnter : Grants → ℕ → Type 0
MayEnter grants seat = (h : Held) × Holds grants seat h × HasDoor h × (h.mode ≡ Writer)

-- the writer of that seat is inside
abbrev pub IsInside : List Visits → ℕ → Type 0
IsInside passes seat = (v : Visits) × (get_elem? passes seat ≡ some v) × (v.inside ≡ true)

-- the rule: word 0 is 1 where a writer is inside, and otherwise 0; who is inside holds a range for it
pub record IsCounted (grants : Grants) (words : List ℕ) (passes : List Visits) : Type 0 where
  pub word : 0 < length words
  pub inside : (seat : ℕ) → IsInside passes seat → MayEnter grants seat
  pub count : ((slice_index words 0 ≡ 1) × ((seat : ℕ) × IsInside passes seat)) ⊎ ((slice_index words 0 ≡ 0) × ((seat : ℕ) → ¬ (IsInside passes seat)))

-- the pass of a writer that goes in, with what it came for
abbrev pub pass_inside : Visits → ℕ → Visits
pass_inside v note = record { inside = true; log = note ∷ v.log }

-- the pass of a writer that has gone out
abbrev pub pass_outside : Visits → Visits
pass_outside v = record { inside = false; log = v.log }

-- the steps of a visit: a look at the count, an addition of 1 by who may enter and isn't inside, and one of -1 by who
-- is inside
abbrev pub IsPassage : Grants → List ℕ → List Visits → ℕ → ClientStep → ℕ → Visits → Type 0
IsPassage grants words passes seat (loads i) note after = get_elem? passes seat ≡ some after
IsPassage grants words passes seat (stores i value) note after = ⊥
IsPassage grants words passes seat (adds i by) note after = (i ≡ 0) × IsExclusive grants × MayEnter grants seat
    × ((v : Visits) × (get_elem? passes seat ≡ some v)
    × (((by ≡ 1) × (v.inside ≡ false) × (after ≡ pass_inside v note)) ⊎ ((by ≡ 2 ^ 64 - 1) × (v.inside ≡ true) × (after ≡ pass_outside v))))
IsPassage grants words passes seat (exchanges i expected new) note after = ⊥

-- where a seat holds a range with the door in it and isn't inside, nobody is
pub nobody_inside : (grants : Grants) (words : List ℕ) (passes : List Visits) (seat : ℕ) (h : Held) (v : Visits)
    → IsCounted grants words passes → IsExclusive grants → Holds grants seat h → HasDoor h → get_elem? passes seat ≡ some v
    → v.inside ≡ false
    → slice_index words 0 ≡ 0
nobody_inside grants words passes seat h v counted exclusive held covers own outside = ⊎_elim
    (λ one. let n = one.1.0 in let inside = one.1.1 in
    let differ : n ≢ seat = λ e. let same : inside.0 ≡ v = some-injective _ _ (sym inside.1 ∙ (ap (get_elem? passes) e ∙ own)) in
    absurd (false≢true (sym outside ∙ (ap (λ (x : Visits). x.inside) (sym same) ∙ inside.2))) in
    let may = counted.inside n inside in
    let c = may.2 in
    absurd (exclusive n seat may.0 h differ may.1 held ((omega arith, omega arith), inl may.3)))
    (λ none. none.0)
    counted.count

-- nobody else is inside where a seat may enter
nobody_else : (grants : Grants) (words : List ℕ) (passes : List Visits) (seat n : ℕ) → IsCounted grants words passes
    → IsExclusive grants → MayEnter grants seat → n ≢ seat → ¬ (IsInside passes n)
nobody_else grants words passes seat n counted exclusive may differ inside =
    let other = counted.inside n inside in let c = other.2 in let d = may.2 in
    exclusive n seat other.0 may.0 differ other.1 may.1 ((omega arith, omega arith), inl other.3)

goes_in : (grants : Grants) (words : List ℕ) (passes : List Visits) (seat : ℕ) (v after : Visits) → IsCounted grants words passes
    → IsExclusive grants → MayEnter grants seat → get_elem? passes seat ≡ some v → v.inside ≡ false → after.inside ≡ true
    → IsCounted grants (set words 0 ((get_or words 0 0 + 1) % 2 ^ 64)) (set passes seat after)
goes_in grants words passes seat v after counted exclusive may own outside now =
    let zero_now : get_or words 0 0 ≡ 0 = nobody_inside grants words passes seat may.0 v counted exclusive may.1 may.2 own outside in
    let there = below passes seat v own in
    let one : (get_or words 0 0 + 1) % 2 ^ 64 ≡ 1 = ap (λ n. (n + 1) % 2 ^ 64) zero_now in
    record {
      word = let l = length-set words 0 ((get_or words 0 0 + 1) % 2 ^ 64) in let w = counted.word in omega arith;
      inside = λ n inside. ⊎_elim (λ t. subst (MayEnter grants) (sym t.0) may) (λ t. counted.inside n (inside.0, t.1, inside.2))
          (at_set passes seat n after inside.0 inside.1);
      count = inl (get_or-set_same words 0 ((get_or words 0 0 + 1) % 2 ^ 64) 0 counted.word ∙ one, (seat, (after, set_here passes seat after there, now)));
    }

goes_out : (grants : Grants) (words : List ℕ) (passes : List Visits) (seat : ℕ) (v after : Visits) → IsCounted grants words passes
    → IsExclusive grants → MayEnter grants seat → get_elem? passes seat ≡ some v → v.inside ≡ true → after.inside ≡ false
    → IsCounted grants (set words 0 ((get_or words 0 0 + (2 ^ 64 - 1)) % 2 ^ 64)) (set passes seat after)
goes_out grants words passes seat v after counted exclusive may own within now =
    let one_now : get_or words 0 0 ≡ 1 = ⊎_elim (λ one. one.0) (λ none. absurd (none.1 seat (v, own, within))) counted.count in
    let none_left : (get_or words 0 0 + (2 ^ 64 - 1)) % 2 ^ 64 ≡ 0 = ap (λ n. (n + (2 ^ 64 - 1)) % 2 ^ 64) one_now in
    let nobody : (n : ℕ) → ¬ (IsInside (set passes seat after) n) = λ n inside. ⊎_elim
    (λ t. false≢true (sym now ∙ (ap (λ (x : Visits). x.inside) t.1 ∙ inside.2)))
    (λ t. nobody_else grants words passes seat n counted exclusive may t.0 (inside.0, t.1, inside.2))
    (at_set passes seat n after inside.0 inside.1) in
    record {
      word = let l = length-set words 0 ((get_or words 0 0 + (2 ^ 64 - 1)) % 2 ^ 64) in let w = counted.word in omega arith;
      inside = λ n inside. absurd (nobody n inside);
      count = inr (get_or-set_same words 0 ((get_or words 0 0 + (2 ^ 64 - 1)) % 2 ^ 64) 0 counted.word ∙ none_left, nobody);
    }

-- the law of steps
pub keeps_count : (grants : Grants) (words : List ℕ) (passes : List Visits) (seat : ℕ) (step : ClientStep) (note : ℕ)
    (after : Visits) → IsCounted grants words passes → IsPassage grants words passes seat step note after
    → IsCounted grants (words_after words step) (slice_set passes seat after)
keeps_count grants words passes seat (loads i) note after counted own = subst (IsCounted grants words) (sym (set_again passes seat after own)) counted
keeps_count grants words passes seat (stores i value) note after counted never = absurd never
keeps_count grants words passes seat (exchanges i expected new) note after counted never = absurd never
keeps_count grants words passes seat (adds i by) note after counted may = ⊎_elim
    (λ t. subst (λ (z : ℕ × ℕ). IsCounted grants (set words z.0 ((get_or words z.0 0 + z.1) % 2 ^ 64)) (set passes seat after)) (λ k. (sym may.0 k, sym t.0 k))
    (goes_in grants words passes seat may.3.0 after counted may.1 may.2 may.3.1 t.1 (ap (λ (x : Visits). x.inside) t.2)))
    (λ t. subst (λ (z : ℕ × ℕ). IsCounted grants (set words z.0 ((get_or words z.0 0 + z.1) % 2 ^ 64)) (set passes seat after)) (λ k. (sym may.0 k, sym t.0 k))
    (goes_out grants words passes seat may.3.0 after counted may.1 may.2 may.3.1 t.1 (ap (λ (x : Visits). x.inside) t.2)))
    may.3.2

-- the law of gain
pub gains_count : (grants : Grants) (words : List ℕ) (passes : List Visits) (seat : ℕ) (h : Held) → IsCounted grants words passes
    → get_elem? grants seat ≡ some None → IsFree grants seat h → IsCounted (slice_set grants seat (Some h)) words passes
gains_count grants words passes seat h counted nothing free = record {
  word = counted.word;
  inside = λ n inside. let may = counted.inside n inside in
      let differ : n ≢ seat = λ e. let z : Some may.0 ≡ None = some-injective _ _ (sym may.1 ∙ (ap (get_elem? grants) e ∙ nothing)) in cc in
      (may.0, set_else grants seat n (Some h) differ ∙ may.1, may.2, may.3);
  count = counted.count;
}

-- the law of loss
pub loses_count : (grants : Grants) (words : List ℕ) (passes : List Visits) (seat : ℕ) (pass : Visits)
    → IsCounted grants words passes → get_elem? passes seat ≡ some pass → pass.inside ≡ false
    → IsCounted (slice_set grants seat None) words (slice_set passes seat pass)
loses_count grants words passes seat pass counted own outside = subst (IsCounted (set grants seat None) words) (sym (set_again passes seat pass own)) (record {
  word = counted.word;
  inside = λ n inside. let may = counted.inside n inside in
      let differ : n ≢ seat = λ e. let same : inside.0 ≡ pass =
      some-injective _ _ (sym inside.1 ∙ (ap (get_elem? passes) e ∙ own)) in
      absurd (false≢true (sym outside ∙ (ap (λ (x : Visits). x.inside) (sym same) ∙ inside.2))) in
      (may.0, set_else grants seat n None differ ∙ may.1, may.2, may.3);
  count = counted.count;
})
