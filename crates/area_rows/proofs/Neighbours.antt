-- Slots beside each other, and what the words of rows say by their slots: of words that show kinds each row tells the
-- kind of its pages, up to the start of the row in the next slot.
use Rattle.std.proofs.Common.{◌≡◌, ◌≢◌, ℕ, zero, suc, ◌+◌, ◌-◌, ◌<◌, ◌≤◌, List, drop, length, get_or, sym, refl, ap, ◌∙◌, subst, arith, ◌⊎◌, inl, inr, ⊎_elim}
use Rattle.std.proofs.lemmas.List.{drop_all}
use Rattle.std.specs.Prelude.{Option, Some, None, slice_index}
use Rattle.page_types.specs.declared.TheConstants.{LIMIT}
use Rattle.page_types.specs.declared.calls.Kind.{Kind}
use mathlib.Core.Option.{some, some-injective, some-ne-none}
use lib.ListN.{get_elem?}
use Rattle.lock_core.proofs.ByPlace.{below, there}
use Rattle.area_guard.specs.declared.guard.ReadRow.{ReadRow}
use Rattle.area_guard.specs.Reads.{slots_by, HasRead}
use Rattle.area_guard.specs.History.{StillLaid}
use Rattle.area_guard.specs.Slots.{slots_many, rows_are, slots_apart}
use Rattle.area_guard.specs.Rows.{slots_of, slots_in, rows_in, AreNeighbours, IsOneOf, IsFirstOf, IsLastOf, IsNextOf, IsPreviousOf, IsSlot, IsNext, RowsShow}
use Rattle.row_plans.specs.RowWords.{row_start, row_kind}
use Rattle.row_plans.specs.RowLists.{rows_start}
use Rattle.row_plans.proofs.RowLists.{row_says}
use Rattle.area_rows.specs.Callers.{IsEndIn, IsReadBefore, IsReadBehind, IsKindIn}
use Rattle.area_rows.proofs.Moments.{first_start}
use Rattle.area_rows.proofs.OneRow.{next_is}

first_by : (slots : List ℕ) (slot k : ℕ) → get_elem? slots k ≡ some slot → IsFirstOf slots slot ⊎ ((previous : ℕ) × AreNeighbours slots previous slot)
first_by slots slot zero at = inl at
first_by slots slot (suc k) at =
    let p = there slots k (let lt = below slots (suc k) slot at in omega arith) in
    let same : suc k ≡ k + 1 = omega arith in
    inr (p.0, (k, p.1, ap (get_elem? slots) (sym same) ∙ at))

-- a slot is the first one, or there is one before it
pub first_or_behind : (slots : List ℕ) (slot : ℕ) → IsOneOf slots slot → IsFirstOf slots slot ⊎ ((previous : ℕ) × AreNeighbours slots previous slot)
first_or_behind slots slot is = first_by slots slot is.0 is.1

-- the slot before one of them is one of them
pub previous_in : (slots : List ℕ) (slot n : ℕ) {previous : Option ℕ} → previous ≡ Some n → IsPreviousOf slots slot previous → IsOneOf slots n
previous_in slots slot n same are = let a = subst (IsPreviousOf slots slot) same are in (a.0, a.1)

-- and so is the one behind it
pub next_in : (slots : List ℕ) (slot n : ℕ) {next : Option ℕ} → next ≡ Some n → IsNextOf slots slot next → IsOneOf slots n
next_in slots slot n same are = let a = subst (IsNextOf slots slot) same are in (a.0 + 1, a.2)

-- the kind of the row before, from the slot before and the word that was read there
pub before_of : (rows : List ReadRow) (slots : List ℕ) (slot : ℕ) (previous : Option ℕ) (kind : Option Kind)
    → IsPreviousOf slots slot previous → IsKindIn rows previous kind → IsReadBefore rows slots slot kind
before_of rows slots slot None kind first is = inl (first, is)
before_of rows slots slot (Some previous) kind are is = inr (previous, are, is.0, is.1, is.2)

-- and that of the row behind
pub behind_of : (rows : List ReadRow) (slots : List ℕ) (slot other : ℕ) (next : Option ℕ) (kind : Option Kind)
    → ((n : ℕ) → next ≡ Some n → other ≡ n) → IsNextOf slots slot next → IsKindIn rows next kind → IsReadBehind rows slots slot other kind
behind_of rows slots slot other None kind same last is = inl (last, is)
behind_of rows slots slot other (Some next) kind same are is =
    let e = same next refl in
    inr (subst (AreNeighbours slots slot) (sym e) are, is.0, subst (λ (n : ℕ). HasRead rows n is.0) (sym e) is.1, is.2)

-- one of the slots of a layout that is so still is a row's slot
pub slot_now : (words : List ℕ) (laid : Option (List ℕ)) (slot : ℕ) → StillLaid words laid → IsOneOf (slots_by laid) slot → IsSlot words slot
slot_now words None slot still is = absurd (some-ne-none slot (sym is.1))
slot_now words (Some layout) slot still is = subst (λ (l : List ℕ). IsOneOf (slots_of l) slot) (sym (still layout refl)) is

-- what the word of the row in a slot says, of those that show kinds
pub record WordSays (words : List ℕ) (kinds : ℕ → Option Kind) (slot : ℕ) : Type 0 where
  -- it starts below the limit
  pub below : row_start (slice_index words (3 + slot)) < LIMIT
  -- from its start up to that of the next row, or to the limit, all pages have its kind
  pub within : (p : ℕ) → row_start (slice_index words (3 + slot)) ≤ p → p < LIMIT
      → ((next : ℕ) → IsNext words slot next → p < row_start (slice_index words (3 + next))) → kinds p ≡ row_kind (slice_index words (3 + slot))
  -- the next row starts behind it
  pub rises : (next : ℕ) → IsNext words slot next → row_start (slice_index words (3 + slot)) < row_start (slice_index words (3 + next))
  -- and has another kind
  pub differs : (next : ℕ) → IsNext words slot next → row_kind (slice_index words (3 + slot)) ≢ row_kind (slice_index words (3 + next))

module _ {words : List ℕ} {kinds : ℕ → Option Kind} (s : RowsShow words kinds) where
  -- there is a row at the place of each slot
  pub row_there : (k slot : ℕ) → get_elem? (slots_in words) k ≡ some slot → k < length (rows_in words)
  row_there k slot at = let lt = below (slots_in words) k slot at in let many = slots_many words kinds s in omega arith

  -- two slots behind the same one are the same
  pub next_same : (slot one two : ℕ) → IsNext words slot one → IsNext words slot two → one ≡ two
  next_same slot one two a b =
      let k : a.0 ≡ b.0 = slots_apart words kinds s a.0 b.0 slot a.1 b.1 in
      some-injective one two (sym a.2 ∙ (ap (λ (n : ℕ). get_elem? (slots_in words) (n + 1)) k ∙ b.2))

  -- there is none behind the last one
  pub none_next : (slot next : ℕ) → IsLastOf (slots_in words) slot → IsNext words slot next → ⊥
  none_next slot next last is =
      let k : last.0 ≡ is.0 = slots_apart words kinds s last.0 is.0 slot last.1 is.1 in
      let lt = below (slots_in words) (is.0 + 1) next is.2 in
      let end = last.2 in absurd (omega arith)

  -- the first row starts at page 0
  pub first_row : (slot : ℕ) → IsFirstOf (slots_in words) slot → row_start (slice_index words (3 + slot)) ≡ 0
  first_row slot first = ap row_start (sym (rows_are words kinds s 0 slot first)) ∙ first_start (rows_in words) kinds s.show (row_there 0 slot first)

  -- the word of each row says so
  pub word_says : (slot : ℕ) → IsSlot words slot → WordSays words kinds slot
  word_says slot is =
      let rows = rows_in words in
      let r = row_says 0 rows kinds is.0 s.show (row_there is.0 slot is.1) in
      let here : get_or rows is.0 0 ≡ slice_index words (3 + slot) = rows_are words kinds s is.0 slot is.1 in
      record {
        below = subst (λ (w : ℕ). row_start w < LIMIT) here r.below;
        within = λ p from low next. subst (λ (w : ℕ). kinds p ≡ row_kind w) here (r.within p (subst (λ (w : ℕ). row_start w ≤ p) (sym here) from) low (λ more.
            let n = there (slots_in words) (is.0 + 1) (let many = slots_many words kinds s in omega arith) in
            subst (λ (w : ℕ). p < row_start w) (sym (rows_are words kinds s (is.0 + 1) n.0 n.1)) (next n.0 (is.0, is.1, n.1))));
        rises = λ next after. subst (λ (z : ℕ × ℕ). row_start z.0 < row_start z.1)
            (λ i. (rows_are words kinds s after.0 slot after.1 i, rows_are words kinds s (after.0 + 1) next after.2 i))
            ((row_says 0 rows kinds after.0 s.show (row_there after.0 slot after.1)).rises (row_there (after.0 + 1) next after.2));
        differs = λ next after. subst (λ (z : ℕ × ℕ). row_kind z.0 ≢ row_kind z.1)
            (λ i. (rows_are words kinds s after.0 slot after.1 i, rows_are words kinds s (after.0 + 1) next after.2 i))
            ((row_says 0 rows kinds after.0 s.show (row_there after.0 slot after.1)).differs (row_there (after.0 + 1) next after.2));
      }

  module _ (slot : ℕ) (used : IsSlot words slot) where
    -- the page before the row isn't of its kind
    pub before_row : 0 < row_start (slice_index words (3 + slot))
        → kinds (row_start (slice_index words (3 + slot)) - 1) ≢ row_kind (slice_index words (3 + slot))
    before_row more e = ⊎_elim (λ first. let z = first_row slot first in absurd (omega arith)) (λ t.
        let v = word_says t.0 (t.1.0, t.1.1) in let up = v.rises slot t.1 in let last = row_start (slice_index words (3 + slot)) - 1 in
        v.differs slot t.1 (sym (v.within last (omega arith) (let b = (word_says slot used).below in omega arith)
        (λ next after. subst (λ (n : ℕ). last < row_start (slice_index words (3 + n))) (next_same t.0 slot next t.1 after) (omega arith))) ∙ e))
        (first_or_behind (slots_in words) slot used)

    -- the page behind it isn't either
    pub behind_row : (next : ℕ) → IsNext words slot next → kinds (row_start (slice_index words (3 + next))) ≢ row_kind (slice_index words (3 + slot))
    behind_row next after same =
        let v = word_says next (after.0 + 1, after.2) in
        (word_says slot used).differs next after (sym same ∙ v.within (row_start (slice_index words (3 + next))) (omega arith) v.below (λ n on. v.rises n on))

  -- in the list of all rows the one behind a row starts where this one ends
  pub end_is : (k slot hi : ℕ) → get_elem? (slots_in words) k ≡ some slot → IsEndIn words slot hi → rows_start (drop (suc k) (rows_in words)) ≡ hi
  end_is k slot hi at ends = ⊎_elim (λ t.
      let same = slots_apart words kinds s t.1.0 k slot t.1.1 at in
      let e : suc k ≡ t.1.0 + 1 = omega arith in
      ap (λ (n : ℕ). rows_start (drop n (rows_in words))) e ∙ (next_is (rows_in words) (t.1.0 + 1) (row_there (t.1.0 + 1) t.0 t.1.2)
      ∙ (ap row_start (rows_are words kinds s (t.1.0 + 1) t.0 t.1.2) ∙ t.2))) (λ t.
      let same = slots_apart words kinds s t.0.0 k slot t.0.1 at in let many = slots_many words kinds s in let end = t.0.2 in
      ap rows_start (drop_all (suc k) (rows_in words) (omega arith)) ∙ sym t.1) ends
