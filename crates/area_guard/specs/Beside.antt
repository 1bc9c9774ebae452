-- What a caller has read of rows still stands after another one has stored one row beside its range: the boundary moves
-- over pages that it doesn't hold. These are parts of the proofs in `Keeping`; a reader who trusts the check may pass
-- them over.
use Rattle.std.specs.Prelude.{All, Option, slice_index}
use Rattle.std.proofs.Common.{◌≡◌, ℕ, ◌+◌, ◌*◌, ◌<◌, ◌≤◌, Bool, true, false, true≢false, List, length, set, sym, refl, ap, ◌∙◌, subst, arith, inl, inr, ⊎_elim}
use Rattle.std.proofs.lemmas.Bool.{cases_lt}
use Rattle.std.proofs.lemmas.List.{get_or-set_same, get_or-set_other}
use Rattle.std.proofs.lemmas.List.Elements.{All-weaker}
use mathlib.Core.Option.{some}
use mathlib.Core.Logic.{dite}
use native.Mathlib.Decide.{ℕ_discrete}
use lib.ListN.{get_elem?}
use Rattle.page_types.specs.declared.TheConstants.{LIMIT}
use Rattle.page_types.specs.declared.calls.Kind.{Kind}
use Rattle.page_types.specs.declared.pages.Span.{Span}
use Rattle.space_model.specs.Starts.{same_option}
use Rattle.space_model.proofs.Counting.{same_option-true, same_option-same}
use Rattle.lock_core.specs.declared.range.Held.{Held}
use Rattle.lock_core.specs.Grants.{Grants, Holds, IsExclusive}
use Rattle.area_guard.specs.declared.guard.Change.{Change}
use Rattle.area_guard.specs.declared.guard.ReadRow.{ReadRow}
use Rattle.row_plans.specs.RowWords.{row_start, row_kind}
use Rattle.area_guard.specs.Rows.{nb_in, slots_of, slots_in, AreNeighbours, IsOneOf, IsRowOf}
use Rattle.area_guard.specs.Reads.{everything, IsHeldPage, StillStands}
use Rattle.area_guard.specs.Changes.{IsIn, alone, new_word, MayReplace}
use Rattle.area_guard.specs.Stands.{nb_stays, layout_stays}

kind_by : (a b : Option Kind) (t : Bool) → same_option a b ≡ t → ((a ≡ b → ⊥) → ⊥) → a ≡ b
kind_by a b true e not_not = same_option-true a b e
kind_by a b false e not_not = absurd (not_not (λ same. true≢false (sym (same_option-same a) ∙ (ap (same_option a) same ∙ e))))

-- no page of a span that is held as a writer is held by another caller
pub apart_pages : (grants : Grants) (worker other : ℕ) (span : Span) → IsExclusive grants → (other ≡ worker → ⊥) → Holds grants worker (alone span)
    → (held : Option Held) → get_elem? grants other ≡ some held → (page : ℕ) → IsHeldPage held page → IsIn span page → ⊥
apart_pages grants worker other span exclusive differ holds held at page h i =
    exclusive worker other (alone span) h.0 (λ e. differ (sym e)) holds (at ∙ ap some h.1) ((omega arith, omega arith), inl refl)

module _ (held : Option Held) (words : List ℕ) (c : Change) (m : MayReplace words c) (room : 36 + 129 * nb_in words ≤ length words)
    (below : (page : ℕ) → IsHeldPage held page → page < LIMIT) (apart : (page : ℕ) → IsHeldPage held page → IsIn c.span page → ⊥) where
  here : slice_index (set words (3 + c.index) (new_word c)) (3 + c.index) ≡ new_word c
  here = get_or-set_same words (3 + c.index) (new_word c) 0 (omega arith)

  blocks : nb_in (set words (3 + c.index) (new_word c)) ≡ nb_in words
  blocks = nb_stays words (3 + c.index) (new_word c) (omega arith)

  else : (i : ℕ) → (i ≡ c.index → ⊥) → slice_index (set words (3 + c.index) (new_word c)) (3 + i) ≡ slice_index words (3 + i)
  else i differ = get_or-set_other words (3 + c.index) (3 + i) (new_word c) 0 (λ e. differ (omega arith))

  slots : slots_in (set words (3 + c.index) (new_word c)) ≡ slots_in words
  slots = ap slots_of (layout_stays words (3 + c.index) (new_word c) (λ e. omega arith) (omega arith) (omega arith))

  at_index : (i : ℕ) → i ≡ c.index → slice_index (set words (3 + c.index) (new_word c)) (3 + i) ≡ new_word c
  at_index i same = ap (λ n. slice_index (set words (3 + c.index) (new_word c)) (3 + n)) same ∙ here

  -- a held page is on the same side of the row's start before and after
  before_side : (page : ℕ) → IsHeldPage held page → row_start (new_word c) ≤ page → row_start (slice_index words (3 + c.index)) ≤ page
  before_side page h le = elim (cases_lt page (row_start (slice_index words (3 + c.index)))) [
    | inl lt ↦ absurd (apart page h (m.down page le lt))
    | inr ge ↦ ge
  ]

  after_side : (page : ℕ) → IsHeldPage held page → row_start (slice_index words (3 + c.index)) ≤ page → row_start (new_word c) ≤ page
  after_side page h le = elim (cases_lt page (row_start (new_word c))) [
    | inl lt ↦ absurd (apart page h (m.up page le lt))
    | inr ge ↦ ge
  ]

  old_start : (i page : ℕ) → IsHeldPage held page → row_start (slice_index (set words (3 + c.index) (new_word c)) (3 + i)) ≤ page
      → row_start (slice_index words (3 + i)) ≤ page
  old_start i page h le = dite (ℕ_discrete i c.index) (λ same. subst (λ (n : ℕ). row_start (slice_index words (3 + n)) ≤ page) (sym same)
      (before_side page h (subst (λ (w : ℕ). row_start w ≤ page) (at_index i same) le))) (λ differ. subst (λ (w : ℕ). row_start w ≤ page) (else i differ) le)

  new_start : (i page : ℕ) → IsHeldPage held page → row_start (slice_index words (3 + i)) ≤ page
      → row_start (slice_index (set words (3 + c.index) (new_word c)) (3 + i)) ≤ page
  new_start i page h le = dite (ℕ_discrete i c.index) (λ same. subst (λ (w : ℕ). row_start w ≤ page) (sym (at_index i same))
      (after_side page h (subst (λ (n : ℕ). row_start (slice_index words (3 + n)) ≤ page) same le)))
      (λ differ. subst (λ (w : ℕ). row_start w ≤ page) (sym (else i differ)) le)

  -- the row of a held page has the same slot before and after
  old_row : (i page : ℕ) → IsHeldPage held page → IsRowOf (set words (3 + c.index) (new_word c)) page i → IsRowOf words page i
  old_row i page h r = record {
    there = subst (λ (l : List ℕ). IsOneOf l i) slots r.there;
    from = old_start i page h r.from;
    last = λ next after. elim (cases_lt page (row_start (slice_index words (3 + next)))) [
      | inl lt ↦ lt
      | inr ge ↦ let n = new_start next page h ge in
          let l = r.last next (subst (λ (l : List ℕ). AreNeighbours l i next) (sym slots) after) in absurd (omega arith)
    ];
  }

  kind_same : (page : ℕ) → IsHeldPage held page → IsRowOf words page c.index → row_kind (new_word c) ≡ row_kind (slice_index words (3 + c.index))
  kind_same page h r = kind_by (row_kind (new_word c)) (row_kind (slice_index words (3 + c.index)))
      (same_option (row_kind (new_word c)) (row_kind (slice_index words (3 + c.index)))) refl
      (λ differ. apart page h (m.recoloured differ page (below page h) r))

  stands_on : (r : ReadRow) → StillStands held words r → StillStands held (set words (3 + c.index) (new_word c)) r
  stands_on r s = record {
    slot = subst (λ (n : ℕ). r.index < 128 * n) (sym blocks) s.slot;
    side = λ page h. (λ le. new_start r.index page h ((s.side page h).0 le), λ le. (s.side page h).1 (old_start r.index page h le));
    start = λ page h at. dite (ℕ_discrete r.index c.index) (λ same.
        let old : row_start (slice_index words (3 + c.index)) ≡ row_start r.word =
        ap (λ n. row_start (slice_index words (3 + n))) (sym same) ∙ s.start page h at in
        let new : row_start (slice_index (set words (3 + c.index) (new_word c)) (3 + r.index)) ≡ row_start (new_word c) =
        ap row_start (at_index r.index same) in
        dite (ℕ_discrete (row_start (slice_index words (3 + c.index))) (row_start (new_word c))) (λ stays. new ∙ (sym stays ∙ old))
        (λ moves. absurd (apart page h (m.stood moves page (⊎_elim (λ e. inl (e ∙ sym old)) (λ e. inr (e ∙ sym old)) at)))))
        (λ differ. ap row_start (else r.index differ) ∙ s.start page h at);
    kind = λ page h row.
        let row_before = old_row r.index page h row in
        dite (ℕ_discrete r.index c.index) (λ same. ap row_kind (at_index r.index same) ∙ (kind_same page h (subst (IsRowOf words page) same row_before)
        ∙ (ap (λ n. row_kind (slice_index words (3 + n))) (sym same) ∙ s.kind page h row_before)))
        (λ differ. ap row_kind (else r.index differ) ∙ s.kind page h row_before);
    word = λ all. absurd (apart c.span.lo (
      everything,
      all,
      omega arith,
      (omega arith),
    ) (omega arith, c.span.ordered));
  }

  -- so does all that it has read
  pub all_stand_on : (rows : List ReadRow) → All (StillStands held words) rows → All (StillStands held (set words (3 + c.index) (new_word c))) rows
  all_stand_on rows all = All-weaker (StillStands held words) (StillStands held (set words (3 + c.index) (new_word c))) stands_on rows all
