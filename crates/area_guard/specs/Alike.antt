-- Words that are the same up to the end of the layout have the same rows. These are parts of the proofs in `Keeping`; a
-- reader who trusts the check may pass them over.
use Rattle.std.specs.Prelude.{map, slice_index}
use Rattle.std.proofs.Common.{◌≡◌, ℕ, ◌+◌, ◌*◌, ◌/◌, ◌%◌, ◌<◌, ◌≤◌, List, ◌∷◌, length, sym, ap, ◌∙◌, subst, arith}
use Rattle.std.proofs.lemmas.List.{get_or-map, length-map}
use Rattle.std.proofs.lemmas.Grind.{same_number_lists}
use Rattle.row_blocks.specs.Blocks.{pieces, run, blocks_of, rows_of, IsLaidOut, slots_of as slots_by, slots_in as slots_all, rows_in as rows_by}
use Rattle.row_blocks.proofs.Pieces.{same_pieces}
use Rattle.row_blocks.specs.Blocks.{count_to}
use Rattle.row_blocks.specs.Gaps.{GapsTold}
use Rattle.row_blocks.proofs.Counts.{count_same}
use Rattle.row_blocks.proofs.KeptGaps.{largest_same}
use Rattle.row_blocks.proofs.Slots.{rows_are, kth_slot, slot_below}

-- lists whose words are the same up to the end of the layout
module _ {nb : ℕ} {one : List ℕ} (two : List ℕ) (laid : IsLaidOut nb one) (wide : 129 * nb + 1 ≤ length two)
    (same : (t : ℕ) → t < 129 * nb + 1 → slice_index two t ≡ slice_index one t) where
  count : blocks_of nb two ≡ blocks_of nb one
  count = same (128 * nb) (omega arith)

  told : (i : ℕ) → i < nb → slice_index two (128 * nb + 1 + i) ≡ slice_index one (128 * nb + 1 + i)
  told i lt = same (128 * nb + 1 + i) (omega arith)

  -- are laid out alike
  pub also_laid : IsLaidOut nb two
  also_laid = let c = count in record {
    wide = wide;
    some = omega arith;
    spare = omega arith;
    bodies = λ i lt. let e = told i lt in let b = laid.bodies i lt in omega arith;
    apart = λ i j a b e. laid.apart i j a b (sym (ap (λ (x : ℕ). x / 128 % 2048) (told i a)) ∙ (e ∙ ap (λ (x : ℕ). x / 128 % 2048) (told j b)));
  }

  slots_alike : slots_all nb two ≡ slots_all nb one
  slots_alike =
      ap (pieces (slots_by nb two)) count ∙ same_pieces (slots_by nb one) (slots_by nb two) (blocks_of nb one) (λ k lt.
      let e = told k (omega arith) in
      ap (λ (x : ℕ). k ∷ run (nb + 127 * (x / 128 % 2048)) (x % 128)) e)

  -- and have the same rows
  pub also_rows : rows_by nb two ≡ rows_by nb one
  also_rows =
      let slots : List ℕ = slots_all nb one in
      let a = length-map slots (slice_index two) in
      let b = length-map slots (slice_index one) in
      let words : map (slice_index two) slots ≡ map (slice_index one) slots =
      same_number_lists (map (slice_index two) slots) (map (slice_index one) slots) (omega arith) (λ k lt.
      let less : k < length slots = omega arith in
      let at = kth_slot nb one k less in
      let low = slot_below nb one at.i at.j (slice_index slots k) laid at.is in
      get_or-map (slice_index two) slots k 0 0 less ∙ (same (slice_index slots k) (omega arith) ∙ sym (get_or-map (slice_index one) slots k 0 0 less))) in
      sym (rows_are nb two also_laid) ∙ (ap (map (slice_index two)) slots_alike ∙ (words ∙ rows_are nb one laid))

  pub also_free : blocks_of nb one < nb → blocks_of nb two < nb
  also_free lt = subst (λ (n : ℕ). n < nb) (sym count) lt

  pub also_short : blocks_of nb one < nb → rows_of nb one 0 < 64 → rows_of nb two 0 < 64
  also_short free lt = let e : rows_of nb two 0 ≡ rows_of nb one 0 = ap (λ (x : ℕ). x % 128) (told 0 (omega arith)) in
      subst (λ (n : ℕ). n < 64) (sym e) lt

  -- and tell the same gaps
  pub also_told : GapsTold nb one → GapsTold nb two
  also_told all i lt =
      let c = count in
      let spare = laid.spare in
      let counts : (n : ℕ) → n ≤ nb → count_to nb two n ≡ count_to nb one n =
      λ (n : ℕ) (le : n ≤ nb). count_same nb one two n (λ k less. ap (λ (x : ℕ). x % 128) (told k (omega arith))) in
      largest_same also_rows (counts i (omega arith)) (counts (i + 1) (omega arith)) (ap (λ (x : ℕ). x / 262144) (told i (omega arith)))
      (all i (omega arith))
