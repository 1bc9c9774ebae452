-- What the two searches have found, over the heads and in a block, is a row and its end as they were read.
use Rattle.std.proofs.Common.{◌≡◌, ℕ, ◌+◌, ◌-◌, ◌*◌, ◌/◌, ◌%◌, ◌<◌, ◌≤◌, List, length, sym, ap, ◌∙◌, subst, arith, inl, inr, ⊎_elim}
use Rattle.std.proofs.lemmas.Bool.{cases_lt}
use Rattle.std.specs.Prelude.{slice_index}
use Rattle.page_types.specs.declared.TheConstants.{LIMIT}
use Rattle.row_plans.specs.RowWords.{row_start, row_kind}
use Rattle.area_guard.specs.declared.guard.ReadRow.{ReadRow}
use Rattle.area_guard.specs.Rows.{slots_of, slot_at}
use Rattle.area_guard.specs.Reads.{HasRead}
use Rattle.area_rows.specs.Halving.{slots_on, IsAmong}
use Rattle.area_rows.specs.declared.row.Row.{Row}
use Rattle.area_rows.specs.Callers.{IsReadIn, IsRowEnd}
use Rattle.area_rows.proofs.Halving.{found_word, found_end}
use Rattle.area_rows.proofs.BlockSlots.{rows_by, head_slot, body_slot, slot_of_place, next_in_block, next_head, last_place}

module _ (heads body rows : List ReadRow) (layout : List ℕ) (page i j from head stop word end : ℕ)
    (some_rows : j ≤ rows_by layout i) (place : from + 1 ≡ length layout - 2 + 127 * (slice_index layout (2 + i) / 128 % 2048))
    (first : IsAmong heads page (slice_index layout 1) LIMIT (slots_on 0) i 1 head stop)
    (second : IsAmong body page (rows_by layout i + 1) stop (slots_on from) j 1 word end)
    (keep : (slot w : ℕ) → HasRead heads slot w → HasRead body slot w) (keep_all : (slot w : ℕ) → HasRead body slot w → HasRead rows slot w) where
  -- the slot of a place behind the head
  slot_behind : (m : ℕ) → m < 127 → slot_at layout (128 * i + (m + 1)) ≡ from + (m + 1)
  slot_behind m lt = let e = body_slot layout i m lt in omega arith

  -- behind the last place of a block comes the next head, as it was read, or none
  behind_block : end ≡ stop → IsRowEnd rows (slots_of layout) (slot_at layout (128 * i + rows_by layout i)) end
  behind_block same = ⊎_elim (λ none. inr (last_place layout i none.0, same ∙ none.1)) (λ t. let at : 0 + (i + 1) ≡ i + 1 = omega arith in
      inl (i + 1, next_head layout i t.3, t.0, keep_all (i + 1) t.0 (keep (i + 1) t.0 (subst (λ (n : ℕ). HasRead heads n t.0) at t.1)), same ∙ t.2))
      (found_end heads page (slice_index layout 1) LIMIT (slots_on 0) i head stop first)

  -- behind another place comes the next place
  behind_place : (w : ℕ) → j + 1 ≤ rows_by layout i → HasRead body (from + (j + 1)) w → end ≡ row_start w
      → IsRowEnd rows (slots_of layout) (slot_at layout (128 * i + j)) end
  behind_place w lt read is =
      let in_use : i < slice_index layout 1 = let t = first.there in omega arith in
      let at : slot_at layout (128 * i + (j + 1)) ≡ from + (j + 1) = slot_behind j (omega arith) in
      inl (
        slot_at layout (128 * i + (j + 1)),
        next_in_block layout i j in_use lt,
        w,
        subst (λ (n : ℕ). HasRead rows n w) (sym at) (keep_all (from + (j + 1)) w read),
        is,
      )

  -- the row ends where the next one starts, or at the limit
  pub end_read : IsRowEnd rows (slots_of layout) (slot_at layout (128 * i + j)) end
  end_read = ⊎_elim (λ out.
      let last : rows_by layout i ≡ j = let e = out.0 in omega arith in
      subst (λ (n : ℕ). IsRowEnd rows (slots_of layout) (slot_at layout (128 * i + n)) end) last (behind_block out.1))
      (λ t. let lt = t.3 in behind_place t.0 (omega arith) t.1 t.2) (found_end body page (rows_by layout i + 1) stop (slots_on from) j word end second)

  -- the row at the place where both searches ended is in a slot of the layout, as it was read
  pub row_read : (row : Row) (own : ℕ) → row.index ≡ 128 * i + j → row.hi ≡ end → row.lo ≡ row_start own → row.kind ≡ row_kind own → (0 < j → own ≡ word)
      → (j ≡ 0 → 0 < i → own ≡ head) → (j ≡ 0 → i ≡ 0 → HasRead rows 0 own) → IsReadIn rows (slots_of layout) (slot_at layout row.index) row
  row_read row own at ends lo kind in_body at_head at_first =
      let in_use : i < slice_index layout 1 = let t = first.there in omega arith in
      let le : j ≤ rows_by layout i = let t = second.there in omega arith in
      let read : HasRead rows (slot_at layout (128 * i + j)) own = elim (cases_lt 0 j) [
        | inl some_place ↦
            let up : 128 * i + (j - 1 + 1) ≡ 128 * i + j = omega arith in
            let on : from + (j - 1 + 1) ≡ from + j = omega arith in
            let slot : slot_at layout (128 * i + j) ≡ from + j = sym (ap (slot_at layout) up) ∙ (slot_behind (j - 1) (omega arith) ∙ on) in
            let has = (found_word body page (rows_by layout i + 1) stop (slots_on from) j word end second some_place).0 in
            subst (λ (z : ℕ × ℕ). HasRead rows z.0 z.1) (λ k. (sym slot k, sym (in_body some_place) k)) (keep_all (from + j) word has)
        | inr none ↦
            let none_is : j ≡ 0 = omega arith in
            let up : 128 * i + j ≡ 128 * i = omega arith in
            let slot : slot_at layout (128 * i + j) ≡ i = ap (slot_at layout) up ∙ head_slot layout i in
            elim (cases_lt 0 i) [
              | inl some_block ↦
                  let zero_on : 0 + i ≡ i = omega arith in
                  let has = (found_word heads page (slice_index layout 1) LIMIT (slots_on 0) i head stop first some_block).0 in
                  subst (λ (z : ℕ × ℕ). HasRead rows z.0 z.1) (λ k. (sym slot k, sym (at_head none_is some_block) k))
                  (keep_all i head (keep i head (subst (λ (n : ℕ). HasRead heads n head) zero_on has)))
              | inr first_block ↦
                  let zero_is : 0 ≡ slot_at layout (128 * i + j) = omega arith in
                  subst (λ (n : ℕ). HasRead rows n own) zero_is (at_first none_is (omega arith))
            ]
      ] in
      subst (λ (n : ℕ). IsReadIn rows (slots_of layout) (slot_at layout n) row) (sym at) (record {
        there = slot_of_place layout i j in_use le;
        word = own;
        read = read;
        lo = lo;
        kind = kind;
        hi = subst (IsRowEnd rows (slots_of layout) (slot_at layout (128 * i + j))) (sym ends) end_read;
      })
