-- The slots in which rows stand: those of the blocks in use, in order. The lemmas over words that show kinds tell of
-- rows by their slots alone; proofs of other crates need to know no more of the layout where they read rows and store
-- one. They stand here, and not among the proofs, since the guard cites them.
use Rattle.std.proofs.Common.{◌≡◌, ℕ, suc, ◌+◌, ◌-◌, ◌*◌, ◌/◌, ◌%◌, ◌<◌, ◌≤◌, List, ◌∷◌, drop, length, get_or, set, length-set}
use Rattle.std.proofs.Common.{sym, refl, ap, ◌∙◌, subst, arith}
use Rattle.std.proofs.lemmas.List.{get_or-drop, get_or-take, get_or-map, get_or-set_other, drop-set-add, length-drop, length-take-le}
use Rattle.std.proofs.lemmas.List.Elements.{All-set}
use Rattle.std.specs.Prelude.{All, Option, None, slice_index}
use mathlib.Core.Option.{some}
use lib.ListN.{get_elem?}
use Rattle.lock_core.proofs.ByPlace.{below, there, at_or}
use Rattle.page_types.specs.declared.calls.Kind.{Kind}
use Rattle.space_model.specs.declared.areas.Area.{Area}
use Rattle.space_model.specs.declared.entries.Entry.{Entry}
use Rattle.page_types.specs.declared.TheConstants.{LIMIT}
use Rattle.row_plans.specs.RowLists.{ShowFrom, IsBareGap}
use Rattle.row_plans.specs.Gaps.{free_of}
use Rattle.row_plans.proofs.FreeStays.{free_stays}
use Rattle.row_blocks.specs.Gaps.{GapsTold}
use Rattle.row_blocks.proofs.KeptGaps.{told_freed}
use Rattle.row_blocks.specs.Blocks.{pieces, run, blocks_of, rows_of, IsLaidOut, slots_of as slots_by, slots_in as slots_all, rows_in as rows_by}
use Rattle.row_blocks.proofs.Pieces.{same_pieces}
use Rattle.row_blocks.proofs.Slots.{rows_are as words_are, length-slots_in, length-rows_in, kth_slot, slot_below, slots_differ, at_slot, laid_stored, stored}
use Rattle.area_guard.specs.declared.guard.Pass.{Pass}
use Rattle.area_guard.specs.Rows.{nb_in, layout_in, block_slots, slots_of, slots_in, rows_in, IsFirstOf, IsSlot, IsInReach, RowsShow}
use Rattle.area_guard.specs.History.{IsPart}
use Rattle.area_guard.specs.Stands.{nb_stays, layout_stays}

module _ (words : List ℕ) (room : 36 + 129 * nb_in words ≤ length words) where
  -- the layout has two words and one for each block
  pub layout_long : length (layout_in words) ≡ nb_in words + 2
  layout_long =
      let d = length-drop (3 + 128 * nb_in words) words in
      let t = length-take-le (nb_in words + 1) (drop (3 + 128 * nb_in words) words) (omega arith) in
      omega arith

  -- behind the row count it has the words behind the slots
  pub layout_word : (i : ℕ) → i ≤ nb_in words → slice_index (layout_in words) (suc i) ≡ slice_index (drop 3 words) (128 * nb_in words + i)
  layout_word i le =
      let e : 3 + 128 * nb_in words + i ≡ 3 + (128 * nb_in words + i) = omega arith in
      get_or-take (nb_in words + 1) (drop (3 + 128 * nb_in words) words) i 0 (omega arith) ∙ (get_or-drop (3 + 128 * nb_in words) words i 0
      ∙ (ap (slice_index words) e ∙ sym (get_or-drop 3 words (128 * nb_in words + i) 0)))

  pub layout_blocks : slice_index (layout_in words) 1 ≡ blocks_of (nb_in words) (drop 3 words)
  layout_blocks = let e : 128 * nb_in words + 0 ≡ 128 * nb_in words = omega arith in layout_word 0 (omega arith) ∙ ap (slice_index (drop 3 words)) e

  pub layout_told : (i : ℕ) → i < nb_in words → slice_index (layout_in words) (2 + i) ≡ slice_index (drop 3 words) (128 * nb_in words + 1 + i)
  layout_told i lt =
      let a : 2 + i ≡ suc (1 + i) = omega arith in
      let b : 128 * nb_in words + (1 + i) ≡ 128 * nb_in words + 1 + i = omega arith in
      ap (slice_index (layout_in words)) a ∙ (layout_word (1 + i) (omega arith) ∙ ap (slice_index (drop 3 words)) b)

  -- so its slots are those of the blocks
  pub slots_as : IsLaidOut (nb_in words) (drop 3 words) → slots_in words ≡ slots_all (nb_in words) (drop 3 words)
  slots_as laid =
      let layout : List ℕ = layout_in words in
      let first : length layout - 2 ≡ nb_in words = let l = layout_long in omega arith in
      ap (pieces (block_slots layout)) layout_blocks
      ∙ same_pieces (slots_by (nb_in words) (drop 3 words)) (block_slots layout) (blocks_of (nb_in words) (drop 3 words)) (λ i lt.
      let e = layout_told i (omega arith) in
      (λ j. i ∷ run (first j + 127 * (e j / 128 % 2048)) (e j % 128)))

module _ (words : List ℕ) (kinds : ℕ → Option Kind) (s : RowsShow words kinds) where
  abbrev nb : ℕ
  nb = nb_in words

  abbrev blocks : List ℕ
  blocks = drop 3 words

  slots_same : slots_in words ≡ slots_all nb blocks
  slots_same = slots_as words s.room s.laid

  -- there are as many rows as the row count says
  pub rows_many : length (rows_in words) ≡ slice_index words 2
  rows_many = length-rows_in nb blocks s.laid ∙ (sym (length-slots_in nb blocks) ∙ (sym (ap length slots_same) ∙ sym s.counted))

  -- and each stands in one slot
  pub slots_many : length (slots_in words) ≡ length (rows_in words)
  slots_many = sym s.counted ∙ sym rows_many

  -- a place of the slots
  place_in : (k slot : ℕ) → get_elem? (slots_in words) k ≡ some slot → (k < length (slots_all nb blocks)) × (slice_index (slots_all nb blocks) k ≡ slot)
  place_in k slot at =
      let in_blocks : get_elem? (slots_all nb blocks) k ≡ some slot = ap (λ (l : List ℕ). get_elem? l k) (sym slots_same) ∙ at in
      (below (slots_all nb blocks) k slot in_blocks, at_or (slots_all nb blocks) k slot 0 in_blocks)

  -- the row at a place is the word of the slot at that place
  pub rows_are : (k slot : ℕ) → get_elem? (slots_in words) k ≡ some slot → get_or (rows_in words) k 0 ≡ slice_index words (3 + slot)
  rows_are k slot at =
      let p = place_in k slot at in
      ap (λ (l : List ℕ). get_or l k 0) (sym (words_are nb blocks s.laid)) ∙ (get_or-map (slice_index blocks) (slots_all nb blocks) k 0 0 p.0
      ∙ (ap (slice_index blocks) p.1 ∙ get_or-drop 3 words slot 0))

  -- at two places there are different slots
  pub slots_apart : (j k slot : ℕ) → get_elem? (slots_in words) j ≡ some slot → get_elem? (slots_in words) k ≡ some slot → j ≡ k
  slots_apart j k slot one two = let a = place_in j slot one in let b = place_in k slot two in slots_differ nb blocks j k s.laid a.0 b.0 (a.1 ∙ sym b.1)

  -- a slot is one of the blocks, before the layout
  pub slot_in : (slot : ℕ) → IsSlot words slot → slot < 128 * nb_in words
  slot_in slot is =
      let p = place_in is.0 slot is.1 in
      let k = kth_slot nb blocks is.0 p.0 in
      subst (λ (n : ℕ). n < 128 * nb_in words) p.1 (slot_below nb blocks k.i k.j (slice_index (slots_all nb blocks) is.0) s.laid k.is)

  -- there is a word for the row of a slot
  pub slot_there : (slot : ℕ) → IsSlot words slot → 3 + slot < length words
  slot_there slot is = let b = slot_in slot is in omega arith

  -- and it is in reach of a caller of the space
  pub slot_reach : (start : List Area) (history : List Entry) (worker : ℕ) (pass : Pass) → IsPart start history words worker pass
      → (slot : ℕ) → IsSlot words slot → IsInReach pass.blocks slot
  slot_reach start history worker pass part slot is = let b = slot_in slot is in omega arith

  -- the first slot is 0
  pub first_slot : IsFirstOf (slots_in words) 0
  first_slot =
      let same = ap length slots_same in
      let at = there (slots_all nb blocks) 0 (omega arith) in
      let zero_is : slice_index (slots_all nb blocks) 0 ≡ 0 = (at_slot nb blocks 0 0 s.laid.some (omega arith)).head refl in
      ap (λ (l : List ℕ). get_elem? l 0) slots_same ∙ (at.1 ∙ ap some (sym (at_or (slots_all nb blocks) 0 at.0 0 at.1) ∙ zero_is))

  module _ (slot value : ℕ) (is : IsSlot words slot) where
    abbrev two : List ℕ
    two = set words (3 + slot) value

    low : 3 + slot + 17 < length words
    low = let b = slot_in slot is in omega arith

    -- a store in a slot leaves the layout
    pub slots_stay : layout_in (set words (3 + slot) value) ≡ layout_in words
    slots_stay = let b = slot_in slot is in layout_stays words (3 + slot) value (λ e. omega arith) (omega arith) low

    -- and sets the word of the blocks
    both_set : ◌≡◌ {A = ℕ × List ℕ} (nb_in two, drop 3 two) (nb, set blocks slot value)
    both_set i = (nb_stays words (3 + slot) value low i, drop-set-add 3 words slot value i)

    -- they stay laid out
    kept_laid : IsLaidOut nb (set blocks slot value)
    kept_laid =
        let p = place_in is.0 slot is.1 in
        let k = kth_slot nb blocks is.0 p.0 in
        subst (λ (n : ℕ). IsLaidOut nb (set blocks n value)) p.1 (laid_stored nb blocks k.i k.j (slice_index (slots_all nb blocks) is.0) value s.laid k.is)

    -- and their layout is as it was
    kept_told : (t : ℕ) → 128 * nb ≤ t → slice_index (set blocks slot value) t ≡ slice_index blocks t
    kept_told t le = let b = slot_in slot is in get_or-set_other blocks slot t value 0 (λ e. omega arith)

  -- a store in a slot sets the row of that slot alone, in the words behind the row count
  kept_rows : (k slot value : ℕ) → get_elem? (slots_in words) k ≡ some slot → rows_by nb (set blocks slot value) ≡ set (rows_in words) k value
  kept_rows k slot value at =
      let p = place_in k slot at in
      ap (λ (n : ℕ). rows_by nb (set blocks n value)) (sym p.1) ∙ stored nb blocks k value s.laid p.0

  -- and so in all words
  pub row_set : (k slot value : ℕ) → get_elem? (slots_in words) k ≡ some slot → rows_in (set words (3 + slot) value) ≡ set (rows_in words) k value
  row_set k slot value at = ap (λ (z : ℕ × List ℕ). rows_by z.0 z.1) (both_set slot value (k, at)) ∙ kept_rows k slot value at

  -- so the words show the kinds that the rows show then, and their body words tell the same gaps, where the same pages
  -- are free
  pub shows_set : (others : ℕ → Option Kind) (k slot value : ℕ) → get_elem? (slots_in words) k ≡ some slot
      → ((p : ℕ) → p < LIMIT → others p ≡ None → kinds p ≡ None) → ((p : ℕ) → p < LIMIT → kinds p ≡ None → others p ≡ None)
      → ShowFrom 0 (set (rows_in words) k value) others → IsBareGap value → RowsShow (set words (3 + slot) value) others
  shows_set others k slot value at stays_free stayed_free show bare =
      let is : IsSlot words slot = (k, at) in
      let stays : slice_index (set words (3 + slot) value) 2 ≡ slice_index words 2 = get_or-set_other words (3 + slot) 2 value 0 (λ e. omega arith) in
      let wide = length-set words (3 + slot) value in
      let same = nb_stays words (3 + slot) value (low slot value is) in
      let rows = row_set k slot value at in
      let back : ◌≡◌ {A = ℕ × List ℕ} (nb, set blocks slot value) (nb_in (set words (3 + slot) value), drop 3 (set words (3 + slot) value)) =
      sym (both_set slot value is) in
      let first : rows_of nb (set blocks slot value) 0 ≡ rows_of nb blocks 0 =
      ap (λ (n : ℕ). n % 128) (kept_told slot value is (128 * nb + 1 + 0) (omega arith)) in
      record {
        room = omega arith;
        some = omega arith;
        few = omega arith;
        show = subst (λ (l : List ℕ). ShowFrom 0 l others) (sym rows) show;
        gaps = subst (All IsBareGap) (sym rows) (All-set IsBareGap (rows_in words) k value bare s.gaps);
        laid = subst (λ (z : ℕ × List ℕ). IsLaidOut z.0 z.1) back (kept_laid slot value is);
        counted = stays ∙ (s.counted ∙ ap (λ (l : List ℕ). length (slots_of l)) (sym (slots_stay slot value is)));
        free = subst (λ (z : ℕ × List ℕ). blocks_of z.0 z.1 < z.0) back
            (subst (λ (n : ℕ). n < nb) (sym (kept_told slot value is (128 * nb) (omega arith))) s.free);
        short = subst (λ (z : ℕ × List ℕ). rows_of z.0 z.1 0 < 64) back (subst (λ (n : ℕ). n < 64) (sym first) s.short);
        told = subst (λ (z : ℕ × List ℕ). GapsTold z.0 z.1) back (told_freed _ s.laid (kept_told slot value is)
            (λ n lt. ap (λ (l : List ℕ). free_of l n) (kept_rows k slot value at)
            ∙ free_stays (rows_in words) kinds others k value s.show show stays_free stayed_free n lt) s.told);
      }

  -- words that show kinds show any others that their rows show
  pub shows_others : (others : ℕ → Option Kind) → ShowFrom 0 (rows_in words) others → RowsShow words others
  shows_others others show = record {
    room = s.room;
    some = s.some;
    few = s.few;
    show = show;
    gaps = s.gaps;
    laid = s.laid;
    counted = s.counted;
    free = s.free;
    short = s.short;
    told = s.told;
  }
