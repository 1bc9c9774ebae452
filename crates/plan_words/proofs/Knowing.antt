-- What a caller knows of the words of the blocks stands among the client words, word by word.
use Rattle.std.proofs.Common.{Bool, ◌≡◌, ℕ, zero, suc, ◌+◌, ◌-◌, ◌*◌, ◌<◌, cond, List, [], ◌∷◌, drop, length, get_or, set, length-set}
use Rattle.std.proofs.Common.{sym, refl, ap, ◌∙◌, subst, arith, inl, inr, ⊎_elim, eq-eqb, ne_eqb, length-append}
use Rattle.std.proofs.lemmas.Bool.{cases_lt}
use Rattle.std.proofs.lemmas.List.{get_or_append_left, get_or-append_right, get_or-drop, get_or-set_same, get_or-set_other, length-drop}
use Rattle.std.proofs.lemmas.Grind.{same_number_lists}
use Rattle.std.specs.Prelude.{Option, slice_index}
use mathlib.Core.Logic.{dite}
use native.Mathlib.Decide.{ℕ_discrete}
use Rattle.area_guard.specs.declared.guard.ReadRow.{ReadRow}
use Rattle.area_guard.specs.declared.guard.Pass.{Pass}
use Rattle.area_guard.specs.Rows.{nb_in, layout_in, slots_to}
use Rattle.area_guard.specs.Reads.{HasRead, word_of, words_of}
use Rattle.area_guard.specs.History.{StillLaid, HasBlocks}
use Rattle.area_guard.specs.Slots.{layout_word}
use Rattle.row_blocks.specs.Blocks.{run}
use Rattle.area_guard.specs.Reads.{layout_by, known_count, known_words, KnowsWords}

-- the word that was read last of a slot was read
pub last_read : (rows : List ReadRow) (slot word : ℕ) → HasRead rows slot word → HasRead rows slot (word_of rows slot)
last_read [] slot word h = absurd h
last_read (r ∷ rest) slot word h = dite (ℕ_discrete r.index slot) (λ is. inl (is, sym (ap (λ b. cond b r.word (word_of rest slot)) (eq-eqb r.index slot is))))
    (λ differ. inr (subst (HasRead rest slot) (sym (ap (λ b. cond b r.word (word_of rest slot)) (ne_eqb r.index slot differ)))
    (last_read rest slot word (⊎_elim (λ t. absurd (differ t.0)) (λ t. t) h))))

-- the words of slots from one on
run_many : (rows : List ReadRow) (from n : ℕ) → length (words_of rows (run from n)) ≡ n
unfolding words_of
run_many rows from zero = refl
run_many rows from (suc n) = ap suc (run_many rows (suc from) n)

run_word : (rows : List ReadRow) (from n k : ℕ) → k < n → get_or (words_of rows (run from n)) k 0 ≡ word_of rows (from + k)
unfolding words_of
run_word rows from zero k lt = absurd (omega arith)
run_word rows from (suc n) zero lt = let e : from ≡ from + 0 = omega arith in ap (word_of rows) e
run_word rows from (suc n) (suc k) lt = let e : suc from + k ≡ from + suc k = omega arith in run_word rows (suc from) n k (omega arith) ∙ ap (word_of rows) e

-- how many words a caller knows
pub known_long : {pass : Pass} → KnowsWords pass → length (known_words pass) ≡ 129 * pass.blocks + 1
known_long {pass} knows =
    let many = run_many pass.rows 0 (128 * pass.blocks) in
    let all = length-append (words_of pass.rows (slots_to pass.blocks)) (drop 1 (layout_by pass.laid)) in
    let rest = length-drop 1 (layout_by pass.laid) in
    let laid = ap (λ (l : Option (List ℕ)). length (layout_by l)) knows.laid in
    omega arith

module _ (words : List ℕ) (pass : Pass) {keeps : Bool} (room : HasBlocks words pass.blocks keeps) (knows : KnowsWords pass)
    (rows : (slot word : ℕ) → HasRead pass.rows slot word → slice_index words (3 + slot) ≡ word) (laid : StillLaid words pass.laid) where
  -- the layout that it knows is the one that stands there
  pub layout_is : layout_by pass.laid ≡ layout_in words
  layout_is = ap layout_by knows.laid ∙ sym (laid knows.layout knows.laid)

  -- each word that it knows stands there
  pub known_at : (t : ℕ) → t < 129 * pass.blocks + 1 → slice_index (known_words pass) t ≡ slice_index words (3 + t)
  known_at t lt =
      let all : List ℕ = words_of pass.rows (slots_to pass.blocks) in
      let rest : List ℕ = drop 1 (layout_by pass.laid) in
      let many = run_many pass.rows 0 (128 * pass.blocks) in
      elim (cases_lt t (128 * pass.blocks)) [
        | inl less ↦
            let r = knows.slots t less in
            let e : 0 + t ≡ t = omega arith in
            get_or_append_left all rest 0 t (omega arith) ∙ (run_word pass.rows 0 (128 * pass.blocks) t less
            ∙ (ap (word_of pass.rows) e ∙ sym (rows t (word_of pass.rows t) (last_read pass.rows t r.0 r.1))))
        | inr ge ↦
            let j : ℕ = t - 128 * pass.blocks in
            let up : 1 + j ≡ suc j = omega arith in
            let at : 3 + (128 * nb_in words + j) ≡ 3 + t = omega arith in
            get_or-append_right all rest (128 * pass.blocks) t 0 many (omega arith) ∙ (get_or-drop 1 (layout_by pass.laid) j 0
            ∙ (ap (λ (l : List ℕ). slice_index l (1 + j)) layout_is ∙ (ap (slice_index (layout_in words)) up ∙ (layout_word words room.1 j (omega arith)
            ∙ (get_or-drop 3 words (128 * nb_in words + j) 0 ∙ ap (slice_index words) at)))))
      ]

  -- so is the row count
  pub count_at : known_count pass ≡ slice_index words 2
  count_at = ap (λ (l : List ℕ). slice_index l 0) layout_is

-- what two passes know is the same where the same words stand there
pub same_known : {one two : Pass} → KnowsWords one → KnowsWords two → two.blocks ≡ one.blocks
    → ((t : ℕ) → t < 129 * one.blocks + 1 → slice_index (known_words two) t ≡ slice_index (known_words one) t) → known_words two ≡ known_words one
same_known {one} {two} knows_one knows_two blocks same =
    let a = known_long knows_one in
    let b = known_long knows_two in
    same_number_lists (known_words two) (known_words one) (omega arith) (λ k lt. same k (omega arith))

-- and one word has changed where one has
pub set_known : {one two : Pass} (place : ℕ) {value : ℕ} → KnowsWords one → KnowsWords two → two.blocks ≡ one.blocks → place < 129 * one.blocks + 1
    → slice_index (known_words two) place ≡ value
    → ((t : ℕ) → t < 129 * one.blocks + 1 → (t ≡ place → ⊥) → slice_index (known_words two) t ≡ slice_index (known_words one) t)
    → known_words two ≡ set (known_words one) place value
set_known {one} {two} place {value} knows_one knows_two blocks there here same =
    let a = known_long knows_one in
    let b = known_long knows_two in
    let c = length-set (known_words one) place value in
    same_number_lists (known_words two) (set (known_words one) place value) (omega arith) (λ k lt. dite (ℕ_discrete k place)
    (λ is. subst (λ (n : ℕ). slice_index (known_words two) n ≡ slice_index (set (known_words one) place value) n) (sym is)
    (here ∙ sym (get_or-set_same (known_words one) place value 0 (omega arith))))
    (λ differ. same k (omega arith) differ ∙ sym (get_or-set_other (known_words one) place k value 0 differ)))
