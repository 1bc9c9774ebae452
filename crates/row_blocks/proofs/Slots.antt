-- The slots in use: how many there are, which is the k-th, that all differ and lie below `128 * nb`, and that the rows
-- are the words that stand there.
use Rattle.std.proofs.Common.{◌≡◌, ℕ, zero, suc, ◌+◌, ◌*◌, ◌/◌, ◌%◌, ◌<◌, ◌≤◌, List, ◌∷◌, ◌++◌, length, get_or, take, drop}
use Rattle.std.proofs.Common.{sym, refl, ap, ◌∙◌, subst, arith}
use Rattle.std.specs.Prelude.{slice_index, map}
use Rattle.std.proofs.lemmas.List.{length-append, map-append, length-map, get_or-map, get_or-set_same, get_or-set_other, length-set}
use Rattle.std.proofs.lemmas.Grind.{same_number_lists}
use mathlib.Core.Logic.{dite}
use native.Mathlib.Decide.{ℕ_discrete}
use Rattle.std.specs.Prelude.{slice_set}
use Rattle.row_blocks.specs.Blocks.{pieces, run, blocks_of, rows_of, body_at, slots_of, block, slots_in, rows_in, count_to, IsLaidOut}
use Rattle.row_blocks.proofs.Pieces.{at_piece, stands_at, same_pieces}
use Rattle.row_blocks.proofs.Puts.{run_length, run_at, still_laid_out}

-- so many numbers, one behind the other
pub length-run : (from n : ℕ) → length (run from n) ≡ n
length-run from zero = refl
length-run from (suc n) = ap suc (length-run (suc from) n)

-- and the number at a place
pub at_run : (from n k : ℕ) → k < n → get_or (run from n) k 0 ≡ from + k
at_run from zero k lt = absurd (omega arith)
at_run from (suc n) zero lt = omega arith
at_run from (suc n) (suc k) lt = let r = at_run (suc from) n k (omega arith) in omega arith

-- so many slots as rows: one and those of the body for each block
slots_length : (nb : ℕ) (words : List ℕ) (n : ℕ) → length (pieces (slots_of nb words) n) ≡ count_to nb words n
slots_length nb words zero = refl
slots_length nb words (suc n) =
    let l = length-append (pieces (slots_of nb words) n) (slots_of nb words n) in
    let r = slots_length nb words n in
    let one = length-run (body_at nb words n) (rows_of nb words n) in
    omega arith

-- all of them together
pub length-slots_in : (nb : ℕ) (words : List ℕ) → length (slots_in nb words) ≡ count_to nb words (blocks_of nb words)
length-slots_in nb words = slots_length nb words (blocks_of nb words)

-- a family, one by one mapped, is mapped as a whole
map_pieces : (h : ℕ → ℕ) (f g : ℕ → List ℕ) (n : ℕ) → ((i : ℕ) → i < n → map h (f i) ≡ g i) → map h (pieces f n) ≡ pieces g n
map_pieces h f g zero same = refl
map_pieces h f g (suc n) same =
    let front = map_pieces h f g n (λ i lt. same i (omega arith)) in
    let here = same n (omega arith) in
    map-append h (pieces f n) (f n) ∙ (λ j. front j ++ here j)

map_run : (words : List ℕ) (at n : ℕ) → at + n ≤ length words → map (slice_index words) (run at n) ≡ take n (drop at words)
map_run words at n wide =
    let a = length-map (run at n) (slice_index words) in
    let b = length-run at n in
    let c = run_length words at n wide in
    same_number_lists (map (slice_index words) (run at n)) (take n (drop at words)) (omega arith) (λ k lt.
    get_or-map (slice_index words) (run at n) k 0 0 (omega arith)
    ∙ (ap (slice_index words) (at_run at n k (omega arith)) ∙ sym (run_at words at n k (omega arith))))

-- the rows are the words in the slots
pub rows_are : (nb : ℕ) (words : List ℕ) → IsLaidOut nb words → map (slice_index words) (slots_in nb words) ≡ rows_in nb words
rows_are nb words laid =
    map_pieces (slice_index words) (slots_of nb words) (block nb words) (blocks_of nb words) (λ i lt.
    let b = laid.bodies i (omega arith) in
    ap (λ (l : List ℕ). slice_index words i ∷ l) (map_run words (body_at nb words i) (rows_of nb words i) (omega arith)))

-- and as many rows
pub length-rows_in : (nb : ℕ) (words : List ℕ) → IsLaidOut nb words → length (rows_in nb words) ≡ count_to nb words (blocks_of nb words)
length-rows_in nb words laid = ap length (sym (rows_are nb words laid)) ∙ (length-map (slots_in nb words) (slice_index words) ∙ length-slots_in nb words)

-- where a slot is: the head of its block, or a place of its body
pub record IsSlot (nb : ℕ) (words : List ℕ) (i j s : ℕ) : Type 0 where
  pub there : i < blocks_of nb words
  pub below : j ≤ rows_of nb words i
  pub head : j ≡ 0 → s ≡ i
  pub body : 0 < j → s + 1 ≡ body_at nb words i + j

slot_at : {nb : ℕ} {words : List ℕ} {i : ℕ} (j : ℕ) → i < blocks_of nb words → j ≤ rows_of nb words i → IsSlot nb words i j (get_or (slots_of nb words i) j 0)
slot_at zero there below = record { there = there; below = below; head = λ e. refl; body = λ l. absurd (omega arith) }
slot_at {nb} {words} {i} (suc j) there below =
    let r = at_run (body_at nb words i) (rows_of nb words i) j (omega arith) in
    record { there = there; below = below; head = λ e. absurd (omega arith); body = λ l. omega arith }

-- the k-th slot
pub record KthSlot (nb : ℕ) (words : List ℕ) (k : ℕ) : Type 0 where
  pub i : ℕ
  pub j : ℕ
  pub is : IsSlot nb words i j (slice_index (slots_in nb words) k)
  pub at : k ≡ count_to nb words i + j

-- its block and its place there
pub kth_slot : (nb : ℕ) (words : List ℕ) (k : ℕ) → k < length (slots_in nb words) → KthSlot nb words k
kth_slot nb words k lt =
    let p = stands_at (blocks_of nb words) lt in
    let one = length-run (body_at nb words p.k) (rows_of nb words p.k) in
    let l = slots_length nb words p.k in
    record {
      i = p.k;
      j = p.j;
      is = subst (IsSlot nb words p.k p.j)
          (sym (ap (slice_index (slots_in nb words)) p.at ∙ at_piece (slots_of nb words) p.k (blocks_of nb words) p.j p.there p.below))
          (slot_at p.j p.there (omega arith));
      at = omega arith;
    }

-- all are below the block count's word
pub slot_below : (nb : ℕ) (words : List ℕ) (i j s : ℕ) → IsLaidOut nb words → IsSlot nb words i j s → s < 128 * nb
slot_below nb words i j s laid is = let b = laid.bodies i (omega arith) in grind arith

-- and differ: one slot is one place of one block
pub one_place : {nb : ℕ} {words : List ℕ} {i j k l s : ℕ} → IsLaidOut nb words → IsSlot nb words i j s → IsSlot nb words k l s → (i ≡ k) × (j ≡ l)
one_place {nb} {words} {i} {j} {k} {l} laid one two =
    let p = laid.bodies i (omega arith) in let q = laid.bodies k (omega arith) in
    grind (arith, laid.apart i k)

-- so all slots differ
pub slots_differ : (nb : ℕ) (words : List ℕ) (k l : ℕ) → IsLaidOut nb words → k < length (slots_in nb words) → l < length (slots_in nb words)
    → slice_index (slots_in nb words) k ≡ slice_index (slots_in nb words) l → k ≡ l
slots_differ nb words k l laid a b e =
    let one = kth_slot nb words k a in
    let two = kth_slot nb words l b in
    let p = one_place laid one.is (subst (IsSlot nb words two.i two.j) (sym e) two.is) in
    let i : one.i ≡ two.i = p.0 in
    let c : count_to nb words one.i ≡ count_to nb words two.i = ap (count_to nb words) i in
    omega arith

-- a word that is stored in one of many slots that differ is stored over one of their words
map_set : (words slots : List ℕ) (k w : ℕ) → k < length slots → slice_index slots k < length words
    → ((m : ℕ) → m < length slots → slice_index slots m ≡ slice_index slots k → m ≡ k)
    → map (slice_index (slice_set words (slice_index slots k) w)) slots ≡ slice_set (map (slice_index words) slots) k w
map_set words slots k w lt wide apart =
    let two : List ℕ = slice_set words (slice_index slots k) w in
    let rows : List ℕ = map (slice_index words) slots in
    let a = length-map slots (slice_index two) in
    let b = length-map slots (slice_index words) in
    let c = length-set rows k w in
    same_number_lists (map (slice_index two) slots) (slice_set rows k w) (omega arith) (λ m l. get_or-map (slice_index two) slots m 0 0 (omega arith)
    ∙ dite (ℕ_discrete m k) (λ same. subst (λ (n : ℕ). slice_index two (slice_index slots n) ≡ get_or (slice_set rows k w) n 0) (sym same)
    (get_or-set_same words (slice_index slots k) w 0 wide ∙ sym (get_or-set_same rows k w 0 (omega arith))))
    (λ differ. get_or-set_other words (slice_index slots k) (slice_index slots m) w 0 (λ e. differ (apart m (omega arith) e))
    ∙ (sym (get_or-map (slice_index words) slots m 0 0 (omega arith)) ∙ sym (get_or-set_other rows k m w 0 differ))))

module _ (nb : ℕ) (words : List ℕ) (i j s w : ℕ) (laid : IsLaidOut nb words) (is : IsSlot nb words i j s) where
  -- a store in a slot leaves the layout
  pub layout_stays : (t : ℕ) → 128 * nb ≤ t → slice_index (slice_set words s w) t ≡ slice_index words t
  layout_stays t le = let b = slot_below nb words i j s laid is in get_or-set_other words s t w 0 (λ e. omega arith)

  -- the words are laid out
  pub laid_stored : IsLaidOut nb (slice_set words s w)
  laid_stored = still_laid_out laid (length-set words s w) (layout_stays (128 * nb) (omega arith))
      (λ k lt. ap (λ (x : ℕ). x / 128 % 2048) (layout_stays (128 * nb + 1 + k) (omega arith)))

  -- and the slots are the same
  pub slots_stay : slots_in nb (slice_set words s w) ≡ slots_in nb words
  slots_stay =
      let count = layout_stays (128 * nb) (omega arith) in
      ap (pieces (slots_of nb (slice_set words s w))) count ∙ same_pieces (slots_of nb words) (slots_of nb (slice_set words s w)) (blocks_of nb words) (λ k lt.
      let e = layout_stays (128 * nb + 1 + k) (omega arith) in
      ap (λ (x : ℕ). k ∷ run (nb + 127 * (x / 128 % 2048)) (x % 128)) e)

-- a store in a slot changes one row
pub stored : (nb : ℕ) (words : List ℕ) (k w : ℕ) → IsLaidOut nb words → k < length (slots_in nb words)
    → rows_in nb (slice_set words (slice_index (slots_in nb words) k) w) ≡ slice_set (rows_in nb words) k w
stored nb words k w laid lt =
    let slots : List ℕ = slots_in nb words in
    let s : ℕ = slice_index slots k in
    let two : List ℕ = slice_set words s w in
    let at = kth_slot nb words k lt in
    let below = slot_below nb words at.i at.j s laid at.is in
    let after : IsLaidOut nb two = laid_stored nb words at.i at.j s w laid at.is in
    sym (rows_are nb two after) ∙ (ap (map (slice_index two)) (slots_stay nb words at.i at.j s w laid at.is)
    ∙ (map_set words slots k w lt (omega arith) (λ m l e. slots_differ nb words m k laid l lt e)
    ∙ ap (λ (x : List ℕ). slice_set x k w) (rows_are nb words laid)))

-- place j of block i is the slot behind those of the blocks before and of the places before
pub at_slot : (nb : ℕ) (words : List ℕ) (i j : ℕ) → i < blocks_of nb words → j ≤ rows_of nb words i
    → IsSlot nb words i j (slice_index (slots_in nb words) (count_to nb words i + j))
at_slot nb words i j there below =
    let l = slots_length nb words i in
    let one = length-run (body_at nb words i) (rows_of nb words i) in
    let at : count_to nb words i + j ≡ length (pieces (slots_of nb words) i) + j = omega arith in
    subst (IsSlot nb words i j) (sym (ap (slice_index (slots_in nb words)) at ∙ at_piece (slots_of nb words) i (blocks_of nb words) j there (omega arith)))
    (slot_at j there below)
