-- The slots by a layout: the slot of a place of a block is one of them, behind a place comes the next one of its block
-- or the head of the next block, and behind the last place of the last block none.
use Rattle.std.proofs.Common.{◌≡◌, ℕ, zero, suc, ◌+◌, ◌-◌, ◌*◌, ◌/◌, ◌%◌, ◌<◌, ◌≤◌, List, length, get_or, sym, ap, ◌∙◌, subst, arith, Bool, false, ne_eqb, inl}
use Rattle.std.proofs.Common.{inr}
use Rattle.std.proofs.lemmas.List.{length-append}
use Rattle.std.proofs.lemmas.Bool.{cases_lt}
use Rattle.std.specs.Prelude.{◌==◌, if◌then◌else◌, Some, None, slice_index}
use mathlib.Core.Option.{some}
use lib.ListN.{get_elem?}
use Rattle.lock_core.proofs.ByPlace.{there, at_or}
use Rattle.row_blocks.specs.Blocks.{pieces}
use Rattle.row_blocks.proofs.Pieces.{at_piece, piece_ends}
use Rattle.row_blocks.proofs.Slots.{length-run, at_run}
use Rattle.area_guard.specs.Rows.{block_slots, slots_of, slot_at, IsOneOf, AreNeighbours, IsLastOf, IsNextOf, IsPreviousOf}

-- the row of that number is at that place of that block
pub head_slot : (layout : List ℕ) (i : ℕ) → slot_at layout (128 * i) ≡ i
head_slot layout i =
    let place : (128 * i) % 128 ≡ 0 = omega arith in
    let block : 128 * i / 128 ≡ i = omega arith in
    (λ k. if place k == 0 then block k else (length layout - 2 + 127 * (slice_index layout (2 + block k) / 128 % 2048) + place k - 1))

-- and behind the head so many words behind the beginning of the body
pub body_slot : (layout : List ℕ) (i m : ℕ) → m < 127
    → slot_at layout (128 * i + (m + 1)) ≡ length layout - 2 + 127 * (slice_index layout (2 + i) / 128 % 2048) + m
body_slot layout i m lt =
    let n : ℕ = 128 * i + (m + 1) in
    let place : (128 * i + (m + 1)) % 128 ≡ m + 1 = omega arith in
    let block : (128 * i + (m + 1)) / 128 ≡ i = omega arith in
    let body : slice_index layout (2 + n / 128) ≡ slice_index layout (2 + i) = ap (λ (k : ℕ). slice_index layout (2 + k)) block in
    let behind : (n % 128 == 0) ≡ false = ne_eqb (n % 128) 0 (λ e. absurd (omega arith)) in
    let far : ℕ = length layout - 2 + 127 * (slice_index layout (2 + n / 128) / 128 % 2048) + n % 128 - 1 in
    let same : far ≡ length layout - 2 + 127 * (slice_index layout (2 + i) / 128 % 2048) + m = omega arith in
    ap (λ (b : Bool). if b then n / 128 else far) behind ∙ same

-- how many rows a block has behind its head, by a layout
abbrev pub rows_by : List ℕ → ℕ → ℕ
rows_by layout i = slice_index layout (2 + i) % 128

block_long : (layout : List ℕ) (i : ℕ) → length (block_slots layout i) ≡ suc (rows_by layout i)
block_long layout i = ap suc (length-run (length layout - 2 + 127 * (slice_index layout (2 + i) / 128 % 2048)) (rows_by layout i))

block_at : (layout : List ℕ) (i j : ℕ) → j ≤ rows_by layout i → get_or (block_slots layout i) j 0 ≡ slot_at layout (128 * i + j)
block_at layout i zero le = let e : 128 * i ≡ 128 * i + 0 = omega arith in sym (head_slot layout i) ∙ ap (slot_at layout) e
block_at layout i (suc m) le =
    let e : 128 * i + (m + 1) ≡ 128 * i + suc m = omega arith in
    at_run (length layout - 2 + 127 * (slice_index layout (2 + i) / 128 % 2048)) (rows_by layout i) m (omega arith)
    ∙ (sym (body_slot layout i m (omega arith)) ∙ ap (slot_at layout) e)

module _ (layout : List ℕ) (i j : ℕ) (in_use : i < slice_index layout 1) (le : j ≤ rows_by layout i) where
  -- how many slots stand before a place
  abbrev pub before : ℕ
  before = length (pieces (block_slots layout) i) + j

  -- the slot of a place stands there
  pub slot_here : get_elem? (slots_of layout) (length (pieces (block_slots layout) i) + j) ≡ some (slot_at layout (128 * i + j))
  slot_here =
      let long = block_long layout i in
      let ends = piece_ends (block_slots layout) i (slice_index layout 1) in_use in
      let at = there (slots_of layout) (length (pieces (block_slots layout) i) + j) (omega arith) in
      at.1 ∙ ap some (sym (at_or (slots_of layout) (length (pieces (block_slots layout) i) + j) at.0 0 at.1)
      ∙ (at_piece (block_slots layout) i (slice_index layout 1) j in_use (omega arith) ∙ block_at layout i j le))

  -- so it is one of the slots
  pub slot_of_place : IsOneOf (slots_of layout) (slot_at layout (128 * i + j))
  slot_of_place = (length (pieces (block_slots layout) i) + j, slot_here)

-- behind a place comes the next one of its block
pub next_in_block : (layout : List ℕ) (i j : ℕ) → i < slice_index layout 1 → j + 1 ≤ rows_by layout i
    → AreNeighbours (slots_of layout) (slot_at layout (128 * i + j)) (slot_at layout (128 * i + (j + 1)))
next_in_block layout i j in_use le =
    let n : ℕ = length (pieces (block_slots layout) i) in
    let e : n + (j + 1) ≡ n + j + 1 = omega arith in (
      n + j,
      slot_here layout i j in_use (omega arith),
      subst (λ (k : ℕ). get_elem? (slots_of layout) k ≡ some (slot_at layout (128 * i + (j + 1)))) e (slot_here layout i (j + 1) in_use le),
    )

-- and behind the last one of a block the head of the next
pub next_head : (layout : List ℕ) (i : ℕ) → i + 1 < slice_index layout 1 → AreNeighbours (slots_of layout) (slot_at layout (128 * i + rows_by layout i)) (i + 1)
next_head layout i in_use =
    let n : ℕ = length (pieces (block_slots layout) i) in
    let long = block_long layout i in
    let l = length-append (pieces (block_slots layout) i) (block_slots layout i) in
    let e : length (pieces (block_slots layout) (suc i)) + 0 ≡ n + rows_by layout i + 1 = omega arith in
    let up : suc i ≡ i + 1 = omega arith in
    let at : 128 * suc i + 0 ≡ 128 * suc i = omega arith in
    let head : slot_at layout (128 * suc i + 0) ≡ i + 1 = ap (slot_at layout) at ∙ (head_slot layout (suc i) ∙ up) in (
      n + rows_by layout i,
      slot_here layout i (rows_by layout i) (omega arith) (omega arith),
      subst (λ (k : ℕ). get_elem? (slots_of layout) k ≡ some (i + 1)) e (slot_here layout (suc i) 0 (omega arith) (omega arith) ∙ ap some head),
    )

-- and behind the last one of the last block none
pub last_place : (layout : List ℕ) (i : ℕ) → i + 1 ≡ slice_index layout 1 → IsLastOf (slots_of layout) (slot_at layout (128 * i + rows_by layout i))
last_place layout i last =
    let n : ℕ = length (pieces (block_slots layout) i) in
    let long = block_long layout i in
    let l = length-append (pieces (block_slots layout) i) (block_slots layout i) in
    let up : suc i ≡ slice_index layout 1 = omega arith in
    let all : length (pieces (block_slots layout) (suc i)) ≡ length (slots_of layout) = ap (λ (k : ℕ). length (pieces (block_slots layout) k)) up in
    (n + rows_by layout i, slot_here layout i (rows_by layout i) (omega arith) (omega arith), omega arith)

-- the slot of a place of a block, from its body word
pub place_slot : (layout : List ℕ) (nb i j : ℕ) {told : ℕ} (slot : ℕ) → length layout ≡ nb + 2 → slice_index layout (2 + i) ≡ told → j < 128
    → (j ≡ 0 → slot ≡ i) → (0 < j → slot + 1 ≡ nb + 127 * (told / 128 % 2048) + j) → slot_at layout (128 * i + j) ≡ slot
place_slot layout nb i j slot long is low head body = elim (cases_lt 0 j) [
  | inl some_place ↦
      let up : 128 * i + (j - 1 + 1) ≡ 128 * i + j = omega arith in
      let at = body_slot layout i (j - 1) (omega arith) in
      let block = ap (λ (x : ℕ). x / 128 % 2048) is in
      let e = body some_place in
      sym (ap (slot_at layout) up) ∙ (at ∙ omega arith)
  | inr none ↦
      let first : j ≡ 0 = omega arith in
      let at : 128 * i + j ≡ 128 * i = omega arith in
      ap (slot_at layout) at ∙ (head_slot layout i ∙ sym (head first))
]

module _ (layout : List ℕ) (i j : ℕ) (in_use : i < slice_index layout 1) where
  -- before a place of a block comes the place before it
  pub place_before : {slot : ℕ} → 0 < j → j ≤ rows_by layout i → slot_at layout (128 * i + (j - 1)) ≡ slot
      → IsPreviousOf (slots_of layout) (slot_at layout (128 * i + j)) (Some slot)
  place_before some_place le is =
      let up : 128 * i + (j - 1 + 1) ≡ 128 * i + j = omega arith in
      subst (λ (z : ℕ × ℕ). AreNeighbours (slots_of layout) z.0 z.1) (λ k. (is k, ap (slot_at layout) up k))
      (next_in_block layout i (j - 1) in_use (omega arith))

  -- before a head the last place of the block before
  pub block_before : {slot : ℕ} → 0 < i → j ≡ 0 → slot_at layout (128 * (i - 1) + rows_by layout (i - 1)) ≡ slot
      → IsPreviousOf (slots_of layout) (slot_at layout (128 * i + j)) (Some slot)
  block_before more head is =
      let up : i - 1 + 1 ≡ i = omega arith in
      let at : 128 * i ≡ 128 * i + j = omega arith in
      let own : i - 1 + 1 ≡ slot_at layout (128 * i + j) = up ∙ (sym (head_slot layout i) ∙ ap (slot_at layout) at) in
      subst (λ (z : ℕ × ℕ). AreNeighbours (slots_of layout) z.0 z.1) (λ k. (is k, own k)) (next_head layout (i - 1) (omega arith))

  -- and before the first head none
  pub none_before : i ≡ 0 → j ≡ 0 → IsPreviousOf (slots_of layout) (slot_at layout (128 * i + j)) None
  none_before first head =
      let some_block : 0 < slice_index layout 1 = omega arith in
      let at : 128 * 0 + 0 ≡ 128 * i + j = omega arith in
      slot_here layout 0 0 some_block (omega arith) ∙ ap (λ (n : ℕ). some (slot_at layout n)) at

  -- behind a place of a block comes the next place
  pub place_behind : {slot : ℕ} → j < rows_by layout i → slot_at layout (128 * i + (j + 1)) ≡ slot
      → IsNextOf (slots_of layout) (slot_at layout (128 * i + j)) (Some slot)
  place_behind lt is = subst (λ (n : ℕ). AreNeighbours (slots_of layout) (slot_at layout (128 * i + j)) n) is (next_in_block layout i j in_use (omega arith))

  -- behind the last one the next head
  pub block_behind : j ≡ rows_by layout i → i + 1 < slice_index layout 1 → IsNextOf (slots_of layout) (slot_at layout (128 * i + j)) (Some (i + 1))
  block_behind last more = subst (λ (n : ℕ). AreNeighbours (slots_of layout) (slot_at layout (128 * i + n)) (i + 1)) (sym last) (next_head layout i more)

  -- and behind the last one of the last block none
  pub none_behind : j ≡ rows_by layout i → i + 1 ≡ slice_index layout 1 → IsNextOf (slots_of layout) (slot_at layout (128 * i + j)) None
  none_behind last end = subst (λ (n : ℕ). IsLastOf (slots_of layout) (slot_at layout (128 * i + n))) (sym last) (last_place layout i end)

-- a place behind the head is a slot
pub body_there : (layout : List ℕ) (nb i : ℕ) {told : ℕ} (from place : ℕ) → length layout ≡ nb + 2 → slice_index layout (2 + i) ≡ told
    → i < slice_index layout 1 → 0 < place → place ≤ told % 128 → from + 1 ≡ nb + 127 * (told / 128 % 2048) → IsOneOf (slots_of layout) (from + place)
body_there layout nb i from place long is in_use some_place le begins =
    let rows = ap (λ (x : ℕ). x % 128) is in
    let slot : slot_at layout (128 * i + place) ≡ from + place =
    place_slot layout nb i place (from + place) long is (omega arith) (λ none. absurd (omega arith)) (λ some_more. omega arith) in
    subst (IsOneOf (slots_of layout)) slot (slot_of_place layout i place in_use (omega arith))
