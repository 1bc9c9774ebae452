-- How many rows the first blocks have, and where the row of a place stands.
use Rattle.std.proofs.Common.{◌≡◌, ℕ, zero, suc, ◌+◌, ◌-◌, ◌<◌, ◌≤◌, List, length}
use Rattle.std.proofs.Common.{sym, refl, ap, subst, arith, inl, inr}
use Rattle.std.specs.Prelude.{slice_index, slice_set}
use Rattle.std.proofs.lemmas.Bool.{cases_lt}
use Rattle.row_blocks.specs.Blocks.{blocks_of, rows_of, slots_in, rows_in, count_to, rank, IsLaidOut}
use Rattle.row_blocks.proofs.Slots.{IsSlot, at_slot, stored, length-slots_in, length-rows_in}
use Rattle.row_blocks.proofs.Places.{within}

-- one block more
pub count_next : (nb : ℕ) (words : List ℕ) (i : ℕ) → count_to nb words (i + 1) ≡ count_to nb words i + (1 + rows_of nb words i)
count_next nb words i = let e : i + 1 ≡ suc i = omega arith in ap (count_to nb words) e

-- blocks with the same body words have as many rows
pub count_same : (nb : ℕ) (one two : List ℕ) (n : ℕ) → ((k : ℕ) → k < n → rows_of nb two k ≡ rows_of nb one k) → count_to nb two n ≡ count_to nb one n
count_same nb one two zero same = refl
count_same nb one two (suc n) same =
    let r = count_same nb one two n (λ k lt. same k (omega arith)) in let e = same n (omega arith) in omega arith

-- more blocks have more rows
pub count_up : (nb : ℕ) (words : List ℕ) (i n : ℕ) → i ≤ n → count_to nb words i ≤ count_to nb words n
count_up nb words i zero le = let e : i ≡ 0 = omega arith in subst (λ (m : ℕ). count_to nb words m ≤ 0) (sym e) (omega arith)
count_up nb words i (suc n) le = elim (cases_lt i (suc n)) [
  | inl lt ↦ let r = count_up nb words i n (omega arith) in omega arith
  | inr ge ↦ let e : i ≡ suc n = omega arith in subst (λ (m : ℕ). count_to nb words m ≤ count_to nb words (suc n)) (sym e) (omega arith)
]

-- where rows stand behind the first blocks, there is one more
pub block_there : {nb : ℕ} {words : List ℕ} (i : ℕ) → IsLaidOut nb words → i ≤ blocks_of nb words → count_to nb words i < length (rows_in nb words)
    → i < blocks_of nb words
block_there {nb} {words} i laid le more = let l = length-rows_in nb words laid in grind arith

-- and where a row stands behind one block
pub next_there : {nb : ℕ} {words : List ℕ} {b p : ℕ} → IsLaidOut nb words → b < blocks_of nb words → p ≤ rows_of nb words b + 1 → rows_of nb words b < p
    → rank nb words b p < length (rows_in nb words) → b + 1 < blocks_of nb words
next_there {nb} {words} {b} laid there place full more = let next = count_next nb words b in block_there (b + 1) laid (omega arith) (omega arith)

-- a row that is laid at a slot changes that row alone
pub set_there : {nb : ℕ} {words : List ℕ} {i j s : ℕ} (w : ℕ) → IsLaidOut nb words → IsSlot nb words i j s
    → rows_in nb (slice_set words s w) ≡ slice_set (rows_in nb words) (rank nb words i j) w
set_there {nb} {words} {i} {j} {s} w laid is =
    let k : ℕ = count_to nb words i + j in
    let q = at_slot nb words i j is.there is.below in
    let same : slice_index (slots_in nb words) k ≡ s = grind (arith, q.body, q.head, is.body, is.head) in
    let long = length-slots_in nb words in
    let rows = length-rows_in nb words laid in
    let lt = within nb words i laid is.there j is.below in
    subst (λ (t : ℕ). rows_in nb (slice_set words t w) ≡ slice_set (rows_in nb words) k w) same (stored nb words k w laid (omega arith))

-- where rows stand before a block, there is one before it
pub block_before : (nb : ℕ) (words : List ℕ) (i : ℕ) → 0 < count_to nb words i → 0 < i
block_before nb words zero some = some
block_before nb words (suc i) some = omega arith

-- all rows of it
pub count_back : (nb : ℕ) (words : List ℕ) (i : ℕ) → 0 < i → count_to nb words i ≡ count_to nb words (i - 1) + (1 + rows_of nb words (i - 1))
count_back nb words i some = let e : i ≡ suc (i - 1) = omega arith in ap (count_to nb words) e
