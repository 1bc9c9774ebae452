-- Rows that are laid over others, one at a time, while the layout stands as it stood.
use Rattle.std.proofs.Common.{◌≡◌, ℕ, ◌+◌, ◌*◌, ◌/◌, ◌%◌, ◌<◌, ◌≤◌, List, length, get_or, take}
use Rattle.std.proofs.Common.{sym, ap, ◌∙◌, subst, arith}
use Rattle.std.specs.Prelude.{slice_index, slice_set}
use Rattle.std.specs.List.{splice}
use Rattle.row_blocks.specs.Blocks.{blocks_of, body_at, rows_of, rows_in, count_to, rank, IsLaidOut}
use Rattle.row_blocks.proofs.RowSplices.{lays_on, splice_none}
use Rattle.row_blocks.proofs.Slots.{length-rows_in}
use Rattle.row_blocks.proofs.Counts.{count_same}

-- the layout stands as it stood
pub record SameLayout (nb : ℕ) (one two : List ℕ) : Type 0 where
  pub count : blocks_of nb two ≡ blocks_of nb one
  pub rows : (i : ℕ) → rows_of nb two i ≡ rows_of nb one i
  pub body : (i : ℕ) → body_at nb two i ≡ body_at nb one i
  pub before : (i : ℕ) → count_to nb two i ≡ count_to nb one i

pub same_layout : {nb : ℕ} {one two : List ℕ} → ((t : ℕ) → 128 * nb ≤ t → slice_index two t ≡ slice_index one t) → SameLayout nb one two
same_layout {nb} {one} {two} same =
    let rows : (i : ℕ) → rows_of nb two i ≡ rows_of nb one i = λ (i : ℕ). ap (λ (x : ℕ). x % 128) (same (128 * nb + 1 + i) (omega arith)) in
    record {
      count = same (128 * nb) (omega arith);
      rows = rows;
      body = λ i. ap (λ (x : ℕ). nb + 127 * (x / 128 % 2048)) (same (128 * nb + 1 + i) (omega arith));
      before = λ i. count_same nb one two i (λ k lt. rows k);
    }

-- nothing is laid yet
pub lays_none : (nb : ℕ) (one more : List ℕ) (r : ℕ) → rows_in nb one ≡ splice (rows_in nb one) r (r + 0) (take 0 more)
lays_none nb one more r =
    let e : r ≡ r + 0 = omega arith in
    subst (λ (q : ℕ). rows_in nb one ≡ splice (rows_in nb one) r q (take 0 more)) e (sym (splice_none (rows_in nb one) r))

-- one row more
pub laid_more : (nb : ℕ) (one two three more : List ℕ) (r k : ℕ) {at w : ℕ} → r + k < length (rows_in nb one) → k < length more
    → rows_in nb two ≡ splice (rows_in nb one) r (r + k) (take k more) → rows_in nb three ≡ slice_set (rows_in nb two) at w → at ≡ r + k → w ≡ get_or more k 0
    → rows_in nb three ≡ splice (rows_in nb one) r (r + (k + 1)) (take (k + 1) more)
laid_more nb one two three more r k there some was laid place word =
    laid ∙ ((λ j. slice_set (was j) (place j) (word j)) ∙ lays_on (rows_in nb one) more r k there some)

-- there are as many rows
pub rows_long : {nb : ℕ} {one two : List ℕ} → IsLaidOut nb one → IsLaidOut nb two → SameLayout nb one two → length (rows_in nb two) ≡ length (rows_in nb one)
rows_long {nb} {one} {two} laid after same =
    length-rows_in nb two after ∙ (ap (count_to nb two) same.count ∙ (same.before (blocks_of nb one) ∙ sym (length-rows_in nb one laid)))

-- a place behind so many rows, and what the body word of its block tells
pub record IsSpot (nb : ℕ) (words : List ℕ) (b p at rows r : ℕ) : Type 0 where
  pub there : b < blocks_of nb words
  pub place : p ≤ rows_of nb words b + 1
  pub body : at ≡ body_at nb words b
  pub count : rows ≡ rows_of nb words b
  pub rank : rank nb words b p ≡ r

-- it is one while the layout stands as it stood
pub spot_now : {nb : ℕ} {one two : List ℕ} {b p at rows r : ℕ} → SameLayout nb one two → IsSpot nb one b p at rows r → IsSpot nb two b p at rows r
spot_now {b} {p} same spot = grind (arith, same.rows b, same.body b, same.before b)

-- and behind one more row the next place is one
pub spot_on : {nb : ℕ} {one two : List ℕ} {b : ℕ} (p : ℕ) {at rows : ℕ} (r k : ℕ) → SameLayout nb one two → b < blocks_of nb two → p ≤ rows_of nb two b
    → at ≡ body_at nb two b → rows ≡ rows_of nb two b → rank nb two b p ≡ r + k → IsSpot nb one b (p + 1) at rows (r + (k + 1))
spot_on {nb} {one} {b} p r k same there place body count here = grind (arith, same.rows b, same.body b, same.before b)

-- a row stands there while fewer are laid than there are
pub spot_below : {nb : ℕ} {one two : List ℕ} {b p at rows : ℕ} (r k n : ℕ) → IsLaidOut nb one → IsLaidOut nb two → SameLayout nb one two
    → IsSpot nb two b p at rows (r + k) → k < n → r + n ≤ length (rows_in nb one) → rank nb two b p < length (rows_in nb two)
spot_below r k n laid after same spot less fits = let long = rows_long laid after same in omega arith

-- a row more is one of them
pub next_below : (r k n m : ℕ) → k < n → r + n ≤ m → r + k < m
next_below r k n m less fits = omega arith

-- the steps of one row: at most two, and one where a block is passed
pub lay_steps : (start now gone laid from spot to k : ℕ) → now + from ≤ start + (2 * k + spot) → gone + spot ≤ now + to → laid ≤ gone + 2
    → laid + from ≤ start + (2 * (k + 1) + to)
lay_steps start now gone laid from spot to k so_far go step = omega arith
