-- What blocks beside a change tell of their gaps, which are as they were; and words that are the same but for these.
use Rattle.std.proofs.Common.{◌≡◌, ℕ, zero, suc, ◌+◌, ◌-◌, ◌*◌, ◌/◌, ◌%◌, ◌<◌, ◌≤◌, ◌⊎◌, List, length, max, min, sym, refl, ap, ◌∙◌, subst, arith, inl, inr}
use Rattle.std.proofs.lemmas.Bool.{cases_lt}
use Rattle.std.specs.Prelude.{slice_index}
use Rattle.std.specs.List.{splice}
use mathlib.Core.Logic.{dite}
use native.Mathlib.Decide.{ℕ_discrete}
use Rattle.row_plans.specs.Gaps.{free_of}
use Rattle.row_blocks.specs.Blocks.{pieces, blocks_of, body_of, rows_of, body_at, block, rows_in, count_to, told, IsLaidOut}
use Rattle.row_blocks.specs.Gaps.{gap_of, IsLargestGap, TellsGap, GapsTold, GapsBut, IsBeside, IsSameButGaps}
use Rattle.row_blocks.proofs.Pieces.{same_pieces}
use Rattle.row_blocks.proofs.Puts.{same_runs, still_laid_out}
use Rattle.row_blocks.proofs.Slots.{length-rows_in}
use Rattle.row_blocks.proofs.Counts.{count_next, count_same, count_up}
use Rattle.row_blocks.proofs.Cuts.{count_told}
use Rattle.row_blocks.proofs.RowSplices.{length-splice}
use Rattle.row_blocks.proofs.Lays.{SameLayout}
use Rattle.row_blocks.proofs.GapRows.{largest_moved, largest_both, free_before, free_behind}

-- a body word that tells the same tells the same number of rows, the same body and the same gap
same_rows : (nb : ℕ) (one two : List ℕ) (k j : ℕ) → told nb two k ≡ told nb one j → rows_of nb two k ≡ rows_of nb one j
same_rows nb one two k j same = ap (λ (x : ℕ). x % 128) same

-- nothing has changed in the layout
pub beside_none : {nb : ℕ} {one two : List ℕ} (first end last : ℕ) → blocks_of nb two ≡ blocks_of nb one → ((k : ℕ) → told nb two k ≡ told nb one k)
    → last ≤ count_to nb two end → IsBeside nb one two first end last
beside_none {nb} {one} {two} first end last count same until = record {
  before = λ k lt. same k;
  behind = λ k le lt. let e : k ≡ k + blocks_of nb one - blocks_of nb two = omega arith in same k ∙ ap (told nb one) e;
  enough = omega arith;
  until = until;
}

-- one block alone has changed
pub beside_one : {nb : ℕ} {one two : List ℕ} (i end last : ℕ) → blocks_of nb two ≤ nb → blocks_of nb two ≡ blocks_of nb one → i < end
    → ((k : ℕ) → k < nb → (k ≡ i → ⊥) → told nb two k ≡ told nb one k) → i ≤ nb → last ≤ count_to nb two end → IsBeside nb one two i end last
beside_one {nb} {one} {two} i end last spare count above others few until = record {
  before = λ k lt. others k (omega arith) (λ e. omega arith);
  behind = λ k le lt. let e : k ≡ k + blocks_of nb one - blocks_of nb two = omega arith in others k (omega arith) (λ d. omega arith) ∙ ap (told nb one) e;
  enough = omega arith;
  until = until;
}

-- one change after another
pub beside_on : {nb : ℕ} {one two three : List ℕ} {first end last from to : ℕ} (last_now f e : ℕ) → f ≤ first → f ≤ from → to ≤ e
    → end + blocks_of nb three ≤ e + blocks_of nb two → last_now ≤ count_to nb three e
    → IsBeside nb one two first end last → ((k : ℕ) → k < from → told nb three k ≡ told nb two k)
    → ((k : ℕ) → to ≤ k → k < blocks_of nb three → told nb three k ≡ told nb two (k + blocks_of nb two - blocks_of nb three))
    → IsBeside nb one three f e last_now
beside_on {nb} {one} {two} {three} last_now f e low lower high further until b before behind = record {
  before = λ k lt. before k (omega arith) ∙ b.before k (omega arith);
  behind = λ k le lt.
      let enough = b.enough in
      let j : ℕ = k + blocks_of nb two - blocks_of nb three in
      let same : j + blocks_of nb one - blocks_of nb two ≡ k + blocks_of nb one - blocks_of nb three = omega arith in
      behind k (omega arith) lt ∙ (b.behind j (omega arith) (omega arith) ∙ ap (told nb one) same);
  enough = let enough = b.enough in omega arith;
  until = until;
}

-- the same with the blocks behind counted from a later one on
pub beside_wide : {nb : ℕ} {one two : List ℕ} {first end last : ℕ} (e last_now : ℕ) → end ≤ e → last_now ≤ count_to nb two e
    → IsBeside nb one two first end last → IsBeside nb one two first e last_now
beside_wide e last_now le until b =
    let enough = b.enough in record { before = b.before; behind = λ k low lt. b.behind k (omega arith) lt; enough = omega arith; until = until }

-- a block was split
pub split_beside : {nb : ℕ} {one two : List ℕ} (i : ℕ) → blocks_of nb two ≡ blocks_of nb one + 1 → ((k : ℕ) → k < i → told nb two k ≡ told nb one k)
    → ((k : ℕ) → i < k → k < blocks_of nb one → told nb two (k + 1) ≡ told nb one k)
    → IsBeside nb one two i (i + 1 + (blocks_of nb two - blocks_of nb one)) 0
split_beside {nb} {one} {two} i count before behind = record {
  before = before;
  behind = λ k le lt.
      let j : ℕ = k + blocks_of nb one - blocks_of nb two in
      let e : k ≡ j + 1 = omega arith in
      ap (told nb two) e ∙ behind j (omega arith) (omega arith);
  enough = omega arith;
  until = omega arith;
}

-- rows came into one of two blocks
pub come_beside : {nb : ℕ} {one two three : List ℕ} {at : ℕ} (b place m number : ℕ) → blocks_of nb two ≤ nb → at ≤ b
    → b ≤ at + (blocks_of nb two - blocks_of nb one) → b < blocks_of nb two → blocks_of nb three ≡ blocks_of nb two
    → ((k : ℕ) → k < nb → (k ≡ b → ⊥) → told nb three k ≡ told nb two k) → rows_of nb three b ≡ rows_of nb two b + m → place ≤ rows_of nb two b + 1
    → count_to nb two b + place ≡ number → IsBeside nb one two at (at + 1 + (blocks_of nb two - blocks_of nb one)) 0
    → IsBeside nb one three at (at + 1 + (blocks_of nb three - blocks_of nb one)) (number + m)
come_beside {nb} {one} {two} {three} {at} b place m number spare low high there count others grown within here beside =
    let before = count_told nb two three b (λ k lt. others k (omega arith) (λ e. omega arith)) in
    let next = count_next nb three b in
    let up = count_up nb three (b + 1) (at + 1 + (blocks_of nb three - blocks_of nb one)) (omega arith) in
    beside_on {from = b} {to = b + 1} (number + m) at (at + 1 + (blocks_of nb three - blocks_of nb one)) (omega arith) low (omega arith) (omega arith)
    (omega arith) beside (λ k lt. others k (omega arith) (λ e. omega arith))
    (λ k le lt.
    let e : k ≡ k + blocks_of nb two - blocks_of nb three = omega arith in
    others k (omega arith) (λ d. omega arith) ∙ ap (told nb two) e)

-- rows went from the beginning of a block on, of which some are left
pub left_beside : {nb : ℕ} {one two : List ℕ} (first gone : ℕ) {result : ℕ} → result ≡ first → blocks_of nb one ≤ nb → blocks_of nb two ≡ blocks_of nb one
    → ((k : ℕ) → k < result → told nb two k ≡ told nb one k) → ((k : ℕ) → result < k → k < nb → told nb two k ≡ told nb one k)
    → (gone ≡ 0 → two ≡ one) → IsBeside nb one two first (first + min 1 gone) (count_to nb one first)
left_beside {nb} {one} {two} first gone is spare count before behind none = record {
  before = λ k lt. before k (omega arith);
  behind = λ k le lt.
      let e : k ≡ k + blocks_of nb one - blocks_of nb two = omega arith in
      elim (cases_lt 0 gone) [
        | inl some ↦ behind k (omega arith) (omega arith)
        | inr no_rows ↦ ap (λ (l : List ℕ). told nb l k) (none (omega arith))
      ]
      ∙ ap (told nb one) e;
  enough = omega arith;
  until =
      let same = count_told nb one two first (λ k lt. before k (omega arith)) in
      let up = count_up nb two first (first + min 1 gone) (omega arith) in omega arith;
}

-- or whole blocks went too
pub out_beside : {nb : ℕ} {one : List ℕ} (two : List ℕ) {three : List ℕ} (first gone end : ℕ) → first < end → blocks_of nb one ≤ nb
    → blocks_of nb two ≡ blocks_of nb one
    → ((k : ℕ) → k < end → told nb two k ≡ told nb one k) → ((k : ℕ) → end < k → k < nb → told nb two k ≡ told nb one k)
    → (gone ≡ 0 → two ≡ one) → blocks_of nb three + (end - first) ≡ blocks_of nb two
    → ((k : ℕ) → k < first → told nb three k ≡ told nb two k)
    → ((k : ℕ) → first ≤ k → k < blocks_of nb three → told nb three k ≡ told nb two (k + (end - first)))
    → IsBeside nb one three first (first + min 1 gone) (count_to nb one first)
out_beside {nb} {one} two {three} first gone end more spare count before behind none less low high = record {
  before = λ k lt. low k lt ∙ before k (omega arith);
  behind = λ k le lt.
      let j : ℕ = k + (end - first) in
      let e : j ≡ k + blocks_of nb one - blocks_of nb three = omega arith in
      let same : told nb two j ≡ told nb one j = elim (cases_lt 0 gone) [
        | inl some ↦ behind j (omega arith) (omega arith)
        | inr no_rows ↦ ap (λ (l : List ℕ). told nb l j) (none (omega arith))
      ] in
      high k (omega arith) lt ∙ (same ∙ ap (told nb one) e);
  enough = omega arith;
  until =
      let same = count_told nb one three first (λ k lt. low k lt ∙ before k (omega arith)) in
      let up = count_up nb three first (first + min 1 gone) (omega arith) in omega arith;
}

-- rows went from a place of a block on, and then from the beginning of the next one on
pub cut_beside : {nb : ℕ} {one two three : List ℕ} (i place gone left : ℕ) → i < blocks_of nb one → blocks_of nb one ≤ nb → left ≤ gone
    → blocks_of nb two ≡ blocks_of nb one → ((k : ℕ) → k < nb → (k ≡ i → ⊥) → told nb two k ≡ told nb one k) → place ≤ rows_of nb two i + 1
    → blocks_of nb three ≤ blocks_of nb two → IsBeside nb two three (i + 1) (i + 1 + min 1 left) (count_to nb two (i + 1))
    → IsBeside nb one three i (i + 1 + min 1 gone) (count_to nb one i + place)
cut_beside {nb} {one} {two} {three} i place gone left there spare fewer count others within less b =
    let before = count_told nb one two i (λ k lt. others k (omega arith) (λ e. omega arith)) in
    let same = count_told nb two three (i + 1) b.before in
    let next = count_next nb two i in
    let up = count_up nb three (i + 1) (i + 1 + min 1 gone) (omega arith) in
    beside_on (count_to nb one i + place) i (i + 1 + min 1 gone) (omega arith) (omega arith) (omega arith) (omega arith) (omega arith)
    (beside_one {two = two} i (i + 1) 0 (omega arith) count (omega arith) others (omega arith) (omega arith)) b.before b.behind

-- rows were laid over others before it
pub laid_beside : {nb : ℕ} {one two three : List ℕ} {first end last : ℕ} → SameLayout nb one two → ((k : ℕ) → told nb two k ≡ told nb one k)
    → first ≤ end → IsBeside nb two three first end last → IsBeside nb one three first end last
laid_beside {nb} {one} {two} {three} {first} {end} {last} same told_same ordered b =
    let count = same.count in let enough = b.enough in
    beside_on last first end (omega arith) (omega arith) (omega arith) (omega arith) b.until
    (beside_none {two = two} first 0 0 count told_same (omega arith)) b.before b.behind

module _ {nb : ℕ} {one two : List ℕ} {first end last : ℕ} (laid : IsLaidOut nb one) (after : IsLaidOut nb two)
    (beside : IsBeside nb one two first end last) where
  -- as many rows stand from a block behind the change on as before
  count_behind : (d k : ℕ) → end ≤ k → k + d ≡ blocks_of nb two
      → count_to nb two k + length (rows_in nb one) ≡ length (rows_in nb two) + count_to nb one (k + blocks_of nb one - blocks_of nb two)
  count_behind zero k le all =
      let a = length-rows_in nb one laid in
      let b = length-rows_in nb two after in
      let enough = beside.enough in
      let x : k ≡ blocks_of nb two = omega arith in
      let y : k + blocks_of nb one - blocks_of nb two ≡ blocks_of nb one = omega arith in
      let c = ap (count_to nb two) x in
      let d = ap (count_to nb one) y in
      omega arith
  count_behind (suc d) k le all =
      let enough = beside.enough in
      let j : ℕ = k + blocks_of nb one - blocks_of nb two in
      let r = count_behind d (k + 1) (omega arith) (omega arith) in
      let same : k + 1 + blocks_of nb one - blocks_of nb two ≡ j + 1 = omega arith in
      let s = ap (count_to nb one) same in
      let a = count_next nb two k in
      let b = count_next nb one j in
      let rows = same_rows nb one two k j (beside.behind k le (omega arith)) in
      omega arith

  module _ (p q : ℕ) (more : List ℕ) (ordered : p ≤ q) (there : q ≤ length (rows_in nb one)) (spliced : rows_in nb two ≡ splice (rows_in nb one) p q more)
      (ends : p + length more ≤ last) (all : GapsTold nb one) where
    -- a block before the change tells its gap still, if the row behind it stays
    gap_before_still : (i : ℕ) → i < first → count_to nb one (i + 1) < p → TellsGap nb two i
    gap_before_still i lt low =
        let begin = count_told nb one two i (λ k l. beside.before k (omega arith)) in
        let until = count_told nb one two (i + 1) (λ k l. beside.before k (omega arith)) in
        let word = beside.before i lt in
        let next = count_next nb one i in
        let up : i < blocks_of nb one = elim (cases_lt i (blocks_of nb one)) [
          | inl less ↦ less
          | inr ge ↦
              let l = length-rows_in nb one laid in
              let u = count_up nb one (blocks_of nb one) i ge in absurd (omega arith)
        ] in
        subst (λ (g : ℕ). IsLargestGap (rows_in nb two) (count_to nb two i) (count_to nb two (i + 1)) g) (ap (λ (x : ℕ). x / 262144) (sym word))
        (largest_moved (count_to nb two i) (count_to nb two (i + 1)) (omega arith)
        (λ k below.
        let e : count_to nb two i + k ≡ count_to nb one i + k = omega arith in
        (λ j. free_of (spliced j) (e j)) ∙ free_before (rows_in nb one) more p q (count_to nb one i + k) (omega arith) ordered there)
        (all i up))

    -- and so does one behind it
    gap_behind_still : (i : ℕ) → end ≤ i → i < blocks_of nb two → TellsGap nb two i
    gap_behind_still i le lt =
        let enough = beside.enough in
        let j : ℕ = i + blocks_of nb one - blocks_of nb two in
        let word = beside.behind i le lt in
        let rows = same_rows nb one two i j word in
        let long = ap (length {A = ℕ}) spliced in
        let l = length-splice (rows_in nb one) more p q ordered there in
        let at = count_behind (blocks_of nb two - i) i le (omega arith) in
        let up = count_up nb two end i le in
        let until = beside.until in
        let a = count_next nb two i in
        let b = count_next nb one j in
        let x : ℕ = count_to nb one j - q in
        let was : count_to nb one j ≡ q + x = omega arith in
        let now : count_to nb two i ≡ p + length more + x = omega arith in
        subst (λ (g : ℕ). IsLargestGap (rows_in nb two) (count_to nb two i) (count_to nb two (i + 1)) g) (ap (λ (y : ℕ). y / 262144) (sym word))
        (largest_moved (count_to nb two i) (count_to nb two (i + 1)) (omega arith)
        (λ k below.
        let e : count_to nb two i + k ≡ p + length more + (x + k) = omega arith in
        let f : q + (x + k) ≡ count_to nb one j + k = omega arith in
        (λ m. free_of (spliced m) (e m)) ∙ (free_behind (rows_in nb one) more p q (x + k) (omega arith) ∙ ap (free_of (rows_in nb one)) f))
        (all j (omega arith)))

    -- so all tell theirs but those of the change
    pub gaps_kept : (from : ℕ) → from ≤ first → (0 < from → count_to nb one from < p) → GapsBut nb two from end
    gaps_kept from low before i lt (inl less) =
        let up = count_up nb one (i + 1) from (omega arith) in let b = before (omega arith) in gap_before_still i (omega arith) (omega arith)
    gaps_kept from low before i lt (inr le) = gap_behind_still i le lt

module _ {nb : ℕ} {one two : List ℕ} (same : IsSameButGaps nb one two) where
  -- the words are laid out in the same blocks
  pub rows_same : (k : ℕ) → rows_of nb two k ≡ rows_of nb one k
  rows_same k = let t = same.told k in omega arith

  pub body_same : (k : ℕ) → body_of nb two k ≡ body_of nb one k
  body_same k = let t = same.told k in omega arith

  pub count_still : blocks_of nb two ≡ blocks_of nb one
  count_still = same.same (128 * nb) (omega arith)

  pub laid_same : IsLaidOut nb one → IsLaidOut nb two
  laid_same laid = still_laid_out laid same.long count_still (λ k lt. body_same k)

  pub counts_same : (i : ℕ) → count_to nb two i ≡ count_to nb one i
  counts_same i = count_same nb one two i (λ k lt. rows_same k)

  block_same : IsLaidOut nb one → (k : ℕ) → k < nb → block nb two k ≡ block nb one k
  block_same laid k lt =
      let b = laid.bodies k lt in
      let wide = laid.wide in
      let long = same.long in
      let head : slice_index two k ≡ slice_index one k = same.same k (omega arith) in
      let rows = rows_same k in
      let body = body_same k in
      let rest = same_runs two one (body_at nb one k) (body_at nb one k) (rows_of nb one k) (omega arith) (omega arith)
      (λ m l. same.same (body_at nb one k + m) (omega arith)) in
      rw (head, rows, body, rest) refl

  -- which have the same rows
  pub rows_in_same : IsLaidOut nb one → rows_in nb two ≡ rows_in nb one
  rows_in_same laid =
      let spare = laid.spare in
      ap (pieces (block nb two)) count_still ∙ same_pieces (block nb one) (block nb two) (blocks_of nb one) (λ k lt. block_same laid k (omega arith))

-- the same gap of the same rows
pub largest_same : {rows others : List ℕ} {from a until b gap g : ℕ} → others ≡ rows → a ≡ from → b ≡ until → g ≡ gap → IsLargestGap rows from until gap
    → IsLargestGap others a b g
largest_same rows low high gap largest = coe 1 0 (j. IsLargestGap (rows j) (low j) (high j) (gap j)) largest

-- the same layout tells the gaps of other rows, if these have as many free pages one by one
pub told_freed : {nb : ℕ} {one : List ℕ} (two : List ℕ) → IsLaidOut nb one → ((t : ℕ) → 128 * nb ≤ t → slice_index two t ≡ slice_index one t)
    → ((n : ℕ) → n < length (rows_in nb one) → free_of (rows_in nb two) n ≡ free_of (rows_in nb one) n) → GapsTold nb one → GapsTold nb two
told_freed {nb} {one} two laid same free all i lt =
    let count = same (128 * nb) (omega arith) in
    let counts : (n : ℕ) → count_to nb two n ≡ count_to nb one n =
    λ (n : ℕ). count_same nb one two n (λ k l. ap (λ (x : ℕ). x % 128) (same (128 * nb + 1 + k) (omega arith))) in
    let long = length-rows_in nb one laid in
    let up = count_up nb one (i + 1) (blocks_of nb one) (omega arith) in
    let a = counts i in
    let b = counts (i + 1) in
    subst (λ (g : ℕ). IsLargestGap (rows_in nb two) (count_to nb two i) (count_to nb two (i + 1)) g)
    (ap (λ (x : ℕ). x / 262144) (sym (same (128 * nb + 1 + i) (omega arith))))
    (largest_moved (count_to nb two i) (count_to nb two (i + 1)) (omega arith)
    (λ k below.
    let e : count_to nb two i + k ≡ count_to nb one i + k = omega arith in
    ap (free_of (rows_in nb two)) e ∙ free (count_to nb one i + k) (omega arith))
    (all i (omega arith)))

-- one block more tells its gap, and those beside it tell theirs still
pub gaps_on : {nb : ℕ} {one two : List ℕ} (i end : ℕ) → IsLaidOut nb one → IsSameButGaps nb one two
    → ((k : ℕ) → k < nb → (k ≡ i → ⊥) → told nb two k ≡ told nb one k) → TellsGap nb two i → GapsBut nb one i end → GapsBut nb two (i + 1) end
gaps_on {nb} {one} {two} i end laid same others tells but k lt away = dite (ℕ_discrete k i)
    (λ e. subst (λ (n : ℕ). TellsGap nb two n) (sym e) tells)
    (λ differ.
    let count = count_still same in
    let spare = laid.spare in
    largest_same (rows_in_same same laid) (counts_same same k) (counts_same same (k + 1)) (ap (λ (x : ℕ). x / 262144) (others k (omega arith) differ))
    (but k (omega arith) (elim away [ inl less ↦ inl (omega (arith, differ)) | inr le ↦ inr le ])))

-- where two blocks have become one that tells the larger of their gaps, each tells its own
module _ (nb : ℕ) (one two : List ℕ) (i : ℕ) (there : i + 1 < blocks_of nb one) (rows : rows_in nb two ≡ rows_in nb one)
    (count : blocks_of nb two + 1 ≡ blocks_of nb one) (before : (k : ℕ) → k < i → told nb two k ≡ told nb one k)
    (more : rows_of nb two i ≡ rows_of nb one i + 1 + rows_of nb one (i + 1))
    (behind : (k : ℕ) → i < k → k < blocks_of nb two → told nb two k ≡ told nb one (k + 1))
    (gap : gap_of nb two i ≡ max (gap_of nb one i) (gap_of nb one (i + 1))) where
  count_low : (k : ℕ) → k ≤ i → count_to nb two k ≡ count_to nb one k
  count_low k le = count_told nb one two k (λ l lt. before l (omega arith))

  count_high : (d : ℕ) → i + 1 + d ≤ blocks_of nb two → count_to nb two (i + 1 + d) ≡ count_to nb one (i + 1 + d + 1)
  count_high zero le =
      let a = count_low i (omega arith) in
      let b = count_next nb two i in
      let c = count_next nb one i in
      let d = count_next nb one (i + 1) in
      let x : i + 1 + 0 ≡ i + 1 = omega arith in
      let y = ap (count_to nb two) x in
      let z : count_to nb one (i + 1 + 0 + 1) ≡ count_to nb one (i + 1 + 1) = ap (λ (n : ℕ). count_to nb one (n + 1)) x in
      omega arith
  count_high (suc d) le =
      let r = count_high d (omega arith) in
      let k : ℕ = i + 1 + d in
      let a = count_next nb two k in
      let b = count_next nb one (k + 1) in
      let s = same_rows nb one two k (k + 1) (behind k (omega arith) (omega arith)) in
      let x : i + 1 + suc d ≡ k + 1 = omega arith in
      let y = ap (count_to nb two) x in
      let z : count_to nb one (i + 1 + suc d + 1) ≡ count_to nb one (k + 1 + 1) = ap (λ (n : ℕ). count_to nb one (n + 1)) x in
      omega arith

  count_up_to : (k : ℕ) → i < k → k ≤ blocks_of nb two → count_to nb two k ≡ count_to nb one (k + 1)
  count_up_to k lt le =
      let e : i + 1 + (k - (i + 1)) ≡ k = omega arith in
      subst (λ (n : ℕ). count_to nb two n ≡ count_to nb one (n + 1)) e (count_high (k - (i + 1)) (omega arith))

  pub merged_told : GapsTold nb one → GapsTold nb two
  merged_told all k lt = elim (cases_lt k i) [
    | inl low ↦ largest_same rows (count_low k (omega arith)) (count_low (k + 1) (omega arith)) (ap (λ (x : ℕ). x / 262144) (before k low))
        (all k (omega arith))
    | inr ge ↦ elim (cases_lt i k) [
      | inl high ↦ largest_same rows (count_up_to k high (omega arith)) (count_up_to (k + 1) (omega arith) (omega arith))
          (ap (λ (x : ℕ). x / 262144) (behind k high lt)) (all (k + 1) (omega arith))
      | inr le ↦
          let e : k ≡ i = omega arith in
          let one_low = count_next nb one i in
          let one_high = count_next nb one (i + 1) in
          let start = count_low i (omega arith) in
          let end = count_next nb two i in
          subst (λ (n : ℕ). TellsGap nb two n) (sym e)
          (largest_same rows start (omega arith) gap
          (largest_both {mid = count_to nb one (i + 1)} (omega arith) (omega arith) refl (all i (omega arith)) (all (i + 1) there)))
    ]
  ]
