-- Rows that are laid out block by block, block i in body i.
use Rattle.std.proofs.Common.{◌≡◌, ◌≢◌, ℕ, suc, ◌+◌, ◌-◌, ◌*◌, ◌/◌, ◌%◌, ◌<◌, ◌≤◌, List, [], ◌∷◌, ◌++◌, length, get_or, take, drop}
use Rattle.std.proofs.Common.{sym, refl, ap, ◌∙◌, subst, arith, inl, inr}
use Rattle.std.specs.Prelude.{slice_index, min}
use Rattle.std.proofs.lemmas.Bool.{cases_lt}
use Rattle.std.proofs.lemmas.List.{append_assoc, drop_more, take_more, length-append, length-drop, get_or-drop}
use Rattle.std.proofs.Math.Seq.{take-add, take-length}
use Rattle.std.proofs.Math.Nat.{mul-suc}
use Rattle.row_blocks.specs.Blocks.{pieces, blocks_of, body_of, rows_of, body_at, block, rows_in, count_to, IsLaidOut}
use Rattle.row_blocks.specs.Gaps.{gap_of, IsLargestGap, GapsTold}
use Rattle.row_blocks.proofs.Pieces.{same_pieces, piece_ends}
use Rattle.row_blocks.proofs.Puts.{same_runs, same_block, block_length}
use Rattle.row_blocks.proofs.Counts.{count_next, count_same}
use Rattle.row_blocks.proofs.KeptGaps.{largest_same}

-- so many rows of a list, from one on, are laid as a block
pub record IsBlockLaid (nb : ℕ) (one two rows : List ℕ) (i from count : ℕ) : Type 0 where
  pub long : length two ≡ length one
  pub first : slice_index two i ≡ slice_index rows from
  pub others : (m : ℕ) → m < count - 1 → slice_index two (nb + 127 * i + m) ≡ slice_index rows (from + 1 + m)
  pub told : slice_index two (128 * nb + 1 + i) % 262144 ≡ 128 * i + (count - 1)
  pub gap : IsLargestGap rows from (from + count) (slice_index two (128 * nb + 1 + i) / 262144)
  pub heads : (s : ℕ) → s < nb → s ≢ i → slice_index two s ≡ slice_index one s
  pub below : (s : ℕ) → nb ≤ s → s < nb + 127 * i → slice_index two s ≡ slice_index one s
  pub above : (s : ℕ) → nb + 127 * i + (count - 1) ≤ s → s ≢ 128 * nb → s ≢ 128 * nb + 1 + i → slice_index two s ≡ slice_index one s

-- so many rows stand in so many blocks, and words that aren't used are those of before
pub record IsFilling (nb : ℕ) (one two rows : List ℕ) (i taken : ℕ) : Type 0 where
  pub long : length two ≡ length one
  pub body : (k : ℕ) → k < nb → body_of nb two k ≡ k
  pub none : (k : ℕ) → i ≤ k → k < nb → rows_of nb two k ≡ 0
  pub laid : pieces (block nb two) i ≡ take taken rows
  pub counted : count_to nb two i ≡ taken
  pub tells : (k : ℕ) → k < i → IsLargestGap rows (count_to nb two k) (count_to nb two (k + 1)) (gap_of nb two k)
  pub heads : (s : ℕ) → i ≤ s → s < nb → slice_index two s ≡ slice_index one s
  pub bodies : (k j : ℕ) → k < nb → rows_of nb two k ≤ j → j < 127 → slice_index two (nb + 127 * k + j) ≡ slice_index one (nb + 127 * k + j)
  pub above : (s : ℕ) → 129 * nb + 1 ≤ s → slice_index two s ≡ slice_index one s

-- none at first
pub nothing_laid : {nb : ℕ} {one two rows : List ℕ} → nb ≤ 2048 → length two ≡ length one
    → ((k : ℕ) → k < nb → slice_index two (128 * nb + 1 + k) ≡ 128 * k) → ((s : ℕ) → s < 128 * nb + 1 → slice_index two s ≡ slice_index one s)
    → ((s : ℕ) → 129 * nb + 1 ≤ s → slice_index two s ≡ slice_index one s) → IsFilling nb one two rows 0 0
nothing_laid {nb} few long told below above = record {
  long = long;
  body = λ k lt. let t = told k lt in omega arith;
  none = λ k le lt. let t = told k lt in omega arith;
  laid = refl;
  counted = refl;
  tells = λ k lt. absurd (omega arith);
  heads = λ s le lt. below s (omega arith);
  bodies = λ k j lt le least. below (nb + 127 * k + j) (omega arith);
  above = above;
}

module _ {nb : ℕ} {one two three rows : List ℕ} {i taken count : ℕ} (wide : 129 * nb + 1 ≤ length one) (there : i < nb) (some : 0 < count)
    (most : count ≤ 128) (within : taken + count ≤ length rows) (before : IsFilling nb one two rows i taken)
    (laid : IsBlockLaid nb two three rows i taken count) where
  told_same : (k : ℕ) → k < nb → k ≢ i → slice_index three (128 * nb + 1 + k) ≡ slice_index two (128 * nb + 1 + k)
  told_same k lt differ = laid.above (128 * nb + 1 + k) (omega arith) (λ e. omega arith) (λ e. differ (omega arith))

  -- the other blocks have as many rows as before
  pub rows_same : (k : ℕ) → k < nb → k ≢ i → rows_of nb three k ≡ rows_of nb two k
  rows_same k lt differ = ap (λ (x : ℕ). x % 128) (told_same k lt differ)

  body_now : (k : ℕ) → k < nb → body_of nb three k ≡ k
  body_now k lt = grind (arith, told_same k lt, before.body k lt)

  -- and this one so many behind its head
  pub rows_here : rows_of nb three i ≡ count - 1
  rows_here = omega arith

  old_block : (k : ℕ) → k < i → block nb three k ≡ block nb two k
  old_block k lt =
      let b = before.body k (omega arith) in
      same_block nb two three k k (omega arith) laid.long (told_same k (omega arith) (λ e. omega arith)) (laid.heads k (omega arith) (λ e. omega arith))
      (λ m l. laid.below (body_at nb two k + m) (omega arith) (omega arith))

  this_block : block nb three i ≡ take count (drop taken rows)
  this_block =
      let long = laid.long in
      let was = before.long in
      let at : body_at nb three i ≡ nb + 127 * i = omega arith in
      let up : suc (count - 1) ≡ count = omega arith in
      let rest : take (count - 1) (drop (nb + 127 * i) three) ≡ take (count - 1) (drop (taken + 1) rows) =
      same_runs three rows (nb + 127 * i) (taken + 1) (count - 1) (omega arith) (omega arith) (λ m l. laid.others m l) in
      let all : drop taken rows ≡ get_or rows taken 0 ∷ drop (taken + 1) rows = drop_more rows taken 0 (omega arith) in
      let r = rows_here in
      (λ j. laid.first j ∷ take (r j) (drop (at j) three)) ∙ ((λ j. get_or rows taken 0 ∷ rest j) ∙ (λ j. take (up j) (sym all j)))

  more_laid : pieces (block nb three) (i + 1) ≡ take (taken + count) rows
  more_laid =
      let e : i + 1 ≡ suc i = omega arith in
      let old = same_pieces (block nb two) (block nb three) i (λ k lt. old_block k lt) ∙ before.laid in
      ap (pieces (block nb three)) e ∙ ((λ j. old j ++ this_block j) ∙ sym (take-add taken count rows))

  rest_same : (k j : ℕ) → k < nb → rows_of nb three k ≤ j → j < 127 → slice_index three (nb + 127 * k + j) ≡ slice_index one (nb + 127 * k + j)
  rest_same k j lt le few =
      let r = rows_here in
      grind (arith, rows_same k lt, before.none k, laid.below (nb + 127 * k + j), laid.above (nb + 127 * k + j), before.bodies k j)

  count_stands : (k : ℕ) → k ≤ i → count_to nb three k ≡ count_to nb two k
  count_stands k le = count_same nb two three k (λ l lt. rows_same l (omega arith) (λ e. omega arith))

  counted_now : count_to nb three (i + 1) ≡ taken + count
  counted_now =
      let next = count_next nb three i in let same = count_stands i (omega arith) in let r = rows_here in let was = before.counted in omega arith

  tells_now : (k : ℕ) → k < i + 1 → IsLargestGap rows (count_to nb three k) (count_to nb three (k + 1)) (gap_of nb three k)
  tells_now k lt = elim (cases_lt k i) [
    | inl less ↦ largest_same refl (count_stands k (omega arith)) (count_stands (k + 1) (omega arith))
        (ap (λ (x : ℕ). x / 262144) (told_same k (omega arith) (λ e. omega arith))) (before.tells k less)
    | inr ge ↦
        let e : k ≡ i = omega arith in
        subst (λ (n : ℕ). IsLargestGap rows (count_to nb three n) (count_to nb three (n + 1)) (gap_of nb three n)) (sym e)
        (largest_same refl (count_stands i (omega arith) ∙ before.counted) counted_now refl laid.gap)
  ]

  -- one block more
  pub filled_on : IsFilling nb one three rows (i + 1) (taken + count)
  filled_on =
      let a = more_laid in
      record {
        long = laid.long ∙ before.long;
        body = body_now;
        none = λ k le lt. rows_same k lt (λ e. omega arith) ∙ before.none k (omega arith) lt;
        laid = a;
        counted = counted_now;
        tells = tells_now;
        heads = λ s le lt. laid.heads s lt (λ e. omega arith) ∙ before.heads s (omega arith) lt;
        bodies = rest_same;
        above = λ s le. laid.above s (omega arith) (λ e. omega arith) (λ e. omega arith) ∙ before.above s le;
      }

  -- the same by the numbers that they come to
  pub filled_to : {next all : ℕ} → next ≡ i + 1 → all ≡ taken + count → IsFilling nb one three rows next all
  filled_to a b = subst (λ (p : ℕ × ℕ). IsFilling nb one three rows p.0 p.1) (λ j. (sym a j, sym b j)) filled_on

-- the words are laid out
pub filled_laid : {nb : ℕ} {one two rows : List ℕ} {i taken : ℕ} → 129 * nb + 1 ≤ length one → 0 < i → i < nb → blocks_of nb two ≡ i
    → IsFilling nb one two rows i taken → IsLaidOut nb two
filled_laid wide some high used filling = grind arith

-- and the rows are all of the list
pub filled_rows : {nb : ℕ} {one two rows : List ℕ} {i taken : ℕ} → blocks_of nb two ≡ i → taken ≡ length rows → IsFilling nb one two rows i taken
    → rows_in nb two ≡ rows
filled_rows {nb} {two} {rows} used all filling = ap (pieces (block nb two)) used ∙ (filling.laid ∙ (ap (λ (n : ℕ). take n rows) all ∙ take-length rows))

-- and each block tells its largest gap
pub filled_tells : {nb : ℕ} {one two rows : List ℕ} {i taken : ℕ} → blocks_of nb two ≡ i → taken ≡ length rows → IsFilling nb one two rows i taken
    → GapsTold nb two
filled_tells used all filling k lt = largest_same (filled_rows used all filling) refl refl refl (filling.tells k (omega arith))

-- rows that are left have a block
pub some_left : (f r left : ℕ) → 0 < left → left ≤ f * r → 0 < r
some_left f r left some le = elim (cases_lt 0 r) [
  | inl lt ↦ lt
  | inr ge ↦
      let z : r ≡ 0 = omega arith in
      let e : f * r ≡ f * 0 = ap (λ (m : ℕ). f * m) z in
      absurd (omega arith)
]

-- and fit in the others once one more is filled
pub left_on : (f nb i all taken : ℕ) {count : ℕ} → taken < all → all - taken ≤ f * (nb - 1 - i) → count ≡ min f (all - taken)
    → all - (taken + count) ≤ f * (nb - 1 - (i + 1))
left_on f nb i all taken more le is =
    let one = some_left f (nb - 1 - i) (all - taken) (omega arith) le in
    let up : nb - 1 - i ≡ suc (nb - 1 - (i + 1)) = omega arith in
    let e : f * (nb - 1 - i) ≡ f * suc (nb - 1 - (i + 1)) = ap (λ (m : ℕ). f * m) up in
    let m = mul-suc f (nb - 1 - (i + 1)) in
    omega arith

-- a list is read on by a word of a body
pub gathered_on : (words : List ℕ) {out : List ℕ} (old : List ℕ) (at k : ℕ) → out ≡ old ++ take k (drop at words) → at + k < length words
    → out ++ (slice_index words (at + k) ∷ []) ≡ old ++ take (k + 1) (drop at words)
gathered_on words old at k is lt =
    let d = length-drop at words in
    let one : take (k + 1) (drop at words) ≡ take k (drop at words) ++ (get_or (drop at words) k 0 ∷ []) = take_more (drop at words) k 0 (omega arith) in
    let w = get_or-drop at words k 0 in
    (λ j. is j ++ (slice_index words (at + k) ∷ [])) ∙ (append_assoc old (take k (drop at words)) (slice_index words (at + k) ∷ [])
    ∙ ap (λ (x : List ℕ). old ++ x) ((λ j. take k (drop at words) ++ (sym w j ∷ [])) ∙ sym one))

-- a block that was read to its end
pub gathered_block : (nb : ℕ) (words : List ℕ) {out : List ℕ} (old : List ℕ) {one : List ℕ} (i : ℕ) {at k : ℕ} → one ≡ old ++ (slice_index words i ∷ [])
    → out ≡ one ++ take k (drop at words) → at ≡ body_at nb words i → k ≡ rows_of nb words i → out ≡ old ++ block nb words i
gathered_block nb words old i {at} {k} first rest place all =
    rest ∙ (ap (λ (x : List ℕ). x ++ take k (drop at words)) first ∙ (append_assoc old (slice_index words i ∷ []) (take k (drop at words))
    ∙ (λ j. old ++ (slice_index words i ∷ take (all j) (drop (place j) words)))))

-- all blocks so far, and one more
pub gathered_next : (nb : ℕ) (words : List ℕ) {out new : List ℕ} (old : List ℕ) (i : ℕ) → out ≡ old ++ pieces (block nb words) i
    → new ≡ out ++ block nb words i → new ≡ old ++ pieces (block nb words) (i + 1)
gathered_next nb words old i is more =
    let e : i + 1 ≡ suc i = omega arith in
    more ∙ (ap (λ (x : List ℕ). x ++ block nb words i) is ∙ (append_assoc old (pieces (block nb words) i) (block nb words i)
    ∙ ap (λ (n : ℕ). old ++ pieces (block nb words) n) (sym e)))

-- there is room for a block as long as there is for all
pub room_next : {nb : ℕ} {words out : List ℕ} (old : List ℕ) (i : ℕ) → IsLaidOut nb words → i < blocks_of nb words → out ≡ old ++ pieces (block nb words) i
    → length out + (1 + rows_of nb words i) ≤ length old + length (rows_in nb words)
room_next {nb} {words} {out} old i laid lt is =
    let spare = laid.spare in
    let one = block_length i laid (omega arith) in
    let ends = piece_ends (block nb words) i (blocks_of nb words) lt in
    let l = length-append old (pieces (block nb words) i) in
    let e : length out ≡ length (old ++ pieces (block nb words) i) = ap (λ (x : List ℕ). length x) is in
    omega arith
