-- What stands where the rows of a block were appended to the one before it.
use Rattle.std.proofs.Common.{◌≡◌, ◌≢◌, ℕ, ◌+◌, ◌*◌, ◌/◌, ◌%◌, ◌<◌, ◌≤◌, List, ◌∷◌, ◌++◌, length, take, drop, max}
use Rattle.std.proofs.Common.{ap, ◌∙◌, arith}
use Rattle.std.specs.Prelude.{slice_index, slice_set}
use Rattle.std.proofs.lemmas.List.{length-set, get_or-set_same, get_or-set_other}
use Rattle.row_blocks.specs.Blocks.{blocks_of, body_of, rows_of, body_at, block, IsLaidOut}
use Rattle.row_blocks.specs.Gaps.{gap_of}
use Rattle.row_blocks.specs.Moves.{IsCopied}
use Rattle.row_blocks.proofs.Puts.{OnlyBlock, same_runs, elsewhere}
use Rattle.row_blocks.proofs.OneBlock.{told_is, block_is, only_block}
use Rattle.row_blocks.proofs.Splits.{cut_run}

-- the body word of a block whose rows, and those of another one, stand in it: it tells the larger gap of both
abbrev pub word_of_both : ℕ → ℕ → ℕ
word_of_both packed other = max (packed / 262144) (other / 262144) * 262144 + packed % 262144 + (other % 128 + 1)

-- what a body word tells that has another gap and more rows
pub word_told : (gap packed more : ℕ) → packed % 128 + more < 128 → ((gap * 262144 + packed % 262144 + more) / 128 % 2048 ≡ packed / 128 % 2048)
    × ((gap * 262144 + packed % 262144 + more) % 128 ≡ packed % 128 + more) × ((gap * 262144 + packed % 262144 + more) / 262144 ≡ gap)
word_told gap packed more few = (omega arith, omega arith, omega arith)

-- the stores of an append, one after another, after what was read
pub record IsAppended (nb : ℕ) (one started middle two : List ℕ) (i : ℕ) : Type 0 where
  pub head : started ≡ slice_set one (body_at nb one i + rows_of nb one i) (slice_index one (i + 1))
  pub rest : IsCopied started middle (body_at nb one (i + 1)) (body_at nb one i + rows_of nb one i + 1) (rows_of nb one (i + 1))
  pub told : two ≡ slice_set middle (128 * nb + 1 + i) (word_of_both (slice_index one (128 * nb + 1 + i)) (slice_index one (128 * nb + 1 + (i + 1))))

-- what was read says where they stand
pub is_appended : {nb : ℕ} {one loaded started middle two : List ℕ} {i packed other first : ℕ} → loaded ≡ one → packed ≡ slice_index one (128 * nb + 1 + i)
    → other ≡ slice_index one (128 * nb + 1 + (i + 1)) → first ≡ slice_index one (i + 1)
    → started ≡ slice_set loaded (nb + 127 * (packed / 128 % 2048) + packed % 128) first
    → IsCopied started middle (nb + 127 * (other / 128 % 2048)) (nb + 127 * (packed / 128 % 2048) + packed % 128 + 1) (other % 128)
    → two ≡ slice_set middle (128 * nb + 1 + i) (word_of_both packed other) → IsAppended nb one started middle two i
is_appended {nb} {started} {middle} {i} same read behind was laid c stored = record {
  head = laid ∙ (λ j. slice_set (same j) (nb + 127 * (read j / 128 % 2048) + read j % 128) (was j));
  rest = coe 0 1 (j. IsCopied started middle (nb + 127 * (behind j / 128 % 2048)) (nb + 127 * (read j / 128 % 2048) + read j % 128 + 1) (behind j % 128)) c;
  told = stored ∙ (λ j. slice_set middle (128 * nb + 1 + i) (word_of_both (read j) (behind j)));
}

-- a row of the upper block doesn't stand where its head comes
not_there : {nb : ℕ} {one : List ℕ} (i m : ℕ) → IsLaidOut nb one → i + 1 < blocks_of nb one → rows_of nb one i + 1 + rows_of nb one (i + 1) ≤ 127
    → m < rows_of nb one (i + 1) → body_at nb one (i + 1) + m ≢ body_at nb one i + rows_of nb one i
not_there i m laid there room lt e = let away = elsewhere (i + 1) i m laid (omega arith) (omega arith) (λ q. omega arith) (omega arith) in omega arith

-- the rows of the upper block stand as they stood once its head stands behind those of the lower one
pub started_stays : {nb : ℕ} {one loaded started : List ℕ} (i : ℕ) {packed other : ℕ} (first m : ℕ) → IsLaidOut nb one → i + 1 < blocks_of nb one
    → rows_of nb one i + 1 + rows_of nb one (i + 1) ≤ 127 → loaded ≡ one → packed ≡ slice_index one (128 * nb + 1 + i)
    → other ≡ slice_index one (128 * nb + 1 + (i + 1)) → m < other % 128 → started ≡ slice_set loaded (nb + 127 * (packed / 128 % 2048) + packed % 128) first
    → slice_index started (nb + 127 * (other / 128 % 2048) + m) ≡ slice_index one (nb + 127 * (other / 128 % 2048) + m)
started_stays {nb} {one} {loaded} i {packed} {other} first m laid there room same read behind lt laid_first =
    ap (λ (l : List ℕ). slice_index l (nb + 127 * (other / 128 % 2048) + m)) laid_first
    ∙ (get_or-set_other loaded (nb + 127 * (packed / 128 % 2048) + packed % 128) (nb + 127 * (other / 128 % 2048) + m) first 0
    (λ e. not_there i m laid there room (omega arith) (omega arith)) ∙ ap (λ (l : List ℕ). slice_index l (nb + 127 * (other / 128 % 2048) + m)) same)

module _ {nb : ℕ} {one started middle two : List ℕ} {i : ℕ} (laid : IsLaidOut nb one) (there : i + 1 < blocks_of nb one)
    (room : rows_of nb one i + 1 + rows_of nb one (i + 1) ≤ 127) (a : IsAppended nb one started middle two i) where
  started_other : (s : ℕ) → s ≢ body_at nb one i + rows_of nb one i → slice_index started s ≡ slice_index one s
  started_other s d = ap (λ (l : List ℕ). slice_index l s) a.head ∙ get_or-set_other one (body_at nb one i + rows_of nb one i) s (slice_index one (i + 1)) 0 d

  long_middle : length middle ≡ length one
  long_middle = a.rest.long ∙ (ap length a.head ∙ length-set one (body_at nb one i + rows_of nb one i) (slice_index one (i + 1)))

  -- its body word
  abbrev both_word : ℕ
  both_word = word_of_both (slice_index one (128 * nb + 1 + i)) (slice_index one (128 * nb + 1 + (i + 1)))

  both_told : (both_word / 128 % 2048 ≡ body_of nb one i) × (both_word % 128 ≡ rows_of nb one i + (rows_of nb one (i + 1) + 1))
      × (both_word / 262144 ≡ max (gap_of nb one i) (gap_of nb one (i + 1)))
  both_told = word_told (max (gap_of nb one i) (gap_of nb one (i + 1))) (slice_index one (128 * nb + 1 + i)) (rows_of nb one (i + 1) + 1) (omega arith)

  -- only the lower block has changed
  pub append_only : OnlyBlock nb one two i
  append_only =
      only_block middle i both_word 0 laid (omega arith) long_middle a.told both_told.0
      (λ t differ low. a.rest.below t (omega arith) ∙ started_other t (λ e. omega arith))
      (λ t high. a.rest.above t (omega arith) ∙ started_other t (λ e. omega arith))

  -- and has the rows of both
  pub append_more : rows_of nb two i ≡ rows_of nb one i + 1 + rows_of nb one (i + 1)
  append_more =
      let e = told_is middle i both_word 0 laid (omega arith) long_middle a.told in
      let rows = both_told.1 in
      omega arith

  -- and tells the larger gap of both
  pub append_gap : gap_of nb two i ≡ max (gap_of nb one i) (gap_of nb one (i + 1))
  append_gap =
      ap (λ (x : ℕ). x / 262144) (told_is middle i both_word 0 laid (omega arith) long_middle a.told) ∙ both_told.2

  -- the rows of both stand in one block
  pub both : block nb two i ≡ block nb one i ++ block nb one (i + 1)
  both =
      let wide = laid.wide in
      let spare = laid.spare in
      let p = laid.bodies i (omega arith) in
      let q = laid.bodies (i + 1) (omega arith) in
      let n : ℕ = rows_of nb one i in
      let m : ℕ = rows_of nb one (i + 1) in
      let at : ℕ = body_at nb one i in
      let from : ℕ = body_at nb one (i + 1) in
      let head : ℕ = slice_index one (i + 1) in
      let lm = long_middle in
      let whole : block nb two i ≡ slice_index middle i ∷ take (n + (1 + m)) (drop at middle) =
      let told = both_told in
      let count = told.1 in
      block_is middle i both_word (n + (1 + m)) laid (omega arith) lm a.told told.0 (omega arith) (omega arith) in
      let first : slice_index middle i ≡ slice_index one i = a.rest.below i (omega arith) ∙ started_other i (λ e. omega arith) in
      let second : slice_index middle (at + n) ≡ head = a.rest.below (at + n) (omega arith)
      ∙ (ap (λ (l : List ℕ). slice_index l (at + n)) a.head ∙ get_or-set_same one (at + n) head 0 (omega arith)) in
      let front : take n (drop at middle) ≡ take n (drop at one) = same_runs middle one at at n (omega arith) (omega arith) (λ k lt.
      a.rest.below (at + k) (omega arith) ∙ started_other (at + k) (λ e. omega arith)) in
      let behind : take m (drop (at + (n + 1)) middle) ≡ take m (drop from one) =
      same_runs middle one (at + (n + 1)) from m (omega arith) (omega arith) (λ k lt.
      let place : at + (n + 1) + k ≡ at + n + 1 + k = omega arith in
      ap (slice_index middle) place ∙ (a.rest.copied k lt ∙ started_other (from + k) (not_there i k laid there room lt))) in
      let cut = cut_run middle at n m (omega arith) in
      whole ∙ ((λ j. first j ∷ cut j) ∙ (λ j. slice_index one i ∷ (front j ++ (second j ∷ behind j))))
