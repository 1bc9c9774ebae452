-- The row at a place of a block, among all rows; and that what is so of all rows is so of the words of a block.
use Rattle.std.proofs.Common.{◌≡◌, ℕ, suc, ◌+◌, ◌-◌, ◌*◌, ◌/◌, ◌%◌, ◌<◌, ◌≤◌, List, length, get_or}
use Rattle.std.proofs.Common.{sym, ap, ◌∙◌, subst, arith}
use Rattle.std.specs.Prelude.{slice_index, All}
use Rattle.std.proofs.lemmas.List.Elements.{All-get_or}
use Rattle.row_blocks.specs.Blocks.{blocks_of, rows_of, body_at, block, rows_in, rank, IsLaidOut}
use Rattle.row_blocks.proofs.Pieces.{at_piece, piece_ends}
use Rattle.row_blocks.proofs.Puts.{run_at, block_length, count_is}

-- the word at a place of a block
pub in_block : (nb : ℕ) (words : List ℕ) (i j : ℕ) → j < rows_of nb words i → get_or (block nb words i) (suc j) 0 ≡ slice_index words (body_at nb words i + j)
in_block nb words i j lt = run_at words (body_at nb words i) (rows_of nb words i) j lt

module _ (nb : ℕ) (words : List ℕ) (i : ℕ) (laid : IsLaidOut nb words) (there : i < blocks_of nb words) where
  long : length (block nb words i) ≡ suc (rows_of nb words i)
  long = block_length i laid (omega arith)

  -- a place of a block in use is that of a row
  pub within : (j : ℕ) → j ≤ rows_of nb words i → rank nb words i j < length (rows_in nb words)
  within j le =
      let s = laid.spare in
      let c = count_is i laid (omega arith) in
      let l = long in
      let e = piece_ends (block nb words) i (blocks_of nb words) there in
      omega arith

  -- which stands there
  pub row_at_place : (j : ℕ) → j ≤ rows_of nb words i → slice_index (rows_in nb words) (rank nb words i j) ≡ get_or (block nb words i) j 0
  row_at_place j le =
      let l = long in
      ap (λ (r : ℕ). slice_index (rows_in nb words) (r + j)) (sym (count_is i laid (omega arith)))
      ∙ at_piece (block nb words) i (blocks_of nb words) j there (omega arith)

  -- its first row is the head
  pub head_there : slice_index (rows_in nb words) (rank nb words i 0) ≡ slice_index words i
  head_there = row_at_place 0 (omega arith)

  -- and the others stand in its body
  pub row_there : (j : ℕ) → 0 < j → j ≤ rows_of nb words i → slice_index (rows_in nb words) (rank nb words i j) ≡ slice_index words (body_at nb words i - 1 + j)
  row_there j some le =
      let up : suc (j - 1) ≡ j = omega arith in
      let at : body_at nb words i + (j - 1) ≡ body_at nb words i - 1 + j = omega arith in
      row_at_place j le ∙ (ap (λ (n : ℕ). get_or (block nb words i) n 0) (sym up) ∙ (in_block nb words i (j - 1) (omega arith) ∙ ap (slice_index words) at))

  -- what is so of all rows is so of the head
  pub head_is_row : (P : ℕ → Type 0) → All P (rows_in nb words) → P (slice_index words i)
  head_is_row P all = subst P head_there (All-get_or P (rows_in nb words) (rank nb words i 0) 0 (within 0 (omega arith)) all)

  -- and of the rows of the body
  pub body_is_row : (P : ℕ → Type 0) → All P (rows_in nb words) → (s : ℕ) → body_at nb words i ≤ s → s < body_at nb words i + rows_of nb words i
      → P (slice_index words s)
  body_is_row P all s from until =
      let j : ℕ = s + 1 - body_at nb words i in
      let e : body_at nb words i - 1 + j ≡ s = omega arith in
      subst P (row_there j (omega arith) (omega arith) ∙ ap (slice_index words) e)
      (All-get_or P (rows_in nb words) (rank nb words i j) 0 (within j (omega arith)) all)

  -- the same once something was loaded
  pub first_loaded : (P Q : ℕ → Type 0) {loaded : List ℕ} → ((w : ℕ) → P w → Q w) → loaded ≡ words → All P (rows_in nb words) → Q (slice_index loaded i)
  first_loaded P Q keep same all = subst (λ (l : List ℕ). Q (slice_index l i)) (sym same) (keep (slice_index words i) (head_is_row P all))

  -- and of the rows of the body
  pub others_loaded : (P Q : ℕ → Type 0) {loaded : List ℕ} {packed : ℕ} → ((w : ℕ) → P w → Q w) → loaded ≡ words
      → packed ≡ slice_index words (128 * nb + 1 + i) → All P (rows_in nb words) → (s : ℕ) → nb + 127 * (packed / 128 % 2048) ≤ s
      → s < nb + 127 * (packed / 128 % 2048) + packed % 128 → Q (slice_index loaded s)
  others_loaded P Q keep same read all s from until =
      subst (λ (l : List ℕ). Q (slice_index l s)) (sym same) (keep (slice_index words s) (body_is_row P all s (omega arith) (omega arith)))
