-- What the two halves of a block that was split have, and where their rows stand among all.
use Rattle.std.proofs.Common.{◌≡◌, ℕ, ◌+◌, ◌%◌, ◌<◌, ◌≤◌, List, ap, arith}
use Rattle.row_blocks.specs.Blocks.{rows_of, count_to, told}
use Rattle.row_blocks.proofs.Counts.{count_same, count_next}

module _ (nb : ℕ) (one two : List ℕ) (i : ℕ) {half : ℕ} (before : (k : ℕ) → k < i → told nb two k ≡ told nb one k) (lower : rows_of nb two i + 1 ≡ half) where
  -- as many rows stand before the lower half
  pub low_rank : count_to nb two i ≡ count_to nb one i
  low_rank = count_same nb one two i (λ k lt. ap (λ (x : ℕ). x % 128) (before k lt))

  -- and those of the lower half before the upper one
  pub high_rank : count_to nb two (i + 1) ≡ count_to nb one i + half
  high_rank = let l = low_rank in let n = count_next nb two i in omega arith

  -- block 0 has at most 64 rows still
  pub first_short : rows_of nb one 0 < 64 → half ≤ 64 → rows_of nb two 0 < 64
  first_short short few = grind (arith, before 0)
