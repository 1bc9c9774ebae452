-- What stands behind a row: the next place of its block, or the head of the next block. The form is this project's own;
-- a reader may rely on each row having one position.
use Rattle.std.specs.Prelude.{ℕ, ◌≡◌, ◌<◌, ◌≤◌, ◌+◌, Option, Some, None, List, length}
use Rattle.row_blocks.specs.declared.positions.Position.{Position}
use Rattle.row_blocks.specs.Blocks.{blocks_of, rows_of, rows_in, rank}

-- a row stands at a position, with that many before it
pub record IsRowAt (nb : ℕ) (words : List ℕ) (n : ℕ) (at : Position) : Type 0 where
  pub there : at.block < blocks_of nb words
  pub place : at.place ≤ rows_of nb words at.block
  pub number : rank nb words at.block at.place ≡ n

-- the position of the row behind the one of that number, or None behind the last
abbrev pub IsNextPlace : ℕ → List ℕ → ℕ → Option Position → Type 0
IsNextPlace nb words n None = n + 1 ≡ length (rows_in nb words)
IsNextPlace nb words n (Some at) = IsRowAt nb words (n + 1) at
