-- The client words of a space at its opening, and how many blocks of rows it takes. The form is this project's own.
use Rattle.std.specs.Prelude.{Bool, true, false, ◌/◌, ℕ, ◌≡◌, ◌<◌, ◌≤◌, ◌+◌, ◌-◌, ◌*◌, ◌%◌, List, drop, length, slice_index}
use Rattle.space_model.specs.declared.areas.Area.{Area}
use Rattle.space_model.specs.Areas.{row_count}
use Rattle.row_plans.specs.RowLists.{rows_from}
use Rattle.row_blocks.specs.Blocks.{IsLaidOut, blocks_of, rows_of, rows_in}
use Rattle.row_blocks.specs.Gaps.{GapsTold}
use Rattle.area_guard.specs.Rows.{keeps_in, number_place}
use Rattle.area_guard.specs.History.{HasRoom}

-- what the number of all words of a table leaves, divided by 514: how many blocks there are, and whether the space
-- keeps its history
abbrev pub told_of : ℕ → Bool → ℕ
told_of nb true = nb / 8
told_of nb false = nb / 8 + 257

-- no entry, none under everything, the rows of these areas in so many blocks of which one is free, with their largest
-- gaps, whether the space keeps its history, and how many numbers each caller may draw
pub record IsOpening (start : List Area) (calls : List ℕ) (nb : ℕ) (keeps : Bool) (words : List ℕ) : Type 0 where
  pub wide : 36 + 129 * nb ≤ length words
  pub number : slice_index words (number_place nb) ≡ 0
  pub sequence : slice_index words 1 ≡ 0
  pub count : slice_index words 2 ≡ row_count start
  pub laid : IsLaidOut nb (drop 3 words)
  pub rows : rows_in nb (drop 3 words) ≡ rows_from 0 start
  pub free : blocks_of nb (drop 3 words) < nb
  pub short : rows_of nb (drop 3 words) 0 < 64
  pub told : GapsTold nb (drop 3 words)
  pub blocks : slice_index words (length words - 17) ≡ nb
  pub kept : keeps_in words ≡ keeps
  pub quotas : (n : ℕ) → n < length calls → slice_index words (length words - 16 + n) ≡ slice_index calls n

-- no fewer blocks have room for the rows of a start and of calls, where their number is told in steps of 8
abbrev pub IsLeastRoom : ℕ → ℕ → ℕ → Type 0
IsLeastRoom nb rows calls = (blocks : ℕ) → blocks % 8 ≡ 0 → 2 < blocks → HasRoom blocks rows calls → nb ≤ blocks
