-- Free pages row by row, and the last of some rows that has so many of them. A search for a place goes down from one
-- such row to the next, and whoever keeps the rows may pass many at once: Linux keeps the largest gap of each subtree
-- of its areas, as rb_subtree_gap until 6.1 and in the nodes of a maple tree since. A reader may rely on the pages of a
-- row going up to where the next row starts.
use Rattle.std.specs.Prelude.{ℕ, ◌≡◌, ◌<◌, ◌≤◌, ◌+◌, ◌-◌, max, Option, Some, None, List, drop, slice_index}
use Rattle.page_types.specs.declared.TheConstants.{LOWEST}
use Rattle.page_types.specs.declared.calls.Kind.{Kind}
use Rattle.row_plans.specs.RowWords.{row_start, row_kind}
use Rattle.row_plans.specs.RowLists.{rows_start}

-- the free pages at or above LOWEST of a row of that kind, from its start up to an end
abbrev pub free_pages : Option Kind → ℕ → ℕ → ℕ
free_pages None start end = end - max start LOWEST
free_pages (Some kind) start end = 0

-- those of the row of a number
abbrev pub free_of : List ℕ → ℕ → ℕ
free_of rows n = free_pages (row_kind (slice_index rows n)) (row_start (slice_index rows n)) (rows_start (drop (n + 1) rows))

-- no row has so many free pages, from one number up to another
pub record HasNoGap (rows : List ℕ) (from until pages : ℕ) : Type 0 where
  pub few : (k : ℕ) → from ≤ k → k < until → free_of rows k < pages

-- the last row before another one that has so many free pages ends at that page
pub record IsGapBefore (rows : List ℕ) (n pages end : ℕ) : Type 0 where
  pub row : ℕ
  pub before : row < n
  pub wide : pages ≤ free_of rows row
  pub last : HasNoGap rows (row + 1) n pages
  pub ends : end ≡ rows_start (drop (row + 1) rows)
