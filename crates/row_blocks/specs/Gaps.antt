-- The largest gap of each block, which its body word tells: how many free pages stand together there at most, at or
-- above LOWEST, so that a search for a place passes a block by one word. A gap goes up to the next row, also where that
-- is the first one of the next block. Linux keeps the like for each subtree of its areas, as rb_subtree_gap until 6.1
-- and in the nodes of a maple tree since; the form is this project's own. A reader may rely on the word being exact.
use Rattle.std.specs.Prelude.{ℕ, ◌≡◌, ◌<◌, ◌≤◌, ◌+◌, ◌-◌, ◌*◌, ◌/◌, ◌%◌, ◌⊎◌, List, length, slice_index}
use Rattle.row_plans.specs.Gaps.{free_of}
use Rattle.row_blocks.specs.Blocks.{blocks_of, rows_in, count_to, told}

-- the largest gap that the body word of a block tells, in pages
abbrev pub gap_of : ℕ → List ℕ → ℕ → ℕ
gap_of nb words i = slice_index words (128 * nb + 1 + i) / 262144

-- of the rows from one number up to another none has more free pages than so many, and one has as many, if these are
-- some
pub record IsLargestGap (rows : List ℕ) (from until gap : ℕ) : Type 0 where
  pub most : (n : ℕ) → from ≤ n → n < until → free_of rows n ≤ gap
  pub some : 0 < gap → (n : ℕ) × (from ≤ n) × (n < until) × (gap ≤ free_of rows n)

-- the body word of a block tells the largest gap of its rows
abbrev pub TellsGap : ℕ → List ℕ → ℕ → Type 0
TellsGap nb words i = IsLargestGap (rows_in nb words) (count_to nb words i) (count_to nb words (i + 1)) (gap_of nb words i)

-- so does that of each block in use
abbrev pub GapsTold : ℕ → List ℕ → Type 0
GapsTold nb words = (i : ℕ) → i < blocks_of nb words → TellsGap nb words i

-- or that of each but those from one up to another
abbrev pub GapsBut : ℕ → List ℕ → ℕ → ℕ → Type 0
GapsBut nb words first end = (i : ℕ) → i < blocks_of nb words → (i < first) ⊎ (end ≤ i) → TellsGap nb words i

-- what became of the blocks beside a change that ends at the row of a number: the body words before a block stand as
-- they stood, and so do those from another one on, as far from the last block in use as before; and the change ends
-- before these
pub record IsBeside (nb : ℕ) (one two : List ℕ) (first end last : ℕ) : Type 0 where
  pub before : (k : ℕ) → k < first → told nb two k ≡ told nb one k
  pub behind : (k : ℕ) → end ≤ k → k < blocks_of nb two → told nb two k ≡ told nb one (k + blocks_of nb one - blocks_of nb two)
  pub enough : blocks_of nb two ≤ end + blocks_of nb one
  pub until : last ≤ count_to nb two end

-- the words are the same but for the gaps that body words tell
pub record IsSameButGaps (nb : ℕ) (one two : List ℕ) : Type 0 where
  pub long : length two ≡ length one
  pub same : (s : ℕ) → s ≤ 128 * nb → slice_index two s ≡ slice_index one s
  pub told : (k : ℕ) → told nb two k % 262144 ≡ told nb one k % 262144
