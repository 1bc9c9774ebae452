-- When a block is split, and when two are merged. Blocks are small while few are in use, so that a change moves few
-- rows, and larger where they get scarce. Both go by one limit: a block is split where it would have more rows than the
-- limit, and two are merged where they have half of it at most. The limit is that for the blocks without the upper of
-- both, so a change undoes the split or the merge before it only by half of the limit's rows. The limits are this
-- project's own, and measured.
use Rattle.std.specs.Prelude.{ℕ, ◌≡◌, ◌<◌, ◌≤◌, ◌+◌, ◌-◌, ◌*◌, ◌==◌, nat_lt, if◌then◌else◌, ◌&&◌, ◌||◌, List}
use Rattle.row_blocks.specs.Blocks.{blocks_of, rows_of, count_to}

-- how many rows a block may have before it is split, where so many of nb blocks are in use
abbrev pub limit_of : ℕ → ℕ → ℕ → ℕ
limit_of nb count i =
    if nat_lt count 256 && nat_lt (2 * count) nb then 32
    else (if i == 0 || nat_lt count 1024 && nat_lt (4 * count) (3 * nb) then 64 else 128)

-- some rows more would be too many for a block
abbrev pub AreTooMany : ℕ → List ℕ → ℕ → ℕ → Type 0
AreTooMany nb words b more = (0 < more) × (limit_of nb (blocks_of nb words) b < rows_of nb words b + 1 + more)

-- a block and the one behind it have few rows together
abbrev pub AreFew : ℕ → List ℕ → ℕ → Type 0
AreFew nb words b =
    (b + 1 < blocks_of nb words) × (2 * (rows_of nb words b + rows_of nb words (b + 1) + 2) ≤ limit_of nb (blocks_of nb words - 1) b)

-- a block has been merged with the one behind it
abbrev pub IsMerged : ℕ → List ℕ → List ℕ → ℕ → Type 0
IsMerged nb one two b =
    (blocks_of nb two + 1 ≡ blocks_of nb one) × (rows_of nb two b + 1 ≡ rows_of nb one b + rows_of nb one (b + 1) + 2)

-- so many blocks have gone, all of whose rows stood between two numbers
pub record HaveGone (nb : ℕ) (one two : List ℕ) (from end : ℕ) : Type 0 where
  pub first : ℕ
  pub count : ℕ
  pub there : first + count ≤ blocks_of nb one
  pub begin : from ≤ count_to nb one first
  pub whole : count_to nb one (first + count) ≤ end
  pub went : blocks_of nb two + count ≡ blocks_of nb one

-- a row of that number stands in a block, or right behind it
pub record IsPlaceIn (nb : ℕ) (words : List ℕ) (b number : ℕ) : Type 0 where
  pub there : b < blocks_of nb words
  pub from : count_to nb words b ≤ number
  pub until : number ≤ count_to nb words (b + 1)

-- what becomes of the blocks where rows are replaced by others, by so many more: those from one number up to another
-- have gone, and block b is the one where rows come
pub data Replaces (nb : ℕ) (one two : List ℕ) (b more from end : ℕ) : Type 0 where
  grows : AreTooMany nb one b more → blocks_of nb two ≡ blocks_of nb one + 1 → Replaces nb one two b more from end
  shrinks : HaveGone nb one two from end → blocks_of nb two < blocks_of nb one → Replaces nb one two b more from end
  keeps : ¬ AreTooMany nb one b more → blocks_of nb two ≡ blocks_of nb one → Replaces nb one two b more from end

-- and of a whole change: a block that would have too many rows is split, and then, where no block would be free, two
-- are merged; else blocks go, all of whose rows go; else a block and the one behind it are merged if they have few
-- rows, and if not, there are as many blocks as before
pub data Settles (nb : ℕ) (one two : List ℕ) (b more from end : ℕ) : Type 0 where
  splits : AreTooMany nb one b more → blocks_of nb one + 1 < nb → blocks_of nb two ≡ blocks_of nb one + 1 → Settles nb one two b more from end
  frees : AreTooMany nb one b more → blocks_of nb one + 1 ≡ nb → blocks_of nb two ≡ blocks_of nb one → Settles nb one two b more from end
  goes : HaveGone nb one two from end → blocks_of nb two < blocks_of nb one → Settles nb one two b more from end
  merges : ¬ AreTooMany nb one b more → 2 * (rows_of nb two b + 1) ≤ limit_of nb (blocks_of nb two) b → blocks_of nb two + 1 ≡ blocks_of nb one
      → Settles nb one two b more from end
  stays : ¬ AreTooMany nb one b more → ¬ AreFew nb two b → blocks_of nb two ≡ blocks_of nb one → Settles nb one two b more from end

-- a splice has brought so many rows more than have gone, behind the row of a number; those from there up to another
-- number have gone. The block of that row is split or merged as it has many or few
pub record HasSettled (nb : ℕ) (one two : List ℕ) (more from end : ℕ) : Type 0 where
  pub block : ℕ
  pub place : IsPlaceIn nb one block from
  pub how : Settles nb one two block more from end
