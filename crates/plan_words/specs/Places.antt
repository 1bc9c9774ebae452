-- The number of the row at a position, as a caller knows it, and a splice that begins there. Positions are those of
-- `row_blocks`: a block, and a place there, of which 0 is the head.
use Rattle.std.specs.Prelude.{ℕ, ◌+◌, List, nat_le, nat_lt, if◌then◌else◌, ◌&&◌, length}
use Rattle.row_blocks.specs.declared.positions.Position.{Position}
use Rattle.row_blocks.specs.Blocks.{blocks_of, rows_of, rows_in, rank}
use Rattle.area_guard.specs.declared.guard.Pass.{Pass}
use Rattle.area_guard.specs.declared.guard.Splice.{Splice}
use Rattle.area_guard.specs.Reads.{known_rows, known_words}

-- counted from 0, over the words of so many blocks; where no row stands, it is as many as there are
unfoldable pub number_in : ℕ → List ℕ → Position → ℕ
number_in nb words at =
    if nat_lt at.block (blocks_of nb words) && nat_le at.place (rows_of nb words at.block)
    then rank nb words at.block at.place
    else length (rows_in nb words)

-- by the words that a caller knows
abbrev pub number_at : Pass → Position → ℕ
number_at pass at = number_in pass.blocks (known_words pass) at

-- a splice of the rows that a caller knows: so many go from a position on, and others come in their place
abbrev pub splice_at : Pass → Position → ℕ → List ℕ → Splice
splice_at pass at gone more = record { old = known_rows pass; first = number_at pass at; end = number_at pass at + gone; more = more }
