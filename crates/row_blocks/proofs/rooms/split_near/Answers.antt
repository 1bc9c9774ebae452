use Rattle.std.proofs.Common.{◌≡◌, ◌+◌, ◌<◌, arith}
use Rattle.row_blocks.specs.Blocks.{rows_of, count_to}
use Rattle.row_blocks.proofs.Halves.{low_rank, high_rank, first_short}
use Rattle.row_blocks.proofs.KeptGaps.{split_beside}
use Rattle.row_blocks.proofs.rooms.split_near.Given.{Over}
use Rattle.row_blocks.proofs.rooms.split_near.Goals.{After-split}
use Rattle.row_blocks.proofs.rooms.split_near.Goals as goal

-- block 0 has at most 64 rows still
short : (g : Over) (c : After-split g) → rows_of c.args.blocks (g.W.Loads.words c.args.words.now c.split.new.hand) 0 < 64
short g c =
    first_short c.args.blocks (g.W.Loads.words c.args.words.now c.args.hand.now) (g.W.Loads.words c.args.words.now c.split.new.hand) c.args.at.block
    c.split.ensures.before c.split.ensures.lower c.requires.short (omega arith)

-- as many rows stand before each half as before
ranks : (g : Over) (c : After-split g) → let words = g.W.Loads.words c.args.words.now in let nb = c.args.blocks in let i = c.args.at.block in
    (count_to nb (words c.split.new.hand) i ≡ count_to nb (words c.args.hand.now) i)
    × (count_to nb (words c.split.new.hand) (i + 1) ≡ count_to nb (words c.args.hand.now) i + c.rows_below-low.result)
ranks g c =
    let one = g.W.Loads.words c.args.words.now c.args.hand.now in let two = g.W.Loads.words c.args.words.now c.split.new.hand in
    let before = c.split.ensures.before in let lower = c.split.ensures.lower in
    (low_rank c.args.blocks one two c.args.at.block before lower, high_rank c.args.blocks one two c.args.at.block before lower)

-- where the position stays
pub returns-then-at-low-clause-short : goal.returns-then-at-low-clause-short
returns-then-at-low-clause-short g c = short g (goal.at.returns-then-at-low-clause-short g c).After-split

-- as many rows stand before the position
pub returns-then-at-low-clause-rank : goal.returns-then-at-low-clause-rank
returns-then-at-low-clause-rank g c = let low = (ranks g (goal.at.returns-then-at-low-clause-rank g c).After-split).0 in omega arith

-- and where it is one of the upper half
pub returns-clause-short : goal.returns-clause-short
returns-clause-short g c = short g (goal.at.returns-clause-short g c).After-split

-- which is the next block
pub returns-clause-there : goal.returns-clause-there
returns-clause-there g c = omega arith

-- as many rows stand before the position
pub returns-clause-rank : goal.returns-clause-rank
returns-clause-rank g c = let high = (ranks g (goal.at.returns-clause-rank g c).After-split).1 in omega arith

-- the blocks beside it tell what they told
pub returns-then-at-low-clause-beside : goal.returns-then-at-low-clause-beside
returns-then-at-low-clause-beside g c = split_beside c.args.at.block c.split.ensures.count c.split.ensures.before c.split.ensures.behind

pub returns-clause-beside : goal.returns-clause-beside
returns-clause-beside g c = split_beside c.args.at.block c.split.ensures.count c.split.ensures.before c.split.ensures.behind
