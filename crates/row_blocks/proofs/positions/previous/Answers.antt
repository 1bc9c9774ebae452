use Rattle.std.proofs.Common.{arith}
use Rattle.row_blocks.proofs.Counts.{block_before, count_back}
use Rattle.row_blocks.proofs.positions.previous.Goals as goal

-- before a head comes the last row of the block before
pub returns-clause-rank : goal.returns-clause-rank
returns-clause-rank g c =
    let one = g.W.Loads.words c.args.words.now c.args.hand.now in
    let none = c.if-at-gt0.false in
    let less = c.requires.less in
    let back = count_back c.args.blocks one c.args.at.block (block_before c.args.blocks one c.args.at.block (omega arith)) in
    let rows = c.body_of-body.ensures.rows in
    omega arith
