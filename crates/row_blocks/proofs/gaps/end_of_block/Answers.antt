use Rattle.std.proofs.Common.{◌+◌, ◌<◌, ap, ◌∙◌, arith}
use Rattle.row_plans.specs.RowWords.{row_start}
use Rattle.row_blocks.proofs.Tells.{end_inside, end_behind}
use Rattle.row_blocks.proofs.gaps.end_of_block.Goals as goal

-- where there is a block behind, its first row is read
pub returns-then-i-used-clause-end : goal.returns-then-i-used-clause-end
returns-then-i-used-clause-end g c =
    let used = c.requires.used in let more = c.if-i-used.true in
    ap row_start c.load.ensures.word ∙ end_inside c.requires.laid c.requires.there (omega arith)

-- and behind the last one the rows end
pub returns-clause-end : goal.returns-clause-end
returns-clause-end g c =
    let used = c.requires.used in let last = c.if-i-used.false in end_behind c.requires.laid c.requires.there (omega arith)
