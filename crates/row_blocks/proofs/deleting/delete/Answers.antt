use Rattle.std.proofs.Common.{ℕ, ◌+◌, ◌*◌, arith}
use Rattle.row_blocks.proofs.OneBlock.{rows_cut}
use Rattle.row_blocks.proofs.Places.{others_loaded}
use Rattle.row_blocks.proofs.Settlings.{stands_other}
use Rattle.row_blocks.proofs.deleting.delete.Goals as goal

-- the rows of its body are rows
pub cut_block-requires-clause-others : goal.cut_block-requires-clause-others
cut_block-requires-clause-others g c =
    let load = c.load-packed.ensures in others_loaded _ _ c.args.i c.requires.laid c.requires.there _ _ load.rows load.words load.word c.requires.rows

-- fewer rows are another body word
pub store_layout-requires-clause-differs : goal.store_layout-requires-clause-differs
store_layout-requires-clause-differs g c =
    let load = c.load-packed.ensures in
    let body = c.requires.laid.bodies c.args.i (omega arith) in
    let told : ℕ = 128 * c.args.blocks + 1 + c.args.i in
    stands_other _ told load.words load.word (c.cut_block.ensures.cut.above told (omega arith)) (λ e. omega arith)

-- what stands after the stores
pub returns : goal.returns
returns g c =
    let done = rows_cut c.requires.laid c.requires.there c.requires.ordered c.requires.place c.requires.left c.load-packed.ensures.words
    c.load-packed.ensures.word c.cut_block.ensures.cut c.store_layout.ensures.words in
    search (arith, g.W.Loads.steps_on, c.load-packed.ensures.rows, c.cut_block.ensures.rows, c.store_layout.ensures.rows)
