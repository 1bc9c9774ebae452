use Rattle.std.proofs.Common.{ℕ, ◌+◌, ◌*◌, arith}
use Rattle.row_blocks.proofs.OneBlock.{row_put}
use Rattle.row_blocks.proofs.Places.{first_loaded, others_loaded}
use Rattle.row_blocks.proofs.Settlings.{stands_other}
use Rattle.row_blocks.proofs.inserting.insert.Goals as goal

-- the head is a row
pub put_at-requires-clause-first : goal.put_at-requires-clause-first
put_at-requires-clause-first g c =
    first_loaded _ _ c.args.i c.requires.laid c.requires.there _ _ c.load-packed.ensures.rows c.load-packed.ensures.words c.requires.rows

-- and so are the others
pub put_at-requires-clause-others : goal.put_at-requires-clause-others
put_at-requires-clause-others g c =
    let load = c.load-packed.ensures in others_loaded _ _ c.args.i c.requires.laid c.requires.there _ _ load.rows load.words load.word c.requires.rows

-- one row more is another body word
pub store_layout-requires-clause-differs : goal.store_layout-requires-clause-differs
store_layout-requires-clause-differs g c =
    let load = c.load-packed.ensures in
    let body = c.requires.laid.bodies c.args.i (omega arith) in
    let told : ℕ = 128 * c.args.blocks + 1 + c.args.i in
    stands_other _ told load.words load.word (c.put_at.ensures.put.above told (omega arith)) (λ e. omega arith)

-- what stands after the stores
pub returns : goal.returns
returns g c =
    let done = row_put c.requires.laid c.requires.there c.requires.room c.requires.place c.load-packed.ensures.words c.load-packed.ensures.word
    c.put_at.ensures.put c.store_layout.ensures.words in
    search (arith, g.W.Loads.steps_on, c.load-packed.ensures.rows, c.put_at.ensures.rows, c.store_layout.ensures.rows)
