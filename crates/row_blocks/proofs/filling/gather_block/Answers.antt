use Rattle.std.proofs.Common.{rules, ◌∙◌, arith}
use Rattle.row_blocks.proofs.Fills.{gathered_on, gathered_block}
use Rattle.row_blocks.proofs.filling.gather_block.Goals as goal

-- one row more
pub body-preserved : goal.body-preserved
body-preserved c =
    let b = c.requires.laid.bodies c.args.i c.requires.there in
    record {
      high = omega arith;
      all = c.push_reserved-in-body.ensures.items ∙ gathered_on c.args.words.now c.push_reserved.new.self.items _ c.body.k c.body.invariant.all (omega arith);
      capacity = search rules;
    }

-- all are there
pub returns-clause-rows : goal.returns-clause-rows
returns-clause-rows c =
    gathered_block c.args.blocks c.args.words.now c.args.out.now.items c.args.i c.push_reserved.ensures.items c.body.invariant.all (omega arith) (omega arith)
