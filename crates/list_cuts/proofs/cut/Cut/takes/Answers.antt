use Rattle.std.proofs.Common.{refl, arith}
use Rattle.list_cuts.proofs.Cutting.{takes_exactly, takes_each}
use Rattle.list_cuts.proofs.cut.Cut.takes.Goals as goal

-- as many blocks as there are regions have one of each
pub returns-then-last-first : goal.returns-then-last-first
returns-then-last-first c = (
  (λ _. takes_each c.args.self.now c.args.range c.args.list c.regions-count.result c.first-before.result c.lo.result c.block-first.result
      c.last_block-last.result c.regions-count.ensures.count c.first-before.ensures.first (omega arith) (omega arith) (omega arith) c.block-first.ensures
      c.last_block-last.ensures.last c.lo.ensures.bounds.0 c.if-last-first.true),
  (λ _. refl),
)

-- the next block of that region isn't behind the last one exactly where the range has a number in it
pub returns : goal.returns
returns c = takes_exactly c.args.self.now c.args.range c.args.list c.regions-count.result c.first-before.result c.lo.result
    c.block-first.result c.last_block-last.result c.blocks_to.result c.regions-count.ensures.count c.first-before.ensures.first (omega arith)
    c.lo.ensures.low c.block-first.ensures c.last_block-last.ensures.last c.regions-count.ensures.some c.lo.ensures.bounds.0 c.blocks_to.ensures
