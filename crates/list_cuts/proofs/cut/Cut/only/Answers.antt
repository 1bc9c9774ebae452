use Rattle.std.proofs.Common.{inl, inr, ⊎_elim}
use Rattle.list_cuts.proofs.Cutting.{only_list, two_lists}
use Rattle.list_cuts.proofs.cut.Cut.only.Goals as goal

-- in one block, or over one region, the range takes one list
pub returns-then-first-last-clause-narrow : goal.returns-then-first-last-clause-narrow
returns-then-first-last-clause-narrow c = only_list c.args.self.now c.args.range c.list_of.result c.regions.result c.lo.result c.lo-then-first-last.result
    c.block-first.result c.last_block-last.result c.regions.ensures.count c.lo.ensures.low c.lo-then-first-last.ensures.low c.block-first.ensures
    c.last_block-last.ensures.last c.regions.ensures.some c.lo.ensures.bounds.0 c.list_of.ensures.list
    (⊎_elim (λ one. inl one) (λ same. inr same.1) c.if-first-last.either)

-- in two blocks, over several regions, it takes two
pub returns-else-first-last-clause-wide : goal.returns-else-first-last-clause-wide
returns-else-first-last-clause-wide c = λ _. two_lists c.args.self.now c.args.range c.regions.result c.lo.result c.block-first.result
    c.last_block-last.result c.regions.ensures.count c.lo.ensures.low c.block-first.ensures c.last_block-last.ensures.last c.regions.ensures.some
    c.lo.ensures.bounds.0 c.if-first-last.false.0 c.if-first-last.false.1
