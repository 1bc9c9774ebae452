use Rattle.std.proofs.Common.{inl, inr, arith, ◌+◌, ◌-◌, ◌%◌}
use Rattle.list_cuts.proofs.Cutting.{next_block}
use Rattle.list_cuts.proofs.cut.blocks_to.Goals as goal

-- the region comes in the next round
pub returns-then-region-of : goal.returns-then-region-of
returns-then-region-of c = next_block c.args.count c.args.first c.args.region (c.args.region + c.args.count - c.args.first % c.args.count) c.requires.there
    (inl (c.if-region-of.true, omega arith))

-- the region comes in this round
pub returns-else-region-of : goal.returns-else-region-of
returns-else-region-of c = next_block c.args.count c.args.first c.args.region (c.args.region - c.args.first % c.args.count) c.requires.there
    (inr (omega arith, omega arith))
