use Rattle.std.proofs.Common.{arith}
use Rattle.space_model.proofs.Stepping.{row_count-le}
use Rattle.space_model.proofs.stored.stored_in_blocks.Goals as goal

-- the rows are few enough to count
pub row_count-requires : goal.row_count-requires
row_count-requires c = omega (arith, row_count-le c.args.areas.now, c.requires.few)
