-- A list of fewer than 2^30 areas has few rows.
use Rattle.std.proofs.Common.{arith}
use Rattle.space_model.proofs.Stepping.{row_count-le}
use Rattle.space_model.proofs.space.PlainSpace.of_areas.Goals as goal

-- the rows are few enough to count
pub row_count-requires : goal.row_count-requires
row_count-requires c = omega (arith, row_count-le c.args.list.now, c.requires.few)
