-- The rows of a list are those between 0 and LIMIT.
use Rattle.std.proofs.Common.{arith}
use Rattle.space_model.proofs.Splicing.{rows_all}
use Rattle.space_model.proofs.counts.row_count.Goals as goal

-- the rows between 0 and LIMIT are few enough to count, as those of the list are
pub rows_between-requires : goal.rows_between-requires
rows_between-requires c = omega (arith, rows_all 0 c.args.areas.now, c.requires)

-- they are the rows of the list
pub returns : goal.returns
returns c = omega (arith, rows_all 0 c.args.areas.now, c.rows_between.ensures)
