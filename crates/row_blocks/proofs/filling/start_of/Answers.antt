use Rattle.std.proofs.Common.{ap, sym, arith}
use Rattle.std.proofs.lemmas.List.{drop_all}
use Rattle.row_plans.specs.RowLists.{rows_start}
use Rattle.row_plans.proofs.Splices.{start_at}
use Rattle.row_blocks.proofs.filling.start_of.Goals as goal

-- the row starts there
pub returns-then-number-rows : goal.returns-then-number-rows
returns-then-number-rows c = sym (start_at c.args.rows.now c.args.number c.if-number-rows.true)

-- and behind the last one no row does
pub returns : goal.returns
returns c = ap rows_start (sym (drop_all c.args.number c.args.rows.now (omega (arith, c.if-number-rows.false))))
