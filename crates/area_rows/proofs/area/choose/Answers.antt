use Rattle.std.proofs.Common.{rules}
use Rattle.area_rows.proofs.AreaChoices.{none_of}
use Rattle.area_rows.proofs.area.choose.Goals as goal

-- in an area that isn't sealed, the whole of which gets the kind of a neighbour, no way is left
pub returns-then-eq-2 : goal.returns-then-eq-2
returns-then-eq-2 c = (
  c.if-change.false,
  λ A a among. none_of c.args.row.now c.args.before c.args.behind c.args.change among (search rules) (search rules) (search rules) (search rules),
)
