use Rattle.std.proofs.Common.{rules}
use Rattle.list_cuts.specs.Cut.{IsCut}
use Rattle.space_c.proofs.News.{opens_cut, opens_no_cut, no_cut}
use Rattle.space_c.proofs.opening.open_space.Goals as goal

-- the space has the lists of the cut that the two numbers make
pub returns-in-Ok-clause-opened : goal.returns-in-Ok-clause-opened
returns-in-Ok-clause-opened c =
    let is : IsCut c.args.regions c.args.bits = search rules in
    opens_cut c.open_over.result (λ b. b.value) c.args.callers c.in-Ok.cut c.in-Ok.ensures.cut.0 c.in-Ok.ensures.cut.1 is c.open_over.ensures.opened

-- where they make one, the cause is another
pub returns-in-Ok-clause-refused : goal.returns-in-Ok-clause-refused
returns-in-Ok-clause-refused c =
    let is : IsCut c.args.regions c.args.bits = search rules in
    opens_no_cut c.open_over.result c.args.regions c.args.bits c.args.callers is c.open_over.ensures.refused

-- where they make none, that is the cause
pub returns-in-Err-clause-refused : goal.returns-in-Err-clause-refused
returns-in-Err-clause-refused c =
    no_cut c.of.result c.in-Err.field-0 c.args.regions c.args.bits c.args.callers c.in-Err.is c.of.ensures.exactly
