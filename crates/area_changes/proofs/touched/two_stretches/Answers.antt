use Rattle.std.proofs.Common.{arith}
use Rattle.area_changes.proofs.Untouched.{apart_within}
use Rattle.area_changes.proofs.touched.two_stretches.Goals as goal

-- where the stretches overlap, a page is apart from all pages between them
pub returns-clause-one : goal.returns-clause-one
returns-clause-one c page low out =
    apart_within c.args.lo c.args.hi _ _ page (omega (arith, c.min.ensures)) (omega (arith, c.max.ensures)) (c.stretch.ensures page low out)

pub returns-clause-other : goal.returns-clause-other
returns-clause-other c page low out =
    apart_within c.args.next c.args.end _ _ page (omega (arith, c.min.ensures)) (omega (arith, c.max.ensures)) (c.stretch.ensures page low out)
