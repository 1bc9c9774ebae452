use Rattle.std.proofs.lemmas.Bool.{eqb-true, eq-eqb}
use Rattle.std.proofs.Common.{subst}
use Rattle.raw_lines.specs.Makers.{EndsWithNumber}
use Rattle.raw_lines.proofs.MakerFacts.{result_one}
use Rattle.raw_lines.proofs.makers.ends_with_zero.Goals as goal

-- the number that the body ends with is 0 or another
pub returns-in-Some : goal.returns-in-Some
returns-in-Some c =
    let n = c.in-Some.number in (
      λ e. subst (EndsWithNumber c.args.body.now) (eqb-true n 0 e) c.in-Some.ensures,
      λ h. eq-eqb n 0 (result_one c.args.body.now n 0 c.in-Some.ensures h),
    )

-- it ends with none
pub returns-in-None : goal.returns-in-None
returns-in-None c = (λ e. absurd cc, λ h. absurd (c.in-None.ensures 0 h))
