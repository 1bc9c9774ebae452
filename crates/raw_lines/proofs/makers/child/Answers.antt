use Rattle.raw_lines.proofs.MakerFacts.{child_is}
use Rattle.raw_lines.proofs.makers.child.Goals as goal

-- what is found is what the body makes
pub returns : goal.returns
returns c = child_is c.args.body.now c.to_result.result.now c.result_of.result c.to_result.ensures c.result_of.ensures.some c.result_of.ensures.none
