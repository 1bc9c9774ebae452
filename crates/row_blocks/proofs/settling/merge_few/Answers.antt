use Rattle.std.proofs.Common.{◌∙◌}
use Rattle.row_blocks.proofs.Steps.{three_steps}
use Rattle.row_blocks.proofs.settling.merge_few.Goals as goal

pub returns-clause-kept : goal.returns-clause-kept
returns-clause-kept g c = three_steps g.W.Loads _ _ _ _ _ c.body_of-one.ensures.kept c.body_of-other.ensures.kept c.merge.ensures.kept

-- each block tells its gap still
pub returns-clause-told : goal.returns-clause-told
returns-clause-told g c = λ all. c.merge.ensures.told (rw (c.body_of-other.ensures.words ∙ c.body_of-one.ensures.words) all)
