use Rattle.std.proofs.Common.{refl, subst}
use Rattle.space_model.specs.Judges.{Makes}
use Rattle.space_model.specs.Blocks.{areas_of}
use Rattle.space_model.proofs.InRoom.{whole_place}
use Rattle.space_model.proofs.stored.Stored.change.Goals as goal

-- the change that found no room had changed nothing
pub returns-clause-made : goal.returns-clause-made
returns-clause-made c =
    subst (λ X. Makes (areas_of X) c.args.change c.in-Some-change_at.reply (areas_of c.change_at-2.new.self.blocks.items))
    (c.in_default.ensures.none refl).0 c.in-Some-change_at.ensures.made
