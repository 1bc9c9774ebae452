use Rattle.std.proofs.Common.{◌++◌, ◌∙◌, All, ap, subst}
use Rattle.std.proofs.lemmas.List.Elements.{All-append}
use Rattle.space_model.specs.Blocks.{IsBlock}
use Rattle.space_model.proofs.InBlocks.{blocks_parts}
use Rattle.space_model.proofs.InRoom.{poured}
use Rattle.space_model.proofs.blocks.pour_at.Goals as goal

-- the other blocks have the areas that they had
pub returns-clause-areas : goal.returns-clause-areas
returns-clause-areas c =
    poured c.args.blocks.now c.split_at_mut-rest.result.0.now c.split_at_mut-rest.result.1.now _ c.split_at_mut-window.result.1.now
    c.args.areas.now c.args.first c.args.count c.split_at_mut-rest.ensures.front c.split_at_mut-rest.ensures.back
    c.split_at_mut-window.ensures.back c.pour.ensures.areas

-- and are the blocks that they were
pub returns-clause-blocks : goal.returns-clause-blocks
returns-clause-blocks c =
    let F = c.split_at_mut-rest.result.0.now in let M = c.split_at_mut-window.result.0.now in let D = c.split_at_mut-window.result.1.now in
    let parts = blocks_parts F M D
    (subst (All IsBlock) (c.split_at_mut-rest.ensures.value ∙ ap (λ X. F ++ X) c.split_at_mut-window.ensures.value) c.requires.blocks) in
    All-append IsBlock F _ parts.0 (All-append IsBlock _ D c.pour.ensures.blocks parts.2)
