use Rattle.std.proofs.Common.{sym, ◌∙◌, arith, rules, ◌<◌, length}
use Rattle.space_model.proofs.InBlocks.{end_page}
use Rattle.space_model.proofs.blocks.end_from.Goals as goal

-- a list with an area ends at its last one
pub returns-else-is_empty : goal.returns-else-is_empty
returns-else-is_empty c =
    let some : 0 < length c.args.areas.now = search rules in
    c.end_of.ensures ∙ sym (end_page c.args.areas.now c.args.page some)
