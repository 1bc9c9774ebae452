use Rattle.std.proofs.Common.{rules, ◌<◌, ◌∙◌, ap, arith, length}
use Rattle.space_model.specs.Cutting.{end_of}
use Rattle.space_model.proofs.InBlocks.{front_next}
use Rattle.space_model.proofs.blocks.cut_front.Goals as goal

-- a block that ends at or before the page is passed, and behind it is another
pub blocks-2-preserved : goal.blocks-2-preserved
blocks-2-preserved c =
    let some : 0 < length c.in-Some.others.now = search rules in (
      front_next _ _ _ _ _ _ _ _ c.requires.in_order c.blocks-2.invariant.0 c.in-Some.ensures.cases.0
          (c.end_from-next.ensures ∙ ap (end_of c.blocks-2.end) c.as_slice.ensures.value) (omega (arith, c.if-page-next.false)),
      some,
    )
