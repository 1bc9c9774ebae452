use Rattle.std.proofs.Common.{◌∙◌, sym, ap, slice_get}
use Rattle.space_model.proofs.InBlocks.{back_cut}
use Rattle.space_model.proofs.blocks.cut_back.Goals as goal

-- the next block begins with an area above the page
pub returns-then-page-area : goal.returns-then-page-area
returns-then-page-area c =
    back_cut _ _ _ _ _ _ _ c.requires.in_order c.blocks-2.invariant c.in-Some.ensures.cases.0
    (ap (λ X. slice_get X 0) (sym c.deref.ensures.value) ∙ sym c.in-Some-first.ensures.value) c.if-page-area.true
