-- The first area that ends above the page in the first block that has one is the first of all.
use Rattle.std.proofs.Common.{◌≤◌, All, sym, subst, arith}
use Rattle.space_model.specs.Areas.{IsAreaList}
use Rattle.space_model.specs.Cutting.{IsFirstAbove, end_of}
use Rattle.space_model.proofs.InBlocks.{block_areas, first_there, passed_next, passed_end}
use Rattle.space_model.proofs.blocks.first_above.Goals as goal

-- the areas of a block are an area list
pub first_above-requires : goal.first_above-requires
first_above-requires c =
    subst IsAreaList (sym c.as_slice-areas.ensures.value) (block_areas _ _ _ _ _ c.requires c.blocks-2.invariant c.in-Some.ensures.cases.0)

-- what is found there is the first of all
pub returns-in-Some-first_above : goal.returns-in-Some-first_above
returns-in-Some-first_above c =
    first_there _ _ _ _ _ c.requires c.blocks-2.invariant c.in-Some.ensures.cases.0 c.in-Some-first_above.area
    (subst (λ X. IsFirstAbove X c.args.page c.in-Some-first_above.area) c.as_slice-areas.ensures.value c.in-Some-first_above.ensures)

-- a block in which none was found is passed
pub blocks-2-preserved-in_default-first_above : goal.blocks-2-preserved-in_default-first_above
blocks-2-preserved-in_default-first_above c =
    passed_next _ _ _ _ _ c.requires c.blocks-2.invariant c.in-Some.ensures.cases.0
    (subst (All (λ a. a.hi ≤ c.args.page)) c.as_slice-areas.ensures.value c.in_default-first_above.ensures)

-- so is one that ends at or before the page
pub blocks-2-preserved : goal.blocks-2-preserved
blocks-2-preserved c =
    passed_end _ _ _ _ _ c.requires c.blocks-2.invariant c.in-Some.ensures.cases.0
    (subst (λ X. end_of 0 X ≤ c.args.page) c.as_slice-areas.ensures.value (omega (arith, c.end_of.ensures, c.if-page-end_of.false)))
