-- The blocks are searched one after another, each up to its end.
use Rattle.std.proofs.Common.{◌≡◌, ◌≤◌, ◌<◌, inl, inr, ◌∙◌, sym, subst, arith}
use Rattle.space_model.specs.Areas.{IsAreaList, kind_at}
use Rattle.space_model.specs.Sorts.{IsEnd, NoneOf}
use Rattle.space_model.specs.Cutting.{end_of}
use Rattle.space_model.specs.Blocks.{areas_of}
use Rattle.space_model.proofs.InBlocks.{Passed, block_areas, passed_up, passed_end, passed_all, ends_there, none_there, end_free, end_all}
use Rattle.space_model.proofs.blocks.end_of.Goals as goal

-- the areas of a block are an area list
pub end_of-page-requires-clause-in_order : goal.end_of-page-requires-clause-in_order
end_of-page-requires-clause-in_order c =
    subst IsAreaList (sym c.as_slice-areas.ensures.value)
    (block_areas _ _ _ _ _ c.requires.in_order c.blocks-2.invariant.0 c.in-Some.ensures.cases.0)

-- a page of the sort in a block ends the search
pub returns-then-page-border : goal.returns-then-page-border
returns-then-page-border c =
    let is = c.as_slice-areas.ensures.value in
    let at = c.blocks-2.at in let border = c.min-border.result in let page = c.end_of-page.result in
    let end : border ≤ end_of 0 c.in-Some.block.now.areas.items =
    subst (λ X. border ≤ end_of 0 X) is (omega (arith, c.min-border.ensures, c.end_of-end.ensures)) in
    ends_there _ _ _ _ _ c.requires.in_order c.blocks-2.invariant.0 c.in-Some.ensures.cases.0 c.args.sort c.args.lo c.args.hi border page
    c.blocks-2.invariant.1 end (omega (arith, c.min-border.ensures)) c.blocks-2.invariant.3
    (subst (λ X. IsEnd (kind_at X) c.args.sort at border page) is c.end_of-page.ensures) (inl c.if-page-border.true)

-- so does a block that reaches up to the end of the search
pub returns-then-border-hi : goal.returns-then-border-hi
returns-then-border-hi c =
    let is = c.as_slice-areas.ensures.value in
    let at = c.blocks-2.at in let border = c.min-border.result in let page = c.end_of-page.result in
    let end : border ≤ end_of 0 c.in-Some.block.now.areas.items =
    subst (λ X. border ≤ end_of 0 X) is (omega (arith, c.min-border.ensures, c.end_of-end.ensures)) in
    let last : page ≡ c.args.hi = omega (arith, c.end_of-page.ensures.within, c.if-page-border.false, c.if-border-hi.true) in
    subst (IsEnd (kind_at (areas_of c.args.blocks.now)) c.args.sort c.args.lo c.args.hi) last
    (ends_there _ _ _ _ _ c.requires.in_order c.blocks-2.invariant.0 c.in-Some.ensures.cases.0 c.args.sort c.args.lo c.args.hi border page
    c.blocks-2.invariant.1 end (omega (arith, c.min-border.ensures)) c.blocks-2.invariant.3
    (subst (λ X. IsEnd (kind_at X) c.args.sort at border page) is c.end_of-page.ensures) (inr c.if-border-hi.true))

-- a block without such a page is passed
pub blocks-2-preserved-else-border-hi : goal.blocks-2-preserved-else-border-hi
blocks-2-preserved-else-border-hi c =
    let is = c.as_slice-areas.ensures.value in
    let at = c.blocks-2.at in let border = c.min-border.result in let page = c.end_of-page.result in
    let end : border ≤ end_of 0 c.in-Some.block.now.areas.items =
    subst (λ X. border ≤ end_of 0 X) is (omega (arith, c.min-border.ensures, c.end_of-end.ensures)) in
    let back : end_of 0 c.in-Some.block.now.areas.items ≤ border =
    subst (λ X. end_of 0 X ≤ border) is (omega (arith, c.min-border.ensures, c.end_of-end.ensures, c.if-border-hi.false)) in
    let last : page ≡ border = omega (arith, c.end_of-page.ensures.within, c.if-page-border.false) in
    let up : at ≤ border = omega (arith, c.end_of-page.ensures.from, c.end_of-page.ensures.within) in
    let less : border < c.args.hi = omega (arith, c.min-border.ensures, c.if-border-hi.false) in
    let low : c.args.lo ≤ border = omega (arith, c.blocks-2.invariant.1, up) in
    let passed = passed_up _ _ at border up c.blocks-2.invariant.0 in
    let none : NoneOf (kind_at c.in-Some.block.now.areas.items) c.args.sort at border =
    subst (λ X. NoneOf (kind_at X) c.args.sort at border) is
    (subst (NoneOf (kind_at c.as_slice-areas.result.now) c.args.sort at) last c.end_of-page.ensures.none_below) in (
      passed_end _ _ _ _ _ c.requires.in_order passed c.in-Some.ensures.cases.0 back,
      low,
      less,
      none_there _ _ _ _ _ c.requires.in_order c.blocks-2.invariant.0 c.in-Some.ensures.cases.0 c.args.sort c.args.lo border end
          c.blocks-2.invariant.3 none,
    )

-- so is one that ends before the search has come
pub blocks-2-preserved : goal.blocks-2-preserved
blocks-2-preserved c =
    let end : end_of 0 c.in-Some.block.now.areas.items ≤ c.blocks-2.at =
    subst (λ X. end_of 0 X ≤ c.blocks-2.at) c.as_slice-areas.ensures.value (omega (arith, c.end_of-end.ensures, c.if-at-end.false)) in (
      passed_end _ _ _ _ _ c.requires.in_order c.blocks-2.invariant.0 c.in-Some.ensures.cases.0 end,
      c.blocks-2.invariant.1,
      c.blocks-2.invariant.2,
      c.blocks-2.invariant.3,
    )

-- behind all areas the pages are free
pub returns-then-is_sort : goal.returns-then-is_sort
returns-then-is_sort c =
    end_free (areas_of c.args.blocks.now) c.args.sort c.args.lo c.args.hi c.blocks-2.at c.blocks-2.invariant.1
    (omega (arith, c.blocks-2.invariant.2))
    (passed_all _ _ _ c.in_default.ensures.cases c.blocks-2.invariant.0) c.blocks-2.invariant.3 (sym c.is_sort.ensures ∙ c.if-is_sort.true)

-- and of no other sort
pub returns-else-is_sort : goal.returns-else-is_sort
returns-else-is_sort c =
    end_all (areas_of c.args.blocks.now) c.args.sort c.args.lo c.args.hi c.blocks-2.at c.blocks-2.invariant.1
    (omega (arith, c.blocks-2.invariant.2))
    (passed_all _ _ _ c.in_default.ensures.cases c.blocks-2.invariant.0) c.blocks-2.invariant.3 (sym c.is_sort.ensures ∙ c.if-is_sort.false)
