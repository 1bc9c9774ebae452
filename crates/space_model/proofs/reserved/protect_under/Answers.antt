-- The change is simple exactly where as many rows start at the ends of the span.
use Rattle.std.proofs.Common.{◌∙◌, refl, sym, inr, true≢false}
use Rattle.space_model.specs.Blocks.{areas_of}
use Rattle.space_model.proofs.Simple.{member_in_range, simple_in, simple_borders}
use Rattle.space_model.proofs.reserved.protect_under.Goals as goal

-- the area that is widened is in range
pub widened-requires : goal.widened-requires
widened-requires c = member_in_range (areas_of c.args.blocks.now) c.in-Some.area c.requires.in_order c.in-Some.ensures.member

-- what is held, the area widened, fits a simple Protect
pub returns-then-is_simple_in-clause-fits : goal.returns-then-is_simple_in-clause-fits
returns-then-is_simple_in-clause-fits c =
    let span = c.of_valid-span.result in
    let simple =
    simple_in (areas_of c.args.blocks.now) c.args.addr c.args.len c.args.prot span.lo span.hi c.in-Some.area c.of_valid-span.ensures.lo
    c.of_valid-span.ensures.hi c.requires.in_order c.in-Some.ensures span.ordered span.in_range
    (c.is_simple_in.ensures.0 c.if-is_simple_in.true) in
    inr (c.in-Some.area, simple, c.widened.result, refl, c.widened.ensures.first, c.widened.ensures.end)

-- where the test says so, the Protect is simple, and an area is held
pub returns-then-is_simple_in-clause-simple : goal.returns-then-is_simple_in-clause-simple
returns-then-is_simple_in-clause-simple c =
    let span = c.of_valid-span.result in
    let simple =
    simple_in (areas_of c.args.blocks.now) c.args.addr c.args.len c.args.prot span.lo span.hi c.in-Some.area c.of_valid-span.ensures.lo
    c.of_valid-span.ensures.hi c.requires.in_order c.in-Some.ensures span.ordered span.in_range
    (c.is_simple_in.ensures.0 c.if-is_simple_in.true) in
    (λ _. (c.in-Some.area, simple), λ _. tt)

-- where it doesn't, the Protect isn't simple, and no area is held
pub returns-else-is_simple_in-clause-simple : goal.returns-else-is_simple_in-clause-simple
returns-else-is_simple_in-clause-simple c =
    let span = c.of_valid-span.result in (
      λ no. absurd no,
      λ simple.
          true≢false
          (sym
          (c.is_simple_in.ensures.1
          (simple_borders (areas_of c.args.blocks.now) c.args.addr c.args.len c.args.prot span.lo span.hi c.in-Some.area
          c.of_valid-span.ensures.lo c.of_valid-span.ensures.hi c.requires.in_order c.in-Some.ensures span.ordered simple)) ∙
          c.if-is_simple_in.false),
    )
