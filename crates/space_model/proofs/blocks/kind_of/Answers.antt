-- The first area that ends above the page decides.
use Rattle.std.proofs.Common.{sym, arith}
use Rattle.space_model.specs.Blocks.{areas_of}
use Rattle.space_model.proofs.Halving.{first_kind, first_none, free_past}
use Rattle.space_model.proofs.blocks.kind_of.Goals as goal

-- where the area starts at or below the page, the page has its kind
pub returns-then-area-page : goal.returns-then-area-page
returns-then-area-page c =
    sym (first_kind (areas_of c.args.blocks.now) c.args.page c.in-Some.area c.requires c.in-Some.ensures c.if-area-page.true)

-- where it starts above the page, the page has none
pub returns-else-area-page : goal.returns-else-area-page
returns-else-area-page c =
    sym (first_none (areas_of c.args.blocks.now) c.args.page c.in-Some.area c.requires c.in-Some.ensures c.if-area-page.false)

-- nor has it where no area ends above it
pub returns-in-None : goal.returns-in-None
returns-in-None c = sym (free_past (areas_of c.args.blocks.now) c.args.page c.args.page c.in-None.ensures (omega arith))
