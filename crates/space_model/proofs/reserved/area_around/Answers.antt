-- Only the first area that ends above `lo` can hold the pages.
use Rattle.std.proofs.Common.{arith}
use Rattle.space_model.specs.Blocks.{areas_of}
use Rattle.space_model.proofs.Halving.{first_lies, only_first_lies, none_lies}
use Rattle.space_model.proofs.reserved.area_around.Goals as goal
use Rattle.space_model.proofs.reserved.area_around.Goals.{else-area-lo-via-then-area-lo+else-hi-area, else-area-lo-via-else-area-lo}

-- where the area starts low and ends high enough, the pages lie in it
pub returns-then-hi-area : goal.returns-then-hi-area
returns-then-hi-area c =
    first_lies (areas_of c.args.blocks.now) c.args.lo c.in-Some.area c.requires.in_order c.in-Some.ensures c.args.hi c.if-area-lo.true
    c.if-hi-area.true

-- where it doesn't, they lie in none
pub returns-else-area-lo : goal.returns-else-area-lo
returns-else-area-lo c area lies =
    let both =
    only_first_lies (areas_of c.args.blocks.now) c.args.lo c.in-Some.area c.requires.in_order c.in-Some.ensures c.args.hi area
    c.requires.some lies in
    elim c.else-area-lo.branch [
      | else-area-lo-via-then-area-lo+else-hi-area w ↦ absurd (omega (arith, both, w.if-hi-area.false))
      | else-area-lo-via-else-area-lo w ↦ absurd (omega (arith, both, w.if-area-lo.false))
    ]

-- nor do they where no area ends above `lo`
pub returns-in-None : goal.returns-in-None
returns-in-None c = none_lies (areas_of c.args.blocks.now) c.args.lo c.args.hi c.requires.some c.in-None.ensures
