use Rattle.std.proofs.Common.{take}
use Rattle.space_model.specs.Areas.{IsAreaList}
use Rattle.space_model.proofs.order.first_wrong.Given as goal

-- the areas so far are in order
abbrev pub invariant-loop-i : goal.invariant-loop-i
invariant-loop-i l = IsAreaList (take l.i l.list)
