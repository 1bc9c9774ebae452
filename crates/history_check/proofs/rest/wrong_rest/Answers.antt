use Rattle.std.proofs.Common.{arith}
use Rattle.history_check.proofs.RestLines.{leads_on, leads_wrong}
use Rattle.history_check.proofs.rest.wrong_rest.Goals as goal

-- the next area's line is missing
pub returns-in_default-behind_area-clause-place : goal.returns-in_default-behind_area-clause-place
returns-in_default-behind_area-clause-place c =
    leads_wrong c.in-Some.area.now _ c.in-Some.others.now _ c.areas.count c.args.areas.now _ c.in-Some.ensures.cases.0 c.in_default-behind_area.ensures
    c.areas.invariant.0

-- an area and its line less are left
pub areas-preserved : goal.areas-preserved
areas-preserved c =
    let behind = c.in-Some-behind_area.ensures in (
      leads_on c.in-Some.area.now _ c.in-Some.others.now behind.line _ _ c.areas.count c.args.areas.now _ c.in-Some.ensures.cases.0 behind.lines
          behind.line_is c.areas.invariant.0,
      omega (arith, c.areas.invariant.1, behind.shorter),
    )
