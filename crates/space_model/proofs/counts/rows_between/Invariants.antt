use Rattle.std.proofs.Common.{◌≡◌, ◌+◌, ◌*◌, ◌≤◌, drop}
use Rattle.space_model.specs.Cutting.{rows_between}
use Rattle.space_model.proofs.counts.rows_between.Given as goal

-- the rows so far and those that are left are all of them
abbrev pub invariant-loop-area : goal.invariant-loop-area
invariant-loop-area l =
    (l.rows + rows_between l.at (drop l.area-index l.areas) l.to ≡ rows_between l.from l.areas l.to)
    × (l.rows ≤ 2 * l.area-index)
