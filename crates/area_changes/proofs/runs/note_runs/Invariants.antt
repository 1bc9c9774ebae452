use Rattle.std.proofs.Common.{◌≤◌, ◌-◌}
use Rattle.space_model.specs.Areas.{kind_at}
use Rattle.area_changes.specs.Touching.{Completes}
use Rattle.area_changes.proofs.runs.note_runs.Given as goal

-- with the runs that are left these are all
abbrev pub invariant-runs : goal.invariant-runs
invariant-runs l = (l.at ≤ l.hi) × Completes (kind_at l.space) l.lo l.hi l.runs.items l.at

-- fewer pages are left with each turn
abbrev pub decreases-runs : goal.decreases-runs
decreases-runs l = l.hi - l.at
