use Rattle.std.proofs.Common.{ℕ, ◌≤◌, ◌-◌, Option}
use Rattle.page_types.specs.declared.calls.Kind.{Kind}
use Rattle.space_model.specs.Areas.{kind_at}
use Rattle.area_changes.specs.Touching.{AreBelow, HasKind}
use Rattle.area_changes.proofs.runs.compare_run.Given as goal

-- the list has the changes of the pages so far
abbrev pub invariant-runs : goal.invariant-runs
invariant-runs l = (l.run.pages.lo ≤ l.at) × (l.at ≤ l.hi) ×
    ((before : ℕ → Option Kind) → HasKind before l.run.pages.lo l.run.pages.hi l.run.kind →
    AreBelow before (kind_at l.space) l.run.pages.lo l.initial.list.items → AreBelow before (kind_at l.space) l.at l.list.items)

-- fewer pages are left with each turn
abbrev pub decreases-runs : goal.decreases-runs
decreases-runs l = l.hi - l.at
