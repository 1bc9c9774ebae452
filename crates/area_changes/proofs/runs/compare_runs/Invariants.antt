use Rattle.std.proofs.Common.{ℕ, Option, drop}
use Rattle.page_types.specs.declared.calls.Kind.{Kind}
use Rattle.space_model.specs.Areas.{kind_at}
use Rattle.area_changes.specs.Touching.{AreBelow, AreRuns}
use Rattle.area_changes.proofs.runs.compare_runs.Given as goal

-- the list has the changes of the pages before the runs that are left
abbrev pub invariant-runs : goal.invariant-runs
invariant-runs l = (before : ℕ → Option Kind) (lo hi : ℕ) → AreRuns before lo l.runs hi →
    AreBelow before (kind_at l.space) lo l.initial.list.items →
    (at : ℕ) × AreRuns before at (drop l.run-index l.runs) hi × AreBelow before (kind_at l.space) at l.list.items
