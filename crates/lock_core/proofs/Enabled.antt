-- The line of a step that a view enables, and what a Walk leaves of the view. A lock that runs cites these.
use Rattle.std.proofs.Common.{◌≡◌, ℕ, true, refl}
use Rattle.std.specs.Prelude.{Option, Some, None, is_some, unwrap_or}
use Rattle.lock_core.specs.declared.views.View.{View}
use Rattle.lock_core.specs.declared.steps.Step.{Step}
use Rattle.lock_core.specs.declared.steps.Step.TheVariants.{Walk}
use Rattle.lock_core.specs.Views.{walked}
use Rattle.lock_core.specs.StepTable.{Plan, IsLine, loads, walk}
use Rattle.lock_core.specs.Machine.{plan}
use Rattle.lock_core.specs.Operations.{planned, IsEnabled}
use Rattle.lock_core.proofs.Table.{line_of_plan}

some_is : {A : Type 0} (o : Option A) (d : A) → is_some o ≡ true → o ≡ Some (unwrap_or o d)
some_is None d e = absurd (cc)
some_is (Some a) d e = refl

module _ (seats s : ℕ) (v : View) where
  -- an enabled step has a plan, and it is the table's line
  pub is_planned : (step : Step) → IsEnabled seats s v step → plan seats s v step ≡ Some (planned seats s v step)
  is_planned step may = some_is (plan seats s v step) (loads 0 (λ _. v)) may

  -- the plan of an enabled step is a line of the table
  pub line_of : (step : Step) → IsEnabled seats s v step → IsLine seats s v step (planned seats s v step)
  line_of step may = line_of_plan seats s v step (planned seats s v step) (is_planned step may)

  -- what an enabled Walk leaves, by the cursor of the view
  pub walk_on : (w : ℕ) → IsEnabled seats s v Walk → (planned seats s v Walk).view w ≡ walked v v.cursor w
  walk_on w may = by_line _ (line_of Walk may)
    where
      by_line : (p : Plan) → IsLine seats s v Walk p → p.view w ≡ walked v v.cursor w
      by_line p (walk cell odd hand at) = refl
