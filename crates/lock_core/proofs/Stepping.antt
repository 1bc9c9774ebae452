-- A step that was made: the view that it was made in, its line, and the state that the line's plan gives.
use Rattle.std.proofs.Common.{◌≡◌, ℕ, Some}
use Rattle.std.specs.Prelude.{slice_get}
use Rattle.lock_core.specs.declared.views.View.{View}
use Rattle.lock_core.specs.declared.steps.Step.{Step}
use Rattle.lock_core.specs.StepTable.{Plan, IsLine}
use Rattle.lock_core.specs.Machine.{Machine, after, carried_out}
use Rattle.lock_core.proofs.Table.{given-some, line_of_plan}

-- a step of seat s that was made: its view, its plan, and the next state by that plan
pub record Stepped (m next : Machine) (s : ℕ) (step : Step) : Type 0 where
  -- the view before the step
  pub view : View
  -- which is that of seat s
  pub at : slice_get m.views s ≡ Some view
  -- what the step does
  pub plan : Plan
  -- which is the table's line for that view
  pub line : IsLine m.seats s view step plan
  -- the next state is the one before with the plan carried out
  pub is : carried_out m s plan ≡ next

-- a step with a state after it was made by a line of the table
pub stepped : (m next : Machine) (s : ℕ) (step : Step) → after m s step ≡ Some next → Stepped m next s step
stepped m next s step e =
    let v = given-some _ _ _ e in let p = given-some _ _ _ v.2 in
    record { view = v.0; at = v.1; plan = p.0; line = line_of_plan m.seats s v.0 step p.0 p.1; is = cc }
