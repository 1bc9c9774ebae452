-- What is proved of the definitions of this crate, each named by the contract of a public function with no body. The
-- laws of the lock as a whole stand in the crate `lock_laws`. This project's own profile.
use Rattle.std.specs.Prelude.{◌≡◌, ℕ, ◌/◌, ◌↔◌, Option, Some}
use Rattle.lock_core.specs.Range.{Interval}
use Rattle.lock_core.specs.Grants.{Conflicts}
use Rattle.lock_core.specs.declared.range.Mode.{Mode}
use Rattle.lock_core.specs.declared.range.Mode.TheVariants.{Reader, Writer}
use Rattle.lock_core.specs.declared.range.Held.{Held}
use Rattle.lock_core.specs.declared.views.Todo.TheVariants.{Forward, FromHead}
use Rattle.lock_core.specs.declared.views.Own.TheVariants.{Filling, Linked}
use Rattle.lock_core.specs.declared.compare.Verdict.TheVariants.{Conflict}
use Rattle.lock_core.specs.Words.{mode_of}
use Rattle.lock_core.specs.Compare.{verdict_of}
use Rattle.lock_core.specs.declared.views.View.{View}
use Rattle.lock_core.specs.declared.steps.Step.{Step}
use Rattle.lock_core.specs.StepTable.{Plan, IsLine}
use Rattle.lock_core.specs.Machine.{plan}

-- the computing plan is the table: it gives a plan exactly where that is the line of the step
abbrev pub PlanIsLine : Type 0
PlanIsLine = (seats s : ℕ) (v : View) (step : Step) (p : Plan) → (plan seats s v step ≡ Some p) ↔ IsLine seats s v step p

-- what a node holds whose lo word and hi word these are
abbrev pub node_held : ℕ → ℕ → Held
node_held node_lo word = record { range = record { lo = node_lo; hi = word / 2 }; mode = mode_of word }

-- a node is judged to be in conflict exactly where what it holds conflicts with what the seat is to hold: while the
-- seat fills a node whose ends are known, while a reader validates forward, and while a writer validates from the head
pub record JudgesByConflict : Type 0 where
  pub filling : (node lo hi : ℕ) (mode : Mode) (aimed : Option ℕ) (node_lo word : ℕ) →
      (verdict_of (Filling node (Some lo) (Some hi) mode aimed) node_lo word ≡ Conflict) ↔ Conflicts
      (record { range = record { lo = lo; hi = hi }; mode = mode }) (node_held node_lo word)
  pub reader : (node : ℕ) (range : Interval) (mode : Mode) (node_lo word : ℕ) →
      (verdict_of (Linked node range mode Forward) node_lo word ≡ Conflict) ↔ Conflicts (record { range = range; mode = Reader }) (node_held node_lo word)
  pub writer : (node : ℕ) (range : Interval) (mode : Mode) (node_lo word : ℕ) →
      (verdict_of (Linked node range mode FromHead) node_lo word ≡ Conflict) ↔ Conflicts (record { range = range; mode = Writer }) (node_held node_lo word)
