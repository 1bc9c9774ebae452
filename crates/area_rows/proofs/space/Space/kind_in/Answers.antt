use Rattle.std.proofs.Common.{ℕ, inl, refl, sym, subst, arith}
use Rattle.std.specs.Prelude.{Option}
use Rattle.area_guard.specs.declared.guard.Pass.{Pass}
use Rattle.area_guard.specs.Reads.{HasRead}
use Rattle.area_rows.specs.Callers.{IsKindIn}
use Rattle.area_rows.proofs.Reading.{step_taken}
use Rattle.area_rows.proofs.space.Space.kind_in.Goals as goal

-- the row in the slot has just been read
pub returns-clause-read : goal.returns-clause-read
returns-clause-read c = subst (λ (slot : Option ℕ). IsKindIn c.load_row.new.caller.seat.pass.rows slot c.read_row-kind.result.1) (sym c.in-Some.is) (
  c.load_row.result,
  subst (λ (p : Pass). HasRead p.rows c.in-Some.place c.load_row.result) (sym c.load_row.ensures.step.pass) (inl (refl, refl)),
  c.read_row-kind.ensures.kind,
)

-- by one step
pub returns-clause-loads : goal.returns-clause-loads
returns-clause-loads c = let t = step_taken _ _ _ _ c.load_row.ensures.step in omega arith
