-- What one call leaves of a caller, whether it was tried first or not, and what it makes of so many calls before it.
use Rattle.std.proofs.Common.{◌≡◌, ℕ, ◌+◌, refl, ap, ◌∙◌, length, arith}
use Rattle.std.specs.Prelude.{None}
use Rattle.page_types.specs.declared.sets.Access.{Access}
use Rattle.page_types.specs.declared.calls.Call.{Call}
use Rattle.page_types.specs.declared.calls.Call.TheVariants.{Fault}
use Rattle.range_rw.specs.declared.refusals.NotHeld.{NotHeld as Why}
use Rattle.area_rows.specs.declared.answer.Answer.{Answer}
use Rattle.area_guard.specs.declared.guard.Pass.{Pass}
use Rattle.area_rows.specs.Callers.{CallerView}
use Rattle.area_rows.specs.Called.{IsAnswered}
use Rattle.space_model.specs.declared.entries.Entry.{Entry}
use Rattle.page_fault.specs.Faults.{IsNotHeld, IsTried}
use Rattle.page_fault.specs.declared.faults.TriedFault.{TriedFault}
use Rattle.page_fault.specs.declared.faults.TriedFault.TheVariants.{Answered, NotHeld, Spent as NoneLeft}
use Rattle.area_rows.specs.declared.answer.Answer.TheVariants.{Given, Spent}
use Rattle.test_crews.specs.Crews.{HasCalled, IsIdleAgain}
use Rattle.test_crews.proofs.Crews.{answer_back, one_more}
