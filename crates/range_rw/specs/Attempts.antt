-- What one attempt for a range leaves of a seat: a try, or a round of `acquire`, which is patient and may make further
-- looks. This project's own profile.
use Rattle.std.specs.Prelude.{◌≡◌, ◌≢◌, ◌↔◌, ℕ, ◌+◌, ◌*◌, ◌≤◌, Bool, [], Some, None, Result, IfErr, OnOk, OnErr}
use Rattle.list_cuts.specs.Cut.{list_count, TakesTwo}
use Rattle.lock_core.specs.declared.range.Held.{Held}
use Rattle.epoch_pools.specs.Record.{KeepsOccupied}
use Rattle.range_rw.specs.declared.refusals.NotHeld.{NotHeld}
use Rattle.range_rw.specs.Contract.{TableShape, SeatState, AsksFor, AsksOnly, IsLockCall, IsCause, IsLongRefusal, IsReadyLeft, IsSpentIn, TellsList}
use Rattle.range_rw.specs.Contract.{ClosesOthers, IsRefusedAfter, KeepsClear, MakesFew, Meets, StandsIn, TakesMany, pools_at, try_steps}
use Rattle.range_rw.specs.Several.{IsOnce, TakesAlone}

pub record IsAttempt {P A : Type 0} (t : TableShape) (patient : Bool) (looks : ℕ) (asked : Held) (result : Result A NotHeld)
    (before after : SeatState P) : Type 0 where
  pub call : IsLockCall before after
  pub keeps : KeepsOccupied before.trace after.trace
  pub asks : AsksOnly asked before.trace.asked after.trace.asked
  pub gets : OnOk result (AsksFor asked before.trace.asked after.trace.asked)
  pub outside : after.scan ≡ None
  pub held : OnOk result (after.held ≡ Some asked)
  pub stands : OnOk result (StandsIn t.cut asked.range after.list)
  pub free : OnErr result (after.held ≡ None)
  -- the other lists
  pub closes : ClosesOthers t.cut asked.range before after
  pub clear : (own : ℕ) → StandsIn t.cut asked.range own → KeepsClear t.cut own before after
  -- with a ready node it was fast, or met another
  pub fast : OnOk result ((k : ℕ) → TakesMany t.cut asked.range k → (pools_at before after.list).ready ≢ [] → MakesFew (6 + k) before after)
  pub met : OnErr result ((own : ℕ) → StandsIn t.cut asked.range own → (pools_at before own).ready ≢ [] → Meets before.trace.taken after.trace)
  pub kept : OnErr result (TakesTwo t.cut asked.range → IsRefusedAfter t.cut looks before after)
  -- what a try has besides
  pub ready : looks ≡ 0 → IsReadyLeft before.pools.ready after.pools.ready
  pub further : looks ≡ 0 → (j : ℕ) → IsReadyLeft (pools_at before j).ready (pools_at after j).ready
  pub cause : IsOnce patient looks → IfErr result (IsCause before after asked)
  pub told : IsOnce patient looks → IfErr result (TellsList t.cut asked.range)
  pub long : IsOnce patient looks → IfErr result (λ why. IsLongRefusal why ↔ IsSpentIn t.seats before after)
  pub bound : IsOnce patient looks → TakesAlone t.cut asked.range → after.trace.taken ≤ before.trace.taken + (64 + 386 * t.seats)
  pub wide : IsOnce patient looks → after.trace.taken ≤ before.trace.taken + (64 + 386 * t.seats) * list_count t.cut
  pub each : IsOnce patient looks → (k : ℕ) → TakesMany t.cut asked.range k → after.trace.taken ≤ before.trace.taken + try_steps t.seats k
