use Rattle.std.proofs.Common.{subst}
use Rattle.std.specs.Prelude.{Option, Some}
use Rattle.lock_core.specs.declared.range.Held.{Held}
use Rattle.lock_core.specs.declared.range.Mode.TheVariants.{Reader}
use Rattle.area_rows.specs.Callers.{held_span}
use Rattle.area_looks.specs.Shown.{AreAreasIn, WasSeen}
use Rattle.area_looks.proofs.Showing.{lock_same, ok_then, was_on}
use Rattle.area_looks.proofs.waiting.hold_counting.Goals as goal

-- what was read under the hold was so while it was held
pub returns-clause-once : goal.returns-clause-once
returns-clause-once g c =
    let a = c.acquire in let r = c.areas_held in let span = c.args.span in
    ok_then r.result (λ (w : WasSeen a.new.caller.seat a.new.caller.seat.held (AreAreasIn span.lo span.hi r.new.into.items)).
    was_on (lock_same a.ensures.call)
    (subst (λ (h : Option Held). WasSeen a.new.caller.seat h (AreAreasIn span.lo span.hi r.new.into.items)) a.ensures.held w)) r.ensures.were
