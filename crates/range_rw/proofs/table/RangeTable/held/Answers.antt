use Rattle.std.proofs.Common.{◌≡◌, sym, ◌∙◌}
use Rattle.lock_core.specs.Machine.{held_at}
use Rattle.range_rw.proofs.Pieces.{some_on}
use Rattle.range_rw.proofs.Seated.{seat_shows}
use Rattle.range_rw.proofs.table.RangeTable.held.Given.{Over}
use Rattle.range_rw.proofs.table.RangeTable.held.Goals.{After-range_of}
use Rattle.range_rw.proofs.table.RangeTable.held.Goals as goal

-- what the own node holds is what the seat holds
same : (g : Over) (c : After-range_of g) → c.args.seat.now.held ≡ held_at c.view.result.now.own
same g c = seat_shows c.seat.inside.hand c.seat.view_is c.seat.invariant c.view.ensures.view

pub returns-clause-some : goal.returns-clause-some
returns-clause-some g c = some_on c.range_of.result (λ r e. same g c ∙ e) c.range_of.ensures.some

-- and it is none exactly where the seat holds nothing
pub returns-clause-none : goal.returns-clause-none
returns-clause-none g c = (λ n. same g c ∙ c.range_of.ensures.none.0 n, λ e. c.range_of.ensures.none.1 (sym (same g c) ∙ e))
