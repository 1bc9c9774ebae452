use Rattle.std.proofs.Common.{◌≡◌, map}
use Rattle.lock_core.specs.Machine.{numbers_from, start_view}
use Rattle.lock_core.proofs.state.fresh.Given as goal

-- the views made so far are those with which their seats begin
abbrev pub invariant-loop-seat : goal.invariant-loop-seat
invariant-loop-seat l = l.views.items ≡ map (start_view l.seats) (numbers_from 0 l.seat)
