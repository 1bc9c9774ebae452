use Rattle.std.proofs.Common.{subst}
use Rattle.range_wait.specs.Moves.{IsWaited}
use Rattle.range_wait.specs.Seats.{WaitState, both}
use Rattle.range_wait.proofs.table.WaitTable.acquire.Goals as goal

pub returns-clause-waited : goal.returns-clause-waited
returns-clause-waited g c = subst (λ (s : WaitState _). IsWaited (record { range = c.args.range; mode = c.args.mode }) s
    (both c.acquire_in.new.seat c.acquire_in.new.event)) c.seat.view_is c.acquire_in.ensures.waited
