use Rattle.std.proofs.Common.{◌≡◌, drop}
use Rattle.lock_core.specs.Machine.{run}
use Rattle.lock_laws.proofs.runs.play.Given as goal

-- the rest of the run from the state now leads to what the whole run from the first state leads to
abbrev pub invariant-loop-seat : goal.invariant-loop-seat
invariant-loop-seat l = run l.state (drop l.seat-index l.turns) ≡ run l.fn.state l.turns
