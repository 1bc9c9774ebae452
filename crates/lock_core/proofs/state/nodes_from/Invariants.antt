use Rattle.std.proofs.Common.{◌≡◌}
use Rattle.lock_core.specs.Machine.{numbers_from}
use Rattle.lock_core.proofs.state.nodes_from.Given as goal

-- the nodes so far are the numbers from the first one on
abbrev pub invariant-loop-k : goal.invariant-loop-k
invariant-loop-k l = l.nodes ≡ numbers_from l.first l.k
