use Rattle.std.proofs.Common.{rules, ◌≡◌}
use Rattle.lock_core.specs.Nodes.{Listed, listed}
use Rattle.test_list.proofs.calls.mark_now.Goals as goal

-- the own node is linked, and a guard that promises nothing is always at rest
pub mark-requires-clause-order : goal.mark-requires-clause-order
mark-requires-clause-order g c =
    let linked : (k : Listed) × (c.args.hand.now.part.core.own ≡ listed k) = search rules in
    record { node = linked.0; is = linked.1; rest = λ done counted. tt }
