use Rattle.std.proofs.Common.{rules}
use Rattle.lock_core.specs.Nodes.{Filled}
use Rattle.test_list.proofs.OwnNodes.{fresh_if}
use Rattle.test_list.proofs.asking.may_fill.Goals as goal

-- a node that is being filled may be filled where it was found to be aimed at nothing
pub returns-in-Filling : goal.returns-in-Filling
returns-in-Filling c =
    let own : Filled = record { node = c.in-Filling.node; lo = c.in-Filling.lo; hi = c.in-Filling.hi; mode = c.in-Filling.mode; aimed = c.in-Filling.aimed } in
    fresh_if c.args.view.now own c.unaimed.result c.in-Filling.is (search rules) c.unaimed.ensures
