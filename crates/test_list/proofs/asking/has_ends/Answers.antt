use Rattle.lock_core.specs.Nodes.{Filled}
use Rattle.test_list.proofs.OwnNodes.{ends_if}
use Rattle.test_list.proofs.asking.has_ends.Goals as goal

-- a node that is being filled has its ends where both were found to be known
pub returns-in-Filling : goal.returns-in-Filling
returns-in-Filling c =
    let own : Filled = record { node = c.in-Filling.node; lo = c.in-Filling.lo; hi = c.in-Filling.hi; mode = c.in-Filling.mode; aimed = c.in-Filling.aimed } in
    ends_if c.args.view.now.own own c.are_known.result c.in-Filling.is c.are_known.ensures
