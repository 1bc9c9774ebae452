use Rattle.lock_core.specs.Nodes.{Listed}
use Rattle.test_list.proofs.OwnNodes.{held_if}
use Rattle.test_list.proofs.asking.is_held.Goals as goal

-- a linked node is held where nothing was found to be left to do
pub returns-in-Linked : goal.returns-in-Linked
returns-in-Linked c =
    let own : Listed = record { node = c.in-Linked.node; range = c.in-Linked.range; mode = c.in-Linked.mode; todo = c.in-Linked.todo } in
    held_if c.args.view.now.own own c.is_done.result c.in-Linked.is c.is_done.ensures
