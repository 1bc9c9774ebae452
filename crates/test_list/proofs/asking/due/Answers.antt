use Rattle.lock_core.specs.Nodes.{Listed}
use Rattle.test_list.proofs.OwnNodes.{due_if}
use Rattle.test_list.proofs.asking.due.Goals as goal

-- a linked node has the validation to do that was found
pub returns-in-Linked : goal.returns-in-Linked
returns-in-Linked c =
    let own : Listed = record { node = c.in-Linked.node; range = c.in-Linked.range; mode = c.in-Linked.mode; todo = c.in-Linked.todo } in
    due_if c.args.view.now.own own c.first_of.result c.in-Linked.is c.first_of.ensures
