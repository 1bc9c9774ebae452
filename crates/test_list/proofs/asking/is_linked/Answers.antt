use Rattle.lock_core.specs.Nodes.{Listed}
use Rattle.test_list.proofs.asking.is_linked.Goals as goal

-- the own node is the linked one that was found
pub returns-in-Linked : goal.returns-in-Linked
returns-in-Linked c =
    let k : Listed = record { node = c.in-Linked.node; range = c.in-Linked.range; mode = c.in-Linked.mode; todo = c.in-Linked.todo } in (k, c.in-Linked.is)
