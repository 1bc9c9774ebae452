use Rattle.std.proofs.Common.{rules, ◌≡◌}
use Rattle.lock_core.specs.declared.views.Todo.TheVariants.{Forward}
use Rattle.test_list.proofs.OwnNodes.{validates_if}
use Rattle.test_list.proofs.asking.may_validate.Goals as goal

-- a reader that met a conflict may validate again where its cursor was found at a known node
pub returns-then-eq : goal.returns-then-eq
returns-then-eq c =
    let forward : c.in-Some.todo ≡ Forward = search rules in
    validates_if c.args.seats c.args.view.now c.in-Some.todo c.in-Some.ensures c.if-not-is_inside.ensures c.in-Some-cursor.cursor
    c.is_at_known_node.result c.in-Some-cursor.is forward c.is_at_known_node.ensures
