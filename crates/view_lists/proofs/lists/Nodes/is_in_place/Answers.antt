use Rattle.std.proofs.Common.{rules, ◌≡◌, ◌%◌, ◌<◌, length, get_or}
use Rattle.view_lists.proofs.Times.{when_equal}
use Rattle.view_lists.proofs.lists.Nodes.is_in_place.Goals as goal

-- a node that stands at its own place is in the list
pub returns-then-place-len : goal.returns-then-place-len
returns-then-place-len c =
    let less : c.args.node % 16 < length c.args.self.now = search rules in
    let at : c.index.result.now ≡ get_or c.args.self.now (c.args.node % 16) c.index.result.now = search rules in
    when_equal c.args.self.now (c.args.node % 16) c.index.result.now c.index.result.now c.args.node less at
