use Rattle.std.proofs.Common.{refl, ◌%◌}
use Rattle.view_lists.proofs.Times.{when_equal}
use Rattle.epoch_pools.proofs.looks.is_in_place.Goals as goal

-- a node that stands at its own place is in the list
pub returns-then-place-list : goal.returns-then-place-list
returns-then-place-list c = when_equal c.args.list.now (c.args.node % 16) 0 _ c.args.node c.if-place-list.true refl
