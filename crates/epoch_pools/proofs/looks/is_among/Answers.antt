use Rattle.std.proofs.Common.{◌∙◌}
use Rattle.view_lists.proofs.Times.{any_times}
use Rattle.epoch_pools.proofs.looks.is_among.Goals as goal

-- what the search says is whether the node is counted in the list
pub returns : goal.returns
returns c = c.contains.ensures.value ∙ any_times c.args.node c.args.list.now
