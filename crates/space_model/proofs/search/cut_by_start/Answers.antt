use Rattle.std.proofs.Common.{leb, rules}
use Rattle.std.proofs.lemmas.List.Sorted.{IsPartitionPoint-from_clause, IsPartitionedBy-leb}
use Rattle.space_model.proofs.Halving.{starts_rise, cut_at}
use Rattle.space_model.proofs.search.cut_by_start.Goals as goal

-- the two parts are the areas that start at or below the page, and those that start above it
pub returns : goal.returns
returns c =
    let parted = IsPartitionedBy-leb (λ a. a.lo) c.args.areas.now c.args.page (starts_rise c.args.areas.now c.requires) in
    let point =
    IsPartitionPoint-from_clause (λ a. leb a.lo c.args.page) _ _ c.partition_point-count.ensures.partitioned parted
    (λ a r q k. search rules) in
    cut_at (λ a. a.lo) c.args.areas.now c.args.page c.partition_point-count.result _ _ c.partition_point-count.ensures.bound
    point c.split_at.ensures.front c.split_at.ensures.back
