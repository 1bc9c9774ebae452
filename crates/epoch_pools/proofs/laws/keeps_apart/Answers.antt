use Rattle.std.proofs.Common.{map, ◌∙◌}
use Rattle.std.proofs.lemmas.List.{length-map}
use Rattle.atomic_table.proofs.Lists.{at_map}
use Rattle.list_cuts.specs.Cut.{list_count}
use Rattle.epoch_pools.specs.Beside.{grant_in}
use Rattle.epoch_pools.specs.Running.{pass_of, grants_in, takes_in}
use Rattle.epoch_pools.proofs.Apart.{seen_part}
use Rattle.epoch_pools.proofs.Counting.{counts_exclude}
use Rattle.epoch_pools.proofs.ClientSteps.{cut_by}
use Rattle.epoch_pools.proofs.laws.keeps_apart.Goals as goal

-- no two ranges that count conflict, and the guard's rule holds, of what the views have
pub returns : goal.returns
returns g c = λ cut seats clients s running. let parts = running.0 in let r = running.2 in (
  grants_in (list_count cut) parts,
  map pass_of parts,
  record {
    grant_count = length-map parts (grant_in (list_count cut)) ∙ r.count;
    pass_count = length-map parts pass_of ∙ r.count;
    exclusive = counts_exclude (list_count cut) seats (takes_in cut) s.words parts r.lists_are.apart (cut_by cut r.cut);
    guard = r.lists_are.guard;
    seen = λ p seen. let here = seen_part cut seats clients g.G.Guard.holds s parts running.1 r p seen in
        (at_map (grant_in (list_count cut)) parts p.number p here, at_map pass_of parts p.number p here);
    stands = λ n less. (running.1 n, r.stands n less);
  },
)
