use Rattle.epoch_pools.specs.Beside.{core_at}
use Rattle.epoch_pools.proofs.Apart.{seen_core}
use Rattle.epoch_pools.proofs.laws.keeps_no_reuse.Goals as goal

-- nobody reaches a node that is ready or being filled
pub returns : goal.returns
returns g c = λ cut seats clients s running i less owner other seen_owner seen_other x idle cursor at reach. let r = running.2 in
    let core = seen_core cut seats clients g.G.Guard.holds s running.0 running.1 r i in
    (r.lists_are.apart.locks i less).invariant.no_reuse owner.number other.number x (core_at i owner.cores) (core_at i other.cores) cursor
    (core owner seen_owner) (core other seen_other) at idle reach
