use Rattle.epoch_pools.proofs.Apart.{are_seen}
use Rattle.epoch_pools.proofs.laws.keeps_lock.Goals as goal

-- the words of each list and the views by number meet the lock's invariant
pub returns : goal.returns
returns g c = λ cut seats clients s running.
    (running.0, are_seen cut seats clients g.G.Guard.holds s running.0 running.1 running.2, running.2.lists_are.apart.locks)
