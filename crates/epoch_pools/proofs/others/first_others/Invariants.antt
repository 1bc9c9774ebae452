use Rattle.std.proofs.Common.{◌≡◌, map, replicate}
use Rattle.lock_core.specs.Machine.{numbers_from, start_view}
use Rattle.epoch_pools.proofs.others.first_others.Given as goal

-- the first views of the seats so far
abbrev pub invariant-loop-seat : goal.invariant-loop-seat
invariant-loop-seat l = l.all.items ≡ map (λ n. replicate l.lists (start_view l.seats n)) (numbers_from 0 l.seat)
