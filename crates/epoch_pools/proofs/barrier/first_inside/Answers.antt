use Rattle.std.proofs.Common.{arith}
use Rattle.epoch_pools.proofs.Taking.{all_passed}
use Rattle.epoch_pools.proofs.barrier.first_inside.Goals as goal

-- behind the loop all other seats would be passed
pub unreachable-requires-2 : goal.unreachable-requires-2
unreachable-requires-2 c = let all = all_passed c.args.number c.args.view.now
    (λ k less other. c.seats.invariant k (omega arith) other) in let not = c.requires.barred in cc
