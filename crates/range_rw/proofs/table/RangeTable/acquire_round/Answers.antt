use Rattle.std.proofs.Common.{ℕ, subst}
use Rattle.range_rw.specs.Contract.{IsRefusedAfter}
use Rattle.range_rw.proofs.table.RangeTable.acquire_round.Goals as goal

-- behind so many refused rounds this one has all further looks
pub returns-in-Err-clause-kept : goal.returns-in-Err-clause-kept
returns-in-Err-clause-kept g c = λ two many. subst (λ (n : ℕ). IsRefusedAfter c.args.self.now.cut n c.args.seat.now c.attempt_counting.new.seat)
    (c.looks_after-looks.ensures.some many) (c.in-Err.ensures.made.kept two)
