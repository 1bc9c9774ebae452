use Rattle.std.proofs.Common.{sym, subst}
use Rattle.std.specs.Prelude.{Result, OnOk}
use Rattle.range_queue.specs.declared.answers.NotYet.{NotYet}
use Rattle.range_rw.specs.Contract.{StandsIn}
use Rattle.range_queue.specs.Tries.{TriesNext}
use Rattle.range_queue.proofs.Tried.{tried_next, on_ok, call_kept}
use Rattle.range_queue.proofs.trying.try_clear.Goals as goal

-- what the lock says of its try
pub returns-clause-next : goal.returns-clause-next
returns-clause-next g c = let t = c.try_acquire_uncounted-tried.ensures in
    subst (λ (r : Result _ NotYet). TriesNext c.args.asked.now r c.args.seat.now c.try_acquire_uncounted-tried.new.seat) (sym c.refused_by.ensures)
    (tried_next c.try_acquire_uncounted-tried.result t.call t.asks t.held t.free t.cause)

pub returns-clause-kept : goal.returns-clause-kept
returns-clause-kept g c = call_kept c.try_acquire_uncounted-tried.ensures.call

pub returns-clause-stands : goal.returns-clause-stands
returns-clause-stands g c = let P = StandsIn c.args.table.now.cut c.args.asked.now.range c.try_acquire_uncounted-tried.new.seat.list in
    subst (λ (r : Result _ NotYet). OnOk r P) (sym c.refused_by.ensures)
    (on_ok P c.try_acquire_uncounted-tried.result c.try_acquire_uncounted-tried.ensures.stands)
