use Rattle.std.proofs.Common.{◌∙◌, ap, subst}
use Rattle.lock_core.specs.Range.{Interval}
use Rattle.range_rw.specs.Contract.{SeatState, AsksFor}
use Rattle.area_guard.specs.declared.guard.Pass.{Pass}
use Rattle.area_rows.specs.Callers.{CallerView}
use Rattle.area_rows.proofs.space.Space.acquire.Goals as goal

-- a caller that held nothing has nothing to write, and no step of the lock changes that
pub returns-clause-rest : goal.returns-clause-rest
returns-clause-rest g c = ap (λ (p : Pass). p.pending) c.acquire.ensures.call.pass
    ∙ c.caller.invariant.6 (ap (λ (v : CallerView). v.seat.held) c.caller.view_is ∙ c.requires.free)

-- the numbers of the span's pages are asked for and no others
pub returns-clause-asks : goal.returns-clause-asks
returns-clause-asks g c =
    let r = c.range_of.ensures in
    subst (λ (z : Interval × SeatState Pass). AsksFor (record { range = z.0; mode = c.args.mode }) z.1.trace.asked c.acquire.new.seat.trace.asked)
    (λ i. (record { lo = r.lo i; hi = r.hi i }, ap (λ (v : CallerView). v.seat) c.caller.view_is i)) c.acquire.ensures.asks
