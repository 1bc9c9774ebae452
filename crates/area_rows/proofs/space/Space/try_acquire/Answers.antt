use Rattle.std.proofs.Common.{◌≡◌, ◌+◌, ◌*◌, ◌∙◌, ap, subst, sym, ℕ, arith}
use Rattle.std.specs.Prelude.{IfErr, ◌↔◌}
use Rattle.range_rw.specs.Contract.{SeatState, TableShape, AsksOnly, IsReadyLeft, IsLongRefusal, IsSpentIn, most_steps, pools_at}
use Rattle.range_rw.specs.Several.{TakesAlone}
use Rattle.list_cuts.specs.Cut.{Regions, list_count}
use Rattle.lock_core.specs.Range.{Interval}
use Rattle.area_guard.specs.declared.guard.Pass.{Pass}
use Rattle.area_rows.specs.Callers.{CallerView}
use Rattle.area_rows.proofs.space.Space.try_acquire.Goals as goal

-- a caller that held nothing has nothing to write, and no step of the lock changes that
pub returns-clause-rest : goal.returns-clause-rest
returns-clause-rest g c = ap (λ (p : Pass). p.pending) c.try_acquire.ensures.call.pass
    ∙ c.caller.invariant.6 (ap (λ (v : CallerView). v.seat.held) c.caller.view_is ∙ c.requires.free)

-- a try is refused as too long exactly where a walk of it was as long as one may be
pub returns-clause-long : goal.returns-clause-long
returns-clause-long g c = subst (λ (z : ℕ × SeatState Pass). IfErr c.try_acquire.result (λ why. IsLongRefusal why ↔ IsSpentIn z.0 z.1 c.try_acquire.new.seat))
    (λ i. (ap (λ (t : TableShape). t.seats) c.self.view_is i, ap (λ (v : CallerView). v.seat) c.caller.view_is i)) c.try_acquire.ensures.long

-- the ready nodes of each list
pub returns-clause-further : goal.returns-clause-further
returns-clause-further g c = λ j.
    subst (λ (v : CallerView). IsReadyLeft (pools_at v.seat j).ready (pools_at c.try_acquire.new.seat j).ready) c.caller.view_is
    (c.try_acquire.ensures.further j)

-- the steps of a span that takes one list
pub returns-clause-bound : goal.returns-clause-bound
returns-clause-bound g c = λ alone.
    let t = ap (λ (t : TableShape). t.cut) c.self.view_is in
    let r = c.range_of.ensures in
    let b = c.try_acquire.ensures.bound
    (subst (λ (z : Regions × Interval). TakesAlone z.0 z.1) (λ i. (sym t i, record { lo = sym r.lo i; hi = sym r.hi i })) alone) in
    let n = ap (λ (t : TableShape). t.seats) c.self.view_is in
    let w = ap (λ (v : CallerView). v.seat.trace.taken) c.caller.view_is in omega arith

-- and of any
pub returns-clause-wide : goal.returns-clause-wide
returns-clause-wide g c =
    let b = c.try_acquire.ensures.wide in
    let all : (64 + 386 * c.self.inside.table.seats) * list_count c.self.inside.table.cut
    ≡ (64 + 386 * c.args.self.now.seats) * list_count c.args.self.now.cut = ap most_steps c.self.view_is in
    let w = ap (λ (v : CallerView). v.seat.trace.taken) c.caller.view_is in omega arith

-- the numbers of the span's pages are asked for and no others
pub returns-clause-asks : goal.returns-clause-asks
returns-clause-asks g c =
    let r = c.range_of.ensures in
    subst (λ (z : Interval × SeatState Pass). AsksOnly (record { range = z.0; mode = c.args.mode }) z.1.trace.asked c.try_acquire.new.seat.trace.asked)
    (λ i. (record { lo = r.lo i; hi = r.hi i }, ap (λ (v : CallerView). v.seat) c.caller.view_is i)) c.try_acquire.ensures.asks
