use Rattle.std.proofs.Common.{◌≡◌, ◌≤◌, ◌∙◌, ap, subst, sym}
use Rattle.std.specs.Prelude.{OnOk, OnErr}
use Rattle.list_cuts.specs.Cut.{Regions, TakesTwo}
use Rattle.word_rows.specs.declared.backoff.TheConstants.{REFUSED_ROUNDS, KEPT_LOOKS}
use Rattle.lock_core.specs.Range.{Interval}
use Rattle.range_rw.specs.Contract.{SeatState, TableShape, AsksFor, AsksOnly, IsRefusedAfter}
use Rattle.area_guard.specs.declared.guard.Pass.{Pass}
use Rattle.area_rows.specs.Callers.{CallerView}
use Rattle.area_rows.proofs.space.Space.acquire_round.Goals as goal

-- a caller that held nothing has nothing to write, and no step of the lock changes that
pub returns-clause-rest : goal.returns-clause-rest
returns-clause-rest c = ap (λ (p : Pass). p.pending) c.acquire_round.ensures.call.pass
    ∙ c.caller.invariant.6 (ap (λ (v : CallerView). v.seat.held) c.caller.view_is ∙ c.requires.free)

-- the numbers of the span's pages are asked for and no others
pub returns-clause-asks : goal.returns-clause-asks
returns-clause-asks c =
    let r = c.range_of.ensures in
    subst (λ (z : Interval × SeatState Pass). AsksOnly (record { range = z.0; mode = c.args.mode }) z.1.trace.asked c.acquire_round.new.seat.trace.asked)
    (λ i. (record { lo = r.lo i; hi = r.hi i }, ap (λ (v : CallerView). v.seat) c.caller.view_is i)) c.acquire_round.ensures.asks

-- at least once where they are got
pub returns-clause-gets : goal.returns-clause-gets
returns-clause-gets c =
    let r = c.range_of.ensures in
    subst (λ (z : Interval × SeatState Pass). OnOk c.acquire_round.result
    (AsksFor (record { range = z.0; mode = c.args.mode }) z.1.trace.asked c.acquire_round.new.seat.trace.asked))
    (λ i. (record { lo = r.lo i; hi = r.hi i }, ap (λ (v : CallerView). v.seat) c.caller.view_is i)) c.acquire_round.ensures.gets

-- a round with further looks ends as one of the lock
pub returns-clause-kept : goal.returns-clause-kept
returns-clause-kept c =
    let r = c.range_of.ensures in
    subst (λ (z : Regions × Interval × SeatState Pass). OnErr c.acquire_round.result
    (TakesTwo z.0 z.1 → REFUSED_ROUNDS ≤ c.args.refused → IsRefusedAfter z.0 KEPT_LOOKS z.2 c.acquire_round.new.seat))
    (λ i. (ap (λ (t : TableShape). t.cut) c.self.view_is i, record { lo = r.lo i; hi = r.hi i }, ap (λ (v : CallerView). v.seat) c.caller.view_is i))
    c.acquire_round.ensures.kept
