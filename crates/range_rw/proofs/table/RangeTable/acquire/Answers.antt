use Rattle.std.proofs.Common.{◌≡◌, ◌≢◌, ◌⊎◌, true, [], rules, inr, sym, subst}
use Rattle.std.specs.Prelude.{None}
use Rattle.range_rw.specs.Contract.{SeatState, AsksFor, ClosesOthers, KeepsOthers, Meets, pools_at}
use Rattle.range_rw.proofs.Asking.{asks_on, for_then}
use Rattle.range_rw.proofs.Choosing.{closes_on, fast_on, met_on, only_closed}
use Rattle.range_rw.proofs.table.RangeTable.acquire.Goals.{in-None, in-Some+in-Ok}
use Rattle.range_rw.proofs.table.RangeTable.acquire.Goals as goal

-- one round more holds nothing, and asked for the range or for nothing, also behind a pause
pub loop-preserved-in-Later : goal.loop-preserved-in-Later
loop-preserved-in-Later g c = let i = c.loop.invariant in let e = c.acquire_round.ensures in let d = c.acquire_round.new.seat in record {
  held = search rules;
  call = search rules;
  asks = asks_on i.asks e.asks;
  closes = inr (e.outside, closes_on d i.closes e.closes);
  met = inr (met_on c.args.seat.now c.loop.seat d i.met e.keeps c.in-Err.ensures.met);
}

pub loop-preserved : goal.loop-preserved
loop-preserved g c = let i = c.loop.invariant in let e = c.acquire_round.ensures in let d = c.acquire_round.new.seat in record {
  held = search rules;
  call = search rules;
  asks = asks_on i.asks e.asks;
  closes = inr (e.outside, closes_on d i.closes e.closes);
  met = inr (met_on c.args.seat.now c.loop.seat d i.met e.keeps c.in-Err.ensures.met);
}

-- the last round asked for the range
pub returns-clause-asks : goal.returns-clause-asks
returns-clause-asks g c = elim c.match-next.branch [
  | in-None w ↦ let never = w.in-None.ensures.steps in absurd cc
  | in-Some+in-Ok w ↦ subst (λ (s : SeatState _). AsksFor (record { range = c.args.range; mode = c.args.mode }) c.args.seat.now.trace.asked s.trace.asked)
      (sym w.seat-is) (for_then c.loop.invariant.asks w.in-Ok.ensures.gets)
]

-- it leaves the other lists so as the first did
pub returns-clause-closes : goal.returns-clause-closes
returns-clause-closes g c = elim c.match-next.branch [
  | in-None w ↦ let never = w.in-None.ensures.steps in absurd cc
  | in-Some+in-Ok w ↦ subst (λ (s : SeatState _). ClosesOthers c.args.self.now.cut c.args.range c.args.seat.now s) (sym w.seat-is)
      (closes_on w.acquire_round.new.seat c.loop.invariant.closes w.acquire_round.ensures.closes)
]

-- and holds by the fast path, or another was met
pub returns-clause-fast : goal.returns-clause-fast
returns-clause-fast g c = elim c.match-next.branch [
  | in-None w ↦ let never = w.in-None.ensures.steps in absurd cc
  | in-Some+in-Ok w ↦ subst (λ (s : SeatState _). (pools_at c.args.seat.now s.list).ready ≢ [] → (s.fast ≡ true) ⊎ Meets c.args.seat.now.trace.taken s.trace)
      (sym w.seat-is) (fast_on c.args.seat.now c.loop.seat w.acquire_round.new.seat c.loop.invariant.met w.acquire_round.ensures.keeps w.in-Ok.ensures.stands
      w.in-Ok.ensures.fast)
]

pub returns-clause-only : goal.returns-clause-only
returns-clause-only g c = elim c.match-next.branch [
  | in-None w ↦ let never = w.in-None.ensures.steps in absurd cc
  | in-Some+in-Ok w ↦ subst (λ (s : SeatState _). c.args.seat.now.scan ≡ None → KeepsOthers c.args.self.now.cut c.args.range c.args.seat.now s)
      (sym w.seat-is) (only_closed c.args.seat.now w.acquire_round.new.seat
      (closes_on w.acquire_round.new.seat c.loop.invariant.closes w.acquire_round.ensures.closes))
]
