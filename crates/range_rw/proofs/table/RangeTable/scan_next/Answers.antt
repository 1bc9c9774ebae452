use Rattle.std.proofs.Common.{rules, ◌+◌, ◌*◌, sym, ap, ◌∙◌, subst}
use Rattle.std.specs.Prelude.{IsSome}
use Rattle.list_cuts.specs.Cut.{list_count}
use Rattle.epoch_pools.specs.Hands.{HandState}
use Rattle.marked_list.specs.Order.{IsInside}
use Rattle.range_rw.specs.Contract.{TableShape, SeatState}
use Rattle.range_rw.specs.Seats.{seat_state_of}
use Rattle.range_rw.specs.Scan.{scanned_as, IsScanCall, IsNext, IsScanSeat}
use Rattle.range_rw.proofs.Seated.{free_is, free_shown}
use Rattle.range_rw.proofs.SeatedScans.{scan_seat, scan_seated, scan_call, opened_in, opened_list, opened_most, seat_stays, scan_bound}
use Rattle.range_rw.proofs.table.RangeTable.scan_next.Given.{Over}
use Rattle.range_rw.proofs.table.RangeTable.scan_next.Goals.{After-lists_of-lists}
use Rattle.range_rw.proofs.table.RangeTable.scan_next.Goals as goal

-- its hand is inside its epoch
inside : (g : Over) (c : After-lists_of-lists g) → IsInside c.lists_of-lists.new.hand.part.core
inside g c = subst (λ (h : HandState _). IsInside h.part.core) (sym c.lists_of-lists.ensures.hand) (opened_in c.seat.inside.hand.part
    (scan_seat c.seat.inside.hand.part c.seat.invariant (ap (λ (s : SeatState _). s.held) c.seat.view_is ∙ c.requires.free)) (subst
    (λ (s : SeatState _). IsSome s.scan) (sym c.seat.view_is) c.requires.inside))

-- and the seat holds nothing
pub pass_on-requires-clause-inside : goal.pass_on-requires-clause-inside
pass_on-requires-clause-inside g c = record {
  table = search rules;
  is = record {
    seat = subst (λ (h : HandState _). IsScanSeat h.part) (sym c.lists_of-lists.ensures.hand)
        (scan_seat c.seat.inside.hand.part c.seat.invariant (ap (λ (s : SeatState _). s.held) c.seat.view_is ∙ c.requires.free));
    inside = inside g (goal.at.pass_on-requires-clause-inside g c).After-lists_of-lists;
  };
}

-- it is between two calls still
pub invariant_of-seat : goal.invariant_of-seat
invariant_of-seat g c = scan_seated c.pass_on.new.hand.part c.pass_on.ensures.later.is.seat

-- the call is one of a scan
pub returns : goal.returns
returns g c =
    let h = c.lists_of-lists.new.hand in let q = c.pass_on.new.hand in let done = c.pass_on.ensures in
    let quick = c.seat.inside.quick in
    let same = ap seat_state_of c.lists_of-lists.ensures.hand ∙ free_is c.seat.inside.hand quick c.seat.view_is c.requires.free in
    let call = scan_call h.table q.table h.part q.part done.later.counted.table done.later.is in let now = free_shown q quick call.held in record {
      call = subst (λ (z : SeatState _ × SeatState _). IsScanCall z.0 z.1) (λ i. (same i, sym now i)) call;
      -- with its answer and cause
      next = λ was opened. subst (λ (z : SeatState _ × SeatState _). IsNext z.0 z.1 was c.answer_of.result) (λ i. (same i, sym now i))
          (subst (λ answer. IsNext (seat_state_of h) (seat_state_of q) was answer) (sym c.answer_of.ensures)
          (done.next was (ap (λ (s : SeatState _). s.scan) same ∙ opened)));
      -- at the end of the last list it stays, and where it has looked at as many nodes as it may
      ended = λ was opened ended. let s = done.ended was (ap (λ (s : SeatState _). s.scan) same ∙ opened) ended in
          (now ∙ (seat_stays h.table q.table h.part q.part done.later.counted.table s.0 ∙ same), c.answer_of.ensures ∙ ap scanned_as s.1);
      spent = λ was opened spent. let s = done.spent was (ap (λ (s : SeatState _). s.scan) same ∙ opened) spent in
          (now ∙ (seat_stays h.table q.table h.part q.part done.later.counted.table s.0 ∙ same), c.answer_of.ensures ∙ ap scanned_as s.1);
      -- its steps are those of the lists that are left
      bound = λ was opened. let shown = ap (λ (s : SeatState _). s.scan) same ∙ opened in
          let odd = inside g (goal.at.returns g c).After-lists_of-lists in
          scan_bound (list_count c.self.inside.list.cut) c.args.self.now was h.part.pass.list (16 * h.part.seats + 1) h.part.trace.taken
          q.part.trace.taken c.args.seat.now.trace.taken (ap (λ (t : TableShape). list_count t.cut) c.self.view_is) (opened_list h.part was odd shown)
          (opened_most h.part was odd shown) (ap (λ (s : SeatState _). s.trace.taken) same) done.bound;
    }
