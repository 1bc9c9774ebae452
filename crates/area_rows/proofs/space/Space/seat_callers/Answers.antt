use Rattle.std.proofs.Common.{rules, ◌≡◌, ◌+◌, ◌<◌, ◌≤◌, ◌^◌, length, vec_len, vec_capacity, ap, ◌∙◌, sym, arith}
use Rattle.std.proofs.lemmas.List.Edits.{length-remove}
use Rattle.std.specs.Prelude.{slice_index}
use Rattle.list_cuts.specs.Cut.{list_count}
use Rattle.range_rw.specs.Contract.{SeatState}
use Rattle.area_guard.specs.declared.guard.Pass.{Pass}
use Rattle.area_guard.specs.Rows.{blocks_by, keeps_by, room_of}
use Rattle.area_guard.specs.Parts.{none_is}
use Rattle.page_types.specs.declared.TheConstants.{SPARE}
use Rattle.area_rows.proofs.Beginning.{first_of, first_seats, next_seat, seats_on, one_caller, new_caller}
use Rattle.area_rows.proofs.space.Space.seat_callers.Goals as goal

-- a new seat and empty lists make a caller
pub invariant_of-push_reserved : goal.invariant_of-push_reserved
invariant_of-push_reserved c =
    let some_left : 0 < length c.seats.seats.items = search rules in
    let lists = list_count c.args.table.now.cut in
    let first = first_of c.args.start.now c.args.calls.now (blocks_by c.args.table.now.table) (keeps_by c.args.table.now.table) in
    let s = next_seat lists c.args.table.now.table first c.seats.worker c.seats.seats.items c.seats.invariant.rest some_left c.remove-seat.ensures.value in (
      ap (λ (x : SeatState Pass). x.number) s,
      λ _. search rules ∙ sym (ap (λ (x : SeatState Pass). x.pass.mine) s),
      λ keeps. let room = c.in_ok-mine.ensures.room keeps in let e : vec_len c.in_ok-mine.mine ≡ 0 = search rules in omega arith,
      let m = ap (λ (x : SeatState Pass). x.pass.most) s in let e = ap (λ (x : SeatState Pass). length x.pass.mine) s in omega arith,
      let r = ap (λ (x : SeatState Pass). room_of x.pass.blocks) s in let w : room_of c.args.blocks + SPARE ≤ vec_capacity c.in_ok-plan.plan = search rules in
          let is = ap room_of c.requires.blocks in omega arith,
      λ h e. absurd (none_is h (sym (ap (λ (x : SeatState Pass). x.held) s) ∙ e)),
      λ _. ap (λ (x : SeatState Pass). x.pass.pending) s,
      ap (λ (x : SeatState Pass). x.pass.blocks) s ∙ ap (λ (x : SeatState Pass). blocks_by x.table) (sym s),
      let m = ap (λ (x : SeatState Pass). x.pass.most) s in let left = c.requires.each c.seats.worker (search rules) in omega arith,
      c.requires.keeps ∙ ap (λ (x : SeatState Pass). keeps_by x.table) (sym s),
      ap (λ (x : SeatState Pass). x.pass.keeps) s ∙ ap (λ (x : SeatState Pass). keeps_by x.table) (sym s),
    )

-- before the first caller all seats wait
pub seats-init : goal.seats-init
seats-init c = record {
  room = search rules;
  count = search rules;
  sum = search rules;
  new = search rules;
  rest = first_seats (list_count c.args.table.now.cut) c.args.table.now.table
      (first_of c.args.start.now c.args.calls.now (blocks_by c.args.table.now.table) (keeps_by c.args.table.now.table)) c.args.seats.items c.requires.seats;
}

-- one new caller more is made, and the seats that wait go on with the next number
pub seats-preserved : goal.seats-preserved
seats-preserved c =
    let i = c.seats.invariant in
    let some_left : 0 < length c.seats.seats.items = search rules in
    let table = c.args.table.now.table in let lists = list_count c.args.table.now.cut in
    let first = first_of c.args.start.now c.args.calls.now (blocks_by table) (keeps_by table) in
    let s = next_seat lists table first c.seats.worker c.seats.seats.items i.rest some_left c.remove-seat.ensures.value in
    record {
      room = search rules;
      count = search rules;
      sum = let left = length-remove c.seats.seats.items 0 some_left in let e = ap length c.remove-seat.ensures.items in let t = i.sum in omega arith;
      new =
          let p = c.in_ok-plan.ensures.items in
          rw c.push_reserved.ensures.items (one_caller lists table c.args.start.now c.args.calls.now c.seats.made.items i.count i.new
          (new_caller (slice_index c.args.calls.now c.seats.worker) s p));
      rest = seats_on lists table first c.seats.worker c.seats.seats.items i.rest c.remove-seat.ensures.items;
    }
