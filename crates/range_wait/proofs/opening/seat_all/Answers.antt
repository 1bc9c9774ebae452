use Rattle.std.proofs.Common.{rules, ◌≡◌, ◌<◌, ◌+◌, ◌++◌, ◌∷◌, false, length, sym, ap, ◌∙◌, arith}
use Rattle.event_count.specs.Calls.{SeatView}
use Rattle.queue_laws.specs.declared.places.Telling.TheVariants.{Silent}
use Rattle.range_rw.specs.Contract.{SeatState}
use Rattle.range_wait.specs.Seats.{both, seats_of}
use Rattle.range_rw.proofs.Lists.{one_longer, append_one, first_of_list}
use Rattle.range_wait.proofs.Opened.{head_is, none_left, pairs_end, pairs_on, tail_are}
use Rattle.range_wait.proofs.opening.seat_all.Goals as goal

-- the next pair is a seat between two calls
pub invariant_of-push_reserved : goal.invariant_of-push_reserved
invariant_of-push_reserved g c =
    let i = c.all.invariant in
    let more : 0 < length c.all.seats.items = search rules in
    let locks = first_of_list c.all.seats.items c.remove-seat.result more c.remove-seat.ensures.value in
    let events = first_of_list c.all.events.items c.remove-event.result (let e = i.even in omega arith) c.remove-event.ensures.value in (
      head_is (λ (s : SeatState _). s.pass.telling ≡ Silent) c.all.seats.items c.remove-seat.result _ locks i.silent,
      head_is (λ (s : SeatView). s.counted ≡ false) c.all.events.items c.remove-event.result _ events i.out,
    )

-- one more is made, and one less is left of either kind
pub all-preserved : goal.all-preserved
all-preserved g c =
    let i = c.all.invariant in
    let more : 0 < length c.all.seats.items = search rules in
    let locks : c.all.seats.items ≡ c.remove-seat.result ∷ c.remove-seat.new.self.items =
    first_of_list c.all.seats.items c.remove-seat.result more c.remove-seat.ensures.value
    ∙ ap (λ l. c.remove-seat.result ∷ l) (sym c.remove-seat.ensures.items) in
    let events : c.all.events.items ≡ c.remove-event.result ∷ c.remove-event.new.self.items =
    first_of_list c.all.events.items c.remove-event.result (let e = i.even in omega arith) c.remove-event.ensures.value
    ∙ ap (λ l. c.remove-event.result ∷ l) (sym c.remove-event.ensures.items) in
    let grown : length c.push_reserved.new.self.items ≡ length c.all.made.items + 1 =
    one_longer c.all.made.items c.push_reserved.new.self.items _ c.push_reserved.ensures.items in
    let fewer = ap length locks in let less = ap length events in
    record {
      room = search rules;
      counted = let e = i.counted in omega arith;
      even = let e = i.even in omega arith;
      is = ap (λ l. l ++ seats_of c.remove-seat.new.self.items c.remove-event.new.self.items) c.push_reserved.ensures.items
          ∙ (append_one c.all.made.items (both c.remove-seat.result c.remove-event.result)
          (seats_of c.remove-seat.new.self.items c.remove-event.new.self.items)
          ∙ (ap (λ l. c.all.made.items ++ l) (sym (pairs_on c.all.seats.items c.remove-seat.new.self.items c.all.events.items c.remove-event.new.self.items
          c.remove-seat.result c.remove-event.result locks events)) ∙ i.is));
      silent = tail_are (λ (s : SeatState _). s.pass.telling ≡ Silent) c.all.seats.items c.remove-seat.result c.remove-seat.new.self.items locks i.silent;
      out = tail_are (λ (s : SeatView). s.counted ≡ false) c.all.events.items c.remove-event.result c.remove-event.new.self.items events i.out;
    }

-- all pairs are made
pub returns : goal.returns
returns g c = let none : length c.all.seats.items ≡ 0 = search rules in
    pairs_end c.all.made.items (seats_of c.args.seats.items c.args.events.items) c.all.seats.items c.all.events.items
    (none_left c.all.seats.items none) c.all.invariant.is
