use Rattle.std.proofs.Common.{rules, ◌≡◌, ◌<◌, ◌+◌, ◌++◌, ◌∷◌, length, sym, ap, ◌∙◌, arith}
use Rattle.std.proofs.lemmas.List.{length-append}
use Rattle.range_rw.proofs.Lists.{one_longer, append_one, first_of_list}
use Rattle.range_queue.proofs.Starting.{next_quiet, quiet_on, quiet_settled}
use Rattle.range_queue.proofs.table.seat_all.Goals as goal

-- the next seat is one between two calls
pub invariant_of-push_reserved : goal.invariant_of-push_reserved
invariant_of-push_reserved g c =
    let i = c.all.invariant in
    let more : 0 < length c.all.inner.items = search rules in
    let n = length-append c.all.made.items c.all.inner.items in let m = ap length i.is in let few = c.requires.few in let at = i.counted in
    quiet_settled c.args.seats c.all.number c.remove-seat.result
    (next_quiet c.args.seats c.all.number c.all.inner.items c.remove-seat.result i.quiet more c.remove-seat.ensures.value) (omega arith) (omega arith)

-- one more is made, and one less is left
pub all-preserved : goal.all-preserved
all-preserved g c =
    let i = c.all.invariant in
    let more : 0 < length c.all.inner.items = search rules in
    let grown : length c.push_reserved.new.self.items ≡ length c.all.made.items + 1 =
    one_longer c.all.made.items c.push_reserved.new.self.items _ c.push_reserved.ensures.items in
    record {
      room = search rules;
      counted = let e = i.counted in let m = grown in omega arith;
      is = ap (λ l. l ++ c.remove-seat.new.self.items) c.push_reserved.ensures.items
          ∙ (append_one c.all.made.items c.remove-seat.result c.remove-seat.new.self.items
          ∙ (ap (λ l. c.all.made.items ++ c.remove-seat.result ∷ l) c.remove-seat.ensures.items
          ∙ (ap (λ l. c.all.made.items ++ l) (sym (first_of_list c.all.inner.items c.remove-seat.result more c.remove-seat.ensures.value)) ∙ i.is)));
      quiet = quiet_on c.args.seats c.all.number c.all.inner.items c.remove-seat.new.self.items i.quiet c.remove-seat.ensures.items;
    }
