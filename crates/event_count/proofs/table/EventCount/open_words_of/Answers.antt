use Rattle.std.proofs.Common.{rules, ◌<◌, length, ap, ◌∙◌, arith, length-append}
use Rattle.std.proofs.lemmas.List.Edits.{length-remove}
use Rattle.event_count.proofs.Beginning.{begins, next_seat, wait_on, more_seats}
use Rattle.event_count.proofs.table.EventCount.open_words_of.Goals as goal

-- the rule holds of words that are 0
pub open_words-requires-clause-rule : goal.open_words-requires-clause-rule
open_words-requires-clause-rule c = λ k e f s. begins e c.requires.seats.0 c.requires.seats.1

-- the next seat has no slots
pub invariant_of-push_reserved : goal.invariant_of-push_reserved
invariant_of-push_reserved c =
    let more : 0 < length c.all.opened.items = search rules in
    let t = next_seat _ c.all.opened.items c.all.invariant.rest more c.remove-seat.ensures.value in ap (λ m. m.1) t.1

-- one seat more is handed out
pub all-preserved : goal.all-preserved
all-preserved c =
    let i = c.all.invariant in let more : 0 < length c.all.opened.items = search rules in
    let t = next_seat _ c.all.opened.items i.rest more c.remove-seat.ensures.value in
    let own = ap (λ m. m.0) t.1 in
    record {
      room = search rules;
      sum = let left = length-remove c.all.opened.items 0 more in let e = ap length c.remove-seat.ensures.items in let s = i.sum in
          let p = ap length c.push_reserved.ensures.items ∙ length-append c.all.made.items _ in omega arith;
      made = more_seats _ i.made (λ j. record { table = t.0 j; counted = (own j).counted; steps = (own j).steps }) c.push_reserved.ensures.items;
      rest = wait_on _ c.all.opened.items i.rest c.remove-seat.ensures.items;
    }
