use Rattle.std.proofs.Common.{rules, ◌≡◌, ◌-◌, ◌<◌, length, refl, ap, ◌∙◌, arith}
use Rattle.std.proofs.lemmas.List.Edits.{length-remove}
use Rattle.page_touch.specs.Touched.{share_sum}
use Rattle.page_touch.specs.Touches.{shown}
use Rattle.page_touch.proofs.Beginning.{opens, all_shares, next_seat, wait_on, more_seats}
use Rattle.page_touch.proofs.table.Touches.open_at.Goals as goal

-- the rule holds of words that are 0
pub open_words-requires-clause-rule : goal.open_words-requires-clause-rule
open_words-requires-clause-rule c = λ k e f s. opens c.args.room e f s (search rules) c.requires.room.0 refl c.requires.room.2

-- the next seat has no slots
pub invariant_of-push_reserved : goal.invariant_of-push_reserved
invariant_of-push_reserved c =
    let more : 0 < length c.all.opened.items = search rules in
    let t = next_seat _ c.args.quotas.now c.all.number c.all.opened.items c.all.invariant.rest more c.remove-seat.ensures.value in ap (λ m. m.1) t.1

-- it has touched nothing, and looks for nothing
pub invariant_of-push_reserved-in-all : goal.invariant_of-push_reserved-in-all
invariant_of-push_reserved-in-all c =
    let more : 0 < length c.all.opened.items = search rules in
    let t = next_seat _ c.args.quotas.now c.all.number c.all.opened.items c.all.invariant.rest more c.remove-seat.ensures.value in
    let touched = ap (λ m. length m.0.touched) t.1 in let quota = ap (λ m. m.0.quota) t.1 in (omega arith, ap (λ m. m.0.looking) t.1)

-- one seat more is handed out with its quota
pub all-preserved : goal.all-preserved
all-preserved c =
    let i = c.all.invariant in let more : 0 < length c.all.opened.items = search rules in
    let t = next_seat _ c.args.quotas.now c.all.number c.all.opened.items i.rest more c.remove-seat.ensures.value in
    let own = ap (λ m. m.0) t.1 in let less : c.all.number < length c.args.quotas.now = let s = i.sum in omega arith in
    record {
      room = search rules;
      count = search rules;
      sum = let left = length-remove c.all.opened.items 0 more in let e = ap length c.remove-seat.ensures.items in let s = i.sum in omega arith;
      made = c.push_reserved.ensures.items ∙ more_seats _ c.args.quotas.now c.all.number less i.made (λ j. shown (record { table = t.0 j; own = own j }));
      rest = wait_on _ c.args.quotas.now c.all.number c.all.opened.items i.rest c.remove-seat.ensures.items;
    }

-- the sum of the quotas is that of the table's key
pub returns-clause-shape : goal.returns-clause-shape
returns-clause-shape c =
    let key = c.in_ok-table.ensures.key in (
      refl,
      refl,
      (λ j. share_sum (key.2 j) 0 (key.0 j - 0)) ∙ ((let z : length c.args.quotas.now - 0 ≡ length c.args.quotas.now = omega arith in ap
          (share_sum c.args.quotas.now 0) z) ∙ all_shares c.args.quotas.now),
    )
