use Rattle.std.proofs.Common.{rules, ◌≡◌, ◌≢◌, ℕ, ◌<◌, ◌+◌, map, length, sym, ap, ◌∙◌, subst, refl, arith}
use Rattle.std.specs.Prelude.{None}
use Rattle.std.proofs.lemmas.List.Edits.{length-remove}
use Rattle.word_rows.proofs.Rowing.{snoc_all}
use Rattle.list_cuts.specs.Cut.{list_count}
use Rattle.epoch_pools.specs.Beside.{core_at}
use Rattle.epoch_pools.specs.Hands.{IsIdle}
use Rattle.range_rw.specs.Contract.{pass_in}
use Rattle.range_rw.proofs.Lists.{one_longer}
use Rattle.range_rw.proofs.Pieces.{else_at}
use Rattle.range_rw.proofs.Seating.{next_idle, idle_on, passes_on, IsIdleFrom}
use Rattle.range_rw.proofs.table.hands_of.Given.{Over}
use Rattle.range_rw.proofs.table.hands_of.Goals.{After-remove-seat}
use Rattle.range_rw.proofs.table.hands_of.Goals as goal

-- the seat that comes next is of the table, and holds nothing
next : (g : Over) (c : After-remove-seat g) → (c.remove-seat.result.table ≡ c.args.list.now.table)
    × (c.remove-seat.result.number ≡ length c.all.hands.items) × (c.remove-seat.result.held ≡ None)
next g c = let more : 0 < length c.all.seats.items = search rules in
    next_idle c.args.list.now.table (length c.all.hands.items) c.all.seats.items c.remove-seat.result c.all.invariant.rest more c.remove-seat.ensures.value

pub hand_of-requires-clause-table : goal.hand_of-requires-clause-table
hand_of-requires-clause-table g c = (next g (goal.at.hand_of-requires-clause-table g c).After-remove-seat).0

pub hand_of-requires-clause-free : goal.hand_of-requires-clause-free
hand_of-requires-clause-free g c = (next g (goal.at.hand_of-requires-clause-free g c).After-remove-seat).2

-- one more hand is idle, with its seat's pass, and one seat less is left
pub all-preserved : goal.all-preserved
all-preserved g c =
    let i = c.all.invariant in
    let more : 0 < length c.all.seats.items = search rules in
    let table = c.args.list.now.table in
    let made = length c.all.hands.items in
    let idle = next_idle table made c.all.seats.items c.remove-seat.result i.rest more c.remove-seat.ensures.value in
    let hand = c.hand_of.ensures.hand in
    let grown : length c.push_reserved.new.self.items ≡ made + 1 =
    one_longer c.all.hands.items c.push_reserved.new.self.items _ c.push_reserved.ensures.items in
    record {
      room = search rules;
      count = let left = length-remove c.all.seats.items 0 more in let e = ap length c.remove-seat.ensures.items in
          let s = i.count in let m = grown in omega arith;
      idle = rw c.push_reserved.ensures.items (snoc_all (λ k h. (h.table ≡ table) × (h.part.number ≡ k) × IsIdle h.part.core) _ _
          made refl i.idle (hand.0 ∙ idle.0, hand.1 ∙ idle.1, hand.3));
      others = rw c.push_reserved.ensures.items (snoc_all
          (λ k h. (j : ℕ) → j < list_count c.args.list.now.cut → j ≢ h.part.pass.list → IsIdle (core_at j h.part.pass.others)) _ _
          made refl i.others (λ j less away. subst IsIdle (else_at c.hand_of.result.part j away) (c.hand_of.ensures.others j less)));
      rest = subst (λ k. IsIdleFrom table k c.remove-seat.new.self.items) (sym grown)
          (idle_on table made c.all.seats.items _ i.rest c.remove-seat.ensures.items);
      passes = rw c.push_reserved.ensures.items (passes_on c.all.hands.items c.hand_of.result c.all.seats.items _
          c.remove-seat.result (map pass_in c.args.seats.items) i.passes more c.remove-seat.ensures.value
          c.remove-seat.ensures.items hand.2);
    }
