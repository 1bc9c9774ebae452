use Rattle.std.proofs.Common.{rules, ◌≡◌, ◌<◌, [], ◌∷◌, ◌++◌, length, refl, sym, ap, ◌∙◌}
use Rattle.atomic_table.proofs.Lists.{at_index}
use Rattle.epoch_pools.proofs.Joining.{joins, all_shown, none_shown, next_joined, hands_without_first, hand_again}
use Rattle.epoch_pools.proofs.closing.join_all.Goals as goal

-- the first hand is one seat, and the others are left
pub all-init : goal.all-init
all-init g c = let first = c.requires.tables 0 c.remove.result (at_index _ 0 _ c.requires.some c.remove.ensures.value) in
    let t = next_joined c.args.shared.now.table_id [] c.token-2.inside.seat.me.0.parts c.token-2.inside.seat.me.0.parts c.args.hands.items []
    c.args.hands.items _
    c.remove.result c.token-2.inside.lists c.token-2.inside.list _ (none_shown c.args.shared.now.table_id) refl c.requires.some c.remove.ensures.value
    c.remove.ensures.items refl c.token-2.invariant.1 c.token-2.invariant.2.full c.token-2.invariant.2.within
    (hand_again c.args.shared.now.table_id c.token.inside.token c.remove.result _ c.token.view_is first (sym (ap (λ s. s.part) c.token-2.view_is))) in
    record {
      table = ap (λ s. s.table) c.token-2.view_is ∙ (ap (λ k. k.table) c.token.view_is ∙ first);
      slots = c.token-2.invariant.0;
      parts = (c.remove.result ∷ [], t.0, t.1);
      rest = hands_without_first c.args.shared.now.table_id c.args.hands.items _ c.requires.tables c.remove.ensures.items;
    }

-- a seat of the same table may be joined
pub join_seat-requires : goal.join_seat-requires
join_seat-requires g c = let i = c.all.invariant in let more : 0 < length c.all.hands.items = search rules in
    let here = i.rest 0 c.remove-in-all.result (at_index _ 0 _ more c.remove-in-all.ensures.value) in (
      i.table,
      ap (λ s. s.table) c.token-in-all-2.view_is ∙ (ap (λ k. k.table) c.token-in-all.view_is ∙ here),
      c.token-in-all-2.invariant.0,
      c.requires.words,
      joins _ _ _ g.G.Guard.holds _ _ _ _,
    )

-- with one hand more the seat has what belongs to all so far
pub all-preserved : goal.all-preserved
all-preserved g c = let i = c.all.invariant in let more : 0 < length c.all.hands.items = search rules in
    let here = i.rest 0 c.remove-in-all.result (at_index _ 0 _ more c.remove-in-all.ensures.value) in
    let t = next_joined c.args.shared.now.table_id c.all.all.me.0.parts _ c.token-in-all-2.inside.seat.me.0.parts c.args.hands.items i.parts.0
    c.all.hands.items _
    c.remove-in-all.result c.token-in-all-2.inside.lists c.token-in-all-2.inside.list _ i.parts.1 i.parts.2 more c.remove-in-all.ensures.value
    c.remove-in-all.ensures.items (ap (λ m. m.0.parts) c.join_seat.ensures.2) c.token-in-all-2.invariant.1 c.token-in-all-2.invariant.2.full
    c.token-in-all-2.invariant.2.within (hand_again c.args.shared.now.table_id c.token-in-all.inside.token c.remove-in-all.result _ c.token-in-all.view_is here
    (sym (ap (λ s. s.part) c.token-in-all-2.view_is))) in
    record {
      table = c.join_seat.ensures.0 ∙ i.table;
      slots = ap (λ m. m.1) c.join_seat.ensures.2 ∙ i.slots;
      parts = (i.parts.0 ++ c.remove-in-all.result ∷ [], t.0, t.1);
      rest = hands_without_first c.args.shared.now.table_id c.all.hands.items _ i.rest c.remove-in-all.ensures.items;
    }

-- when no hand is left the seat has what belongs to all
pub returns-clause-parts : goal.returns-clause-parts
returns-clause-parts g c = let i = c.all.invariant in let none : length c.all.hands.items ≡ 0 = search rules in
    all_shown c.args.shared.now.table_id c.all.all.me.0.parts i.parts.0 c.all.hands.items c.args.hands.items i.parts.1 i.parts.2 none
