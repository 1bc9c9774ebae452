use Rattle.std.proofs.Common.{rules, ◌≡◌, ◌*◌, ◌-◌, ◌<◌, List, [], ◌∷◌, get_or, length, replicate, sym, ap, ◌∙◌, subst, arith}
use Rattle.std.specs.Prelude.{remove}
use Rattle.std.specs.Vec.{vec_len}
use Rattle.std.specs.Global.{Box}
use Rattle.std.proofs.lemmas.List.{length-map}
use Rattle.std.proofs.lemmas.List.Edits.{length-remove}
use Rattle.lock_core.specs.Words.{word_count}
use Rattle.lock_core.specs.Machine.{start_view}
use Rattle.word_rows.proofs.Rowing.{snoc_all}
use Rattle.lock_core.specs.declared.views.View.{View}
use Rattle.epoch_pools.specs.declared.views.SeatPart.{SeatPart}
use Rattle.epoch_pools.specs.Hands.{IsHandView, AreOthers, views_in, part_in, fresh, shown_of, new_hand}
use Rattle.epoch_pools.specs.Beside.{shown}
use Rattle.epoch_pools.specs.Running.{view}
use Rattle.list_cuts.specs.Cut.{list_count}
use Rattle.epoch_pools.proofs.Opening.{opens, next_seat, wait_on, lock_there, made_first, made_on, first_core, first_seat}
use Rattle.epoch_pools.proofs.Opening.{first_hand, first_others_are, first_waiting, more_made, new_table, words_long}
use Rattle.epoch_pools.proofs.Boxes.{view_first_of, view_removed}
use Rattle.epoch_pools.proofs.list.open_cut.Given.{Over}
use Rattle.epoch_pools.proofs.list.open_cut.Goals as goal
use Rattle.epoch_pools.proofs.list.open_cut.Goals.{After-remove-seat}

-- the words and the first views meet the table's rule
pub open_words-requires-clause-rule : goal.open_words-requires-clause-rule
open_words-requires-clause-rule g c = λ k e f s. opens g.G.Guard.first g.G.Guard.holds c.args.cut c.lists-lists.result c.args.seats k.seats
    _ k.shares.items c.args.client.now k.words.items c.as_slice.result.now (omega (arith, c.regions.ensures.some, c.regions.ensures.count)) c.requires.seats.0
    c.requires.seats.1 (λ i. record { count = c.regions.ensures.count i; bits = c.bits.ensures.bits i }) c.lists-lists.ensures.lists e f s
    (search rules) c.requires.rule

-- before the first hand is made all seats wait
pub all-init : goal.all-init
all-init g c = record {
  room = search rules;
  count = search rules;
  sum = search rules;
  views = search rules;
  behind = search rules;
  new = search rules;
  rest = first_waiting g.G.Guard.first _ c.lists-lists.result c.args.seats c.args.client.now c.args.cut (c.regions.result ∷ c.bits.result ∷ [])
      c.as_slice.result.now _ c.in_ok-table.ensures.seated (λ i. record { count = c.regions.ensures.count i; bits = c.bits.ensures.bits i })
      c.lists-lists.ensures.lists (search rules);
}

-- as many views are left as seats
pub remove-view-requires : goal.remove-view-requires
remove-view-requires g c = let more : 0 < length c.all.opened.items = search rules in
    let as_many = length-map c.all.views.items (λ (b : Box View). b.value) in
    let long : vec_len c.all.views ≡ length (views_in c.all.views.items) = (let o = c.all.views.ok.0 in omega arith) in
    more_made (start_view c.args.seats) c.args.seats c.all.number (length c.all.opened.items) (vec_len c.all.views) (views_in c.all.views.items) more
    c.all.invariant.sum c.all.invariant.views long

-- the seat that is taken out is that of the next number
next : (g : Over) (c : After-remove-seat g) → (c.remove-seat.result.table_id ≡ c.in_ok-table.table.shared.table_id) × (c.remove-seat.result.me
    ≡ (view (fresh (g.G.Guard.first c.args.client.now c.all.number) c.lists-lists.result c.args.seats c.all.number ∷ []), []))
next g c = let more : 0 < length c.all.opened.items = search rules in
    next_seat g.G.Guard.first _ c.lists-lists.result c.args.seats c.args.client.now c.all.number c.all.opened.items c.remove-seat.result
    c.all.invariant.rest more c.remove-seat.ensures.value

-- the token that is made has the part of its number
pub invariant_of-push_reserved : goal.invariant_of-push_reserved
invariant_of-push_reserved g c = let t = next g (goal.at.invariant_of-push_reserved g c).After-remove-seat in let parts = ap (λ m. m.0.parts) t.1 in
    let own = ap (part_in (g.G.Guard.first [] 0)) parts in
    let less : c.all.number < c.args.seats = let s = c.all.invariant.sum in omega arith in (
      ap (λ m. m.1) t.1,
      parts ∙ sym (ap (λ p. p ∷ []) own),
      first_seat (g.G.Guard.first c.args.client.now c.all.number) c.lists-lists.result c.args.seats c.all.number _ _ c.lists-lists.ensures.some
          c.lists-lists.ensures.few c.requires.seats.1 less own
          (lock_there (c.lists-lists.result * word_count c.args.seats) _ c.args.client.now _ t.0 (search rules)),
    )

-- the hand that is made has the first views of its number, and may rely on them
pub invariant_of-push_reserved-in-all : goal.invariant_of-push_reserved-in-all
invariant_of-push_reserved-in-all g c = let t = next g (goal.at.invariant_of-push_reserved-in-all g c).After-remove-seat in
    let own = ap (λ m. shown_of (g.G.Guard.first [] 0) c.lists-lists.result 0 m.0.parts) t.1 in
    let less : c.all.number < c.args.seats = let s = c.all.invariant.sum in omega arith in
    let some_list = c.lists-lists.ensures.some in
    let is : c.remove-view.result.value ≡ start_view c.args.seats c.all.number =
    made_first (start_view c.args.seats) c.args.seats c.all.number c.remove-view.result.value less
    (view_first_of c.all.views.items c.remove-view.result c.remove-view.ensures.value
    ∙ ap (λ l. get_or l 0 c.remove-view.result.value) c.all.invariant.views) in
    let others : c.remove-others.result ≡ replicate (c.lists-lists.result - 1) (start_view c.args.seats c.all.number) =
    made_first (λ n. replicate (c.lists-lists.result - 1) (start_view c.args.seats n)) c.args.seats c.all.number c.remove-others.result less
    (c.remove-others.ensures.value ∙ ap (λ l. get_or l 0 c.remove-others.result) c.all.invariant.behind) in (
      ap (λ p. p.core) own ∙ (first_core c.lists-lists.result 0 c.args.seats c.all.number some_list ∙ sym is),
      subst IsHandView (sym own) (first_hand (g.G.Guard.first c.args.client.now c.all.number) c.lists-lists.result c.args.seats c.all.number some_list
          c.requires.seats.0 c.requires.seats.1 less),
      subst (λ (z : SeatPart _ × List View). AreOthers z.0.seats z.0.number z.0.pass.lists z.0.pass.list z.0.pass.others z.1) (λ k. (sym own k, sym others k))
          (first_others_are c.lists-lists.result c.args.seats c.all.number some_list c.requires.seats.0 c.requires.seats.1 less),
    )

-- with one hand more the hands so far are new ones
pub all-preserved : goal.all-preserved
all-preserved g c = let i = c.all.invariant in let more : 0 < length c.all.opened.items = search rules in
    let t = next g (goal.at.all-preserved g c).After-remove-seat in
    let own = ap (λ m. shown_of (g.G.Guard.first [] 0) c.lists-lists.result 0 m.0.parts) t.1
    ∙ ap (λ n. shown n 0 (fresh (g.G.Guard.first c.args.client.now c.all.number) n c.args.seats c.all.number)) c.lists-lists.ensures.lists in
    let less : c.all.number < c.args.seats = let s = i.sum in omega arith in
    record {
      room = search rules;
      count = search rules;
      sum = let left = length-remove c.all.opened.items 0 more in let e = ap length c.remove-seat.ensures.items in let s = i.sum in omega arith;
      views = made_on (start_view c.args.seats) c.args.seats c.all.number _ less
          (view_removed c.all.views.items _ c.remove-view.ensures.items ∙ ap (λ l. remove l 0) i.views);
      behind = made_on (λ n. replicate (c.lists-lists.result - 1) (start_view c.args.seats n)) c.args.seats c.all.number _ less
          (c.remove-others.ensures.items ∙ ap (λ l. remove l 0) i.behind);
      new = rw c.push_reserved.ensures.items (snoc_all
          (λ k s. s ≡ new_hand c.in_ok-table.table.shared.table_id (g.G.Guard.first c.args.client.now) (list_count c.args.cut) c.args.seats k) _ _
          c.all.number i.count i.new
          (λ j. record { table = t.0 j; part = own j }));
      rest = wait_on g.G.Guard.first _ c.lists-lists.result c.args.seats c.args.client.now c.all.number c.all.opened.items _ i.rest c.remove-seat.ensures.items;
    }

-- the table is of the shape that is asked for
pub invariant_of-list : goal.invariant_of-list
invariant_of-list g c = new_table c.args.cut c.lists-lists.result c.args.seats (c.regions.result ∷ c.bits.result ∷ []) _ c.args.client.now _
    c.as_slice.result.now _ _ _ _ _ (λ i. record { count = c.regions.ensures.count i; bits = c.bits.ensures.bits i }) (
      omega (arith, c.regions.ensures.some, c.regions.ensures.count),
      omega (arith, c.regions.ensures.few, c.regions.ensures.count),
      omega (arith, c.bits.ensures.few, c.bits.ensures.bits),
    ) c.lists-lists.ensures.lists c.requires.seats c.requires.clients c.in_ok-table.ensures.key.2 c.in_ok-table.ensures.key.0
    c.in_ok-table.ensures.key.1 (search rules) c.in_ok-table.ensures.counts.1 c.in_ok-table.ensures.counts.2 (search rules)
    c.list_words-client_start.ensures.words c.list_words-client_start.ensures.few

-- the table has the words of its lists, and the client's
pub returns-clause-words : goal.returns-clause-words
returns-clause-words g c = words_long c.args.cut c.lists-lists.result c.args.seats _ c.args.client.now c.as_slice.result.now c.lists-lists.ensures.lists
    (search rules) c.in_ok-table.ensures.counts.1
