use Rattle.std.proofs.Common.{◌≡◌, refl, sym, ap, ◌∙◌}
use Rattle.lock_core.specs.declared.views.View.{View}
use Rattle.epoch_pools.specs.Beside.{given_back, may_give_back}
use Rattle.marked_list.specs.declared.answers.Lost.{Lost}
use Rattle.marked_list.proofs.Owning.{may_quick_unlink, back_lost}
use Rattle.marked_list.proofs.quick.quick_unlink.Goals as goal

-- a held node may be unlinked at the head
pub step-found-requires-clause-enabled : goal.step-found-requires-clause-enabled
step-found-requires-clause-enabled g c = may_quick_unlink (may_give_back g.G.Guard.is_at_rest) c.args.hand.now.part c.requires.order

-- the head was another, so the range is still held
pub returns-then-found-expected-clause-answer : goal.returns-then-found-expected-clause-answer
returns-then-found-expected-clause-answer g c = let own = ap (λ (x : View). x.own) c.view.ensures.view in
    let is = c.in-Linked.is in let had = c.requires.order.is in let node : c.in-Linked.node ≡ c.requires.order.node.node = cc in
    let far = c.if-found-expected.true in
    let l : Lost = record { place = 0; expected = c.node_word-expected.result; found = c.step-found.result } in
    back_lost (may_give_back g.G.Guard.is_at_rest) c.args.hand.now.part c.requires.order (given_back g.G.Guard.rested) c.step-found.new.hand.part
    c.step-found.result c.step-found.ensures.made c.in-Linked.node node
    (λ e. far (e ∙ sym c.node_word-expected.ensures)) l refl c.node_word-expected.ensures refl
