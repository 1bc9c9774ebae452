use Rattle.std.proofs.Common.{◌≡◌, ◌≢◌, ◌<◌, List, sym, ap, ◌∙◌, subst}
use Rattle.lock_core.specs.declared.views.View.{View}
use Rattle.epoch_pools.specs.declared.views.SeatPart.{SeatPart}
use Rattle.epoch_pools.specs.Hands.{HandState, IsHandView, IsResting, AreOthers, view_of, views_of, turned}
use Rattle.epoch_pools.specs.Beside.{shown_core}
use Rattle.epoch_pools.proofs.Turning.{turned_hand, turned_same, turned_shows, turned_rests}
use Rattle.epoch_pools.proofs.hand.Hand.turn.Given.{Over}
use Rattle.epoch_pools.proofs.hand.Hand.turn.Goals as goal
use Rattle.epoch_pools.proofs.hand.Hand.turn.Goals.{After-turn}

-- a hand that is turned to its own list shows what it showed
pub returns-then-list-token-clause-part : goal.returns-then-list-token-clause-part
returns-then-list-token-clause-part g c =
    let own : c.args.list ≡ c.self.inside.token.part.pass.list = c.if-list-token.true ∙ ap (λ (h : HandState _). h.part.pass.list) c.token.view_is in
    let same : c.self.inside.token.part.trace.list ≡ c.self.inside.token.part.pass.list =
    sym (ap (λ (h : HandState _). h.part.trace.list) c.token.view_is) ∙ ap (λ (h : HandState _). h.part.pass.list) c.token.view_is in
    sym (turned_same c.args.list c.self.invariant.0 c.self.invariant.1 c.self.invariant.2 same own)
    ∙ ap (λ (h : HandState _). turned h.part c.args.list) c.self.view_is

-- it shows each list as before
pub returns-then-list-token-clause-stays : goal.returns-then-list-token-clause-stays
returns-then-list-token-clause-stays g c = λ j. ap (λ (h : HandState _). shown_core h.part j) c.self.view_is

-- and rests in its own list
pub returns-then-list-token-clause-rests : goal.returns-then-list-token-clause-rests
returns-then-list-token-clause-rests g c = subst (λ (h : HandState _). IsResting h.part.core) (sym c.self.view_is) c.requires.resting

-- and nothing of it has changed
pub invariant_of-self : goal.invariant_of-self
invariant_of-self g c = c.self.invariant

-- behind the test the list is another one of the table's
other : (g : Over) (c : After-turn g) → (c.args.list ≢ c.self.inside.token.part.pass.list) × (c.args.list < c.self.inside.token.part.pass.lists)
other g c = (
  λ e. c.if-list-token.false (e ∙ sym (ap (λ (h : HandState _). h.part.pass.list) c.token.view_is)),
  subst (λ (h : HandState _). c.args.list < h.part.pass.lists) (sym c.self.view_is) c.requires.there,
)

-- after the two exchanges its view is that of the list after, and the others are those that the token shows
pub invariant_of-self-2 : goal.invariant_of-self-2
invariant_of-self-2 g c = let p = c.self.inside.token.part in
    let own : c.token.inside.list ≡ p.pass.list = ap (λ (h : HandState _). h.part.pass.list) c.token.view_is in
    let at = other g (goal.at.invariant_of-self-2 g c).After-turn in
    let rest : IsResting p.core = subst (λ (h : HandState _). IsResting h.part.core) (sym c.self.view_is) c.requires.resting in
    let t = turned_hand c.args.list c.self.invariant.0 c.self.invariant.1 c.self.invariant.2 at.0 at.1 rest in
    let one = c.exchange.ensures.view ∙ ap (λ n. view_of n c.self.inside.others c.self.inside.view.value) own in
    let kept = c.exchange.ensures.kept ∙ ap (λ n. views_of n c.self.inside.others c.self.inside.view.value) own in
    let two = c.exchange-2.ensures.view ∙ (λ k. view_of c.args.list (kept k) (one k)) in
    let last = c.exchange-2.ensures.kept ∙ (λ k. views_of c.args.list (kept k) (one k)) in
    let shown = c.turn.ensures.part in (
      ap (λ (x : SeatPart _). x.core) shown ∙ (t.0 ∙ sym two),
      subst (λ (x : SeatPart _). IsHandView x) (sym shown) t.1.0,
      subst (λ (z : SeatPart _ × List View). AreOthers z.0.seats z.0.number z.0.pass.lists z.0.pass.list z.0.pass.others z.1) (λ k.
          (sym shown k, sym last k)) t.1.1,
    )

-- each list is shown as before
pub returns-clause-stays : goal.returns-clause-stays
returns-clause-stays g c = λ j. ap (λ (x : SeatPart _). shown_core x j) c.turn.ensures.part
    ∙ (turned_shows c.args.list c.self.invariant.0 c.self.invariant.1 c.self.invariant.2 j ∙ ap (λ (h : HandState _). shown_core h.part j) c.self.view_is)

-- the hand rests in the list to which it is turned
pub returns-clause-rests : goal.returns-clause-rests
returns-clause-rests g c = let at = other g (goal.at.returns-clause-rests g c).After-turn in
    subst (λ (x : SeatPart _). IsResting x.core) (sym c.turn.ensures.part)
    (turned_rests c.args.list c.self.invariant.0 c.self.invariant.1 c.self.invariant.2 at.0 at.1)
