-- What each view knows after a step that leaves every path as it is, and where each node then stands.
-- A kind of step says only what is special to the stepping seat's view; the invariant follows here, once.
use Rattle.std.proofs.Common.{◌≡◌, ◌≢◌, ◌⊎◌, ℕ, suc, ◌+◌, ◌*◌, ◌/◌, ◌%◌, ◌≤◌, List, Some, None, inl, inr, ⊎_elim, refl, sym, ap, ◌∙◌, subst, arith}
use Rattle.std.specs.Prelude.{slice_set, ◌==◌, if◌then◌else◌}
use Rattle.std.proofs.lemmas.Bool.{cases_eq}
use Rattle.lock_core.specs.Counted.{times}
use Rattle.lock_core.specs.Range.{Overlaps}
use Rattle.lock_core.specs.declared.range.Mode.TheVariants.{Reader, Writer}
use Rattle.lock_core.specs.declared.views.View.{View}
use Rattle.lock_core.specs.declared.views.Cursor.{Cursor}
use Rattle.lock_core.specs.declared.views.Todo.TheVariants.{Forward, FromHead, Done}
use Rattle.lock_laws.specs.Paths.{Reach, here}
use Rattle.lock_core.specs.Words.{Heap, to, IsMarked, IsUnmarked}
use Rattle.lock_core.specs.Nodes.{Filled, Listed, filling, listed, own_times}
use Rattle.lock_laws.specs.Invariant.{IsViewOf, InChain, MayReach, InHand, IsUsed, IsLinked, Places, IsHeldBy, IsAlone}
use Rattle.lock_laws.specs.Invariant.{HasToSee, Pairs, IsOut, Barrier, IsIdle, NoReuse}
use Rattle.lock_core.proofs.ByView.{set_view, new_view, is_view}
use Rattle.lock_laws.proofs.PathSteps.{listed_one, forth}
use Rattle.lock_laws.proofs.Seats.{only_once}
use Rattle.lock_laws.proofs.Frames.Idle.{idle_not_chain}
use Rattle.lock_laws.proofs.Frames.Parts.{Parts, IsViewKept}
use Rattle.lock_laws.proofs.Frames.Frame.{StepAside, chain_now, chain_on, chain_back, chain_apart, mark_is, others, back_cursor, sees_still, view_now}

-- where the nodes of the stepping seat's view stand afterwards
pub record Stands (h now : Heap) (views : List View) (s : ℕ) (v u : View) : Type 0 where
  -- the lists hold the same nodes, and homes only those that came home
  pub times_same : (x : ℕ) → own_times x u.own + times x u.ready + times x u.used ≡ own_times x v.own + times x v.ready + times x v.used
  -- the homes are among the used nodes
  pub homes : (x : ℕ) → times x u.homes ≤ times x u.used
  -- and are at home
  pub at_home : (x : ℕ) → 1 ≤ times x u.homes → now.home x ≡ 1
  -- a linked node stays, and so does each used node that isn't at home
  pub linked : (k : Listed) → u.own ≡ listed k → (g : Listed) × (v.own ≡ listed g) × (g.node ≡ k.node)
  -- a node that was linked still is
  pub linked_on : (k : Listed) → v.own ≡ listed k → (g : Listed) × (u.own ≡ listed g) × (g.node ≡ k.node)
  -- a node that is used now was so before
  pub used : (x : ℕ) → times x u.used ≡ 1 → times x v.used ≡ 1
  -- a node that was used and isn't at home is used now
  pub used_on : (x : ℕ) → times x v.used ≡ 1 → h.home x ≡ 0 → times x u.used ≡ 1
  -- a node that is being filled isn't at home
  pub filling : (f : Filled) → u.own ≡ filling f → now.home f.node ≡ 0
  -- the hand is what it was, or is empty and its node is at home
  pub hand : (x : ℕ) → u.hand ≡ Some x → v.hand ≡ Some x
  -- a node that was in the hand still is, or is at home now
  pub hand_on : (x : ℕ) → v.hand ≡ Some x → (u.hand ≡ Some x) ⊎ (now.home x ≡ 1)

-- what became of the home words: those of other seats' homes and of used nodes at home stay 1, and 0 stays where a
-- node is in the chain, in a hand or filled by another seat
pub record Homes (h now : Heap) (views after : List View) (s : ℕ) : Type 0 where
  -- the home word of a used node at home stays 1
  pub home : (i x : ℕ) (w : View) → IsViewOf views i w → times x w.used ≡ 1 → h.home x ≡ 1 → now.home x ≡ 1
  -- the home word of a chain node stays 0
  pub chain : (x : ℕ) → InChain h x → h.home x ≡ 0 → now.home x ≡ 0
  -- that of a node in a hand stays 0
  pub hand : (x : ℕ) → InHand after x → h.home x ≡ 0 → now.home x ≡ 0
  -- that of a node which another seat fills stays 0
  pub filling : (j : ℕ) (w : View) (f : Filled) → j ≢ s → IsViewOf views j w → w.own ≡ filling f → h.home f.node ≡ 0 → now.home f.node ≡ 0

-- so it is where no home word changes
pub homes_same : (h now : Heap) (views after : List View) (s : ℕ) → ((x : ℕ) → now.home x ≡ h.home x) → Homes h now views after s
homes_same h now views after s e = record {
  home = λ i x w at q r. e x ∙ r;
  chain = λ x c r. e x ∙ r;
  hand = λ x c r. e x ∙ r;
  filling = λ j w f d at own r. e f.node ∙ r;
}

module _ {h now : Heap} {views : List View} {s : ℕ} {v : View} (u : View) (step : StepAside h now views s v) where
  abbrev after : List View
  after = slice_set views s u

  -- a view that is there afterwards is the new one, or another seat's
  is_after : (j : ℕ) (w : View) → IsViewOf after j w → ((j ≡ s) × (u ≡ w)) ⊎ ((j ≢ s) × IsViewOf views j w)
  is_after j w e = set_view views s j u w e

  by_seat : {P : Type 0} (j : ℕ) (w : View) → IsViewOf after j w → (j ≡ s → u ≡ w → P) → (j ≢ s → IsViewOf views j w → P) → P
  by_seat j w e mine other = ⊎_elim (λ (t : (j ≡ s) × (u ≡ w)). mine t.0 t.1) (λ (t : (j ≢ s) × IsViewOf views j w). other t.0 t.1) (is_after j w e)

  mine_after : IsViewOf after s u
  mine_after = new_view views s u v step.at

  module _ (st : Stands h now views s v u) (ho : Homes h now views after s) where
    abbrev p : Places h views
    p = step.parts.places

    hand_back : (x : ℕ) → (a : InHand after x) → (b : InHand views x) × (b.seat ≡ a.seat)
    hand_back x a =
        ⊎_elim
        (λ (t : (a.seat ≡ s) × (u ≡ a.view)). (record { seat = s; view = v; at = step.at; hand = st.hand x (ap (λ (z : View). z.hand) t.1 ∙ a.hand) }, sym t.0))
        (λ (t : (a.seat ≢ s) × IsViewOf views a.seat a.view). (record { seat = a.seat; view = a.view; at = t.1; hand = a.hand }, refl))
        (is_after a.seat a.view a.at)

    hand_forth : (x : ℕ) → InHand views x → InHand after x ⊎ (now.home x ≡ 1)
    hand_forth x a = forth views s v u step.at a.seat a.view a.at
        (λ there same. ⊎_elim (λ (e : u.hand ≡ Some x). inl (record { seat = s; view = u; at = there; hand = e })) inr
        (st.hand_on x (ap (λ (z : View). z.hand) same ∙ a.hand)))
        (λ d there. inl (record { seat = a.seat; view = a.view; at = there; hand = a.hand }))

    used_forth : (x : ℕ) → h.home x ≡ 0 → IsUsed views x → IsUsed after x
    used_forth x z a = forth views s v u step.at a.seat a.view a.at
        (λ there same. record { seat = s; view = u; at = there; used = st.used_on x (ap (λ (w : View). times x w.used) same ∙ a.used) z })
        (λ d there. record { seat = a.seat; view = a.view; at = there; used = a.used })

    linked_forth : (x : ℕ) → IsLinked views x → IsLinked after x
    linked_forth x a = forth views s v u step.at a.seat a.view a.at
        (λ there same. let g = st.linked_on a.own (ap (λ (z : View). z.own) same ∙ a.is) in
        record { seat = s; view = u; at = there; own = g.0; is = g.1; node = g.2 ∙ a.node })
        (λ d there. record { seat = a.seat; view = a.view; at = there; own = a.own; is = a.is; node = a.node })

    used_way : (x : ℕ) → (InChain h x × IsMarked h x) ⊎ (InHand views x ⊎ (now.home x ≡ 1))
        → (InChain now x × IsMarked now x) ⊎ (InHand after x ⊎ (now.home x ≡ 1))
    used_way x (inl t) = inl (
      chain_on step x t.0,
      mark_is step x (chain_apart step x t.0) ∙ t.1,
    )
    used_way x (inr (inl a)) = inr (hand_forth x a)
    used_way x (inr (inr e)) = inr (inr e)

    used_home : (i x : ℕ) (w : View) → IsViewOf views i w → times x w.used ≡ 1
        → (InChain h x × IsMarked h x) ⊎ (InHand views x ⊎ (h.home x ≡ 1))
        → (InChain h x × IsMarked h x) ⊎ (InHand views x ⊎ (now.home x ≡ 1))
    used_home i x w e q (inl t) = inl t
    used_home i x w e q (inr (inl a)) = inr (inl a)
    used_home i x w e q (inr (inr r)) = inr (inr (ho.home i x w e q r))

    -- the part places holds after the step
    pub places_now : Places now after
    places_now = record {
      once = λ i x w e. by_seat i w e
          (λ q r. sym (ap (λ (z : View). own_times x z.own + times x z.ready + times x z.used) r) ∙ st.times_same x
          ∙ p.once s x v step.at ∙ ap (λ a. if x / 16 == a then 1 else 0) (sym q))
          (λ d e'. p.once i x w e');
      homes = λ i x w e. by_seat i w e (λ q r. subst (λ (z : View). times x z.homes ≤ times x z.used) r (st.homes x)) (λ d e'. p.homes i x w e');
      at_home = λ i x w e l. by_seat i w e
          (λ q r. st.at_home x (subst (λ (z : View). 1 ≤ times x z.homes) (sym r) l))
          (λ d e'. ho.home i x w e' (used_once i x w e' l) (p.at_home i x w e' l));
      linked = λ i w k e own. by_seat i w e
          (λ q r. let g = st.linked k (ap (λ (z : View). z.own) r ∙ own) in subst (λ n. InChain now n × IsUnmarked now n) g.2 (linked_now s v g.0 step.at g.1))
          (λ d e'. linked_now i w k e' own);
      chain = λ x r. let c = chain_back step x r in
          let m = mark_is step x (chain_apart step x c) in
          ⊎_elim
          (λ (t : IsMarked h x × IsUsed views x). inl (m ∙ t.0, used_forth x (p.chain_home x c) t.1))
          (λ (t : IsUnmarked h x × IsLinked views x). inr (m ∙ t.0, linked_forth x t.1))
          (p.chain x c);
      in_hand = λ x a. let b = hand_back x a in let t = p.in_hand x b.0 in (used_forth x t.1 t.0, ho.hand x a t.1);
      one_hand = λ x a b. let a' = hand_back x a in let b' = hand_back x b in sym a'.1 ∙ p.one_hand x a'.0 b'.0 ∙ b'.1;
      used = λ i x w e q. by_seat i w e
          (λ a r. let o = st.used x (ap (λ (z : View). times x z.used) r ∙ q) in used_way x (used_home s x v step.at o (p.used s x v step.at o)))
          (λ d e'. used_way x (used_home i x w e' q (p.used i x w e' q)));
      apart = λ x r a. p.apart x (chain_back step x r) (hand_back x a).0;
      chain_home = λ x r. let c = chain_back step x r in ho.chain x c (p.chain_home x c);
      filling_home = λ i w f e own. by_seat i w e
          (λ q r. st.filling f (ap (λ (z : View). z.own) r ∙ own))
          (λ d e'. ho.filling i w f d e' own (p.filling_home i w f e' own));
    }
      where
        used_once : (i x : ℕ) (w : View) → IsViewOf views i w → 1 ≤ times x w.homes → times x w.used ≡ 1
        used_once i x w e l = let a = p.homes i x w e in let b = only_once h views p i x w e in omega (arith, a, b, l)

        linked_now : (i : ℕ) (w : View) (k : Listed) → IsViewOf views i w → w.own ≡ listed k → InChain now k.node × IsUnmarked now k.node
        linked_now i w k e own = let t = p.linked i w k e own in (
          chain_on step k.node t.0,
          mark_is step k.node (chain_apart step k.node t.0) ∙ t.1,
        )

-- a linked node of another seat and of the other mode that overlaps this one, at a moment when this one still looks
-- for such
pub record Rival (views : List View) (k g : Listed) : Type 0 where
  -- whose node it is
  pub seat : ℕ
  -- that seat's view
  pub view : View
  -- it is among the views
  pub there : IsViewOf views seat view
  -- its own node is g
  pub own : view.own ≡ listed g
  -- one is a reader that validates forward and the other a writer, or one a writer from the head and the other a reader
  pub way : ((k.todo ≡ Forward) × (k.mode ≡ Reader) × (g.mode ≡ Writer)) ⊎ ((k.todo ≡ FromHead) × (k.mode ≡ Writer) × (g.mode ≡ Reader))
  -- their ranges overlap
  pub over : Overlaps k.range g.range

-- the linked node of the stepping seat was linked before, and what it had to see it still has, or it sees that
-- nothing is there
pub record Looks (h now : Heap) (views : List View) (v u : View) (k : Listed) : Type 0 where
  -- the node as it was linked before
  pub old : Listed
  -- it was the own node
  pub own : v.own ≡ listed old
  -- it is the same node
  pub node : old.node ≡ k.node
  -- with the same range
  pub range : old.range ≡ k.range
  -- and the same mode
  pub mode : old.mode ≡ k.mode
  -- a rival that was still to see is still to see, and as much is left to do
  pub sees : (g : Listed) → Rival views old g → HasToSee h old v.cursor g.node → (k.todo ≡ old.todo) × HasToSee now k u.cursor g.node

module _ {h now : Heap} {views : List View} (s : ℕ) {v u : View} {k : Listed} (pairs : Pairs h views) (at : IsViewOf views s v)
    (o : Looks h now views v u k) (other : (j : ℕ) (w : View) (g : Listed) → IsViewOf views j w → w.own ≡ listed g
    → HasToSee h g w.cursor o.old.node → HasToSee now g w.cursor o.old.node) where
  -- where the linked node is a reader, it has each overlapping writer to see, or that has it
  pub as_reader : (j : ℕ) (b : View) (w : Listed) → IsViewOf views j b → b.own ≡ listed w → k.mode ≡ Reader → w.mode ≡ Writer
      → Overlaps k.range w.range → ((k.todo ≡ Forward) × HasToSee now k u.cursor w.node) ⊎ ((w.todo ≡ FromHead) × HasToSee now w b.cursor k.node)
  as_reader j b w e own reader writer over =
      let over' : Overlaps o.old.range w.range = subst (λ a. Overlaps a w.range) (sym o.range) over in
      ⊎_elim
      (λ (t : (o.old.todo ≡ Forward) × HasToSee h o.old v.cursor w.node).
      let r = o.sees w (record { seat = j; view = b; there = e; own = own; way = inl (t.0, o.mode ∙ reader, writer); over = over' }) t.1 in
      inl (r.0 ∙ t.0, r.1))
      (λ (t : (w.todo ≡ FromHead) × HasToSee h w b.cursor o.old.node). inr (t.0, subst (HasToSee now w b.cursor) o.node (other j b w e own t.1)))
      (pairs s j v b o.old w at e o.own own (o.mode ∙ reader) writer over')

  -- and where it is a writer, each overlapping reader
  pub as_writer : (j : ℕ) (b : View) (r : Listed) → IsViewOf views j b → b.own ≡ listed r → r.mode ≡ Reader → k.mode ≡ Writer
      → Overlaps r.range k.range → ((r.todo ≡ Forward) × HasToSee now r b.cursor k.node) ⊎ ((k.todo ≡ FromHead) × HasToSee now k u.cursor r.node)
  as_writer j b r e own reader writer over =
      let over' : Overlaps r.range o.old.range = subst (Overlaps r.range) (sym o.range) over in
      ⊎_elim
      (λ (t : (r.todo ≡ Forward) × HasToSee h r b.cursor o.old.node). inl (t.0, subst (HasToSee now r b.cursor) o.node (other j b r e own t.1)))
      (λ (t : (o.old.todo ≡ FromHead) × HasToSee h o.old v.cursor r.node).
      let q = o.sees r (record { seat = j; view = b; there = e; own = own; way = inr (t.0, o.mode ∙ writer, reader); over = (over'.1, over'.0) }) t.1 in
      inr (q.0 ∙ t.0, q.1))
      (pairs j s b v r o.old e at own o.own reader (o.mode ∙ writer) over')

-- no view of a seat whose epoch stays reaches what waits for the barrier of one that knows it to be out
module _ {h now : Heap} {views : List View} {s : ℕ} {v : View} (step : StepAside h now views s v)
    (epochs : (j : ℕ) (w : View) → IsViewOf views j w → j ≢ s → now.epoch j ≡ h.epoch j) where
  -- a view that is known to be out afterwards was so before
  out_back : (j : ℕ) (w b : View) → IsViewOf views j b → (j ≡ s → now.epoch s ≡ h.epoch s) → IsOut now w j → IsOut h w j
  out_back j w b e same (inl p) = inl p
  out_back j w b e same (inr n) = inr (
    n.0,
    n.1,
    ⊎_elim
        (λ (q : j ≡ s). λ z. n.2 (ap now.epoch q ∙ same q ∙ sym (ap h.epoch q) ∙ z)) (λ (d : j ≢ s). λ z. n.2 (epochs j b e d ∙ z)) (cases_eq j s),
  )

  -- a seat that a view knows to be out afterwards reached none of that view's homes before,
  -- unless it is the stepping seat and its epoch changed
  stays_out : (i j x : ℕ) (w b : View) (c : Cursor) → (j ≡ s → now.epoch s ≡ h.epoch s) → IsViewOf views i w
      → 1 ≤ times x w.homes → IsOut now w j → IsViewOf views j b → b.cursor ≡ Some c → MayReach h c x → ⊥
  stays_out i j x w b c same ew home out e has m = step.parts.barrier i j x w b c ew e has home (out_back j w b e same out) m

  -- so it is of the stepping seat's own view
  pub out_on : (j x : ℕ) (b : View) (c : Cursor) → (j ≡ s → now.epoch s ≡ h.epoch s) → 1 ≤ times x v.homes → IsOut now v j
      → IsViewOf views j b → b.cursor ≡ Some c → MayReach h c x → ⊥
  out_on j x b c same home out e has m = stays_out s j x v b c same step.at home out e has m

-- what a step has to say of the stepping seat's view
pub record Mine (h now : Heap) (views : List View) (s : ℕ) (v u : View) : Type 0 where
  -- what is kept of a view alone is so of it
  pub kept : IsViewKept now s u
  -- its cursor may reach chain nodes and what it might before
  pub reach : (d : Cursor) (x : ℕ) → u.cursor ≡ Some d → MayReach now d x → InChain h x ⊎ ((c : Cursor) × (v.cursor ≡ Some c) × MayReach h c x)
  -- no view may reach its idle nodes, nor one that it knows to be out its homes
  pub idle : (x : ℕ) → IsIdle u x → (InChain h x → ⊥) × ((j : ℕ) (w : View) (c : Cursor) → IsViewOf views j w → w.cursor ≡ Some c → MayReach h c x → ⊥)
  -- no seat that it knows to be out may reach its homes
  pub out : (j x : ℕ) (w : View) (c : Cursor) → (j ≡ s → now.epoch s ≡ h.epoch s) → 1 ≤ times x u.homes → IsOut now u j
      → IsViewOf views j w → w.cursor ≡ Some c → MayReach h c x → ⊥
  -- its linked node was linked before and goes on looking
  pub looks : (k : Listed) → u.own ≡ listed k → Looks h now views v u k
  -- a range that is held stays held
  pub held : (k : Listed) → v.own ≡ listed k → k.todo ≡ Done → u.own ≡ listed k
  -- while the fast path is taken, its cursor names a node that stands alone by the head's word only
  pub unseen : now.next 0 % 2 ≡ 1 → (a : IsAlone h views) (d : Cursor) → u.cursor ≡ Some d → MayReach now d a.node → d.cur ≡ 2 * suc a.node + 1
  -- the head has the low bit only where it had it, and epochs of other seats stay
  pub low : now.next 0 % 2 ≡ 1 → h.next 0 % 2 ≡ 1
  -- the epochs of other seats stay
  pub epochs : (j : ℕ) (w : View) → IsViewOf views j w → j ≢ s → now.epoch j ≡ h.epoch j
  -- its own stays, or it has no cursor
  pub epoch : (now.epoch s ≡ h.epoch s) ⊎ (u.cursor ≡ None)

module _ {h now : Heap} {views : List View} {s : ℕ} {v u : View} (step : StepAside h now views s v) (mine : Mine h now views s v u)
    (places : Places now (slice_set views s u)) where
  abbrev these : List View
  these = slice_set views s u

  -- a view that might reach the node before
  record Met (j x : ℕ) : Type 0 where
    view : View
    cursor : Cursor
    there : IsViewOf views j view
    has : view.cursor ≡ Some cursor
    may : MayReach h cursor x

  reach_after : (j x : ℕ) (w : View) (d : Cursor) → IsViewOf these j w → w.cursor ≡ Some d → MayReach now d x → InChain h x ⊎ Met j x
  reach_after j x w d e has m = by_seat u step j w e
      (λ q r. ⊎_elim inl
      (λ (t : (c : Cursor) × (v.cursor ≡ Some c) × MayReach h c x). inr
      (record { view = v; cursor = t.0; there = subst (λ a. IsViewOf views a v) (sym q) step.at; has = t.1; may = t.2 }))
      (mine.reach d x (ap (λ (z : View). z.cursor) r ∙ has) m))
      (λ n e'. inr (record {
        view = w;
        cursor = d;
        there = e';
        has = has;
        may = back_cursor step j w d x e' has m;
      }))

  each_now : (i : ℕ) (w : View) → IsViewOf these i w → IsViewKept now i w
  each_now i w e = by_seat u step i w e
      (λ q r. subst (λ (z : ℕ × View). IsViewKept now z.0 z.1) (λ z. (sym q z, r z)) mine.kept)
      (λ d e'. view_now step i w d e' (mine.epochs i w e' d))

  no_reuse_now : NoReuse now these
  no_reuse_now i j x w y d e e' has idle m = by_seat u step i w e
      (λ q r. let t = mine.idle x (subst (λ (z : View). IsIdle z x) (sym r) idle) in
      ⊎_elim t.0 (λ (b : Met j x). t.1 j b.view b.cursor b.there b.has b.may) (reach_after j x y d e' has m))
      (λ n ew. ⊎_elim
      (λ (r : InChain h x). idle_not_chain h views step.parts.places i x w ew idle r)
      (λ (b : Met j x). step.parts.no_reuse i j x w b.view b.cursor ew b.there b.has idle b.may)
      (reach_after j x y d e' has m))

  barrier_now : Barrier now these
  barrier_now i j x w y d e e' has home out m =
      let one = places.at_home i x w e home in
      let off : InChain h x → ⊥ = λ r. let z = places.chain_home x (chain_on step x r) in omega (arith, one, z) in
      let same : j ≡ s → now.epoch s ≡ h.epoch s = λ q. ⊎_elim
      (λ (a : now.epoch s ≡ h.epoch s). a)
      (λ (none : u.cursor ≡ None). absurd (let z = is_view these s j u y (mine_after u step) e' q in
      let k = ap (λ (g : View). g.cursor) z in cc))
      mine.epoch in
      ⊎_elim off
      (λ (b : Met j x). by_seat u step i w e
      (λ q r. mine.out j x b.view b.cursor same (subst (λ (z : View). 1 ≤ times x z.homes) (sym r) home)
      (subst (λ (z : View). IsOut now z j) (sym r) out) b.there b.has b.may)
      (λ n ew. stays_out step mine.epochs i j x w b.view b.cursor same ew home out b.there b.has b.may))
      (reach_after j x y d e' has m)

  alone_now : now.next 0 % 2 ≡ 1 → IsAlone now these
  alone_now low =
      let a = step.parts.alone (mine.low low) in
      let chain : InChain h a.node = subst (Reach (to h) a.node) (sym a.first) here in
      let apart = chain_apart step a.node chain in
      record {
        node = a.node;
        first = step.aside.head ∙ a.first;
        last = others step a.node apart ∙ a.last;
        rest = ⊎_elim
            (λ (m : IsMarked h a.node). inl (mark_is step a.node apart ∙ m))
            (λ (b : IsHeldBy views a.node). inr (held_now a.node b))
            a.rest;
        unseen = λ i w c e has m. by_seat u step i w e
            (λ q r. mine.unseen low a c (ap (λ (z : View). z.cursor) r ∙ has) m)
            (λ d e'. a.unseen i w c e' has (back_cursor step i w c a.node e' has m));
      }
    where
      held_now : (x : ℕ) → IsHeldBy views x → IsHeldBy these x
      held_now x b = forth views s v u step.at b.seat b.view b.at
          (λ there same. record {
            seat = s;
            view = u;
            at = there;
            own = b.own;
            is = mine.held b.own (ap (λ (z : View). z.own) same ∙ b.is) b.done;
            node = b.node;
            done = b.done;
          })
          (λ d there. record { seat = b.seat; view = b.view; at = there; own = b.own; is = b.is; node = b.node; done = b.done })

  abbrev Pair : View → View → Listed → Listed → Type 0
  Pair a b r w = ((r.todo ≡ Forward) × HasToSee now r a.cursor w.node) ⊎ ((w.todo ≡ FromHead) × HasToSee now w b.cursor r.node)

  pairs_now : Pairs now these
  pairs_now i j a b r w ea eb er ew reader writer over = by_seat u step i a ea
      (λ q1 q. by_seat u step j b eb
      (λ p1 p. absurd (let same : r ≡ w = listed_one r w
      (sym er ∙ sym (ap (λ (z : View). z.own) q) ∙ ap (λ (z : View). z.own) p ∙ ew) in
      let m = ap (λ (z : Listed). z.mode) same in cc))
      (λ d e. let o = mine.looks r (ap (λ (z : View). z.own) q ∙ er) in subst (λ (z : View). Pair z b r w) q
      (as_reader s step.parts.pairs step.at o (λ j w g. sees_still step j w g o.old.node) j b w e ew reader writer over)))
      (λ d1 e1. by_seat u step j b eb
      (λ p1 p. let o = mine.looks w (ap (λ (z : View). z.own) p ∙ ew) in subst (λ (z : View). Pair a z r w) p
      (as_writer s step.parts.pairs step.at o (λ j w g. sees_still step j w g o.old.node) i a r e1 er reader writer over))
      (λ d e.
      ⊎_elim
      (λ (t : (r.todo ≡ Forward) × HasToSee h r a.cursor w.node). inl (t.0, sees_still step i a r w.node e1 er t.1))
      (λ (t : (w.todo ≡ FromHead) × HasToSee h w b.cursor r.node). inr (t.0, sees_still step j b w r.node e ew t.1))
      (step.parts.pairs i j a b r w e1 e er ew reader writer over)))

  -- all that the invariant says is so after the step
  pub steady : Parts now these
  steady = record {
    chain = chain_now step;
    each = each_now;
    places = places;
    alone = alone_now;
    pairs = pairs_now;
    barrier = barrier_now;
    no_reuse = no_reuse_now;
  }
