-- Walk and ReadLo: a cursor begins at the head or behind the own node, and reads the next word and the lower end of
-- its node.
use Rattle.std.proofs.Common.{◌≡◌, ◌≢◌, ◌⊎◌, ℕ, suc, ◌+◌, ◌*◌, ◌/◌, ◌%◌, List, Some, None, inl, inr, ⊎_elim, refl, sym, ap, ◌∙◌, subst, arith}
use Rattle.std.specs.Prelude.{Option, slice_set}
use Rattle.lock_core.specs.declared.range.Mode.TheVariants.{Reader, Writer}
use Rattle.lock_core.specs.declared.views.View.{View}
use Rattle.lock_core.specs.declared.views.Cursor.{Cursor}
use Rattle.lock_core.specs.declared.views.Own.{Own}
use Rattle.lock_core.specs.declared.views.Own.TheVariants.{Nothing, Filling, Linked}
use Rattle.lock_core.specs.declared.views.Todo.{Todo}
use Rattle.lock_core.specs.declared.views.Todo.TheVariants.{Forward, FromHead, Done}
use Rattle.lock_laws.specs.Paths.{Reach, here, there, PathEnds, end, on}
use Rattle.lock_core.specs.Words.{Heap, to, cell_of, IsMarked, IsUnmarked}
use Rattle.lock_core.specs.Nodes.{Filled, Listed, filling, listed, own_times}
use Rattle.lock_core.specs.Views.{came_to, own_at, start_of, seen_after}
use Rattle.lock_core.specs.StepTable.{IsAtPlace}
use Rattle.lock_laws.specs.Invariant.{IsViewOf, InChain, Names, MayReach, IsOrdered, IsAlone, IsHeldBy, HasToSee, first_cell_of}
use Rattle.lock_core.proofs.ByView.{is_view}
use Rattle.lock_core.proofs.Counts.{own_linked}
use Rattle.lock_laws.proofs.Seats.{one_seat}
use Rattle.lock_laws.proofs.Frames.Owns.{same_some}
use Rattle.lock_laws.proofs.PathSteps.{listed_one, nothing_read}
use Rattle.lock_laws.proofs.Paths.{reach_on, unreach, unends, nothing_at_end}
use Rattle.lock_laws.proofs.Frames.Parts.{Parts, IsCursorKept}
use Rattle.lock_laws.proofs.Frames.Steady.{Rival}
use Rattle.lock_laws.proofs.Coming.{CameHome, coming, done}
use Rattle.lock_laws.proofs.Frames.Moving.{OwnStays, moves_kept}
use Rattle.lock_laws.proofs.Frames.Seeing.{calm_same, sees_anew, sees_own_anew, blind_at_own}

-- ---- parts of a path

ends_from : (to : ℕ → ℕ) (q t : ℕ) → PathEnds to t → Reach to q t → PathEnds to (suc q)
ends_from to q t end r = elim r [ ]
ends_from to q t (on e) here = on e
ends_from to q t (on e) (there {n = n} r) = ends_from to q (to (suc n)) e r

reach_from : (to : ℕ → ℕ) (x q t : ℕ) → Reach to q t → Reach to x (suc q) → Reach to x t
reach_from to x q t a here = a
reach_from to x q t a (there r) = reach_on to x q t a r

-- the path at the end is in order
pub ordered_end : (h : Heap) → IsOrdered h 0
ordered_end h = record { ends = end; sorted = λ a c r e. absurd (elim r [ ]) }

-- from a node of an ordered path on it is ordered
pub ordered_from : (h : Heap) (q t : ℕ) → IsOrdered h t → Reach (to h) q t → IsOrdered h (suc q)
ordered_from h q t o r = record { ends = ends_from (to h) q t o.ends r; sorted = λ a c m e. o.sorted a c (reach_from (to h) a q t r m) e }

-- behind a node of an ordered path it is ordered
pub ordered_behind : (h : Heap) (q t : ℕ) → IsOrdered h t → Reach (to h) q t → IsOrdered h (to h (suc q))
ordered_behind h q t o r = record { ends = unends (to h) q (ends_from (to h) q t o.ends r); sorted = λ a c m e. o.sorted a c (reach_on (to h) a q t r m) e }

-- in a chain of one node there is no other
alone_is : (h : Heap) (views : List View) (a : IsAlone h views) (x : ℕ) → InChain h x → x ≡ a.node
alone_is h views a x r = ⊎_elim
    (λ (e : x ≡ a.node). e)
    (λ (q : Reach (to h) x (to h (suc a.node))). absurd (let z : Reach (to h) x 0 = subst (Reach (to h) x) a.last q in elim z [ ]))
    (unreach (to h) x a.node (subst (Reach (to h) x) a.first r))

-- ---- the own node once a cursor came to a word

pub own_stays : (v u : View) (w : ℕ) → u.own ≡ own_at v.own w → OwnStays v u
own_stays v u w e = ⊎_elim (λ (q : own_at v.own w ≡ v.own). inl (e ∙ q))
    (λ (c : CameHome v.own w (own_at v.own w)). inr (c.was, c.is, e ∙ c.now)) (coming v.own w)

-- an own node that is being filled is so before and after
pub fills_still : (o : Own) (w : ℕ) (f : Filled) → own_at o w ≡ filling f → o ≡ filling f
fills_still o w f e = ⊎_elim (λ (q : own_at o w ≡ o). sym q ∙ e) (λ (c : CameHome o w (own_at o w)). absurd (let n = c.now in cc)) (coming o w)

-- and so is a linked one that has still something to do
pub listed_still : (o : Own) (w : ℕ) (k : Listed) → own_at o w ≡ listed k → k.todo ≢ Done → o ≡ listed k
listed_still o w k e d = ⊎_elim
    (λ (q : own_at o w ≡ o). sym q ∙ e)
    (λ (c : CameHome o w (own_at o w)). absurd (d (sym (ap (λ (a : Listed). a.todo) (listed_one (done c.was) k (sym c.now ∙ e))))))
    (coming o w)

-- as long as a rival is ahead the range isn't held
pub not_yet : (h : Heap) (views : List View) (s w : ℕ) (v : View) (k g : Listed) → Parts h views → IsViewOf views s v
    → v.own ≡ listed k → Rival views k g → Reach (to h) g.node (w / 2) → own_at v.own w ≡ v.own
not_yet h views s w v k g parts at own rival r =
    ⊎_elim
    (λ (q : own_at v.own w ≡ v.own). q)
    (λ (c : CameHome v.own w (own_at v.own w)).
    let same = listed_one c.was k (sym c.is ∙ own) in
    absurd (⊎_elim
    (λ (t : (c.was.todo ≡ Forward) × (w ≡ 0)). let n : Reach (to h) g.node 0 = subst (Reach (to h) g.node) (ap (λ a. a / 2) t.1) r in elim n [ ])
    (λ (t : (c.was.todo ≡ FromHead) × (w ≡ 2 * suc c.was.node)).
    let half : w / 2 ≡ suc k.node = let a = ap (λ (b : Listed). b.node) same in let z = t.1 in omega (arith, a, z) in
    ⊎_elim
    (λ (u : (k.todo ≡ Forward) × (k.mode ≡ Reader) × (g.mode ≡ Writer)). let a = ap (λ (b : Listed). b.todo) same in let f = u.0 in let b = t.0 in cc)
    (λ (u : (k.todo ≡ FromHead) × (k.mode ≡ Writer) × (g.mode ≡ Reader)). blind_at_own h views s v k g parts at own rival u.1
    (subst (Reach (to h) g.node) half r))
    rival.way)
    c.way))
    (coming v.own w)

-- ---- where a walk begins

-- a walk begins behind a reader's own node, and otherwise at the head
data Start (o : Own) : Type 0 where
  at_head : start_of o ≡ None → ((k : Listed) → o ≡ listed k → k.todo ≢ Forward) → Start o
  behind_own : (k : Listed) → o ≡ listed k → k.todo ≡ Forward → start_of o ≡ Some k.node → Start o

starts : (o : Own) → Start o
starts Nothing = at_head refl (λ k e. absurd (cc))
starts (Filling node lo hi mode aimed) = at_head refl (λ k e. absurd (cc))
starts (Linked node range mode Forward) = behind_own (record { node = node; range = range; mode = mode; todo = Forward }) refl refl refl
starts (Linked node range mode FromHead) = at_head refl
    (λ k e q. let t = ap (λ (z : Listed). z.todo)
    (listed_one (record { node = node; range = range; mode = mode; todo = FromHead }) k e) in cc)
starts (Linked node range mode Done) = at_head refl
    (λ k e q. let t = ap (λ (z : Listed). z.todo)
    (listed_one (record { node = node; range = range; mode = mode; todo = Done }) k e) in cc)

module _ (h : Heap) (views : List View) (s : ℕ) (v : View) (parts : Parts h views) (at : IsViewOf views s v)
    (none : v.cursor ≡ None) (odd : v.epoch % 2 ≡ 1) where
  abbrev word : ℕ
  word = h.next (cell_of (start_of v.own))

  abbrev there_at : View
  there_at = came_to v (start_of v.own) word 0

  abbrev d : Cursor
  d = record { prev = start_of v.own; cur = word; next = None; lo = None; seen = seen_after 0 word }

  abbrev From : Option ℕ → Type 0
  From p = (p ≡ None) ⊎ ((q : ℕ) × (p ≡ Some q) × InChain h q × IsUnmarked h q)

  -- a path in order, with nodes of the chain alone
  abbrev Leads : ℕ → Type 0
  Leads t = IsOrdered h t × ((x : ℕ) → Reach (to h) x t → InChain h x)

  -- the cell where it begins is the head, or that of a node of the chain without mark
  from_chain : Start v.own → From (start_of v.own)
  from_chain (at_head e n) = inl e
  from_chain (behind_own k e t q) = let l = parts.places.linked s v k at e in inr (k.node, q, l.0, l.1)

  prev_leads : (p : Option ℕ) → From p → Leads (cell_of p)
  prev_leads p (inl e) = subst (λ (o : Option ℕ). Leads (cell_of o)) (sym e) (ordered_end h, λ x r. absurd (nothing_at_end (to h) x r))
  prev_leads p (inr t) = subst (λ (o : Option ℕ). Leads (cell_of o)) (sym t.1)
      (ordered_from h t.0 (to h 0) parts.chain.ordered t.2, λ x r. reach_from (to h) x t.0 (to h 0) t.2 r)

  cur_leads : (p : Option ℕ) → From p → Leads (to h (cell_of p))
  cur_leads p (inl e) = subst (λ (o : Option ℕ). Leads (to h (cell_of o))) (sym e) (parts.chain.ordered, λ x r. r)
  cur_leads p (inr t) = subst (λ (o : Option ℕ). Leads (to h (cell_of o))) (sym t.1)
      (ordered_behind h t.0 (to h 0) parts.chain.ordered t.2, λ x r. reach_on (to h) x t.0 (to h 0) t.2 r)

  leads : (t : ℕ) → Names d t → Leads t
  leads t (inl e) = subst (λ a. Leads a) (sym e) (prev_leads (start_of v.own) (from_chain (starts v.own)))
  leads t (inr (inl e)) = subst (λ a. Leads a) (sym e) (cur_leads (start_of v.own) (from_chain (starts v.own)))
  leads t (inr (inr n)) = absurd (let e = n.1 in cc)

  inside : (x : ℕ) → MayReach h d x → InChain h x
  inside x m = (leads m.target m.named).1 x m.reach

  -- only a walk from the head finds a low bit
  low_head : word % 2 ≡ 1 → start_of v.own ≡ None
  low_head e = ⊎_elim
      (λ (q : start_of v.own ≡ None). q)
      (λ (t : (q : ℕ) × (start_of v.own ≡ Some q) × InChain h q × IsUnmarked h q). absurd
      (let a = ap (λ (o : Option ℕ). h.next (cell_of o) % 2) t.1 in let b = t.3 in omega (arith, a, b, e)))
      (from_chain (starts v.own))

  kept : IsCursorKept h (own_at v.own word) d
  kept = record {
    seen = λ t n. (leads t n).0;
    read = nothing_read h d refl refl;
    range = λ x m. parts.chain.range x (inside x m);
    kept = λ x m. inl (inside x m);
    low = λ e. (low_head e, refl, refl);
    past = λ f lo hi p e1 e2 e3 e4. absurd (no_prev f p (fills_still v.own word f e1) e4);
    stop = λ f lo hi y e1 e2 e3 place e4. absurd (no_place y place e4);
  }
    where
      no_prev : (f : Filled) (p : ℕ) → v.own ≡ filling f → start_of v.own ≡ Some p → ⊥
      no_prev f p e q = let z : start_of v.own ≡ None = ap start_of e in cc

      no_place : (y : ℕ) → IsAtPlace d → word / 2 ≡ suc y → ⊥
      no_place y (inl e) q = omega (arith, e, q)
      no_place y (inr t) q = t.1 refl

  unseen : h.next 0 % 2 ≡ 1 → (a : IsAlone h views) → word ≡ 2 * suc a.node + 1
  unseen low a = by_start (starts v.own)
    where
      held_twice : (k : Listed) → v.own ≡ listed k → k.todo ≡ Forward → IsHeldBy views a.node → k.node ≡ a.node → ⊥
      held_twice k own todo b e =
          let mine = own_linked v k own in
          let its = own_linked b.view b.own b.is in
          let its' : own_times k.node b.view.own ≡ 1 = subst (λ n. own_times n b.view.own ≡ 1) (b.node ∙ sym e) its in
          let seat = one_seat h views parts.places s b.seat k.node v b.view at b.at (omega (arith, mine)) (omega (arith, its')) in
          let same = is_view views s b.seat v b.view at b.at (sym seat) in
          let t = ap (λ (z : Listed). z.todo) (listed_one k b.own (sym own ∙ ap (λ (z : View). z.own) same ∙ b.is)) in
          let d = b.done in
          cc

      by_start : Start v.own → word ≡ 2 * suc a.node + 1
      by_start (at_head e n) = let w = ap (λ (o : Option ℕ). h.next (cell_of o)) e in let f = a.first in omega (arith, w, f, low)
      by_start (behind_own k own todo q) =
          let l = parts.places.linked s v k at own in
          let e = alone_is h views a k.node l.0 in
          absurd (⊎_elim
          (λ (m : IsMarked h a.node). let u = l.1 in let w = ap (λ n. h.next (suc n) % 2) e in omega (arith, m, u, w))
          (λ (b : IsHeldBy views a.node). held_twice k own todo b e)
          a.rest)

  -- what a validation has to see from its beginning on is ahead
  ahead : (k : Listed) (x : ℕ) → v.own ≡ listed k → k.todo ≢ Done → HasToSee h k None x → Reach (to h) x (word / 2)
  ahead k x own d r = by_start (starts v.own)
    where
      by_start : Start v.own → Reach (to h) x (word / 2)
      by_start (at_head e n) = subst (λ (o : Option ℕ). Reach (to h) x (to h (cell_of o))) (sym e) (by_todo k.todo refl)
        where
          by_todo : (t : Todo) → k.todo ≡ t → Reach (to h) x (to h 0)
          by_todo Forward q = absurd (n k own q)
          by_todo FromHead q = subst (λ (a : Todo). Reach (to h) x (to h (first_cell_of a k.node))) q r
          by_todo Done q = absurd (d q)
      by_start (behind_own b e todo q) =
          let same = listed_one b k (sym e ∙ own) in
          subst (λ (o : Option ℕ). Reach (to h) x (to h (cell_of o))) (sym q)
          (subst (λ (a : ℕ). Reach (to h) x (to h (suc a))) (sym (ap (λ (c : Listed). c.node) same))
          (subst (λ (a : Todo). Reach (to h) x (to h (first_cell_of a k.node)))
          (sym (ap (λ (c : Listed). c.todo) same) ∙ todo) r))

  sees : (k g : Listed) → v.own ≡ listed k → Rival views k g → (own_at v.own word ≡ v.own) × HasToSee h k (Some d) g.node
  sees k g mine r =
      let far = ahead k g.node mine (looking k g r.way) (sees_anew h views s v k g parts at mine r) in
      (not_yet h views s word v k g parts at mine r far, far)
    where
      looking : (k g : Listed) → ((k.todo ≡ Forward) × (k.mode ≡ Reader) × (g.mode ≡ Writer))
          ⊎ ((k.todo ≡ FromHead) × (k.mode ≡ Writer) × (g.mode ≡ Reader)) → k.todo ≢ Done
      looking k g (inl t) e = let a = t.0 in cc
      looking k g (inr t) e = let a = t.0 in cc

  -- all that the invariant says is so after a Walk that begins a cursor
  pub begins : Parts h (slice_set views s there_at)
  begins = moves_kept h h views s v there_at parts at (calm_same h) (λ x. refl) (λ j w e. refl) (λ l. l) (record {
    rest = refl;
    own = own_stays v there_at word refl;
    odd = λ e. absurd (omega (arith, odd, e));
    cursor = λ c e. subst (IsCursorKept h (own_at v.own word)) (same_some d c e) kept;
    reach = λ c x e m. inl (inside x (subst (λ z. MayReach h z x) (sym (same_some d c e)) m));
    sees = λ k g own r see. sees k g own r;
    to_see = λ k own e. let mine = listed_still v.own word k own (λ q. cc) in
        ahead k k.node mine (λ q. cc) (sees_own_anew h k (parts.places.linked s v k at mine).0 e);
    unseen = λ low a c e m. sym (ap (λ (z : Cursor). z.cur) (same_some d c e)) ∙ unseen low a;
  })
