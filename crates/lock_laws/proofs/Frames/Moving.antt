-- Steps of a walk: only the cursor of the stepping seat moves, and its range may be held from now on.
use Rattle.std.proofs.Common.{◌≡◌, ◌⊎◌, ℕ, suc, ◌+◌, ◌*◌, ◌%◌, ◌≤◌, List, Some, None, inl, inr, ⊎_elim, refl, sym, ap, ◌∙◌, subst, arith}
use Rattle.std.specs.Prelude.{slice_set, slice_get}
use Rattle.lock_core.specs.Counted.{times}
use Rattle.lock_core.specs.declared.views.View.{View}
use Rattle.lock_core.specs.declared.views.Cursor.{Cursor}
use Rattle.lock_core.specs.declared.views.Todo.TheVariants.{FromHead, Done}
use Rattle.lock_core.specs.Words.{Heap}
use Rattle.lock_core.specs.Nodes.{Filled, Listed, filling, listed, own_times}
use Rattle.lock_laws.specs.Invariant.{IsViewOf, InChain, MayReach, IsOut, IsIdle, IsAlone, IsWritten, HasToSee}
use Rattle.lock_laws.proofs.Coming.{done}
use Rattle.lock_laws.proofs.PathSteps.{listed_one}
use Rattle.lock_laws.proofs.Frames.Parts.{Parts, IsCursorKept}
use Rattle.lock_laws.proofs.Frames.Frame.{idle_alone}
use Rattle.lock_laws.proofs.Frames.Steady.{Rival, Looks, homes_same, places_now, out_on, steady}
use Rattle.lock_laws.proofs.Frames.Quiet.{Calm, calm_step, known_on, written_on}

-- the own node stays, or its range is held from now on
abbrev pub OwnStays : View → View → Type 0
OwnStays v u = (u.own ≡ v.own) ⊎ ((k : Listed) × (v.own ≡ listed k) × (u.own ≡ listed (done k)))

module _ (v u : View) (stays : OwnStays v u) where
  by_own : {P : Type 0} → (u.own ≡ v.own → P) → ((k : Listed) → v.own ≡ listed k → u.own ≡ listed (done k) → P) → P
  by_own same now = ⊎_elim same (λ (t : (k : Listed) × (v.own ≡ listed k) × (u.own ≡ listed (done k))). now t.0 t.1 t.2) stays

  -- a node that is being filled afterwards was so before
  pub filling_back : (f : Filled) → u.own ≡ filling f → v.own ≡ filling f
  filling_back f e = by_own (λ q. sym q ∙ e) (λ k is now. absurd (cc))

  -- the linked node afterwards is the one before, or that with nothing left to do
  pub linked_back : (g : Listed) → u.own ≡ listed g → (v.own ≡ listed g) ⊎ ((k : Listed) × (v.own ≡ listed k) × (done k ≡ g))
  linked_back g e = by_own (λ q. inl (sym q ∙ e)) (λ k is now. inr (k, is, listed_one (done k) g (sym now ∙ e)))

  -- a node that was linked still is
  pub linked_forth : (k : Listed) → v.own ≡ listed k → (g : Listed) × (u.own ≡ listed g) × (g.node ≡ k.node)
  linked_forth k e = by_own (λ q. (k, q ∙ e, refl)) (λ b is now. (done b, now, ap (λ (z : Listed). z.node) (listed_one b k (sym is ∙ e))))

  -- which node is the own one stays
  pub own_same : (x : ℕ) → own_times x u.own ≡ own_times x v.own
  own_same x = by_own (ap (own_times x)) (λ k is now. ap (own_times x) now ∙ sym (ap (own_times x) is))

-- where a rival that was still to see is so, and the own node then stays, the linked node goes on looking
pub looks_on : (h now : Heap) (views : List View) (v u : View) → OwnStays v u
    → ((k g : Listed) → v.own ≡ listed k → Rival views k g → HasToSee h k v.cursor g.node → (u.own ≡ v.own) × HasToSee now k u.cursor g.node)
    → (g : Listed) → u.own ≡ listed g → Looks h now views v u g
looks_on h now views v u stays sees g e = ⊎_elim
    (λ (q : v.own ≡ listed g). record { old = g; own = q; node = refl; range = refl; mode = refl; sees = λ o r see. (refl, (sees g o q r see).1) })
    (λ (t : (k : Listed) × (v.own ≡ listed k) × (done k ≡ g)). record {
      old = t.0;
      own = t.1;
      node = ap (λ (z : Listed). z.node) t.2;
      range = ap (λ (z : Listed). z.range) t.2;
      mode = ap (λ (z : Listed). z.mode) t.2;
      sees = λ o r see. let w = sees t.0 o t.1 r see in let same : g ≡ t.0 = listed_one g t.0 (sym e ∙ w.0 ∙ t.1) in
          (ap (λ (z : Listed). z.todo) same, subst (λ (z : Listed). HasToSee now z u.cursor o.node) (sym same) w.1);
    })
    (linked_back v u stays g e)

-- from view v to view u only the cursor moves and the own node may get done; what is so of the cursor then
pub record Moves (h now : Heap) (views : List View) (s : ℕ) (v u : View) : Type 0 where
  -- the view changes in its own node and its cursor alone
  pub rest : u ≡ record v { own = u.own; cursor = u.cursor }
  -- the own node stays, or has nothing left to do
  pub own : OwnStays v u
  -- outside an operation there is no cursor
  pub odd : u.epoch % 2 ≡ 0 → u.cursor ≡ None
  -- what is kept of a cursor is so of the new one
  pub cursor : (d : Cursor) → u.cursor ≡ Some d → IsCursorKept now u.own d
  -- it may reach nodes of the chain, and what the cursor before might reach
  pub reach : (d : Cursor) (x : ℕ) → u.cursor ≡ Some d → MayReach now d x → InChain h x ⊎ ((c : Cursor) × (v.cursor ≡ Some c) × MayReach h c x)
  -- what it had to see it still has, unless nothing is there
  pub sees : (k g : Listed) → v.own ≡ listed k → Rival views k g → HasToSee h k v.cursor g.node → (u.own ≡ v.own) × HasToSee now k u.cursor g.node
  -- a writer that validates has its own node to see
  pub to_see : (k : Listed) → u.own ≡ listed k → k.todo ≡ FromHead → HasToSee now k u.cursor k.node
  -- while the head has the low bit, the cursor may reach the node alone only by having read just that head
  pub unseen : now.next 0 % 2 ≡ 1 → (a : IsAlone h views) (d : Cursor) → u.cursor ≡ Some d → MayReach now d a.node → d.cur ≡ 2 * suc a.node + 1

module _ (h now : Heap) (views : List View) (s : ℕ) (v u : View) (parts : Parts h views) (at : IsViewOf views s v)
    (calm : Calm h now) (home : (x : ℕ) → now.home x ≡ h.home x) (epochs : (j : ℕ) (w : View) → IsViewOf views j w
    → now.epoch j ≡ h.epoch j) (low : now.next 0 % 2 ≡ 1 → h.next 0 % 2 ≡ 1) (moves : Moves h now views s v u) where
  ready : u.ready ≡ v.ready
  ready = ap (λ (z : View). z.ready) moves.rest

  used : u.used ≡ v.used
  used = ap (λ (z : View). z.used) moves.rest

  homes : u.homes ≡ v.homes
  homes = ap (λ (z : View). z.homes) moves.rest

  hand : u.hand ≡ v.hand
  hand = ap (λ (z : View). z.hand) moves.rest

  held_forth : (k : Listed) → v.own ≡ listed k → k.todo ≡ Done → u.own ≡ listed k
  held_forth k e d = by_own v u moves.own (λ q. q ∙ e) (λ b is now.
      let same = listed_one b k (sym is ∙ e) in now ∙ ap listed (ap done same) ∙ ap (λ a. listed (record k { todo = a })) (sym d))

  written : (g : Listed) → u.own ≡ listed g → IsWritten now g
  written g e = ⊎_elim
      (λ (q : v.own ≡ listed g). written_on calm ((parts.each s v at).linked g q))
      (λ (t : (k : Listed) × (v.own ≡ listed k) × (done k ≡ g)).
      let w = written_on calm ((parts.each s v at).linked t.0 t.1) in subst (IsWritten now) t.2 (record { lo = w.lo; hi = w.hi }))
      (linked_back v u moves.own g e)

  looks : (g : Listed) → u.own ≡ listed g → Looks h now views v u g
  looks = looks_on h now views v u moves.own moves.sees

  idle_back : (x : ℕ) → IsIdle u x → IsIdle v x
  idle_back x (inl r) = inl (subst (λ (l : List ℕ). 1 ≤ times x l) ready r)
  idle_back x (inr t) = inr (t.0, filling_back v u moves.own t.0 t.1, t.2)

  out_same : (j : ℕ) → IsOut now u j → IsOut now v j
  out_same j (inl p) = inl (sym (ap (λ (z : View). slice_get z.passed j) moves.rest) ∙ p)
  out_same j (inr n) = inr (n.0, sym (ap (λ (z : View). slice_get z.notes j) moves.rest) ∙ n.1, n.2)

  -- all that the invariant says is so after such a step
  pub moves_kept : Parts now (slice_set views s u)
  moves_kept =
      let k = parts.each s v at in
      let step = calm_step s parts at calm in
      steady step
      (record {
        kept = record {
          epoch = ap (λ (z : View). z.epoch) moves.rest ∙ k.epoch ∙ sym (epochs s v at);
          even = moves.odd;
          filled = λ f e. known_on calm (k.filled f (filling_back v u moves.own f e));
          linked = written;
          cursor = moves.cursor;
          to_see = moves.to_see;
        };
        reach = moves.reach;
        idle = λ x idle. idle_alone step x (idle_back x idle);
        out = λ j x w c same home' out e has m. out_on step (λ j w e d. epochs j w e) j x w c same
            (subst (λ (l : List ℕ). 1 ≤ times x l) homes home') (out_same j out) e has m;
        looks = looks;
        held = held_forth;
        unseen = moves.unseen;
        low = low;
        epochs = λ j w e d. epochs j w e;
        epoch = inl (epochs s v at);
      })
      (places_now u step (record {
        times_same = λ x. let a = own_same v u moves.own x in let b = ap (times x) ready in let c = ap (times x) used in omega (arith, a, b, c);
        homes = λ x. let a = ap (times x) homes in let b = ap (times x) used in let l = parts.places.homes s x v at in omega (arith, a, b, l);
        at_home = λ x l. home x ∙ parts.places.at_home s x v at (subst (λ (q : List ℕ). 1 ≤ times x q) homes l);
        linked = λ g e. let o = looks g e in (o.old, o.own, o.node);
        linked_on = linked_forth v u moves.own;
        used = λ x e. sym (ap (times x) used) ∙ e;
        used_on = λ x e z. ap (times x) used ∙ e;
        filling = λ f e. home f.node ∙ parts.places.filling_home s v f at (filling_back v u moves.own f e);
        hand = λ x e. sym hand ∙ e;
        hand_on = λ x e. inl (hand ∙ e);
      }) (homes_same h now views (slice_set views s u) s home))
