-- A step that leaves every path as it is.
-- Only words of nodes that are idle in the stepping seat's view were written, so nothing that a view may reach changed.
use Rattle.std.proofs.Common.{◌≡◌, ◌≢◌, ◌⊎◌, ℕ, zero, suc, ◌+◌, ◌*◌, ◌/◌, ◌%◌, ◌^◌, ◌<◌, ◌≤◌, List, Some, None, inl}
use Rattle.std.proofs.Common.{inr, ⊎_elim, refl, sym, ap, ◌∙◌, subst, arith}
use Rattle.std.specs.Prelude.{Option}
use Rattle.lock_core.specs.declared.views.View.{View}
use Rattle.lock_core.specs.declared.views.Cursor.{Cursor}
use Rattle.lock_core.specs.declared.views.Own.{Own}
use Rattle.lock_core.specs.declared.views.Todo.{Todo}
use Rattle.lock_core.specs.declared.views.Todo.TheVariants.{Forward, FromHead, Done}
use Rattle.lock_laws.specs.Paths.{Reach, here}
use Rattle.lock_core.specs.Words.{Heap, to, cell_of, IsMarked}
use Rattle.lock_core.specs.Nodes.{Filled, Listed, listed}
use Rattle.lock_core.specs.Compare.{compared}
use Rattle.lock_laws.specs.Invariant.{IsViewOf, InChain, Names, MayReach, IsOrdered, HasRange, IsRead, IsIdle, HasToSee, SeesFrom, first_cell_of}
use Rattle.lock_laws.proofs.Frames.Parts.{Parts, IsCursorKept, IsViewKept, IsChainKept}
use Rattle.lock_laws.proofs.Frames.Idle.{idle_not_chain, idle_seat}
use Rattle.lock_laws.proofs.Paths.{keeps_reach, adds_reach, keeps_ends, reach_on}

-- the words after a step: those of nodes that aren't idle in view v stay, and the head names what it named
pub record Aside (h now : Heap) (v : View) : Type 0 where
  -- the head names what it named
  pub head : to now 0 ≡ to h 0
  -- the next word of a node that isn't idle stays
  pub next : (x : ℕ) → (IsIdle v x → ⊥) → now.next (suc x) ≡ h.next (suc x)
  -- its lower end stays
  pub lo : (x : ℕ) → (IsIdle v x → ⊥) → now.lo x ≡ h.lo x
  -- its hi word stays
  pub hi : (x : ℕ) → (IsIdle v x → ⊥) → now.hi x ≡ h.hi x

-- no idle node of the view is in the path of a target
abbrev pub IsClear : Heap → View → ℕ → Type 0
IsClear h v t = (y : ℕ) → IsIdle v y → Reach (to h) y t → ⊥

-- a step of seat s that writes words of idle nodes of its view v alone
pub record StepAside (h now : Heap) (views : List View) (s : ℕ) (v : View) : Type 0 where
  -- the invariant holds before the step
  pub parts : Parts h views
  -- v is the view of seat s before the step
  pub at : IsViewOf views s v
  -- the words of all other nodes stay
  pub aside : Aside h now v

module _ {h now : Heap} {views : List View} {s : ℕ} {v : View} (step : StepAside h now views s v) where
  -- the chain has no node that is idle in the view
  pub clear_chain : IsClear h v (to h 0)
  clear_chain y idle r = idle_not_chain h views step.parts.places s y v step.at idle r

  -- a target that a cursor names leads to no node that is idle in the view
  pub clear_cursor : (j : ℕ) (w : View) (c : Cursor) → IsViewOf views j w → w.cursor ≡ Some c → (t : ℕ) → Names c t → IsClear h v t
  clear_cursor j w c at' has t n y idle r = step.parts.no_reuse s j y v w c step.at at' has idle (record { target = t; named = n; reach = r })

  -- the target of a node in a clear path is clear
  pub clear_on : (x t : ℕ) → IsClear h v t → Reach (to h) x t → IsClear h v (to h (suc x))
  clear_on x t clear r y idle far = clear y idle (reach_on (to h) y x t r far)

  -- a node that isn't idle names what it named
  pub others : (n : ℕ) → (IsIdle v n → ⊥) → to now (suc n) ≡ to h (suc n)
  others n d = ap (λ w. w / 2) (step.aside.next n d)

  -- what a clear path had it still has
  pub on_reach : (x t : ℕ) → IsClear h v t → Reach (to h) x t → Reach (to now) x t
  on_reach x t clear r = keeps_reach (to h) (to now) (IsIdle v) others x t clear r

  -- what a clear path has now it had before
  pub back_reach : (x t : ℕ) → IsClear h v t → Reach (to now) x t → Reach (to h) x t
  back_reach x t clear r = adds_reach (to h) (to now) (IsIdle v) others x t r clear

  -- what was in the chain still is
  pub chain_on : (x : ℕ) → InChain h x → InChain now x
  chain_on x r = subst (Reach (to now) x) (sym step.aside.head) (on_reach x (to h 0) clear_chain r)

  -- what is in the chain now was in it
  pub chain_back : (x : ℕ) → InChain now x → InChain h x
  chain_back x r = back_reach x (to h 0) clear_chain (subst (Reach (to now) x) step.aside.head r)

  -- no node of the chain is idle in the view
  pub chain_apart : (x : ℕ) → InChain h x → IsIdle v x → ⊥
  chain_apart x r idle = clear_chain x idle r

  -- the next word of a node that isn't idle is what it was, and so is its mark
  pub mark_is : (x : ℕ) → (IsIdle v x → ⊥) → now.next (suc x) % 2 ≡ h.next (suc x) % 2
  mark_is x d = ap (λ w. w % 2) (step.aside.next x d)

  -- a clear path in order stays in order
  pub ordered_now : (t : ℕ) → IsClear h v t → IsOrdered h t → IsOrdered now t
  ordered_now t clear o = record {
    ends = keeps_ends (to h) (to now) (IsIdle v) others t clear o.ends;
    sorted = λ a c r e.
        let r' = back_reach a t clear r in
        let da : IsIdle v a → ⊥ = λ q. clear a q r' in
        let e' = sym (others a da) ∙ e in
        let rc = reach_on (to h) c a t r' (subst (Reach (to h) c) (sym e') here) in
        let dc : IsIdle v c → ⊥ = λ q. clear c q rc in
        let b = o.sorted a c r' e' in
        record {
          starts = let p = step.aside.lo a da in let q = step.aside.lo c dc in let l = b.starts in omega (arith, p, q, l);
          clear = λ w. let p = step.aside.hi a da in let q = step.aside.lo c dc in let l = b.clear (sym (ap (λ k. k % 2) p) ∙ w) in omega (arith, p, q, l);
        };
  }

  -- a node that isn't idle and had a range still has one
  pub range_now : (x : ℕ) → (IsIdle v x → ⊥) → HasRange h x → HasRange now x
  range_now x d r = subst (λ (p : ℕ × ℕ). (p.0 < p.1 / 2) × (p.1 / 2 ≤ 2 ^ 62)) (λ z. (sym (step.aside.lo x d) z, sym (step.aside.hi x d) z)) r

  -- the chain is in order afterwards, and its nodes have ranges
  pub chain_now : IsChainKept now
  chain_now = record {
    ordered = subst (IsOrdered now) (sym step.aside.head) (ordered_now (to h 0) clear_chain step.parts.chain.ordered);
    range = λ x r. let c = chain_back x r in range_now x (chain_apart x c) (step.parts.chain.range x c);
  }

  module _ (c : Cursor) (clear : (t : ℕ) → Names c t → IsClear h v t) where
    -- what the cursor may reach now it might reach before
    pub may_back : (x : ℕ) → MayReach now c x → MayReach h c x
    may_back x m = record { target = m.target; named = m.named; reach = back_reach x m.target (clear m.target m.named) m.reach }

    -- no node that the cursor may reach is idle in the view
    pub may_apart : (x : ℕ) → MayReach h c x → IsIdle v x → ⊥
    may_apart x m idle = clear m.target m.named x idle m.reach

    -- the cursor's node isn't idle in the view
    pub cur_apart : (y : ℕ) → c.cur / 2 ≡ suc y → IsIdle v y → ⊥
    cur_apart y e idle = clear (c.cur / 2) (inr (inl refl)) y idle (subst (Reach (to h) y) (sym e) here)

    -- nor is its previous node
    pub prev_apart : (p : ℕ) → c.prev ≡ Some p → IsIdle v p → ⊥
    prev_apart p e idle = clear (cell_of c.prev) (inl refl) p idle (subst (λ (q : Option ℕ). Reach (to h) p (cell_of q)) (sym e) here)

    compared_now : (f : Filled) (lo hi x : ℕ) → (IsIdle v x → ⊥) → compared f.mode lo hi (now.lo x) (now.hi x) ≡ compared f.mode lo hi (h.lo x) (h.hi x)
    compared_now f lo hi x d = λ z. compared f.mode lo hi (step.aside.lo x d z) (step.aside.hi x d z)

    -- a cell that a target names, where it names one
    cell_at : (t : ℕ) → t ≢ 0 → (y : ℕ) × (t ≡ suc y)
    cell_at zero d = absurd (d refl)
    cell_at (suc y) d = (y, refl)

    -- what the cursor knows of its node stays so
    pub read_now : IsRead h c → IsRead now c
    read_now r = record {
      next_node = r.next_node;
      lo_node = r.lo_node;
      lo = λ lo y e q. r.lo lo y e q ∙ sym (step.aside.lo y (cur_apart y q));
      marked = λ n e q. let y = cell_at (c.cur / 2) (r.next_node n e) in
          r.marked n e q ∙ sym (ap now.next y.1 ∙ step.aside.next y.0 (cur_apart y.0 y.1) ∙ ap h.next (sym y.1));
      next = λ n x e ch un far.
          let y = cell_at (c.cur / 2) (r.next_node n e) in
          let old = chain_back x ch in
          let got = r.next n x e old (sym (mark_is x (chain_apart x old)) ∙ un) (back_reach x (n / 2) (clear (n / 2) (inr (inr (n, e, refl)))) far) in
          let cur : Reach (to h) y.0 (c.cur / 2) = subst (Reach (to h) y.0) (sym y.1) here in
          let from : IsClear h v (to h (suc y.0)) = clear_on y.0 (c.cur / 2) (clear (c.cur / 2) (inr (inl refl))) cur in
          subst (λ a. Reach (to now) x (to now a)) (sym y.1)
          (subst (Reach (to now) x) (sym (others y.0 (cur_apart y.0 y.1)))
          (on_reach x (to h (suc y.0)) from (subst (λ a. Reach (to h) x (to h a)) y.1 got)));
    }

    -- all that is kept of the cursor beside an own node is kept
    pub cursor_now : (own : Own) → IsCursorKept h own c → IsCursorKept now own c
    cursor_now own k = record {
      seen = λ t n. ordered_now t (clear t n) (k.seen t n);
      read = read_now k.read;
      range = λ x m. let b = may_back x m in range_now x (may_apart x b) (k.range x b);
      kept = λ x m. let b = may_back x m in
          ⊎_elim
          (λ (r : InChain h x). inl (chain_on x r))
          (λ (r : IsMarked h x ⊎ (c.cur ≡ 2 * suc x + 1)). ⊎_elim
          (λ (a : IsMarked h x). inr (inl (mark_is x (may_apart x b) ∙ a))) (λ (a : c.cur ≡ 2 * suc x + 1). inr (inr a)) r)
          (k.kept x b);
      low = k.low;
      past = λ f lo hi p e1 e2 e3 e4. compared_now f lo hi p (prev_apart p e4) ∙ k.past f lo hi p e1 e2 e3 e4;
      stop = λ f lo hi y e1 e2 e3 place e4. compared_now f lo hi y (cur_apart y e4) ∙ k.stop f lo hi y e1 e2 e3 place e4;
    }

  -- what a view has to see it still has
  sees_start : (todo : Todo) (n x : ℕ) → InChain h n → Reach (to h) x (to h (first_cell_of todo n)) → Reach (to now) x (to now (first_cell_of todo n))
  sees_start Forward n x r q = subst (Reach (to now) x) (sym (others n (chain_apart n r))) (on_reach x (to h (suc n)) (clear_on n (to h 0) clear_chain r) q)
  sees_start FromHead n x r q = chain_on x q
  sees_start Done n x r q = chain_on x q

  sees_from : (cur : ℕ) (next : Option ℕ) (x : ℕ) → IsClear h v (cur / 2) → ((n : ℕ) → next ≡ Some n → IsClear h v (n / 2))
      → SeesFrom h cur next x → SeesFrom now cur next x
  sees_from cur None x a b q = on_reach x (cur / 2) a q
  sees_from cur (Some n) x a b (inl e) = inl e
  sees_from cur (Some n) x a b (inr q) = inr (on_reach x (n / 2) (b n refl) q)

  -- what a linked node of the chain had to see it still has to see
  pub sees_on : (k : Listed) (o : Option Cursor) (x : ℕ) → InChain h k.node
      → ((c : Cursor) → o ≡ Some c → (t : ℕ) → Names c t → IsClear h v t) → HasToSee h k o x → HasToSee now k o x
  sees_on k None x r clear q = sees_start k.todo k.node x r q
  sees_on k (Some c) x r clear q = sees_from c.cur c.next x (clear c refl (c.cur / 2) (inr (inl refl))) (λ n e. clear c refl (n / 2) (inr (inr (n, e, refl)))) q

  -- what a view had to see it still has
  pub sees_still : (j : ℕ) (w : View) (k : Listed) (x : ℕ) → IsViewOf views j w → w.own ≡ listed k → HasToSee h k w.cursor x → HasToSee now k w.cursor x
  sees_still j w k x e own q = sees_on k w.cursor x (step.parts.places.linked j w k e own).0 (λ c has. clear_cursor j w c e has) q

  -- what a view's cursor may reach now it might reach before
  pub back_cursor : (j : ℕ) (w : View) (c : Cursor) (x : ℕ) → IsViewOf views j w → w.cursor ≡ Some c → MayReach now c x → MayReach h c x
  back_cursor j w c x e has m = may_back c (clear_cursor j w c e has) x m

  -- what is kept of a view's cursor is so after the step
  pub still_cursor : (j : ℕ) (w : View) (c : Cursor) → IsViewOf views j w → w.cursor ≡ Some c → IsCursorKept now w.own c
  still_cursor j w c e has = cursor_now c (clear_cursor j w c e has) w.own ((step.parts.each j w e).cursor c has)

  -- no view may reach a node that is idle in the stepping seat's
  pub idle_alone : (x : ℕ) → IsIdle v x → (InChain h x → ⊥) × ((j : ℕ) (w : View) (c : Cursor) → IsViewOf views j w → w.cursor ≡ Some c → MayReach h c x → ⊥)
  idle_alone x idle = (clear_chain x idle, λ j w c e has m. step.parts.no_reuse s j x v w c step.at e has idle m)

  -- the view of another seat
  pub view_now : (j : ℕ) (w : View) → j ≢ s → IsViewOf views j w → now.epoch j ≡ h.epoch j → IsViewKept now j w
  view_now j w d at' epoch =
      let k = step.parts.each j w at' in
      record {
        epoch = k.epoch ∙ sym epoch;
        even = k.even;
        filled = λ f own.
            let t = k.filled f own in
            let away : IsIdle v f.node → ⊥ = λ q. d (sym (idle_seat h views step.parts.places s j f.node v w step.at at' q (inr (f, own, refl)))) in
            record {
              lo = λ a e. step.aside.lo f.node away ∙ t.lo a e;
              hi = λ a e. step.aside.hi f.node away ∙ t.hi a e;
              aimed = λ a e. step.aside.next f.node away ∙ t.aimed a e;
              in_order = t.in_order;
            };
        linked = λ g own.
            let t = k.linked g own in
            let away = chain_apart g.node (step.parts.places.linked j w g at' own).0 in
            record { lo = step.aside.lo g.node away ∙ t.lo; hi = step.aside.hi g.node away ∙ t.hi };
        cursor = λ c has. still_cursor j w c at' has;
        to_see = λ g own todo. sees_still j w g g.node at' own (k.to_see g own todo);
      }
