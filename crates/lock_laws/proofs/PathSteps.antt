-- A step that changes the paths keeps every part of the invariant, where it is known which nodes the paths gain and
-- lose by it. A kind of step says how it changes the paths (`Change`) and what is special to its own view
-- (`PathStep`); all that the other views know follows here, once.
use Rattle.std.proofs.Common.{◌≡◌, ◌≢◌, ◌⊎◌, ℕ, zero, suc, ◌+◌, ◌*◌, ◌/◌, ◌%◌, ◌≤◌, true, List, set, Some, None, inl}
use Rattle.std.proofs.Common.{inr, ⊎_elim, refl, sym, ap, ◌∙◌, subst, arith}
use Rattle.std.specs.Prelude.{slice_get, Option}
use Rattle.std.proofs.lemmas.Bool.{cases_eq}
use Rattle.lock_core.specs.Counted.{times}
use Rattle.lock_core.specs.Range.{Overlaps}
use Rattle.lock_core.specs.declared.range.Mode.TheVariants.{Reader, Writer}
use Rattle.lock_core.specs.declared.views.View.{View}
use Rattle.lock_core.specs.declared.views.Cursor.{Cursor}
use Rattle.lock_core.specs.declared.views.Todo.TheVariants.{Forward, FromHead}
use Rattle.lock_laws.specs.Paths.{Reach}
use Rattle.lock_core.specs.Words.{Heap, to, IsMarked, IsUnmarked}
use Rattle.lock_core.specs.Nodes.{Filled, Listed, filling, listed, own_times}
use Rattle.lock_laws.specs.Invariant.{IsViewOf, InChain, Names, MayReach, IsOrdered, Order, InHand, IsUsed, IsLinked}
use Rattle.lock_laws.specs.Invariant.{Places, IsKnown, IsWritten, HasRange, IsRead, Fields, IsAlone, FastPath, Way}
use Rattle.lock_laws.specs.Invariant.{SeesFrom, HasToSee, first_cell_of, ToSee, Pairs, IsOut, Barrier, IsIdle, NoReuse}
use Rattle.lock_laws.specs.Invariant.{LockInvariant}
use Rattle.lock_core.proofs.ByView.{kept_view, new_view, is_view, each, each_two}
use Rattle.lock_core.proofs.Counts.{own_filling, own_linked}
use Rattle.lock_laws.proofs.Seats.{only_once, one_seat, own_not_used}
use Rattle.lock_laws.proofs.Judging.{compared_same}

-- own nodes that are the same have the same parts
pub listed_one : (k g : Listed) → listed k ≡ listed g → k ≡ g
listed_one k g e =
    let a : k.node ≡ g.node = cc in let b : k.range ≡ g.range = cc in let c : k.mode ≡ g.mode = cc in let d : k.todo ≡ g.todo = cc in
    λ z. record { node = a z; range = b z; mode = c z; todo = d z }

-- a node isn't both marked and unmarked
pub not_both : (h : Heap) (x : ℕ) → IsMarked h x → IsUnmarked h x → ⊥
not_both h x m u = omega arith

-- a view before the step is that of the stepping seat, or is there afterwards too
pub forth : {P : Type 0} (views : List View) (s : ℕ) (v u : View) → IsViewOf views s v → (j : ℕ) (w : View) → IsViewOf views j w
    → (IsViewOf (set views s u) s u → v ≡ w → P) → (j ≢ s → IsViewOf (set views s u) j w → P) → P
forth views s v u at j w e mine other = ⊎_elim (λ (q : j ≡ s). mine (new_view views s u v at) (is_view views s j v w at e q))
    (λ (d : j ≢ s). other d (kept_view views s j u w d e)) (cases_eq j s)

-- what the step does to the paths: which nodes they gain and lose, and which node it marks
pub record Change (h now : Heap) (Gained Lost Marked : ℕ → Type 0) : Type 0 where
  -- what a path has now it had before, or it is gained
  pub adds : (x t : ℕ) → Reach (to now) x t → Gained x ⊎ Reach (to h) x t
  -- what a path had it still has, or it is lost
  pub keeps : (x t : ℕ) → Reach (to h) x t → Lost x ⊎ Reach (to now) x t
  -- the same of the path behind a cell: what it has now it had, or it is gained
  pub adds_from : (x k : ℕ) → Reach (to now) x (to now k) → Gained x ⊎ Reach (to h) x (to h k)
  -- and what it had it still has, or it is lost
  pub keeps_from : (x k : ℕ) → Reach (to h) x (to h k) → Lost x ⊎ Reach (to now) x (to now k)
  -- a path in order whose nodes have ranges stays in order
  pub ordered : (t : ℕ) → IsOrdered h t → ((x : ℕ) → Reach (to h) x t → HasRange h x) → IsOrdered now t
  -- the chain is in order afterwards
  pub chain : IsOrdered now (to now 0)
  -- only the head and next words of unmarked chain nodes are written
  pub written : (c : ℕ) → (c ≡ 0) ⊎ ((q : ℕ) × (c ≡ suc q) × InChain h q × IsUnmarked h q) ⊎ (now.next c ≡ h.next c)
  -- an unmarked node is marked by the step, or stays unmarked
  pub stays : (x : ℕ) → IsUnmarked h x → Marked x ⊎ IsUnmarked now x
  -- no lower end is written
  pub lo : (n : ℕ) → now.lo n ≡ h.lo n
  -- no hi word is written
  pub hi : (n : ℕ) → now.hi n ≡ h.hi n
  -- no home word is written
  pub home : (n : ℕ) → now.home n ≡ h.home n

-- the cursor d has moved on from c, and names no more than c did
pub record Fresh (c d : Cursor) : Type 0 where
  -- its previous node is that of c
  pub prev : d.prev ≡ c.prev
  -- the word that it came to has no low bit
  pub even : d.cur % 2 ≡ 0
  -- and that which it left had none
  pub was_even : c.cur % 2 ≡ 0
  -- its node's next word isn't known
  pub next : d.next ≡ None
  -- nor is its node's lower end
  pub lo : d.lo ≡ None
  -- each target that it names was named by c
  pub names : (t : ℕ) → Names d t → Names c t

-- of a cursor that knows nothing of its node what it knows is so
pub nothing_read : (h : Heap) (d : Cursor) → d.next ≡ None → d.lo ≡ None → IsRead h d
nothing_read h d a b = record {
  next_node = λ n p. absurd (cc);
  lo_node = λ n p. absurd (cc);
  lo = λ n y p. absurd (cc);
  marked = λ n p. absurd (cc);
  next = λ n x p. absurd (cc);
}

-- a node that the paths gain: it was being filled in view v, and is linked in view w
pub record IsNew (now : Heap) (v w : View) (x : ℕ) : Type 0 where
  -- the node while it was being filled
  pub filled : Filled
  -- it was the own node before the step
  pub was : v.own ≡ filling filled
  -- the node as it is linked afterwards
  pub own : Listed
  -- it is the own node after the step
  pub is : w.own ≡ listed own
  -- the node that was being filled is x
  pub filled_node : filled.node ≡ x
  -- the linked node is x
  pub own_node : own.node ≡ x
  -- it is in the chain after the step
  pub chain : InChain now x
  -- it has no mark
  pub unmarked : IsUnmarked now x
  -- the ends in its words are those of a range
  pub range : HasRange now x

-- a step of seat s from view v to view w
pub record PathStep (h now : Heap) (views : List View) (s : ℕ) (v w : View) (Gained Lost Marked : ℕ → Type 0) : Type 0 where
  -- the invariant holds before the step
  pub invariant : LockInvariant h views
  -- v is the view of seat s before the step
  pub at : IsViewOf views s v
  -- the paths change so
  pub change : Change h now Gained Lost Marked
  -- no epoch that a view has changes
  pub epochs : (i : ℕ) (u : View) → IsViewOf views i u → now.epoch i ≡ h.epoch i
  -- a gained node was being filled and is linked now
  pub gained : (x : ℕ) → Gained x → IsNew now v w x
  -- a gained node that a cursor's known next word leads to is also behind that cursor's node
  pub gained_next : (j n x : ℕ) (u : View) (d : Cursor) → IsViewOf views j u → u.cursor ≡ Some d → d.next ≡ Some n → Gained x
      → Reach (to now) x (n / 2) → Reach (to now) x (to now (d.cur / 2))
  -- a lost node was in the chain
  pub lost_chain : (x : ℕ) → Lost x → InChain h x
  -- and isn't any more
  pub lost_gone : (x : ℕ) → Lost x → InChain now x → ⊥
  -- it is in the hand of seat s afterwards
  pub lost_hand : (x : ℕ) → Lost x → w.hand ≡ Some x
  -- it is a used node of some seat afterwards
  pub lost_used : (x : ℕ) → Lost x → IsUsed (set views s w) x
  -- one that a cursor might reach is marked afterwards, or was found with the low bit of the head
  pub lost_seen : (j x : ℕ) (u : View) (d : Cursor) → IsViewOf views j u → u.cursor ≡ Some d → MayReach h d x → Lost x
      → IsMarked now x ⊎ (d.cur ≡ 2 * suc x + 1)
  -- no linked node of another seat is lost or gets the mark
  pub apart : (j : ℕ) (u : View) (g : Listed) → j ≢ s → IsViewOf views j u → u.own ≡ listed g → Lost g.node ⊎ Marked g.node → ⊥
  -- where the head has the low bit afterwards, one node stands alone
  pub alone : now.next 0 % 2 ≡ 1 → IsAlone now (set views s w)
  -- the view changes in its own node, its cursor, its used nodes and its hand alone
  pub rest : w ≡ record v { own = w.own; cursor = w.cursor; used = w.used; hand = w.hand }
  -- each node is as often the own node or used as before
  pub once : (x : ℕ) → own_times x w.own + times x w.used ≡ own_times x v.own + times x v.used
  -- a node that is used afterwards was so before, or is marked in the chain, or is lost
  pub used : (x : ℕ) → times x w.used ≡ 1 → (times x v.used ≡ 1) ⊎ ((InChain now x × IsMarked now x) ⊎ Lost x)
  -- a used node stays used
  pub used_more : (x : ℕ) → times x v.used ≤ times x w.used
  -- a node in the hand afterwards was there before, or is lost
  pub hand : (x : ℕ) → w.hand ≡ Some x → (v.hand ≡ Some x) ⊎ Lost x
  -- a node in the hand stays there
  pub hand_more : (x : ℕ) → v.hand ≡ Some x → w.hand ≡ Some x
  -- a node that is being filled afterwards was so before, with the same known of it
  pub fills : (f : Filled) → w.own ≡ filling f → v.own ≡ filling f
  -- a linked own node is in the chain, unmarked, and its words are those that the view says
  pub lists : (g : Listed) → w.own ≡ listed g → InChain now g.node × IsUnmarked now g.node × IsWritten now g
  -- the node that was linked before, if it is in the chain, is marked and used, or unmarked and linked
  pub listed_was : (g : Listed) → v.own ≡ listed g → InChain now g.node
      → (IsMarked now g.node × IsUsed (set views s w) g.node) ⊎ (IsUnmarked now g.node × IsLinked (set views s w) g.node)
  -- a cursor afterwards is the one before, or has moved on and names no more
  pub cursor : (d : Cursor) → w.cursor ≡ Some d → (c : Cursor) × (v.cursor ≡ Some c) × ((c ≡ d) ⊎ Fresh c d)
  -- a writer that validates has its own node to see
  pub sees_own : (g : Listed) → w.own ≡ listed g → g.todo ≡ FromHead → HasToSee now g w.cursor g.node
  -- where the own node is a reader, each overlapping writer of another seat has it to see, or it has that writer
  pub as_reader : (j : ℕ) (u : View) (r g : Listed) → j ≢ s → IsViewOf views j u → w.own ≡ listed r → u.own ≡ listed g
      → r.mode ≡ Reader → g.mode ≡ Writer → Overlaps r.range g.range →
      ((r.todo ≡ Forward) × HasToSee now r w.cursor g.node) ⊎ ((g.todo ≡ FromHead) × HasToSee now g u.cursor r.node)
  -- where the own node is a writer, each overlapping reader of another seat has it to see, or it has that reader
  pub as_writer : (j : ℕ) (u : View) (r g : Listed) → j ≢ s → IsViewOf views j u → u.own ≡ listed r → w.own ≡ listed g
      → r.mode ≡ Reader → g.mode ≡ Writer → Overlaps r.range g.range →
      ((r.todo ≡ Forward) × HasToSee now r u.cursor g.node) ⊎ ((g.todo ≡ FromHead) × HasToSee now g w.cursor r.node)

module _ (h now : Heap) (views : List View) (s : ℕ) (v w : View) (Gained Lost Marked : ℕ → Type 0) (k : PathStep h now views s v w Gained Lost Marked) where
  abbrev later : List View
  later = set views s w

  abbrev places : Places h views
  places = k.invariant.places

  may_adds : (d : Cursor) (x : ℕ) → MayReach now d x → Gained x ⊎ MayReach h d x
  may_adds d x m = ⊎_elim inl (λ r. inr (record { target = m.target; named = m.named; reach = r })) (k.change.adds x m.target m.reach)

  ready_same : w.ready ≡ v.ready
  ready_same = ap (λ (z : View). z.ready) k.rest

  -- a gained node is the own node of seat s alone
  gained_own : (x : ℕ) → Gained x → own_times x v.own ≡ 1
  gained_own x g = let n = k.gained x g in subst (λ a. own_times a v.own ≡ 1) n.filled_node (own_filling v n.filled n.was)

  gained_not_used : (j x : ℕ) (u : View) → IsViewOf views j u → Gained x → 1 ≤ times x u.used → ⊥
  gained_not_used j x u e g l = own_not_used h views places s j x v u k.at e (gained_own x g) l

  gained_not_idle : (j x : ℕ) (u : View) → j ≢ s → IsViewOf views j u → Gained x → IsIdle u x → ⊥
  gained_not_idle j x u d e g (inl r) = let o = gained_own x g in d (one_seat h views places j s x u v e k.at (omega arith) (omega arith))
  gained_not_idle j x u d e g (inr f) =
      let o = gained_own x g in let p : own_times x u.own ≡ 1 = subst (λ a. own_times a u.own ≡ 1) f.2 (own_filling u f.0 f.1) in
      d (one_seat h views places j s x u v e k.at (omega arith) (omega arith))

  own_not_idle : (x : ℕ) → Gained x → IsIdle w x → ⊥
  own_not_idle x g (inl r) =
      let o = gained_own x g in let l = only_once h views places s x v k.at in let e = ap (times x) ready_same in omega arith
  own_not_idle x g (inr f) = let n = k.gained x g in let a = n.is in let b = f.1 in absurd (cc)

  -- where a cursor after the step comes from
  record From (view : View) (d : Cursor) : Type 0 where
    cursor : Cursor
    is : view.cursor ≡ Some cursor
    names : (t : ℕ) → Names d t → Names cursor t
    way : (cursor ≡ d) ⊎ Fresh cursor d

  -- each view after the step was there
  record Old (j : ℕ) (u : View) : Type 0 where
    view : View
    at : IsViewOf views j view
    epoch : u.epoch ≡ view.epoch
    ready : u.ready ≡ view.ready
    homes : u.homes ≡ view.homes
    notes : u.notes ≡ view.notes
    passed : u.passed ≡ view.passed
    once : (x : ℕ) → own_times x u.own + times x u.used ≡ own_times x view.own + times x view.used
    used : (x : ℕ) → times x u.used ≡ 1 → (times x view.used ≡ 1) ⊎ ((InChain now x × IsMarked now x) ⊎ Lost x)
    used_more : (x : ℕ) → times x view.used ≤ times x u.used
    hand : (x : ℕ) → u.hand ≡ Some x → (view.hand ≡ Some x) ⊎ ((j ≡ s) × Lost x)
    fills : (f : Filled) → u.own ≡ filling f → view.own ≡ filling f
    idle : (x : ℕ) → IsIdle u x → IsIdle view x × (Gained x → ⊥)
    from : (d : Cursor) → u.cursor ≡ Some d → From view d

  was_idle : (x : ℕ) → IsIdle w x → IsIdle v x
  was_idle x (inl r) = inl (subst (λ l. 1 ≤ times x l) ready_same r)
  was_idle x (inr f) = inr (f.0, k.fills f.0 f.1, f.2)

  names_of : (c d : Cursor) → (c ≡ d) ⊎ Fresh c d → (t : ℕ) → Names d t → Names c t
  names_of c d (inl e) t n = subst (λ (a : Cursor). Names a t) (sym e) n
  names_of c d (inr f) t n = f.names t n

  old : (j : ℕ) (u : View) → IsViewOf later j u → Old j u
  old = each views s w Old
      (record {
        view = v;
        at = k.at;
        epoch = ap (λ (z : View). z.epoch) k.rest;
        ready = ready_same;
        homes = ap (λ (z : View). z.homes) k.rest;
        notes = ap (λ (z : View). z.notes) k.rest;
        passed = ap (λ (z : View). z.passed) k.rest;
        once = k.once;
        used = k.used;
        used_more = k.used_more;
        hand = λ x e. ⊎_elim inl (λ l. inr (refl, l)) (k.hand x e);
        fills = k.fills;
        idle = λ x i. (was_idle x i, λ g. own_not_idle x g i);
        from = λ d e. let t = k.cursor d e in record { cursor = t.0; is = t.1; names = names_of t.0 d t.2; way = t.2 };
      })
      (λ j u d e. record {
        view = u;
        at = e;
        epoch = refl;
        ready = refl;
        homes = refl;
        notes = refl;
        passed = refl;
        once = λ x. refl;
        used = λ x q. inl q;
        used_more = λ x. omega arith;
        hand = λ x q. inl q;
        fills = λ f q. q;
        idle = λ x i. (i, λ g. gained_not_idle j x u d e g i);
        from = λ c q. record { cursor = c; is = q; names = λ t n. n; way = inl refl };
      })

  used_now : (x : ℕ) → IsUsed views x → IsUsed later x
  used_now x a = forth views s v w k.at a.seat a.view a.at
      (λ at same. record {
        seat = s;
        view = w;
        at = at;
        used = let e = ap (λ (z : View). times x z.used) same in let u = a.used in let l = only_once h views places s x v k.at in
            let o = k.once x in let m = k.used_more x in omega arith;
      })
      (λ d at. record { seat = a.seat; view = a.view; at = at; used = a.used })

  hand_now : (x : ℕ) → InHand views x → InHand later x
  hand_now x a = forth views s v w k.at a.seat a.view a.at
      (λ at same. record { seat = s; view = w; at = at; hand = k.hand_more x (ap (λ (z : View). z.hand) same ∙ a.hand) })
      (λ d at. record { seat = a.seat; view = a.view; at = at; hand = a.hand })

  lost_in_hand : (x : ℕ) → Lost x → InHand later x
  lost_in_hand x l = record { seat = s; view = w; at = new_view views s w v k.at; hand = k.lost_hand x l }

  -- a marked node's next word stays
  marked_word : (x : ℕ) → IsMarked h x → now.next (suc x) ≡ h.next (suc x)
  marked_word x m =
      ⊎_elim (λ (e : suc x ≡ 0). absurd (omega arith))
      (⊎_elim
      (λ (t : (q : ℕ) × (suc x ≡ suc q) × InChain h q × IsUnmarked h q). absurd (let e : t.0 ≡ x = let a = t.1 in omega arith in
      not_both h x m (subst (IsUnmarked h) e t.3)))
      (λ e. e))
      (k.change.written (suc x))

  marked_now : (x : ℕ) → IsMarked h x → IsMarked now x
  marked_now x m = ap (λ a. a % 2) (marked_word x m) ∙ m

  unmarked_was : (x : ℕ) → IsUnmarked now x → IsUnmarked h x
  unmarked_was x u = ⊎_elim (λ (e : h.next (suc x) % 2 ≡ 0). e)
      (λ (d : h.next (suc x) % 2 ≢ 0). let m : IsMarked h x = omega arith in absurd (not_both now x (marked_now x m) u))
      (cases_eq (h.next (suc x) % 2) 0)

  -- a node that is being filled isn't in the chain, and its next word stays
  filling_apart : (j : ℕ) (u : View) (f : Filled) → IsViewOf views j u → u.own ≡ filling f → InChain h f.node → ⊥
  filling_apart j u f e own r =
      ⊎_elim
      (λ (t : IsMarked h f.node × IsUsed views f.node). let a = t.1 in let b = a.used in
      own_not_used h views places j a.seat f.node u a.view e a.at (own_filling u f own) (omega arith))
      (λ (t : IsUnmarked h f.node × IsLinked views f.node).
      let a = t.1 in
      let p : own_times f.node a.view.own ≡ 1 = subst (λ n. own_times n a.view.own ≡ 1) a.node (own_linked a.view a.own a.is) in
      let q = own_filling u f own in
      let e' = one_seat h views places j a.seat f.node u a.view e a.at (omega arith) (omega arith) in
      let same = is_view views j a.seat u a.view e a.at (sym e') in
      let b = ap (λ (z : View). z.own) same in let c = a.is in absurd (cc))
      (places.chain f.node r)

  filling_word : (j : ℕ) (u : View) (f : Filled) → IsViewOf views j u → u.own ≡ filling f → now.next (suc f.node) ≡ h.next (suc f.node)
  filling_word j u f e own =
      ⊎_elim (λ (q : suc f.node ≡ 0). absurd (omega arith))
      (⊎_elim
      (λ (t : (q : ℕ) × (suc f.node ≡ suc q) × InChain h q × IsUnmarked h q). absurd (let q : t.0 ≡ f.node = let a = t.1 in
      omega arith in filling_apart j u f e own (subst (InChain h) q t.2)))
      (λ q. q))
      (k.change.written (suc f.node))

  range_now : (x : ℕ) → HasRange h x → HasRange now x
  range_now x r = let a = k.change.lo x in let b = ap (λ w. w / 2) (k.change.hi x) in (let c = r.0 in omega arith, let c = r.1 in omega arith)

  chain_adds : (x : ℕ) → InChain now x → Gained x ⊎ InChain h x
  chain_adds x r = k.change.adds_from x 0 r

  -- the part order holds after the step
  pub order_now : Order now later
  order_now = record {
    chain = k.change.chain;
    seen = λ i u d t e q n.
        let o = old i u e in let f = o.from d q in
        k.change.ordered t (k.invariant.order.seen i o.view f.cursor t o.at f.is (f.names t n))
        (λ x r. k.invariant.fields.range i x o.view f.cursor o.at f.is
        (record { target = t; named = f.names t n; reach = r }));
  }

  -- places
  chain_place : (x : ℕ) → InChain now x → InChain h x → (IsMarked h x × IsUsed views x) ⊎ (IsUnmarked h x × IsLinked views x)
      → (IsMarked now x × IsUsed later x) ⊎ (IsUnmarked now x × IsLinked later x)
  chain_place x r o (inl t) = inl (marked_now x t.0, used_now x t.1)
  chain_place x r o (inr t) = let a = t.1 in forth views s v w k.at a.seat a.view a.at
      (λ at same. subst (λ n. (IsMarked now n × IsUsed later n) ⊎ (IsUnmarked now n × IsLinked later n)) a.node
      (k.listed_was a.own (ap (λ (z : View). z.own) same ∙ a.is) (subst (InChain now) (sym a.node) r)))
      (λ d at. inr (
        ⊎_elim (λ (m : Marked x). absurd (k.apart a.seat a.view a.own d a.at a.is (inr (subst Marked (sym a.node) m)))) (λ u. u) (k.change.stays x t.0),
        record { seat = a.seat; view = a.view; at = at; own = a.own; is = a.is; node = a.node },
      ))

  abbrev hand_of : (x : ℕ) (c : InHand later x) (o : Old c.seat c.view) → o.view.hand ≡ Some x → InHand views x
  hand_of x c o e = record { seat = c.seat; view = o.view; at = o.at; hand = e }

  one_hand_now : (x : ℕ) (a b : InHand later x) → a.seat ≡ b.seat
  one_hand_now x a b = go (old a.seat a.view a.at) (old b.seat b.view b.at)
    where
      go : Old a.seat a.view → Old b.seat b.view → a.seat ≡ b.seat
      go o p =
          ⊎_elim
          (λ (e : o.view.hand ≡ Some x). ⊎_elim
          (λ (f : p.view.hand ≡ Some x). places.one_hand x (hand_of x a o e) (hand_of x b p f))
          (λ (f : (b.seat ≡ s) × Lost x). absurd (places.apart x (k.lost_chain x f.1) (hand_of x a o e)))
          (p.hand x b.hand))
          (λ (e : (a.seat ≡ s) × Lost x). ⊎_elim
          (λ (f : p.view.hand ≡ Some x). absurd (places.apart x (k.lost_chain x e.1) (hand_of x b p f)))
          (λ (f : (b.seat ≡ s) × Lost x). e.0 ∙ sym f.0)
          (p.hand x b.hand))
          (o.hand x a.hand)

  -- a hand after the step was one before it, or has the lost node
  hand_was : (x : ℕ) → InHand later x → InHand views x ⊎ Lost x
  hand_was x a = let o = old a.seat a.view a.at in
      ⊎_elim (λ e. inl (record { seat = a.seat; view = o.view; at = o.at; hand = e })) (λ (t : (a.seat ≡ s) × Lost x). inr t.1)
      (o.hand x a.hand)

  used_place : (x : ℕ) → (InChain h x × IsMarked h x) ⊎ (InHand views x ⊎ (h.home x ≡ 1))
      → (InChain now x × IsMarked now x) ⊎ (InHand later x ⊎ (now.home x ≡ 1))
  used_place x (inl t) = ⊎_elim (λ (l : Lost x). inr (inl (lost_in_hand x l))) (λ r. inl (r, marked_now x t.1)) (k.change.keeps_from x 0 t.0)
  used_place x (inr (inl a)) = inr (inl (hand_now x a))
  used_place x (inr (inr e)) = inr (inr (k.change.home x ∙ e))

  linked_now : (i : ℕ) (u : View) (g : Listed) → IsViewOf later i u → u.own ≡ listed g → InChain now g.node × IsUnmarked now g.node
  linked_now i u g e own = each views s w (λ i u. (g : Listed) → u.own ≡ listed g → InChain now g.node × IsUnmarked now g.node)
      (λ g own. let t = k.lists g own in (t.0, t.1))
      (λ j u d e g own. let t = places.linked j u g e own in (
        ⊎_elim (λ (l : Lost g.node). absurd (k.apart j u g d e own (inl l))) (λ r. r) (k.change.keeps_from g.node 0 t.0),
        ⊎_elim (λ (l : Marked g.node). absurd (k.apart j u g d e own (inr l))) (λ r. r) (k.change.stays g.node t.1),
      ))
      i u e g own

  -- the part places holds after the step
  pub places_now : Places now later
  places_now = record {
    once = λ i x u e. let o = old i u e in let a = o.once x in let b = ap (times x) o.ready in let c = places.once i x o.view o.at in omega arith;
    homes = λ i x u e. let o = old i u e in let a = ap (times x) o.homes in let b = o.used_more x in let c = places.homes i x o.view o.at in omega arith;
    at_home = λ i x u e l. let o = old i u e in k.change.home x ∙ places.at_home i x o.view o.at (subst (λ a. 1 ≤ times x a) o.homes l);
    linked = linked_now;
    chain = λ x r. ⊎_elim
        (λ (g : Gained x). let n = k.gained x g in inr (
          n.unmarked,
          record {
            seat = s;
            view = w;
            at = new_view views s w v k.at;
            own = n.own;
            is = n.is;
            node = n.own_node;
          },
        ))
        (λ (o : InChain h x). chain_place x r o (places.chain x o))
        (chain_adds x r);
    in_hand = λ x a. ⊎_elim
        (λ (b : InHand views x). let t = places.in_hand x b in (used_now x t.0, k.change.home x ∙ t.1))
        (λ (l : Lost x). (k.lost_used x l, k.change.home x ∙ places.chain_home x (k.lost_chain x l)))
        (hand_was x a);
    one_hand = one_hand_now;
    used = λ i x u e l. let o = old i u e in ⊎_elim
        (λ (q : times x o.view.used ≡ 1). used_place x (places.used i x o.view o.at q))
        (⊎_elim (λ (t : InChain now x × IsMarked now x). inl t) (λ (l : Lost x). inr (inl (lost_in_hand x l))))
        (o.used x l);
    apart = λ x r a. ⊎_elim
        (λ (b : InHand views x). ⊎_elim
        (λ (g : Gained x). let t = (places.in_hand x b).0 in let u = t.used in gained_not_used t.seat x t.view t.at g (omega arith))
        (λ (o : InChain h x). places.apart x o b)
        (chain_adds x r))
        (λ (l : Lost x). k.lost_gone x l r)
        (hand_was x a);
    chain_home = λ x r. k.change.home x ∙ ⊎_elim
        (λ (g : Gained x). let n = k.gained x g in subst (λ a. h.home a ≡ 0) n.filled_node (places.filling_home s v n.filled k.at n.was))
        (λ (o : InChain h x). places.chain_home x o)
        (chain_adds x r);
    filling_home = λ i u f e own. let o = old i u e in k.change.home f.node ∙ places.filling_home i o.view f o.at (o.fills f own);
  }

  -- fields
  known_now : (j : ℕ) (u : View) (f : Filled) → IsViewOf views j u → u.own ≡ filling f → IsKnown now f
  known_now j u f e own = let a = k.invariant.fields.filled j u f e own in record {
    lo = λ lo q. k.change.lo f.node ∙ a.lo lo q;
    hi = λ hi q. k.change.hi f.node ∙ a.hi hi q;
    aimed = λ z q. filling_word j u f e own ∙ a.aimed z q;
    in_order = a.in_order;
  }

  next_was : (j n x : ℕ) (u : View) (d : Cursor) → IsViewOf views j u → u.cursor ≡ Some d → d.next ≡ Some n → InChain now x
      → IsUnmarked now x → Reach (to now) x (n / 2) → Reach (to now) x (to now (d.cur / 2))
  next_was j n x u d e q m r low far =
      ⊎_elim (λ (g : Gained x). k.gained_next j n x u d e q m g far)
      (λ (o : InChain h x). ⊎_elim (λ (g : Gained x). k.gained_next j n x u d e q m g far)
      (λ (b : Reach (to h) x (n / 2)).
      ⊎_elim (λ (l : Lost x). absurd (k.lost_gone x l r)) (λ z. z)
      (k.change.keeps_from x (d.cur / 2) ((k.invariant.fields.cursor j u d e q).next n x m o (unmarked_was x low) b)))
      (k.change.adds x (n / 2) far))
      (chain_adds x r)

  read_now : (j : ℕ) (u : View) (d : Cursor) → IsViewOf views j u → u.cursor ≡ Some d → IsRead now d
  read_now j u d e q = let a = k.invariant.fields.cursor j u d e q in record {
    next_node = a.next_node;
    lo_node = a.lo_node;
    lo = λ lo y p z. a.lo lo y p z ∙ sym (k.change.lo y);
    marked = λ n p odd. marked_at n p odd (d.cur / 2) refl;
    next = λ n x p r low far. next_was j n x u d e q p r low far;
  }
    where
      marked_at : (n : ℕ) → d.next ≡ Some n → n % 2 ≡ 1 → (c : ℕ) → d.cur / 2 ≡ c → n ≡ now.next (d.cur / 2)
      marked_at n p odd zero z = absurd ((k.invariant.fields.cursor j u d e q).next_node n p z)
      marked_at n p odd (suc y) z =
          let g = (k.invariant.fields.cursor j u d e q).marked n p odd in
          let m : IsMarked h y = ap (λ a. h.next a % 2) (sym z) ∙ ap (λ a. a % 2) (sym g) ∙ odd in
          g ∙ ap h.next z ∙ sym (marked_word y m) ∙ ap now.next (sym z)

  no_cursor : (j : ℕ) (u : View) (o : Old j u) → o.view.cursor ≡ None → (q : Option Cursor) → u.cursor ≡ q → u.cursor ≡ None
  no_cursor j u o e None z = z
  no_cursor j u o e (Some d) z = absurd (let a = (o.from d z).is in cc)

  -- what a cursor may reach after the step
  reaches : (j x : ℕ) (u : View) (d : Cursor) (o : Old j u) (q : u.cursor ≡ Some d) → MayReach now d x → Gained x ⊎ MayReach h (o.from d q).cursor x
  reaches j x u d o q m = ⊎_elim inl (λ (r : MayReach h d x). inr
      (record { target = r.target; named = (o.from d q).names r.target r.named; reach = r.reach })) (may_adds d x m)

  -- the part fields holds after the step
  pub fields_now : Fields now later
  fields_now = record {
    epoch = λ i u e. let o = old i u e in o.epoch ∙ k.invariant.fields.epoch i o.view o.at ∙ sym (k.epochs i o.view o.at);
    filled = λ i u f e own. let o = old i u e in known_now i o.view f o.at (o.fills f own);
    linked = λ i u g e own. each views s w (λ i u. (g : Listed) → u.own ≡ listed g → IsWritten now g) (λ g own. (k.lists g own).2)
        (λ j u d e g own. let a = k.invariant.fields.linked j u g e own in
        record { lo = k.change.lo g.node ∙ a.lo; hi = k.change.hi g.node ∙ a.hi }) i u e g own;
    cursor = λ i u d e q. let o = old i u e in let f = o.from d q in
        ⊎_elim (λ (z : f.cursor ≡ d). subst (IsRead now) z (read_now i o.view f.cursor o.at f.is))
        (λ (z : Fresh f.cursor d). nothing_read now d z.next z.lo) f.way;
    even = λ i u e z. let o = old i u e in no_cursor i u o (k.invariant.fields.even i o.view o.at (subst (λ a. a % 2 ≡ 0) o.epoch z)) u.cursor refl;
    chain_range = λ x r. ⊎_elim (λ (g : Gained x). (k.gained x g).range)
        (λ (o : InChain h x). range_now x (k.invariant.fields.chain_range x o)) (chain_adds x r);
    range = λ i x u d e q m. let o = old i u e in
        ⊎_elim (λ (g : Gained x). (k.gained x g).range)
        (λ (r : MayReach h (o.from d q).cursor x). range_now x
        (k.invariant.fields.range i x o.view (o.from d q).cursor o.at (o.from d q).is r)) (reaches i x u d o q m);
  }

  -- fast path
  kept_now : (i x : ℕ) (u : View) (d : Cursor) → IsViewOf later i u → u.cursor ≡ Some d → MayReach now d x
      → InChain now x ⊎ (IsMarked now x ⊎ (d.cur ≡ 2 * suc x + 1))
  kept_now i x u d e q m =
      ⊎_elim (λ (g : Gained x). inl (k.gained x g).chain)
      (λ r. go (o.from d q) r (k.invariant.fast_path.kept i x o.view (o.from d q).cursor o.at (o.from d q).is r))
      (reaches i x u d o q m)
    where
      o : Old i u
      o = old i u e

      low : (f : From o.view d) → f.cursor.cur ≡ 2 * suc x + 1 → d.cur ≡ 2 * suc x + 1
      low f z = ⊎_elim (λ (a : f.cursor ≡ d). ap (λ (b : Cursor). b.cur) (sym a) ∙ z)
          (λ (a : Fresh f.cursor d). absurd (let b = a.was_even in omega arith)) f.way

      go : (f : From o.view d) → MayReach h f.cursor x → InChain h x ⊎ (IsMarked h x ⊎ (f.cursor.cur ≡ 2 * suc x + 1))
          → InChain now x ⊎ (IsMarked now x ⊎ (d.cur ≡ 2 * suc x + 1))
      go f r (inl a) = ⊎_elim (λ (l : Lost x). ⊎_elim (λ b. inr (inl b)) (λ b. inr (inr (low f b)))
          (k.lost_seen i x o.view f.cursor o.at f.is r l)) inl (k.change.keeps_from x 0 a)
      go f r (inr (inl a)) = inr (inl (marked_now x a))
      go f r (inr (inr a)) = inr (inr (low f a))

  -- the part fast path holds after the step
  pub fast_now : FastPath now later
  fast_now = record {
    alone = k.alone;
    kept = kept_now;
    cursor = λ i u d e q odd. let o = old i u e in let f = o.from d q in
        ⊎_elim
        (λ (z : f.cursor ≡ d). k.invariant.fast_path.cursor i o.view d o.at (f.is ∙ ap (λ (a : Cursor). Some a) z) odd)
        (λ (z : Fresh f.cursor d). absurd (let a = z.even in omega arith))
        f.way;
  }

  -- the part way holds after the step
  pub way_now : Way now later
  way_now = record {
    past = λ i u d f lo hi p e q own el eh ep. let o = old i u e in let b = o.from d q in
        compared_same h now k.change.lo k.change.hi f.mode lo hi p _
        (k.invariant.way.past i o.view b.cursor f lo hi p o.at b.is (o.fills f own) el eh
        (⊎_elim (λ (z : b.cursor ≡ d). ap (λ (a : Cursor). a.prev) z) (λ (z : Fresh b.cursor d). sym z.prev) b.way ∙ ep));
    stop = λ i u d f lo hi y e q own el eh at ey. let o = old i u e in let b = o.from d q in
        ⊎_elim
        (λ (z : b.cursor ≡ d). compared_same h now k.change.lo k.change.hi f.mode lo hi y _
        (k.invariant.way.stop i o.view d f lo hi y o.at (b.is ∙ ap (λ (a : Cursor). Some a) z) (o.fills f own) el eh at ey))
        (λ (z : Fresh b.cursor d). absurd (⊎_elim (λ (a : d.cur ≡ 0). omega arith) (λ (a : (d.next ≡ None) × (d.lo ≢ None)). a.1 z.lo) at))
        b.way;
  }

  -- who still has whom to see
  sees_from : (cur : ℕ) (next : Option ℕ) (x : ℕ) → SeesFrom h cur next x → Lost x ⊎ SeesFrom now cur next x
  sees_from cur None x r = k.change.keeps x (cur / 2) r
  sees_from cur (Some n) x (inl e) = inr (inl e)
  sees_from cur (Some n) x (inr r) = ⊎_elim inl (λ q. inr (inr q)) (k.change.keeps x (n / 2) r)

  -- a node that a validation had to see is lost, or is still to see
  pub sees_now : (g : Listed) (c : Option Cursor) (x : ℕ) → HasToSee h g c x → Lost x ⊎ HasToSee now g c x
  sees_now g None x r = k.change.keeps_from x (first_cell_of g.todo g.node) r
  sees_now g (Some d) x r = sees_from d.cur d.next x r

  -- a linked node of another seat isn't lost
  still_sees : (j : ℕ) (u : View) (g b : Listed) (c : Option Cursor) → j ≢ s → IsViewOf views j u → u.own ≡ listed b
      → HasToSee h g c b.node → HasToSee now g c b.node
  still_sees j u g b c d e own r = ⊎_elim (λ (l : Lost b.node). absurd (k.apart j u b d e own (inl l))) (λ z. z) (sees_now g c b.node r)

  -- the part to see holds after the step
  pub to_see_now : ToSee now later
  to_see_now i u g e own todo = each views s w (λ i u. (g : Listed) → u.own ≡ listed g → g.todo ≡ FromHead → HasToSee now g u.cursor g.node)
      k.sees_own
      (λ j u d e g own todo. still_sees j u g g u.cursor d e own (k.invariant.to_see j u g e own todo))
      i u e g own todo

  abbrev Pair : ℕ → View → ℕ → View → Type 0
  Pair i a j b = (r g : Listed) → a.own ≡ listed r → b.own ≡ listed g → r.mode ≡ Reader → g.mode ≡ Writer
      → Overlaps r.range g.range → ((r.todo ≡ Forward) × HasToSee now r a.cursor g.node)
      ⊎ ((g.todo ≡ FromHead) × HasToSee now g b.cursor r.node)

  -- the part pairs holds after the step
  pub pairs_now : Pairs now later
  pairs_now i j a b r g e f own own' reader writer over = each_two views s w Pair
      (λ r g own own' reader writer over. absurd (let q = ap (λ (z : Listed). z.mode) (listed_one r g (sym own ∙ own')) in cc))
      (λ j u d e. (
        λ r g own own' reader writer over. k.as_reader j u r g d e own own' reader writer over,
        λ r g own own' reader writer over. k.as_writer j u r g d e own own' reader writer over,
      ))
      (λ i a j b d e d' e' r g own own' reader writer over.
      ⊎_elim
      (λ (t : (r.todo ≡ Forward) × HasToSee h r a.cursor g.node). inl (t.0, still_sees j b r g a.cursor d' e' own' t.1))
      (λ (t : (g.todo ≡ FromHead) × HasToSee h g b.cursor r.node). inr (t.0, still_sees i a g r b.cursor d e own t.1))
      (k.invariant.pairs i j a b r g e e' own own' reader writer over))
      i j a b e f r g own own' reader writer over

  -- the barrier and no reuse
  was_out : (i j : ℕ) (a b : View) → Old i a → Old j b → IsOut now a j → (u : View) → IsViewOf views i u → a.passed ≡ u.passed → a.notes ≡ u.notes → IsOut h u j
  was_out i j a b o p (inl e) u at q r = inl (subst (λ z. slice_get z j ≡ Some true) q e)
  was_out i j a b o p (inr t) u at q r = inr (t.0, subst (λ z. slice_get z j ≡ Some (Some t.0)) r t.1, λ e. t.2 (k.epochs j p.view p.at ∙ e))

  -- the part barrier holds after the step
  pub barrier_now : Barrier now later
  barrier_now i j x a b d e f q l out m =
      let o = old i a e in let p = old j b f in
      let l' = subst (λ z. 1 ≤ times x z) o.homes l in
      ⊎_elim
      (λ (g : Gained x). let c = places.homes i x o.view o.at in gained_not_used i x o.view o.at g (omega arith))
      (λ (r : MayReach h (p.from d q).cursor x). k.invariant.barrier i j x o.view p.view (p.from d q).cursor o.at p.at
      (p.from d q).is l' (was_out i j a b o p out o.view o.at o.passed o.notes) r)
      (reaches j x b d p q m)

  -- the part no reuse holds after the step
  pub no_reuse_now : NoReuse now later
  no_reuse_now i j x a b d e f q idle m =
      let o = old i a e in let p = old j b f in let t = o.idle x idle in
      ⊎_elim t.1
      (λ (r : MayReach h (p.from d q).cursor x). k.invariant.no_reuse i j x o.view p.view (p.from d q).cursor o.at p.at (p.from d q).is t.0 r)
      (reaches j x b d p q m)

  -- all nine parts hold after the step
  pub invariant_now : LockInvariant now later
  invariant_now = record {
    order = order_now;
    places = places_now;
    fields = fields_now;
    fast_path = fast_now;
    way = way_now;
    pairs = pairs_now;
    to_see = to_see_now;
    barrier = barrier_now;
    no_reuse = no_reuse_now;
  }
