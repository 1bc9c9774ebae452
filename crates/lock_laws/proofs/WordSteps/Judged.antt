-- ReadHi: the cursor's node is judged, and the walk goes on past it, stops before it, or stays at a conflict.
use Rattle.std.proofs.Common.{◌≡◌, ◌⊎◌, ℕ, suc, ◌+◌, ◌*◌, ◌/◌, ◌%◌, ◌<◌, ◌≤◌, ◌&&◌, nat_lt, nat_le, Bool, true, false}
use Rattle.std.proofs.Common.{List, Some, None, inl, inr, ⊎_elim, refl, sym, ap, ◌∙◌, subst, arith, leb-true}
use Rattle.std.specs.Prelude.{Option, slice_set, ◌==◌, if◌then◌else◌}
use Rattle.std.proofs.lemmas.Bool.{ltb-false, lt-ltb, eqb-false}
use Rattle.lock_core.specs.Range.{Interval}
use Rattle.lock_core.specs.declared.range.Mode.TheVariants.{Reader, Writer}
use Rattle.lock_core.specs.declared.compare.Verdict.{Verdict}
use Rattle.lock_core.specs.declared.compare.Verdict.TheVariants.{Past, Stop, Conflict}
use Rattle.lock_core.specs.declared.views.View.{View}
use Rattle.lock_core.specs.declared.views.Cursor.{Cursor}
use Rattle.lock_core.specs.declared.views.Own.{Own}
use Rattle.lock_core.specs.declared.views.Own.TheVariants.{Filling, Linked}
use Rattle.lock_core.specs.declared.views.Todo.{Todo}
use Rattle.lock_core.specs.declared.views.Todo.TheVariants.{Forward, FromHead, Done}
use Rattle.lock_laws.specs.Paths.{Reach, here, there}
use Rattle.lock_core.specs.Words.{Heap, to, mode_of}
use Rattle.lock_core.specs.Nodes.{Filled, Listed, filling, listed}
use Rattle.lock_core.specs.Compare.{is_reader, compared, forward, from_head, validated, walked_past, verdict_of}
use Rattle.lock_core.specs.Views.{came_to, own_at, own_stopped, hi_judged, hi_read, seen_after}
use Rattle.lock_core.specs.StepTable.{IsAtPlace}
use Rattle.lock_laws.specs.Invariant.{IsViewOf, InChain, Names, MayReach, IsOrdered, HasToSee, SeesFrom}
use Rattle.lock_core.proofs.Table.{together}
use Rattle.lock_core.proofs.ByView.{set_there}
use Rattle.lock_laws.proofs.Frames.Owns.{same_some}
use Rattle.lock_laws.proofs.PathSteps.{listed_one, nothing_read}
use Rattle.lock_laws.proofs.Frames.Parts.{Parts, IsCursorKept}
use Rattle.lock_laws.proofs.Frames.Steady.{Rival}
use Rattle.lock_laws.proofs.Coming.{done}
use Rattle.lock_laws.proofs.Frames.Moving.{moves_kept}
use Rattle.lock_laws.proofs.Frames.Seeing.{calm_same, end_is, writer_is, rival_chain, rival_written, blind_behind}
use Rattle.lock_laws.proofs.WordSteps.Walking.{own_stays, fills_still, listed_still, not_yet}
use Rattle.lock_laws.proofs.WordSteps.Reading.{not_alone}

-- ---- what a verdict tells

-- a reader that validates goes past a writer only where that ends before it
forward_past : (range : Interval) (lo w : ℕ) → w % 2 ≡ 1 → forward range lo w ≡ Past → w / 2 ≤ range.lo
forward_past range lo w odd e = by_stop (nat_le range.hi lo) e
  where
    by_mode : (t : Bool) → w % 2 == 1 ≡ t → (if is_reader (if t then Writer else Reader) then Past
        else if nat_lt range.lo (w / 2) then Conflict else Past) ≡ Past → w / 2 ≤ range.lo
    by_mode true q e = by_end (nat_lt range.lo (w / 2)) refl e
      where
        by_end : (t : Bool) → nat_lt range.lo (w / 2) ≡ t → (if t then Conflict else Past) ≡ Past → w / 2 ≤ range.lo
        by_end true q e = absurd (cc)
        by_end false q e = ltb-false range.lo (w / 2) q
    by_mode false q e = absurd (eqb-false (w % 2) 1 q odd)

    by_stop : (t : Bool) → (if t then Stop else if is_reader (mode_of w) then Past else if nat_lt range.lo (w / 2) then Conflict
        else Past) ≡ Past → w / 2 ≤ range.lo
    by_stop true e = absurd (cc)
    by_stop false e = by_mode (w % 2 == 1) refl e

-- it stops only at a node that starts at its end or later
forward_stop : (range : Interval) (lo w : ℕ) → forward range lo w ≡ Stop → range.hi ≤ lo
forward_stop range lo w e = by_stop (nat_le range.hi lo) refl e
  where
    by_stop : (t : Bool) → nat_le range.hi lo ≡ t
        → (if t then Stop else if is_reader (mode_of w) then Past else if nat_lt range.lo (w / 2) then Conflict else Past) ≡ Stop
        → range.hi ≤ lo
    by_stop true q e = leb-true range.hi lo q
    by_stop false q e = absurd (no_stop (is_reader (mode_of w)) (nat_lt range.lo (w / 2)) e)
      where
        no_stop : (a b : Bool) → (if a then Past else if b then Conflict else Past) ≡ Stop → ⊥
        no_stop true b e = cc
        no_stop false true e = cc
        no_stop false false e = cc

-- a writer that validates goes past no node that overlaps it, and never stops
from_head_past : (range : Interval) (lo w : ℕ) → range.lo < w / 2 → lo < range.hi → from_head range lo w ≡ Past → ⊥
from_head_past range lo w a b e =
    let t : (nat_lt range.lo (w / 2) && nat_lt lo range.hi) ≡ true = together _ _ (lt-ltb range.lo (w / 2) a) (lt-ltb lo range.hi b) in
    let z : Conflict ≡ Past = sym (ap (λ (q : Bool). if q then Conflict else Past) t) ∙ e in
    cc

from_head_stop : (range : Interval) (lo w : ℕ) → from_head range lo w ≡ Stop → ⊥
from_head_stop range lo w e = by_test (nat_lt range.lo (w / 2) && nat_lt lo range.hi) e
  where
    by_test : (t : Bool) → (if t then Conflict else Past) ≡ Stop → ⊥
    by_test true e = cc
    by_test false e = cc

-- of a node that is being filled the verdict is that of the compare rule
filling_verdict : (f : Filled) (a b lo w : ℕ) → f.lo ≡ Some a → f.hi ≡ Some b → verdict_of (filling f) lo w ≡ compared f.mode a b lo w
filling_verdict f a b lo w e e' = λ z. walked_past (e z) (e' z) f.mode lo w

listed_verdict : (k : Listed) (t : Todo) (lo w : ℕ) → k.todo ≡ t → verdict_of (listed k) lo w ≡ validated t k.range lo w
listed_verdict k t lo w e = λ z. validated (e z) k.range lo w

stopped_filling : (o : Own) (f : Filled) → own_stopped o ≡ filling f → o ≡ filling f
stopped_filling (Filling node lo hi mode aimed) f e = e
stopped_filling (Linked node range mode Forward) f e = absurd (cc)
stopped_filling _ f e = absurd (cc)

stopped_listed : (o : Own) (k : Listed) → own_stopped o ≡ listed k → k.todo ≡ FromHead → o ≡ listed k
stopped_listed (Linked node range mode Forward) k e t =
    absurd (let q = ap (λ (z : Listed). z.todo) (listed_one (record { node = node; range = range; mode = mode; todo = Done }) k
    e) in cc)
stopped_listed (Linked node range mode FromHead) k e t = e
stopped_listed (Linked node range mode Done) k e t = e
stopped_listed _ k e t = absurd (cc)

module _ (h : Heap) (views : List View) (s : ℕ) (v : View) (c : Cursor) (y n lo : ℕ) (parts : Parts h views)
    (at : IsViewOf views s v) (has : v.cursor ≡ Some c) (even : c.cur % 2 ≡ 0) (cur : c.cur / 2 ≡ suc y) (next : c.next ≡ Some n)
    (plain : n % 2 ≡ 0) (low : c.lo ≡ Some lo) where
  kept : IsCursorKept h v.own c
  kept = (parts.each s v at).cursor c has

  odd : v.epoch % 2 ≡ 0 → ⊥
  odd e = let n = (parts.each s v at).even e in cc

  lo_is : lo ≡ h.lo y
  lo_is = kept.read.lo lo y low cur

  -- what the compare rule says of the cursor's node, where the own node is being filled
  compared_is : (f : Filled) (a b : ℕ) (t : Verdict) → verdict_of v.own lo (h.hi y) ≡ t → v.own ≡ filling f → f.lo ≡ Some a
      → f.hi ≡ Some b → compared f.mode a b (h.lo y) (h.hi y) ≡ t
  compared_is f a b t e own e1 e2 = ap (λ l. compared f.mode a b l (h.hi y)) (sym lo_is)
      ∙ sym (filling_verdict f a b lo (h.hi y) e1 e2) ∙ sym (ap (λ (o : Own). verdict_of o lo (h.hi y)) own) ∙ e

  verdict_is : (k : Listed) (t : Todo) (a : Verdict) → verdict_of v.own lo (h.hi y) ≡ a → v.own ≡ listed k → k.todo ≡ t → validated t k.range lo (h.hi y) ≡ a
  verdict_is k t a e own q = sym (listed_verdict k t lo (h.hi y) q) ∙ sym (ap (λ (o : Own). verdict_of o lo (h.hi y)) own) ∙ e

  -- what was to see is the cursor's node, or is seen from its next word on
  seen_from : (k : Listed) (x : ℕ) → HasToSee h k v.cursor x → (x ≡ y) ⊎ Reach (to h) x (n / 2)
  seen_from k x see = by_next c.next next (subst (λ (o : Option Cursor). HasToSee h k o x) has see)
    where
      by_next : (o : Option ℕ) → o ≡ Some n → SeesFrom h c.cur o x → (x ≡ y) ⊎ Reach (to h) x (n / 2)
      by_next None e r = absurd (cc)
      by_next (Some m) e (inl q) = inl (omega (arith, cur, q))
      by_next (Some m) e (inr r) = inr (subst (λ a. Reach (to h) x (a / 2)) (same_some m n e) r)

  -- ---- it goes on past the node

  abbrev d : Cursor
  d = record { prev = Some y; cur = n; next = None; lo = None; seen = seen_after c.seen n }

  names_past : (t : ℕ) → Names d t → Names c t
  names_past t (inl e) = inr (inl (e ∙ sym cur))
  names_past t (inr (inl e)) = inr (inr (n, next, e))
  names_past t (inr (inr m)) = absurd (let e = m.1 in cc)

  may_past : (x : ℕ) → MayReach h d x → MayReach h c x
  may_past x m = record { target = m.target; named = names_past m.target m.named; reach = m.reach }

  -- a node that a validation goes past is no rival, nor its own
  no_rival : verdict_of v.own lo (h.hi y) ≡ Past → (k g : Listed) → v.own ≡ listed k → Rival views k g → g.node ≡ y → ⊥
  no_rival past k g own r e =
      let w = rival_written h views s v k g parts at own r in
      let high : h.hi y / 2 ≡ g.range.hi = ap (λ a. h.hi a / 2) (sym e) ∙ end_is h g w in
      let start : lo ≡ g.range.lo = lo_is ∙ ap h.lo (sym e) ∙ w.lo in
      ⊎_elim
      (λ (t : (k.todo ≡ Forward) × (k.mode ≡ Reader) × (g.mode ≡ Writer)).
      let p = forward_past k.range lo (h.hi y) (ap (λ a. h.hi a % 2) (sym e) ∙ writer_is h g w t.2) (verdict_is k Forward Past past own t.0) in
      let o = r.over.0 in omega (arith, p, high, o))
      (λ (t : (k.todo ≡ FromHead) × (k.mode ≡ Writer) × (g.mode ≡ Reader)).
      from_head_past k.range lo (h.hi y) (let o = r.over.0 in omega (arith, high, o)) (let o = r.over.1 in
      omega (arith, start, o)) (verdict_is k FromHead Past past own t.0))
      r.way

  not_own : verdict_of v.own lo (h.hi y) ≡ Past → (k : Listed) → v.own ≡ listed k → k.todo ≡ FromHead → k.node ≡ y → ⊥
  not_own past k own todo e =
      let w = (parts.each s v at).linked k own in
      let high : h.hi y / 2 ≡ k.range.hi = ap (λ a. h.hi a / 2) (sym e) ∙ end_is h k w in
      let start : lo ≡ k.range.lo = lo_is ∙ ap h.lo (sym e) ∙ w.lo in
      let long = (parts.chain.range k.node (parts.places.linked s v k at own).0).0 in
      let first = w.lo in
      let last = end_is h k w in
      from_head_past k.range lo (h.hi y) (omega (arith, high, long, first, last)) (omega (arith, start, long, first, last))
      (verdict_is k FromHead Past past own todo)

  kept_past : verdict_of v.own lo (h.hi y) ≡ Past → IsCursorKept h (own_at v.own n) d
  kept_past past = record {
    seen = λ t m. kept.seen t (names_past t m);
    read = nothing_read h d refl refl;
    range = λ x m. kept.range x (may_past x m);
    kept = λ x m. ⊎_elim
        (λ (r : InChain h x). inl r)
        (λ t. ⊎_elim (λ a. inr (inl a)) (λ (e : c.cur ≡ 2 * suc x + 1). absurd (omega (arith, e, even))) t)
        (kept.kept x (may_past x m));
    low = λ e. absurd (omega (arith, plain, e));
    past = λ f a b p e1 e2 e3 e4. let same = same_some y p e4 in
        subst (λ z. compared f.mode a b (h.lo z) (h.hi z) ≡ Past) same (compared_is f a b Past past (fills_still v.own n f e1) e2 e3);
    stop = λ f a b x e1 e2 e3 place q. absurd (no_place x place q);
  }
    where
      no_place : (x : ℕ) → IsAtPlace d → n / 2 ≡ suc x → ⊥
      no_place x (inl e) q = omega (arith, e, q)
      no_place x (inr t) q = t.1 refl

  goes_past : verdict_of v.own lo (h.hi y) ≡ Past → Parts h (slice_set views s (came_to v (Some y) n c.seen))
  goes_past past = moves_kept h h views s v (came_to v (Some y) n c.seen) parts at (calm_same h) (λ x. refl) (λ j w e. refl) (λ l. l) (record {
    rest = refl;
    own = own_stays v (came_to v (Some y) n c.seen) n refl;
    odd = λ e. absurd (odd e);
    cursor = λ b e. subst (IsCursorKept h (own_at v.own n)) (same_some d b e) (kept_past past);
    reach = λ b x e m. inr (c, has, may_past x (subst (λ z. MayReach h z x) (sym (same_some d b e)) m));
    sees = λ k g own r see. ⊎_elim
        (λ (e : g.node ≡ y). absurd (no_rival past k g own r e))
        (λ (far : Reach (to h) g.node (n / 2)). (not_yet h views s n v k g parts at own r far, far))
        (seen_from k g.node see);
    to_see = λ k own e. let mine = listed_still v.own n k own (λ q. cc) in ⊎_elim
        (λ (q : k.node ≡ y). absurd (not_own past k mine e q))
        (λ (far : Reach (to h) k.node (n / 2)). far)
        (seen_from k k.node ((parts.each s v at).to_see k mine e));
    unseen = λ low' a b e m. absurd (not_alone h views s v c y parts at has even cur a
        (may_past a.node (subst (λ z. MayReach h z a.node) (sym (same_some d b e)) m)));
  })

  -- ---- it stops before the node

  abbrev stopped : Cursor
  stopped = record c { next = None }

  names_stop : (t : ℕ) → Names stopped t → Names c t
  names_stop t (inl e) = inl e
  names_stop t (inr (inl e)) = inr (inl e)
  names_stop t (inr (inr m)) = absurd (let e = m.1 in cc)

  may_stop : (x : ℕ) → MayReach h stopped x → MayReach h c x
  may_stop x m = record { target = m.target; named = names_stop m.target m.named; reach = m.reach }

  kept_stop : verdict_of v.own lo (h.hi y) ≡ Stop → IsCursorKept h (own_stopped v.own) stopped
  kept_stop stop = record {
    seen = λ t m. kept.seen t (names_stop t m);
    read = record {
      next_node = λ n e. absurd (cc);
      lo_node = kept.read.lo_node;
      lo = kept.read.lo;
      marked = λ n e q. absurd (cc);
      next = λ n x e ch un r. absurd (cc);
    };
    range = λ x m. kept.range x (may_stop x m);
    kept = λ x m. kept.kept x (may_stop x m);
    low = λ e. absurd (omega (arith, even, e));
    past = λ f a b p e1 e2 e3 e4. kept.past f a b p (stopped_filling v.own f e1) e2 e3 e4;
    stop = λ f a b x e1 e2 e3 place q. let same : y ≡ x = omega (arith, cur, q) in
        subst (λ z. compared f.mode a b (h.lo z) (h.hi z) ≡ Stop) same (compared_is f a b Stop stop (stopped_filling v.own f e1) e2 e3);
  }

  -- a reader that stops has no rival left to see
  blind_at_stop : verdict_of v.own lo (h.hi y) ≡ Stop → (k g : Listed) → v.own ≡ listed k → Rival views k g → HasToSee h k v.cursor g.node → ⊥
  blind_at_stop stop k g own r see =
      ⊎_elim
      (λ (t : (k.todo ≡ Forward) × (k.mode ≡ Reader) × (g.mode ≡ Writer)).
      let far : k.range.hi ≤ h.lo y = let f = forward_stop k.range lo (h.hi y) (verdict_is k Forward Stop stop own t.0) in omega (arith, f, lo_is) in
      let order : IsOrdered h (suc y) = subst (IsOrdered h) cur (kept.seen (c.cur / 2) (inr (inl refl))) in
      blind_behind h views s v k g parts at own r y order far (from_node (seen_from k g.node see)))
      (λ (t : (k.todo ≡ FromHead) × (k.mode ≡ Writer) × (g.mode ≡ Reader)). from_head_stop k.range lo (h.hi y) (verdict_is k FromHead Stop stop own t.0))
      r.way
    where
      from_node : (g.node ≡ y) ⊎ Reach (to h) g.node (n / 2) → Reach (to h) g.node (suc y)
      from_node (inl e) = subst (λ a. Reach (to h) g.node (suc a)) e here
      from_node (inr far) = there (subst (λ a. Reach (to h) g.node (to h a)) cur
          (kept.read.next n g.node next (rival_chain h views s v k g parts at own r)
          (parts.places.linked r.seat r.view g r.there r.own).1 far))

  own_stop : verdict_of v.own lo (h.hi y) ≡ Stop → (own_stopped v.own ≡ v.own) ⊎ ((k : Listed) × (v.own ≡ listed k) × (own_stopped v.own ≡ listed (done k)))
  own_stop stop = by_own v.own refl
    where
      by_own : (o : Own) → v.own ≡ o → (own_stopped o ≡ o) ⊎ ((k : Listed) × (o ≡ listed k) × (own_stopped o ≡ listed (done k)))
      by_own (Linked node range mode Forward) e = inr (record { node = node; range = range; mode = mode; todo = Forward }, refl, refl)
      by_own _ e = inl refl

  stops : verdict_of v.own lo (h.hi y) ≡ Stop → Parts h (slice_set views s (hi_judged v c y n Stop))
  stops stop = moves_kept h h views s v (hi_judged v c y n Stop) parts at (calm_same h) (λ x. refl) (λ j w e. refl) (λ l. l) (record {
    rest = refl;
    own = own_stop stop;
    odd = λ e. absurd (odd e);
    cursor = λ b e. subst (IsCursorKept h (own_stopped v.own)) (same_some stopped b e) (kept_stop stop);
    reach = λ b x e m. inr (c, has, may_stop x (subst (λ z. MayReach h z x) (sym (same_some stopped b e)) m));
    sees = λ k g own r see. absurd (blind_at_stop stop k g own r see);
    to_see = λ k own e. absurd (let mine = stopped_listed v.own k own e in from_head_stop k.range lo (h.hi y) (verdict_is k FromHead Stop stop mine e));
    unseen = λ low' a b e m. absurd (not_alone h views s v c y parts at has even cur a
        (may_stop a.node (subst (λ z. MayReach h z a.node) (sym (same_some stopped b e)) m)));
  })

  -- all that the invariant says is so after a ReadHi
  pub judges : Parts h (slice_set views s (hi_read v c y n lo (h.hi y)))
  judges = by_verdict (verdict_of v.own lo (h.hi y)) refl
    where
      by_verdict : (t : Verdict) → verdict_of v.own lo (h.hi y) ≡ t → Parts h (slice_set views s (hi_judged v c y n t))
      by_verdict Past e = goes_past e
      by_verdict Stop e = stops e
      by_verdict Conflict e = subst (Parts h) (sym (set_there views s v at)) parts
