-- ReadEpoch and ReadHome: a seat learns that others left, and that its nodes came home; no word changes.
use Rattle.std.proofs.Common.{◌≡◌, ◌≢◌, ◌⊎◌, ℕ, zero, suc, ◌+◌, ◌%◌, ◌<◌, ◌≤◌, List, [], ◌∷◌, ◌++◌, take, drop, length}
use Rattle.std.proofs.Common.{replicate, Some, None, inl, inr, ⊎_elim, refl, sym, ap, ◌∙◌, subst, arith, eqb-true}
use Rattle.std.proofs.Common.{get_or, add-one}
use Rattle.std.specs.Prelude.{Option, slice_set, slice_get, unwrap_or, ◌==◌, ◌&&◌, if◌then◌else◌, Bool, true, false}
use Rattle.std.specs.List.{list_all}
use Rattle.std.proofs.lemmas.Bool.{cases_eq, eqb-false}
use Rattle.std.proofs.lemmas.Option.{slice_get-get_or, slice_get_within}
use Rattle.lock_core.specs.Counted.{are_others_passed, times, without}
use Rattle.lock_core.specs.declared.views.View.{View}
use Rattle.lock_core.specs.declared.views.Cursor.{Cursor}
use Rattle.lock_core.specs.Words.{Heap}
use Rattle.lock_core.specs.Nodes.{own_times}
use Rattle.lock_core.specs.Views.{released, is_passed, note_of, passes, noted, looked_at, released_if_passed, epoch_read, came_home, home_read}
use Rattle.lock_laws.specs.Invariant.{IsViewOf, InChain, MayReach, IsOut, IsIdle}
use Rattle.lock_core.proofs.Table.{both, together}
use Rattle.lock_core.proofs.ByView.{set_view, set_there, is_view}
use Rattle.lock_core.proofs.Counts.{times_joined, times_itself, times_other, without_none, without_some, once_after}
use Rattle.lock_laws.proofs.Seats.{only_once}
use Rattle.lock_laws.proofs.Frames.Parts.{Parts}
use Rattle.lock_laws.proofs.Frames.Frame.{StepAside, idle_alone}
use Rattle.lock_laws.proofs.Frames.Steady.{homes_same, places_now, steady}
use Rattle.lock_laws.proofs.Frames.Quiet.{Calm, calm_step, mine_quiet}

-- ---- lists of flags and of notes

all_true : (l : List Bool) (i : ℕ) (b : Bool) → list_all (λ a. a) l ≡ true → slice_get l i ≡ Some b → b ≡ true
all_true [] i b e at = absurd (cc)
all_true (true ∷ l) zero b e at = cc
all_true (false ∷ l) i b e at = absurd (cc)
all_true (true ∷ l) (suc i) b e at = all_true l i b e at

others_passed_at : (s : ℕ) (l : List Bool) (j : ℕ) (b : Bool)
    → (list_all (λ a. a) (take s l) && list_all (λ a. a) (drop (suc s) l)) ≡ true → j ≢ s → slice_get l j ≡ Some b → b ≡ true
others_passed_at s [] j b e d at = absurd (cc)
others_passed_at zero (x ∷ l) zero b e d at = absurd (d refl)
others_passed_at zero (x ∷ l) (suc j) b e d at = all_true l j b e at
others_passed_at (suc s) (x ∷ l) zero b e d at = let t = both _ _ e in let a = both x _ t.0 in let f = a.0 in cc
others_passed_at (suc s) (x ∷ l) (suc j) b e d at =
    let t = both _ _ e in let a = both x _ t.0 in
    others_passed_at s l j b (together _ _ a.1 t.1) (λ q. d (ap suc q)) at

-- where all others are passed each of them is
pub others_passed : (s : ℕ) (l : List Bool) (j : ℕ) → are_others_passed s l ≡ true → j ≢ s → j < length l → slice_get l j ≡ Some true
others_passed s l j e d less =
    let at = slice_get-get_or l j false less in
    at ∙ ap (λ (b : Bool). Some b) (others_passed_at s l j (get_or l j false)
    ((λ z. list_all (λ a. a) (take s l) && list_all (λ a. a) (drop (sym (add-one s) z) l)) ∙ e) d at)

noted_is : (l : List (Option ℕ)) (j n : ℕ) → unwrap_or (slice_get l j) None ≡ Some n → slice_get l j ≡ Some (Some n)
noted_is l j n e = go (slice_get l j) refl e
  where
    go : (o : Option (Option ℕ)) → slice_get l j ≡ o → unwrap_or o None ≡ Some n → slice_get l j ≡ Some (Some n)
    go None q e = absurd (cc)
    go (Some a) q e = q ∙ ap (λ (b : Option ℕ). Some b) e

none_in : {A : Type 0} (n : ℕ) (a b : A) (i : ℕ) → slice_get (replicate n a) i ≡ Some b → a ≡ b
none_in zero a b i e = absurd (cc)
none_in (suc n) a b zero e = cc
none_in (suc n) a b (suc i) e = none_in n a b i e

-- ---- a view that waits for its homes, or has them ready

-- w is v with other notes, flags and homes, of which no view reaches those that it takes to be out
pub record Waits (h : Heap) (views : List View) (v w : View) : Type 0 where
  -- the own node is the same
  pub own : w.own ≡ v.own
  -- the cursor is the same
  pub cursor : w.cursor ≡ v.cursor
  -- the epoch is the same
  pub epoch : w.epoch ≡ v.epoch
  -- the ready nodes are the same
  pub ready : w.ready ≡ v.ready
  -- the used nodes are the same
  pub used : w.used ≡ v.used
  -- the hand is the same
  pub hand : w.hand ≡ v.hand
  -- its homes are used nodes
  pub homes : (x : ℕ) → times x w.homes ≤ times x v.used
  -- and are at home
  pub at_home : (x : ℕ) → 1 ≤ times x w.homes → h.home x ≡ 1
  -- no cursor of a seat that it takes to be out may reach one of them
  pub out : (j x : ℕ) (b : View) (c : Cursor) → 1 ≤ times x w.homes → IsOut h w j → IsViewOf views j b → b.cursor ≡ Some c → MayReach h c x → ⊥

module _ (h : Heap) (views : List View) (s : ℕ) (v w : View) (parts : Parts h views) (at : IsViewOf views s v) (waits : Waits h views v w) where
  calm : Calm h h
  calm = record { head = refl; next = λ x. refl; lo = λ x. refl; hi = λ x. refl }

  step : StepAside h h views s v
  step = calm_step s parts at calm

  idle_back : (x : ℕ) → IsIdle w x → IsIdle v x
  idle_back x (inl r) = inl (subst (λ (l : List ℕ). 1 ≤ times x l) waits.ready r)
  idle_back x (inr g) = inr (g.0, sym waits.own ∙ g.1, g.2)

  -- all that the invariant says is so with the new notes, flags and homes
  pub waits_kept : Parts h (slice_set views s w)
  waits_kept =
      let k = parts.each s v at in
      steady step
      (mine_quiet w step calm waits.own waits.cursor (waits.epoch ∙ k.epoch)
      (λ e. waits.cursor ∙ k.even (ap (λ n. n % 2) (sym waits.epoch) ∙ e))
      (λ x idle. idle_alone step x (idle_back x idle))
      (λ j x b c same home out e has m. waits.out j x b c home out e has m)
      (λ l. l)
      (λ j b e d. refl)
      (inl refl))
      (places_now w step (record {
        times_same = λ x z. own_times x (waits.own z) + times x (waits.ready z) + times x (waits.used z);
        homes = λ x. let a = waits.homes x in let b = ap (times x) waits.used in omega (arith, a, b);
        at_home = waits.at_home;
        linked = λ g e. (g, sym waits.own ∙ e, refl);
        linked_on = λ g e. (g, waits.own ∙ e, refl);
        used = λ x e. sym (ap (times x) waits.used) ∙ e;
        used_on = λ x e z. ap (times x) waits.used ∙ e;
        filling = λ f e. parts.places.filling_home s v f at (sym waits.own ∙ e);
        hand = λ x e. sym waits.hand ∙ e;
        hand_on = λ x e. inl (waits.hand ∙ e);
      }) (homes_same h h views (slice_set views s w) s (λ x. refl)))

  -- where no view reaches any of its homes they may be ready
  module _ (alone : (j x : ℕ) (b : View) (c : Cursor) → 1 ≤ times x w.homes → IsViewOf views j b → b.cursor ≡ Some c → MayReach h c x → ⊥) where
    not_chain : (x : ℕ) → 1 ≤ times x w.homes → InChain h x → ⊥
    not_chain x l r = let a = waits.at_home x l in let b = parts.places.chain_home x r in omega (arith, a, b)

    ready_idle : (x : ℕ) → IsIdle (released w) x → (InChain h x → ⊥)
        × ((j : ℕ) (b : View) (c : Cursor) → IsViewOf views j b → b.cursor ≡ Some c → MayReach h c x → ⊥)
    ready_idle x (inr g) = idle_alone step x (inr (g.0, sym waits.own ∙ g.1, g.2))
    ready_idle x (inl r) =
        ⊎_elim
        (λ (z : times x w.homes ≡ 0). let t = times_joined x w.ready w.homes in
        idle_alone step x (inl (let q = ap (times x) waits.ready in omega (arith, t, z, q, r))))
        (λ (d : times x w.homes ≢ 0). let l : 1 ≤ times x w.homes = omega (arith, d) in (not_chain x l, λ j b c e has m. alone j x b c l e has m))
        (cases_eq (times x w.homes) 0)

    counts : (x : ℕ) → own_times x w.own + times x (w.ready ++ w.homes) + times x (without w.homes w.used) ≡ own_times x
        v.own + times x v.ready + times x v.used
    counts x =
        let same : own_times x w.own + times x w.ready + times x w.used ≡ own_times x v.own + times x v.ready + times x v.used =
        λ z. own_times x (waits.own z) + times x (waits.ready z) + times x (waits.used z) in
        once_after x (own_times x w.own) (own_times x v.own + times x v.ready + times x v.used) w.ready w.homes w.used same
        (only_once h views parts.places s x v at) (let a = waits.homes x in let b = ap (times x) waits.used in
        omega (arith, a, b))

    used_back : (x : ℕ) → times x (without w.homes w.used) ≡ 1 → times x v.used ≡ 1
    used_back x e =
        ⊎_elim
        (λ (z : times x w.homes ≡ 0). sym (ap (times x) waits.used) ∙ sym (without_none x w.homes w.used z) ∙ e)
        (λ (d : times x w.homes ≢ 0). absurd (let a = without_some x w.homes w.used (omega (arith, d)) in omega (arith, a, e)))
        (cases_eq (times x w.homes) 0)

    used_on : (x : ℕ) → times x v.used ≡ 1 → h.home x ≡ 0 → times x (without w.homes w.used) ≡ 1
    used_on x e z =
        ⊎_elim
        (λ (q : times x w.homes ≡ 0). without_none x w.homes w.used q ∙ ap (times x) waits.used ∙ e)
        (λ (d : times x w.homes ≢ 0). absurd (let a = waits.at_home x (omega (arith, d)) in omega (arith, a, z)))
        (cases_eq (times x w.homes) 0)

    -- all that the invariant says is so with the homes made ready
    pub released_kept : Parts h (slice_set views s (released w))
    released_kept =
        let u = released w in
        let k = parts.each s v at in
        steady step
        (mine_quiet u step calm waits.own waits.cursor (waits.epoch ∙ k.epoch)
        (λ e. waits.cursor ∙ k.even (ap (λ n. n % 2) (sym waits.epoch) ∙ e))
        ready_idle
        (λ j x b c same home out e has m. omega (arith, home))
        (λ l. l)
        (λ j b e d. refl)
        (inl refl))
        (places_now u step (record {
          times_same = counts;
          homes = λ x. omega arith;
          at_home = λ x l. absurd (omega (arith, l));
          linked = λ g e. (g, sym waits.own ∙ e, refl);
          linked_on = λ g e. (g, waits.own ∙ e, refl);
          used = used_back;
          used_on = used_on;
          filling = λ f e. parts.places.filling_home s v f at (sym waits.own ∙ e);
          hand = λ x e. sym waits.hand ∙ e;
          hand_on = λ x e. inl (waits.hand ∙ e);
        }) (homes_same h h views (slice_set views s u) s (λ x. refl)))

-- ---- ReadEpoch

-- a view of a seat with an even epoch has no cursor
none_even : (h : Heap) (views : List View) (j : ℕ) (b : View) (c : Cursor) → Parts h views → IsViewOf views j b → b.cursor ≡ Some c → h.epoch j % 2 ≡ 0 → ⊥
none_even h views j b c parts e has even = let n = (parts.each j b e).even (ap (λ n. n % 2) ((parts.each j b e).epoch) ∙ even) in cc

-- what a seat knows to be out once it looked at the epoch of seat j
passed_out : (h : Heap) (v : View) (j i : ℕ) → IsOut h (passes v j) i → (i ≡ j) ⊎ IsOut h v i
passed_out h v j i (inl p) = ⊎_elim (λ (t : (i ≡ j) × _). inl t.0)
    (λ (t : (i ≢ j) × (slice_get v.passed i ≡ Some true)). inr (inl t.1)) (set_view v.passed j i true true p)
passed_out h v j i (inr n) = inr (inr n)

looked_waits : (h : Heap) (views : List View) (s j : ℕ) (v : View) → Parts h views → IsViewOf views s v → Waits h views v (looked_at v j (h.epoch j))
looked_waits h views s j v parts at = by_flag (is_passed v j) refl
  where
    -- with other notes and flags, where no view reaches a home by a seat that it then takes to be out
    with_others : (notes : List (Option ℕ)) (passed : List Bool) →
        ((i x : ℕ) (b : View) (c : Cursor) → 1 ≤ times x v.homes → IsOut h (record v { notes = notes; passed = passed }) i
        → IsViewOf views i b → b.cursor ≡ Some c → MayReach h c x → ⊥) →
        Waits h views v (record v { notes = notes; passed = passed })
    with_others notes passed out = record {
      own = refl;
      cursor = refl;
      epoch = refl;
      ready = refl;
      used = refl;
      hand = refl;
      homes = λ x. parts.places.homes s x v at;
      at_home = λ x l. parts.places.at_home s x v at l;
      out = out;
    }

    same : Waits h views v v
    same = with_others v.notes v.passed (λ i x b c home out e has m. parts.barrier s i x v b c at e has home out m)

    -- a seat that is passed now left its operation
    passing : ((b : View) (c : Cursor) (x : ℕ) → IsViewOf views j b → b.cursor ≡ Some c → 1 ≤ times x v.homes → MayReach h c x
        → ⊥) → Waits h views v (passes v j)
    passing far = with_others v.notes (slice_set v.passed j true) (λ i x b c home out e has m.
        ⊎_elim
        (λ (q : i ≡ j). far b c x (subst (λ a. IsViewOf views a b) q e) has home m)
        (λ (o : IsOut h v i). parts.barrier s i x v b c at e has home o m)
        (passed_out h v j i out))

    -- a note of the epoch that seat j has now tells nothing
    noting : Waits h views v (record v { notes = slice_set v.notes j (Some (h.epoch j)) })
    noting = with_others (slice_set v.notes j (Some (h.epoch j))) v.passed out_note
      where
        out_note : (i x : ℕ) (b : View) (c : Cursor) → 1 ≤ times x v.homes
            → IsOut h (record v { notes = slice_set v.notes j (Some (h.epoch j)) }) i → IsViewOf views i b → b.cursor ≡ Some c
            → MayReach h c x → ⊥
        out_note i x b c home (inl p) e has m = parts.barrier s i x v b c at e has home (inl p) m
        out_note i x b c home (inr n) e has m =
            ⊎_elim
            (λ (t : (i ≡ j) × (Some (h.epoch j) ≡ Some n.0)). n.2 (ap h.epoch t.0 ∙ (let r = t.1 in cc)))
            (λ (t : (i ≢ j) × (slice_get v.notes i ≡ Some (Some n.0))). parts.barrier s i x v b c at e has home (inr (n.0, t.1, n.2)) m)
            (set_view v.notes j i (Some (h.epoch j)) (Some n.0) n.1)

    by_note : (o : Option ℕ) → note_of v j ≡ o → Waits h views v (noted v j (h.epoch j) o)
    by_note None q = noting
    by_note (Some n) q = by_same (n == h.epoch j) refl
      where
        by_same : (b : Bool) → n == h.epoch j ≡ b → Waits h views v (if b then v else passes v j)
        by_same true e = same
        by_same false e = passing (λ b c x eb has home m. parts.barrier s j x v b c at eb has home
            (inr (n, noted_is v.notes j n q, λ z. eqb-false n (h.epoch j) e (sym z))) m)

    by_parity : (b : Bool) → h.epoch j % 2 == 0 ≡ b → Waits h views v (if b then passes v j else noted v j (h.epoch j) (note_of v j))
    by_parity true e = passing (λ b c x eb has home m. none_even h views j b c parts eb has (eqb-true _ _ e))
    by_parity false e = by_note (note_of v j) refl

    by_flag : (b : Bool) → is_passed v j ≡ b → Waits h views v (if b then v else if h.epoch j % 2 == 0 then passes v j else noted v j (h.epoch j) (note_of v j))
    by_flag true e = same
    by_flag false e = by_parity (h.epoch j % 2 == 0) refl

-- a seat outside any operation has no cursor itself
not_mine : (h : Heap) (views : List View) (s i : ℕ) (v b : View) (c : Cursor) → Parts h views → IsViewOf views s v
    → v.epoch % 2 ≡ 0 → IsViewOf views i b → b.cursor ≡ Some c → i ≡ s → ⊥
not_mine h views s i v b c parts at even e has q = let n = (parts.each s v at).even even in
    let same = ap (λ (z : View). z.cursor) (is_view views s i v b at e q) in cc

-- all that the invariant says is so after a ReadEpoch
pub reads_epoch : (h : Heap) (views : List View) (s j : ℕ) (v : View) → Parts h views → IsViewOf views s v → v.epoch % 2 ≡ 0
    → length (looked_at v j (h.epoch j)).passed ≡ length views → Parts h (slice_set views s (epoch_read s v j (h.epoch j)))
reads_epoch h views s j v parts at even len = by_passed (looked_at v j (h.epoch j)) (looked_waits h views s j v parts at) len
  where
    by_passed : (w : View) → Waits h views v w → length w.passed ≡ length views → Parts h (slice_set views s (released_if_passed s w))
    by_passed w waits len = by_test (are_others_passed s w.passed) refl
      where
        alone : are_others_passed s w.passed ≡ true → (i x : ℕ) (b : View) (c : Cursor) → 1 ≤ times x w.homes → IsViewOf views i b
            → b.cursor ≡ Some c → MayReach h c x → ⊥
        alone all i x b c home e has m =
            ⊎_elim
            (λ (q : i ≡ s). not_mine h views s i v b c parts at even e has q)
            (λ (d : i ≢ s). waits.out i x b c home (inl (others_passed s w.passed i all d (let l = slice_get_within views i b e in
            omega (arith, l, len)))) e has m)
            (cases_eq i s)

        by_test : (t : Bool) → are_others_passed s w.passed ≡ t → Parts h (slice_set views s (if t then released w else w))
        by_test true all = released_kept h views s v w parts at waits (alone all)
        by_test false all = waits_kept h views s v w parts at waits

-- ---- ReadHome

came_waits : (h : Heap) (views : List View) (s n seats : ℕ) (v : View) → Parts h views → IsViewOf views s v → 1 ≤ times n v.used
    → times n v.homes ≡ 0 → h.home n ≡ 1 → Waits h views v (came_home seats v n)
came_waits h views s n seats v parts at used none one = record {
  own = refl;
  cursor = refl;
  epoch = refl;
  ready = refl;
  used = refl;
  hand = refl;
  homes = λ x. ⊎_elim
      (λ (q : x ≡ n). subst (λ a. times a (v.homes ++ n ∷ []) ≤ times a v.used) (sym q)
      (let t = times_joined n v.homes (n ∷ []) in let i = times_itself n in omega (arith, t, i, used, none)))
      (λ (d : x ≢ n). let t = times_joined x v.homes (n ∷ []) in let o = times_other x n d in let l = parts.places.homes s x v at in omega (arith, t, o, l))
      (cases_eq x n);
  at_home = λ x l. ⊎_elim
      (λ (q : x ≡ n). ap h.home q ∙ one)
      (λ (d : x ≢ n). parts.places.at_home s x v at (let t = times_joined x v.homes (n ∷ []) in let o = times_other x n d in omega (arith, t, o, l)))
      (cases_eq x n);
  out = λ j x b c home out e has m. not_out j out;
}
  where
    not_out : (j : ℕ) → IsOut h (came_home seats v n) j → ⊥
    not_out j (inl p) = let e = none_in seats false true j p in cc
    not_out j (inr o) = let e = none_in seats None (Some o.0) j o.1 in cc

-- all that the invariant says is so after a ReadHome
pub reads_home : (h : Heap) (views : List View) (s n seats : ℕ) (v : View) → Parts h views → IsViewOf views s v → v.epoch % 2 ≡ 0
    → 1 ≤ times n v.used → times n v.homes ≡ 0 → length views ≡ seats
    → Parts h (slice_set views s (home_read seats v n (h.home n)))
reads_home h views s n seats v parts at even used none len = by_word (h.home n == 1) refl
  where
    only_seat : seats ≡ 1 → (i x : ℕ) (b : View) (c : Cursor) → 1 ≤ times x (came_home seats v n).homes → IsViewOf views i b
        → b.cursor ≡ Some c → MayReach h c x → ⊥
    only_seat one i x b c home e has m = not_mine h views s i v b c parts at even e has (let l = slice_get_within views i b e in
        let k = slice_get_within views s v at in omega (arith, l, k, len, one))

    by_seats : (t : Bool) → seats == 1 ≡ t → Waits h views v (came_home seats v n)
        → Parts h (slice_set views s (if t then released (came_home seats v n) else came_home seats v n))
    by_seats true one waits = released_kept h views s v (came_home seats v n) parts at waits (only_seat (eqb-true seats 1 one))
    by_seats false one waits = waits_kept h views s v (came_home seats v n) parts at waits

    by_word : (t : Bool) → h.home n == 1 ≡ t → Parts h
        (slice_set views s (if t then (if seats == 1 then released (came_home seats v n) else came_home seats v n) else v))
    by_word true one = by_seats (seats == 1) refl (came_waits h views s n seats v parts at used none (eqb-true (h.home n) 1 one))
    by_word false one = subst (Parts h) (sym (set_there views s v at)) parts
