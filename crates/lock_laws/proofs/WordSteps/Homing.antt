-- GiveHome and ClearHome: a node comes home, and a ready node is taken.
use Rattle.std.proofs.Common.{◌≡◌, ◌≢◌, ℕ, suc, ◌+◌, ◌/◌, ◌%◌, ◌<◌, ◌≤◌, List, ◌∷◌, Some, None, inl, inr, ⊎_elim, refl, sym, ap, ◌∙◌, subst, arith, eq-eqb}
use Rattle.std.specs.Prelude.{slice_set, ◌==◌, if◌then◌else◌, Bool}
use Rattle.std.proofs.lemmas.Bool.{cases_eq}
use Rattle.lock_core.specs.Counted.{times}
use Rattle.lock_core.specs.declared.range.Mode.TheVariants.{Writer}
use Rattle.lock_core.specs.declared.views.View.{View}
use Rattle.lock_core.specs.declared.views.Own.TheVariants.{Nothing}
use Rattle.lock_core.specs.Words.{Heap}
use Rattle.lock_core.specs.Nodes.{Filled, filling, own_times}
use Rattle.lock_core.specs.Views.{gave_home, taken}
use Rattle.lock_laws.specs.Invariant.{IsViewOf, InHand, IsIdle}
use Rattle.lock_core.proofs.ByView.{set_view}
use Rattle.lock_core.proofs.Sizing.{same_filled}
use Rattle.lock_laws.proofs.Seats.{only_once}
use Rattle.lock_laws.proofs.Frames.Idle.{idle_not_used}
use Rattle.lock_core.proofs.Words.{WroteHome}
use Rattle.lock_laws.proofs.Frames.Parts.{Parts}
use Rattle.lock_laws.proofs.Frames.Frame.{idle_alone}
use Rattle.lock_laws.proofs.Frames.Steady.{places_now, out_on, steady}
use Rattle.lock_laws.proofs.Frames.Quiet.{Calm, calm_step, mine_quiet}

calm_home : (seats : ℕ) (h now : Heap) (n w : ℕ) → WroteHome seats h now n w → Calm h now
calm_home seats h now n w wrote = record { head = ap (λ k. k / 2) (wrote.next 0); next = λ x. wrote.next (suc x); lo = wrote.lo; hi = wrote.hi }

-- every view is one of so many seats
abbrev pub AreSeats : ℕ → List View → Type 0
AreSeats seats views = (j : ℕ) (w : View) → IsViewOf views j w → j < seats

-- ---- GiveHome

abbrev hand_of : (views : List View) (s n : ℕ) (v : View) → IsViewOf views s v → v.hand ≡ Some n → InHand views n
hand_of views s n v at hand = record { seat = s; view = v; at = at; hand = hand }

-- all that the invariant says is so after a GiveHome
pub gives_home : (seats : ℕ) (h now : Heap) (views : List View) (s n : ℕ) (v : View) → AreSeats seats views → Parts h views
    → IsViewOf views s v → v.hand ≡ Some n → WroteHome seats h now n 1 → Parts now (slice_set views s (gave_home v))
gives_home seats h now views s n v few parts at hand wrote =
    let u = gave_home v in
    let calm = calm_home seats h now n 1 wrote in
    let step = calm_step s parts at calm in
    let k = parts.each s v at in
    let epochs = λ (j : ℕ) (w : View) (e : IsViewOf views j w) (d : j ≢ s). wrote.epoch j (few j w e) in
    steady step
    (mine_quiet u step calm refl refl (k.epoch ∙ sym (wrote.epoch s (few s v at))) k.even (idle_alone step) (out_on step epochs)
    (λ l. sym (ap (λ a. a % 2) (wrote.next 0)) ∙ l) epochs (inl (wrote.epoch s (few s v at))))
    (places_now u step (record {
      times_same = λ x. refl;
      homes = λ x. parts.places.homes s x v at;
      at_home = λ x l. one x (parts.places.at_home s x v at l);
      linked = λ g e. (g, e, refl);
      linked_on = λ g e. (g, e, refl);
      used = λ x e. e;
      used_on = λ x e z. e;
      filling = λ f e. zero_at f.node (parts.places.filling_home s v f at e) (λ q. not_filled s v f at e q);
      hand = λ x e. absurd (cc);
      hand_on = λ x e. inr (let same : n ≡ x = cc in subst (λ a. now.home a ≡ 1) same wrote.is);
    }) (record {
      home = λ i x w e q r. one x r;
      chain = λ x r z. zero_at x z (λ q. parts.places.apart x r (subst (InHand views) (sym q) (hand_of views s n v at hand)));
      hand = λ x a z. zero_at x z (λ q. not_mine x a q);
      filling = λ j w f d e own z. zero_at f.node z (λ q. not_filled j w f e own q);
    }))
  where
    one : (x : ℕ) → h.home x ≡ 1 → now.home x ≡ 1
    one x r = ⊎_elim (λ (q : x ≡ n). subst (λ a. now.home a ≡ 1) (sym q) wrote.is) (λ (d : x ≢ n). wrote.others x d ∙ r) (cases_eq x n)

    zero_at : (x : ℕ) → h.home x ≡ 0 → x ≢ n → now.home x ≡ 0
    zero_at x z d = wrote.others x d ∙ z

    not_filled : (j : ℕ) (w : View) (f : Filled) → IsViewOf views j w → w.own ≡ filling f → f.node ≡ n → ⊥
    not_filled j w f e own q = let used = (parts.places.in_hand n (hand_of views s n v at hand)).0 in
        idle_not_used h views parts.places j used.seat f.node w used.view e used.at (inr (f, own, refl))
        (subst (λ a. times a used.view.used ≡ 1) (sym q) used.used)

    not_mine : (x : ℕ) → InHand (slice_set views s (gave_home v)) x → x ≡ n → ⊥
    not_mine x a q =
        ⊎_elim
        (λ (t : (a.seat ≡ s) × (gave_home v ≡ a.view)). let e = ap (λ (z : View). z.hand) t.1 in let b = a.hand in cc)
        (λ (t : (a.seat ≢ s) × IsViewOf views a.seat a.view). t.0
        (parts.places.one_hand n (record { seat = a.seat; view = a.view; at = t.1; hand = a.hand ∙ ap (λ (b : ℕ). Some b) q })
        (hand_of views s n v at hand)))
        (set_view views s a.seat (gave_home v) a.view a.at)

-- ---- ClearHome

-- a node of whose words nothing is known
abbrev bare : ℕ → Filled
bare n = record { node = n; lo = None; hi = None; mode = Writer; aimed = None }

-- all that the invariant says is so after a ClearHome
pub clears_home : (seats : ℕ) (h now : Heap) (views : List View) (s n : ℕ) (rest : List ℕ) (v : View) → AreSeats seats views
    → Parts h views → IsViewOf views s v → v.own ≡ Nothing → v.epoch % 2 ≡ 0 → v.ready ≡ n ∷ rest → WroteHome seats h now n 0
    → Parts now (slice_set views s (taken v n rest))
clears_home seats h now views s n rest v few parts at own even ready wrote =
    let u = taken v n rest in
    let calm = calm_home seats h now n 0 wrote in
    let k = parts.each s v at in
    let none : v.cursor ≡ None = k.even even in
    let step = calm_step s parts at calm in
    let epochs = λ (j : ℕ) (w : View) (e : IsViewOf views j w) (d : j ≢ s). wrote.epoch j (few j w e) in
    steady step
    (record {
      kept = record {
        epoch = k.epoch ∙ sym (wrote.epoch s (few s v at));
        even = k.even;
        filled = λ f e. let same = same_filled (bare n) f e in record {
          lo = λ a q. absurd (let z = ap (λ (g : Filled). g.lo) same in cc);
          hi = λ a q. absurd (let z = ap (λ (g : Filled). g.hi) same in cc);
          aimed = λ a q. absurd (let z = ap (λ (g : Filled). g.aimed) same in cc);
          in_order = record {
            hi = λ a q. absurd (let z = ap (λ (g : Filled). g.hi) same in cc);
            aimed = λ a q. absurd (let z = ap (λ (g : Filled). g.aimed) same in cc);
          };
        };
        linked = λ g e. absurd (cc);
        cursor = λ c e. absurd (cc);
        to_see = λ g e. absurd (cc);
      };
      reach = λ d x e m. absurd (cc);
      idle = λ x idle. idle_alone step x (was_ready x idle);
      out = out_on step epochs;
      looks = λ g e. absurd (cc);
      held = λ g e todo. absurd (cc);
      unseen = λ odd a d e m. absurd (cc);
      low = λ l. sym (ap (λ a. a % 2) (wrote.next 0)) ∙ l;
      epochs = epochs;
      epoch = inl (wrote.epoch s (few s v at));
    })
    (places_now u step (record {
      times_same = λ x. sym (counts x);
      homes = λ x. parts.places.homes s x v at;
      at_home = λ x l. one s x v at (let b = parts.places.homes s x v at in omega (arith, b, l)) (parts.places.at_home s x v at l);
      linked = λ g e. absurd (cc);
      linked_on = λ g e. absurd (cc);
      used = λ x e. e;
      used_on = λ x e z. e;
      filling = λ f e. ap now.home (sym (ap (λ (g : Filled). g.node) (same_filled (bare n) f e))) ∙ wrote.is;
      hand = λ x e. e;
      hand_on = λ x e. inl e;
    }) (record {
      home = λ i x w e q r. one i x w e (omega (arith, q)) r;
      chain = λ x r z. zero_at x z;
      hand = λ x a z. zero_at x z;
      filling = λ j w f d e o z. zero_at f.node z;
    }))
  where
    first : 1 ≤ times n v.ready
    first = let a = ap (times n) ready in let b = ap (λ (t : Bool). (if t then 1 else 0) + times n rest) (eq-eqb n n refl) in omega (arith, a, b)

    was_ready : (x : ℕ) → IsIdle (taken v n rest) x → IsIdle v x
    was_ready x (inl r) = inl (let a = ap (times x) ready in omega (arith, a, r))
    was_ready x (inr g) = inl (subst (λ a. 1 ≤ times a v.ready) (ap (λ (b : Filled). b.node) (same_filled (bare n) g.0 g.1) ∙ g.2) first)

    counts : (x : ℕ) → own_times x v.own + times x v.ready + times x v.used ≡ (if n == x then 1 else 0) + times x rest + times x v.used
    counts x = let a = ap (own_times x) own in let b = ap (times x) ready in omega (arith, a, b)

    zero_at : (x : ℕ) → h.home x ≡ 0 → now.home x ≡ 0
    zero_at x z = ⊎_elim (λ (q : x ≡ n). ap now.home q ∙ wrote.is) (λ (d : x ≢ n). wrote.others x d ∙ z) (cases_eq x n)

    taken_once : (i x : ℕ) (w : View) → IsViewOf views i w → 1 ≤ times x w.used → x ≡ n → ⊥
    taken_once i x w e l q = let f = only_once h views parts.places i x w e in
        idle_not_used h views parts.places s i x v w at e (inl (subst (λ a. 1 ≤ times a v.ready) (sym q) first))
        (omega (arith, f, l))

    one : (i x : ℕ) (w : View) → IsViewOf views i w → 1 ≤ times x w.used → h.home x ≡ 1 → now.home x ≡ 1
    one i x w e l r =
        ⊎_elim
        (λ (q : x ≡ n). absurd (taken_once i x w e l q))
        (λ (d : x ≢ n). wrote.others x d ∙ r)
        (cases_eq x n)
