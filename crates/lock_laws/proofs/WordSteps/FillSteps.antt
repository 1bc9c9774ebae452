-- FillLo, FillHi and Aim: words of the own node are written while nobody may reach it.
use Rattle.std.proofs.Common.{◌≡◌, ◌≢◌, ℕ, suc, ◌+◌, ◌/◌, ◌%◌, ◌^◌, ◌<◌, ◌≤◌, List, Some, None, inl, inr, refl, sym, ap, ◌∙◌, subst, arith}
use Rattle.std.specs.Prelude.{slice_set}
use Rattle.lock_core.specs.Counted.{times}
use Rattle.lock_core.specs.declared.range.Mode.{Mode}
use Rattle.lock_core.specs.declared.views.View.{View}
use Rattle.lock_core.specs.declared.views.Cursor.{Cursor}
use Rattle.lock_core.specs.declared.views.Own.TheVariants.{Filling}
use Rattle.lock_core.specs.Words.{Heap, hi_word}
use Rattle.lock_core.specs.Nodes.{Filled, filling, own_times}
use Rattle.lock_core.specs.Compare.{compared}
use Rattle.lock_core.specs.Views.{lo_filled, hi_filled, aimed_at}
use Rattle.lock_laws.specs.Invariant.{IsViewOf, IsIdle, IsKnown}
use Rattle.lock_laws.proofs.Frames.Owns.{same_some}
use Rattle.lock_core.proofs.Sizing.{same_filled}
use Rattle.lock_core.proofs.Words.{WroteLo, WroteHi, WroteCell}
use Rattle.lock_laws.proofs.Frames.Parts.{Parts, IsCursorKept}
use Rattle.lock_laws.proofs.Frames.Frame.{Aside, StepAside, still_cursor, back_cursor, idle_alone}
use Rattle.lock_laws.proofs.Frames.Steady.{homes_same, places_now, out_on, steady}
use Rattle.lock_laws.proofs.WordSteps.Homing.{AreSeats}

-- the own node g after the step is f before it, with other things known of its words
module _ (seats : ℕ) (h now : Heap) (views : List View) (s : ℕ) (v : View) (f g : Filled) (few : AreSeats seats views)
    (parts : Parts h views) (at : IsViewOf views s v) (own : v.own ≡ filling f) (node : g.node ≡ f.node) (aside : Aside h now v)
    (known : IsKnown now g) (past_stop : (c : Cursor) → v.cursor ≡ Some c → IsCursorKept now v.own c
    → IsCursorKept now (filling g) c) (home : (x : ℕ) → now.home x ≡ h.home x) (epoch : (j : ℕ) → j < seats
    → now.epoch j ≡ h.epoch j) (low : now.next 0 % 2 ≡ 1 → h.next 0 % 2 ≡ 1) where
  -- the view with the own node g
  abbrev pub refilled : View
  refilled = record v { own = filling g }

  was_idle : (x : ℕ) → IsIdle refilled x → IsIdle v x
  was_idle x (inl r) = inl r
  was_idle x (inr t) = inr (f, own, sym node ∙ ap (λ (q : Filled). q.node) (same_filled g t.0 t.1) ∙ t.2)

  epochs : (j : ℕ) (w : View) → IsViewOf views j w → j ≢ s → now.epoch j ≡ h.epoch j
  epochs j w e d = epoch j (few j w e)

  own_same : (x : ℕ) → own_times x refilled.own ≡ own_times x v.own
  own_same x = ap (λ n. own_times x (Filling n g.lo g.hi g.mode g.aimed)) node ∙ sym (ap (own_times x) own)

  step : StepAside h now views s v
  step = record { parts = parts; at = at; aside = aside }

  -- all that the invariant says is so where node g is the own one
  pub refills : Parts now (slice_set views s refilled)
  refills =
      steady step
      (record {
        kept = record {
          epoch = (parts.each s v at).epoch ∙ sym (epoch s (few s v at));
          even = (parts.each s v at).even;
          filled = λ q e. subst (IsKnown now) (same_filled g q e) known;
          linked = λ q e. absurd (cc);
          cursor = λ c e. past_stop c e (still_cursor step s v c at e);
          to_see = λ q e. absurd (cc);
        };
        reach = λ d x e m. inr (d, e, back_cursor step s v d x at e m);
        idle = λ x idle. idle_alone step x (was_idle x idle);
        out = out_on step epochs;
        looks = λ q e. absurd (cc);
        held = λ q e todo. absurd (cc);
        unseen = λ odd a d e m. a.unseen s v d at e (back_cursor step s v d a.node at e m);
        low = low;
        epochs = epochs;
        epoch = inl (epoch s (few s v at));
      })
      (places_now refilled step (record {
        times_same = λ x. ap (λ n. n + times x v.ready + times x v.used) (own_same x);
        homes = λ x. parts.places.homes s x v at;
        at_home = λ x l. home x ∙ parts.places.at_home s x v at l;
        linked = λ q e. absurd (cc);
        linked_on = λ q e. absurd (cc);
        used = λ x e. e;
        used_on = λ x e z. e;
        filling = λ q e. ap now.home (sym (ap (λ (b : Filled). b.node) (same_filled g q e)) ∙ node) ∙ home f.node ∙ parts.places.filling_home s v f at own;
        hand = λ x e. e;
        hand_on = λ x e. inl e;
      }) (homes_same h now views (slice_set views s refilled) s home))

-- what is so of an idle node's own words alone
idle_apart : (v : View) (f : Filled) (x : ℕ) → v.own ≡ filling f → (IsIdle v x → ⊥) → x ≢ f.node
idle_apart v f x own d e = d (inr (f, own, sym e))

-- all that the invariant says is so after a FillLo
pub fills_lo : (seats : ℕ) (h now : Heap) (views : List View) (s lo : ℕ) (v : View) (f : Filled) → AreSeats seats views
    → Parts h views → IsViewOf views s v → v.own ≡ filling f → f.aimed ≡ None → v.cursor ≡ None → WroteLo seats h now f.node lo
    → Parts now (slice_set views s (lo_filled v f lo))
fills_lo seats h now views s lo v f few parts at own aimed cursor wrote =
    refills seats h now views s v f (record f { lo = Some lo; hi = None }) few parts at own refl
    (record {
      head = ap (λ a. a / 2) (wrote.next 0);
      next = λ x d. wrote.next (suc x);
      lo = λ x d. wrote.others x (idle_apart v f x own d);
      hi = λ x d. wrote.hi x;
    })
    (record {
      lo = λ a e. wrote.is ∙ same_some lo a e;
      hi = λ a e. absurd (cc);
      aimed = λ a e. absurd (cc);
      in_order = record { hi = λ a e. absurd (cc); aimed = λ a e. absurd (cc) };
    })
    (λ c e. absurd (cc))
    wrote.home wrote.epoch
    (λ l. sym (ap (λ a. a % 2) (wrote.next 0)) ∙ l)

-- all that the invariant says is so after a FillHi
pub fills_hi : (seats : ℕ) (h now : Heap) (views : List View) (s lo hi : ℕ) (mode : Mode) (v : View) (f : Filled)
    → AreSeats seats views → Parts h views → IsViewOf views s v → v.own ≡ filling f → f.lo ≡ Some lo → lo < hi → hi ≤ 2 ^ 62
    → f.aimed ≡ None → v.cursor ≡ None → WroteHi seats h now f.node (hi_word hi mode)
    → Parts now (slice_set views s (hi_filled v f hi mode))
fills_hi seats h now views s lo hi mode v f few parts at own low less most aimed cursor wrote =
    let k = (parts.each s v at).filled f own in
    refills seats h now views s v f (record f { hi = Some hi; mode = mode }) few parts at own refl
    (record {
      head = ap (λ a. a / 2) (wrote.next 0);
      next = λ x d. wrote.next (suc x);
      lo = λ x d. wrote.lo x;
      hi = λ x d. wrote.others x (idle_apart v f x own d);
    })
    (record {
      lo = λ a e. wrote.lo f.node ∙ k.lo a e;
      hi = λ a e. wrote.is ∙ ap (λ b. hi_word b mode) (same_some hi a e);
      aimed = λ a e. absurd (cc);
      in_order = record {
        hi = λ a e. (
          lo,
          low,
          (
            subst (λ b. lo < b) (same_some hi a e) less,
            subst (λ b. b ≤ 2 ^ 62) (same_some hi a e) most,
          ),
        );
        aimed = λ a e. absurd (cc);
      };
    })
    (λ c e. absurd (cc))
    wrote.home wrote.epoch
    (λ l. sym (ap (λ a. a % 2) (wrote.next 0)) ∙ l)

-- all that the invariant says is so after an Aim
pub aims_at : (seats : ℕ) (h now : Heap) (views : List View) (s lo hi w : ℕ) (v : View) (f : Filled) → AreSeats seats views
    → Parts h views → IsViewOf views s v → v.own ≡ filling f → f.lo ≡ Some lo → f.hi ≡ Some hi
    → WroteCell seats h now (suc f.node) w → Parts now (slice_set views s (aimed_at v f w))
aims_at seats h now views s lo hi w v f few parts at own low high wrote =
    let k = (parts.each s v at).filled f own in
    refills seats h now views s v f (record f { aimed = Some w }) few parts at own refl
    (record {
      head = ap (λ a. a / 2) (wrote.others 0 (λ e. omega arith));
      next = λ x d. wrote.others (suc x) (λ e. idle_apart v f x own d (omega arith));
      lo = λ x d. wrote.lo x;
      hi = λ x d. wrote.hi x;
    })
    (record {
      lo = λ a e. wrote.lo f.node ∙ k.lo a e;
      hi = λ a e. wrote.hi f.node ∙ k.hi a e;
      aimed = λ a e. wrote.is ∙ same_some w a e;
      in_order = record { hi = k.in_order.hi; aimed = λ a e. ((λ q. cc), (λ q. cc)) };
    })
    (λ c e q. record {
      seen = q.seen;
      read = q.read;
      range = q.range;
      kept = q.kept;
      low = q.low;
      past = λ g a b p e1 e2 e3 e4. let same = same_filled (record f { aimed = Some w }) g e1 in
          (λ z. compared ((sym same z).mode) a b (now.lo p) (now.hi p))
          ∙ q.past f a b p own (ap (λ (z : Filled). z.lo) same ∙ e2) (ap (λ (z : Filled). z.hi) same ∙ e3) e4;
      stop = λ g a b y e1 e2 e3 place e4. let same = same_filled (record f { aimed = Some w }) g e1 in
          (λ z. compared ((sym same z).mode) a b (now.lo y) (now.hi y))
          ∙ q.stop f a b y own (ap (λ (z : Filled). z.lo) same ∙ e2) (ap (λ (z : Filled). z.hi) same ∙ e3) place e4;
    })
    wrote.home wrote.epoch
    (λ l. sym (ap (λ a. a % 2) (wrote.others 0 (λ e. omega arith))) ∙ l)
