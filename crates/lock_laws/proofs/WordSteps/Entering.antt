-- Enter and Leave: the own epoch counts on.
use Rattle.std.proofs.Common.{◌≡◌, ◌≢◌, ◌⊎◌, ℕ, suc, ◌+◌, ◌/◌, ◌%◌, ◌≤◌, List, inl, inr, refl, sym, ap, ◌∙◌, subst, arith}
use Rattle.std.specs.Prelude.{slice_set, ◌==◌, if◌then◌else◌, Bool, true, false}
use Rattle.std.proofs.Common.{⊎_elim, eqb-true}
use Rattle.lock_core.specs.Counted.{times}
use Rattle.lock_core.specs.declared.views.View.{View}
use Rattle.lock_core.specs.declared.range.Mode.TheVariants.{Reader, Writer}
use Rattle.lock_core.specs.Words.{Heap}
use Rattle.lock_core.specs.Nodes.{Filled, Listed, filling, listed, own_times}
use Rattle.lock_core.specs.declared.views.Own.{Own}
use Rattle.lock_core.specs.declared.views.Own.TheVariants.{Nothing, Filling, Linked}
use Rattle.lock_core.specs.declared.views.Todo.TheVariants.{Forward, FromHead, Done}
use Rattle.lock_core.specs.Views.{next_epoch, entered, left, kept_own, ready_left}
use Rattle.lock_laws.specs.Invariant.{IsViewOf, IsIdle}
use Rattle.lock_core.proofs.Words.{WroteEpoch}
use Rattle.lock_laws.proofs.Frames.Parts.{Parts}
use Rattle.lock_laws.proofs.Frames.Frame.{idle_alone}
use Rattle.lock_laws.proofs.Frames.Steady.{homes_same, places_now, out_on, steady}
use Rattle.lock_laws.proofs.Frames.Quiet.{Calm, calm_step, written_on, mine_quiet}
use Rattle.lock_laws.proofs.Frames.Owns.{own_is}

calm_epoch : (h now : Heap) (s w : ℕ) → WroteEpoch h now s w → Calm h now
calm_epoch h now s w wrote = record { head = ap (λ n. n / 2) (wrote.next 0); next = λ x. wrote.next (suc x); lo = wrote.lo; hi = wrote.hi }

-- all that the invariant says is so after an Enter
pub enters : (h now : Heap) (views : List View) (s : ℕ) (v : View) → Parts h views → IsViewOf views s v → v.epoch % 2 ≡ 0
    → WroteEpoch h now s (next_epoch (h.epoch s)) → Parts now (slice_set views s (entered v))
enters h now views s v parts at even wrote =
    let u = entered v in
    let k = parts.each s v at in
    let calm = calm_epoch h now s _ wrote in
    let step = calm_step s parts at calm in
    let epochs = λ (j : ℕ) (w : View) (e : IsViewOf views j w) (d : j ≢ s). wrote.others j d in
    steady step
    (mine_quiet u step calm refl (sym (k.even even)) (ap next_epoch k.epoch ∙ sym wrote.is) (λ e. refl) (idle_alone step) (out_on step epochs)
    (λ l. sym (ap (λ n. n % 2) (wrote.next 0)) ∙ l) epochs (inr refl))
    (places_now u step (record {
      times_same = λ x. refl;
      homes = λ x. parts.places.homes s x v at;
      at_home = λ x l. wrote.home x ∙ parts.places.at_home s x v at l;
      linked = λ g e. (g, e, refl);
      linked_on = λ g e. (g, e, refl);
      used = λ x e. e;
      used_on = λ x e z. e;
      filling = λ f e. wrote.home f.node ∙ parts.places.filling_home s v f at e;
      hand = λ x e. e;
      hand_on = λ x e. inl e;
    }) (homes_same h now views (slice_set views s u) s wrote.home))

-- ---- Leave

not_filling : (o : Own) (f : Filled) → kept_own o ≡ filling f → ⊥
not_filling Nothing f e = cc
not_filling (Filling node lo hi mode aimed) f e = cc
not_filling (Linked node range mode todo) f e = cc

stays_linked : (o : Own) (k : Listed) → kept_own o ≡ listed k → o ≡ listed k
stays_linked (Linked node range mode todo) k e = e
stays_linked _ k e = absurd (cc)

times_left : (x : ℕ) (o : Own) (ready : List ℕ) → own_times x (kept_own o) + times x (ready_left o ready) ≡ own_times x o + times x ready
times_left x (Filling node lo hi mode aimed) ready = omega arith
times_left x _ ready = refl

-- a node that is ready after Leave was ready or was being filled
left_idle : (v : View) (x : ℕ) → IsIdle (left v) x → IsIdle v x
left_idle v x (inr g) = absurd (not_filling v.own g.0 g.1)
left_idle v x (inl r) =
    ⊎_elim
    (λ (e : v.own ≡ Nothing). inl (subst (λ (o : Own). 1 ≤ times x (ready_left o v.ready)) e r))
    (λ (t : ((f : Filled) × (v.own ≡ filling f)) ⊎ ((k : Listed) × (v.own ≡ listed k))).
    ⊎_elim
    (λ (f : (f : Filled) × (v.own ≡ filling f)). first f.0 f.1 (f.0.node == x) refl (subst (λ (o : Own). 1 ≤ times x (ready_left o v.ready)) f.1 r))
    (λ (k : (k : Listed) × (v.own ≡ listed k)). inl (subst (λ (o : Own). 1 ≤ times x (ready_left o v.ready)) k.1 r))
    t)
    (own_is v.own)
  where
    first : (f : Filled) → v.own ≡ filling f → (b : Bool) → f.node == x ≡ b → 1 ≤ (if b then 1 else 0) + times x v.ready → IsIdle v x
    first f own true e l = inr (f, own, eqb-true f.node x e)
    first f own false e l = inl (omega (arith, l))

-- all that the invariant says is so after a Leave
pub leaves : (h now : Heap) (views : List View) (s : ℕ) (v : View) → Parts h views → IsViewOf views s v
    → ((k : Listed) → v.own ≡ listed k → k.todo ≡ Done) → WroteEpoch h now s (next_epoch (h.epoch s))
    → Parts now (slice_set views s (left v))
leaves h now views s v parts at done wrote =
    let u = left v in
    let calm = calm_epoch h now s _ wrote in
    let step = calm_step s parts at calm in
    let k = parts.each s v at in
    let epochs = λ (j : ℕ) (w : View) (e : IsViewOf views j w) (d : j ≢ s). wrote.others j d in
    steady step
    (record {
      kept = record {
        epoch = ap next_epoch k.epoch ∙ sym wrote.is;
        even = λ e. refl;
        filled = λ f e. absurd (not_filling v.own f e);
        linked = λ g e. written_on calm (k.linked g (stays_linked v.own g e));
        cursor = λ c e. absurd (cc);
        to_see = λ g e todo. absurd (let d = done g (stays_linked v.own g e) in cc);
      };
      reach = λ d x e m. absurd (cc);
      idle = λ x idle. idle_alone step x (left_idle v x idle);
      out = out_on step epochs;
      looks = λ g e. let own = stays_linked v.own g e in record {
        old = g;
        own = own;
        node = refl;
        range = refl;
        mode = refl;
        sees = λ o r q. absurd (not_looking g o r.way (done g own));
      };
      held = λ g e todo. ap kept_own e;
      unseen = λ odd a d e m. absurd (cc);
      low = λ l. sym (ap (λ n. n % 2) (wrote.next 0)) ∙ l;
      epochs = epochs;
      epoch = inr refl;
    })
    (places_now u step (record {
      times_same = λ x. ap (λ n. n + times x v.used) (times_left x v.own v.ready);
      homes = λ x. parts.places.homes s x v at;
      at_home = λ x l. wrote.home x ∙ parts.places.at_home s x v at l;
      linked = λ g e. (g, stays_linked v.own g e, refl);
      linked_on = λ g e. (g, ap kept_own e, refl);
      used = λ x e. e;
      used_on = λ x e z. e;
      filling = λ f e. absurd (not_filling v.own f e);
      hand = λ x e. e;
      hand_on = λ x e. inl e;
    }) (homes_same h now views (slice_set views s u) s wrote.home))
  where
    not_looking : (g o : Listed) → ((g.todo ≡ Forward) × (g.mode ≡ Reader) × (o.mode ≡ Writer))
        ⊎ ((g.todo ≡ FromHead) × (g.mode ≡ Writer) × (o.mode ≡ Reader)) → g.todo ≡ Done → ⊥
    not_looking g o (inl t) e = let a = t.0 in cc
    not_looking g o (inr t) e = let a = t.0 in cc
