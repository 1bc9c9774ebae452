-- The looks at home words one after another: what the lists beside the view say of it at each moment, and that one node
-- more leaves the closed line for a list that is longer by it.
use Rattle.std.proofs.Common.{◌≡◌, ◌≢◌, ℕ, ◌+◌, ◌≤◌, Bool, true, false, List, [], ◌∷◌, ◌++◌, length, ⊎_elim, refl, sym, ap, ◌∙◌}
use Rattle.std.proofs.Common.{◌*◌, ◌<◌, subst, arith, eqb-true, ne_eqb, append_assoc, length-append}
use Rattle.std.specs.Prelude.{replicate, None, ◌==◌, if◌then◌else◌}
use Rattle.std.proofs.lemmas.Bool.{cases_eq, eqb-false}
use Rattle.view_lists.specs.Counted.{times, without}
use Rattle.lock_core.specs.declared.views.View.{View}
use Rattle.lock_core.specs.Views.{released}
use Rattle.lock_core.proofs.Safety.{may_step}
use Rattle.lock_core.proofs.Counts.{times_joined, without_none, without_some}
use Rattle.epoch_pools.specs.declared.views.SeatPart.{SeatPart}
use Rattle.epoch_pools.specs.Hands.{IsHandView}
use Rattle.epoch_pools.specs.Looking.{IsAwaited, anew, begun, come_back, homes_read, IsBeside}

-- a list without two others is without one and then without the other
pub without_joined : (a b l : List ℕ) → without (a ++ b) l ≡ without b (without a l)
without_joined a b [] = refl
without_joined a b (y ∷ ys) = step (times y a == 0) (times y b == 0) (times y (a ++ b) == 0) refl refl refl (times_joined y a b) (without_joined a b ys)
  where
    step : (c d e : Bool) → (times y a == 0) ≡ c → (times y b == 0) ≡ d → (times y (a ++ b) == 0) ≡ e
        → times y (a ++ b) ≡ times y a + times y b → without (a ++ b) ys ≡ without b (without a ys)
        → (if e then y ∷ without (a ++ b) ys else without (a ++ b) ys) ≡ without b (if c then y ∷ without a ys else without a ys)
    step true true true ec ed ee j ih =
        ap (λ (l : List ℕ). y ∷ l) ih ∙ sym (ap (λ (t : Bool). if t then y ∷ without b (without a ys) else without b (without a ys)) ed)
    step true false false ec ed ee j ih = ih ∙ sym (ap (λ (t : Bool). if t then y ∷ without b (without a ys) else without b (without a ys)) ed)
    step true true false ec ed ee j ih = absurd (let x = eqb-true _ _ ec in let z = eqb-true _ _ ed in let n = eqb-false _ _ ee in n (omega arith))
    step true false true ec ed ee j ih = absurd (let x = eqb-true _ _ ee in let n = eqb-false _ _ ed in n (omega arith))
    step false d true ec ed ee j ih = absurd (let x = eqb-true _ _ ee in let n = eqb-false _ _ ec in n (omega arith))
    step false d false ec ed ee j ih = ih

-- the barrier begun anew, by whether there is one seat alone
abbrev begun_if : Bool → ℕ → View → View
begun_if one seats v = if one then released (anew seats v) else anew seats v

module _ (seats : ℕ) (v : View) (homes : List ℕ) where
  -- after a barrier that was begun for these homes
  abbrev after : Bool → View
  after one = begun_if one seats (record v { homes = homes })

  -- one node more, where some came home before
  more : (one : Bool) (n : ℕ) → begun_if one seats (record (after one) { homes = (after one).homes ++ n ∷ [] })
      ≡ begun_if one seats (record v { homes = homes ++ n ∷ [] })
  more true n = λ i. record v {
    ready = append_assoc v.ready homes (n ∷ []) i;
    used = sym (without_joined homes (n ∷ []) v.used) i;
    homes = [];
    notes = replicate seats None;
    passed = replicate seats false;
  }
  more false n = refl

  -- the closed line after one look more
  pub homes_more : (came : Bool) (n : ℕ) → (came ≡ false → homes ≡ v.homes)
      → come_back seats (homes_read seats v homes came) n ≡ homes_read seats v (homes ++ n ∷ []) true
  homes_more true n none = more (seats == 1) n
  homes_more false n none = ap (λ (l : List ℕ). begun seats (record v { homes = l ++ n ∷ [] })) (sym (none refl))

-- a view's own lists
pub beside_itself : (v : View) → IsBeside v v.used v.homes
beside_itself v = record { may = λ x a. a; only = λ x a. a; room = omega arith }

-- the lists stand beside the view that the closed line says
pub beside_read : (seats : ℕ) (v u : View) (used homes : List ℕ) (came : Bool) → used ≡ v.used → (came ≡ false → homes ≡ v.homes)
    → u ≡ homes_read seats v homes came → IsBeside u used homes
beside_read seats v u used homes false same none is = subst (λ (l : List ℕ). IsBeside u l homes) (sym same)
    (subst (λ (l : List ℕ). IsBeside u v.used l) (sym (none refl)) (subst (λ (w : View). IsBeside w v.used v.homes) (sym is) (beside_itself v)))
beside_read seats v u used homes true same none is =
    subst (λ (l : List ℕ). IsBeside u l homes) (sym same) (subst (λ (w : View). IsBeside w v.used homes) (sym is) (by (seats == 1)))
  where
    by : (one : Bool) → IsBeside (begun_if one seats (record v { homes = homes })) v.used homes
    by true = record {
      may = λ x a. (let s = without_none x homes v.used a.1 in let h = a.0 in omega arith, refl);
      only = λ x a. ⊎_elim (λ (z : times x homes ≡ 0). (let s = without_none x homes v.used z in let h = a.0 in omega arith, z))
          (λ (d : times x homes ≢ 0). absurd (let s = without_some x homes v.used (omega arith) in let h = a.0 in omega arith)) (cases_eq (times x homes) 0);
      room = let e = length-append v.ready homes in omega arith;
    }
    by false = record { may = λ x a. a; only = λ x a. a; room = omega arith }

-- a node whose home word may be read is one of the list's, and there is room for it among the homes
module _ {P : Type 0} (p : SeatPart P) (n : ℕ) (view : IsHandView p) (below : p.number < p.seats) (few : p.seats ≤ 16)
    (awaited : IsAwaited p.core.used p.core.homes n) where
  -- it is one of the list's nodes
  pub awaited_there : n < 16 * p.seats
  awaited_there = (may_step p.seats p.number p.core few below view.sound.sized).used n awaited.0

  -- and the ready nodes and the homes leave room for it
  pub awaited_room : length p.core.ready + length p.core.homes < 16
  awaited_room = (may_step p.seats p.number p.core few below view.sound.sized).home_room n awaited.0 awaited.1

-- the closed line, and that nothing changed where no node came home, after one look more
module _ {P : Type 0} (p q r : SeatPart P) (homes more : List ℕ) (came : Bool) (n : ℕ) where
  -- the closed line, whether the node came home or not
  pub core_more : (b now : Bool) → now ≡ (if b then true else came) → q.seats ≡ p.seats → q.core ≡ homes_read p.seats p.core homes came
      → (came ≡ false → homes ≡ p.core.homes) → r.core ≡ (if b then come_back q.seats q.core n else q.core)
      → more ≡ (if b then homes ++ n ∷ [] else homes) → r.core ≡ homes_read p.seats p.core more now
  core_more true now by seats was none core is = core ∙ (λ i. come_back (seats i) (was i) n) ∙ homes_more p.seats p.core homes came n none
      ∙ (λ i. homes_read p.seats p.core (sym is i) (sym by i))
  core_more false now by seats was none core is = core ∙ was ∙ (λ i. homes_read p.seats p.core (sym is i) (sym by i))

  -- and the homes are the first ones while none came home
  pub none_more : (b now : Bool) → now ≡ (if b then true else came) → (came ≡ false → homes ≡ p.core.homes)
      → more ≡ (if b then homes ++ n ∷ [] else homes) → now ≡ false → more ≡ p.core.homes
  none_more true now by none is off = absurd (let e : true ≡ false = sym by ∙ off in cc)
  none_more false now by none is off = is ∙ none (sym by ∙ off)

-- a node behind the one that was looked at is none of the homes, where it was none before
pub fresh_more : (b : Bool) (homes more : List ℕ) (n x : ℕ) → more ≡ (if b then homes ++ n ∷ [] else homes) → n < x → times x homes ≡ 0 → times x more ≡ 0
fresh_more true homes more n x is above none = let other : (n == x) ≡ false = ne_eqb n x (λ e. omega arith) in
    ap (times x) is ∙ (times_joined x homes (n ∷ []) ∙ (λ i. none i + ((if other i then 1 else 0) + 0)))
fresh_more false homes more n x is above none = ap (times x) is ∙ none

-- there is room for the homes among the ready ones
pub homes_room : {P : Type 0} (p q : SeatPart P) (homes : List ℕ) (came : Bool) → IsHandView q → q.number < q.seats → q.seats ≤ 16
    → (came ≡ false → homes ≡ p.core.homes) → q.core ≡ homes_read p.seats p.core homes came → length p.core.ready + length homes ≤ 16
homes_room {P} p q homes came view below few none is = by came none is
  where
    room : length q.core.ready + length q.core.homes ≤ 16
    room = (may_step q.seats q.number q.core few below view.sound.sized).release_room

    split : (one : Bool) → q.core ≡ begun_if one p.seats (record p.core { homes = homes }) → length p.core.ready + length homes ≤ 16
    split true e = let r = room in let a = ap (λ (v : View). length v.ready) e in let b = ap (λ (v : View). length v.homes) e in
        let j = length-append p.core.ready homes in omega arith
    split false e = let r = room in let a = ap (λ (v : View). length v.ready) e in let b = ap (λ (v : View). length v.homes) e in omega arith

    by : (c : Bool) → (c ≡ false → homes ≡ p.core.homes) → q.core ≡ homes_read p.seats p.core homes c → length p.core.ready + length homes ≤ 16
    by true none e = split (p.seats == 1) e
    by false none e = let r = room in let a = ap (λ (v : View). length v.ready) e in let b = ap (λ (v : View). length v.homes) e in
        let l = ap (λ (k : List ℕ). length k) (none refl) in omega arith
