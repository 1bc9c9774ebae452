-- Exclusion of the ranges that count. Two narrow ones that conflict are of one list; two wide ones are in list 0; and
-- of a narrow and a wide one the wide one has passed the list of the narrow one.
use Rattle.std.proofs.Common.{◌≡◌, ◌≢◌, ◌⊎◌, ℕ, zero, suc, ◌/◌, ◌<◌, List, [], ◌∷◌, map, Bool, true, false, inl, inr, ⊎_elim, refl}
use Rattle.std.proofs.Common.{sym, ap, ◌∙◌, subst, arith, eqb-true, eq-eqb, ne_eqb}
use Rattle.std.specs.Prelude.{Option, Some, None, slice_get, slice_index, ◌==◌, if◌then◌else◌}
use mathlib.Core.Option.{some, some-ne-none, some-injective}
use lib.ListN.{get_elem?}
use Rattle.atomic_table.proofs.Lists.{at_map}
use Rattle.lock_core.specs.Range.{Interval, IsRange}
use Rattle.lock_core.specs.Grants.{Conflicts, IsExclusive}
use Rattle.lock_core.specs.declared.range.Held.{Held}
use Rattle.lock_core.specs.declared.views.View.{View}
use Rattle.lock_core.specs.Words.{to}
use Rattle.lock_core.specs.Machine.{Machine, heap, held_at}
use Rattle.lock_core.proofs.ByPlace.{to_get}
use Rattle.lock_laws.specs.Paths.{Reach}
use Rattle.lock_laws.specs.Laws.{IsLock}
use Rattle.lock_laws.proofs.Paths.{nothing_at_end}
use Rattle.lock_laws.proofs.Exclusion.{exclusive, holding}
use mathlib.Core.Logic.{dite}
use native.Mathlib.Decide.{ℕ_discrete}
use Rattle.lock_laws.proofs.Judging.{hi_is}
use Rattle.epoch_pools.specs.declared.views.SeatLists.{SeatLists}
use Rattle.epoch_pools.specs.declared.views.Standing.{Standing}
use Rattle.epoch_pools.specs.declared.views.Standing.TheVariants.{Free, Narrow, Wide}
use Rattle.epoch_pools.specs.Standings.{counted_of_many, counted_of}
use Rattle.epoch_pools.specs.Beside.{core_at, held_in, grant_in}
use Rattle.epoch_pools.specs.Running.{IsCutBy, machine_at, cores_of, grants_in, AreLocks}

-- what a map has at a place
pub at_unmap : {A B : Type 0} (f : A → B) (l : List A) (i : ℕ) (b : B) → get_elem? (map f l) i ≡ some b → (a : A) × (get_elem? l i ≡ some a) × (f a ≡ b)
at_unmap f [] i b e = absurd (some-ne-none b (sym e))
at_unmap f (x ∷ xs) zero b e = (x, refl, some-injective _ _ e)
at_unmap f (x ∷ xs) (suc i) b e = at_unmap f xs i b e

-- a conflict, seen from the other side
pub turned : (g h : Held) → Conflicts g h → Conflicts h g
turned g h c = ((c.0.1, c.0.0), ⊎_elim (λ a. inr a) (λ b. inl b) c.1)

-- in a list whose head is 0 nobody holds anything
pub nothing_held : (m : Machine) → IsLock m → slice_index m.words 0 ≡ 0 → (n : ℕ) (v : View) (g : Held) → slice_get m.views n ≡ Some v → held_at v.own
    ≡ Some g → ⊥
nothing_held m lock empty n v g at held = let h = holding v.own g held in
    let r : Reach (to (heap m)) h.node.node (to (heap m) 0) = (lock.invariant.places.linked n v h.node at h.is).0 in
    nothing_at_end (to (heap m)) h.node.node (subst (λ w. Reach (to (heap m)) h.node.node (w / 2)) empty r)

-- what is held in a lock is a range
pub held_range : (m : Machine) → IsLock m → (n : ℕ) (v : View) (g : Held) → slice_get m.views n ≡ Some v → held_at v.own ≡ Some g
    → IsRange g.range.lo g.range.hi
held_range m lock n v g at held = let h = holding v.own g held in
    let r = lock.invariant.fields.chain_range h.node.node (lock.invariant.places.linked n v h.node at h.is).0 in
    let w = lock.invariant.fields.linked n v h.node at h.is in
    let lo : (heap m).lo h.node.node ≡ g.range.lo = w.lo ∙ ap (λ (x : Interval). x.lo) h.range in
    let hi : (heap m).hi h.node.node / 2 ≡ g.range.hi = ap (λ k. k / 2) w.hi ∙ (hi_is h.node.range.hi h.node.mode ∙ ap (λ (x : Interval). x.hi) h.range) in
    subst (λ (z : ℕ × ℕ). IsRange z.0 z.1) (λ k. (lo k, hi k)) r

-- a range that counts is a narrow one, or a wide one that has passed all lists
pub counts : (lists : ℕ) (s : Standing) (held : ℕ → Option Held) (g : Held) → counted_of_many lists s held ≡ Some g → ((i : ℕ) × (s ≡ Narrow i) × (held i
    ≡ Some g)) ⊎ ((s ≡ Wide lists) × (held 0 ≡ Some g))
counts lists Free held g e = absurd (cc)
counts lists (Narrow i) held g e = inl (i, refl, e)
counts lists (Wide p) held g e = by_all (p == lists) refl e
  where
    by_all : (b : Bool) → (p == lists) ≡ b → (if b then held 0 else None) ≡ Some g → ((i : ℕ) × (Wide p ≡ Narrow i) × (held i ≡ Some g)) ⊎ ((Wide p
        ≡ Wide lists) × (held 0 ≡ Some g))
    by_all true q e = inr (ap Wide (eqb-true p lists q), e)
    by_all false q e = absurd (cc)

-- what counts, with one list and with several
pub counts_one : (lists : ℕ) (s : Standing) (held : ℕ → Option Held) → lists ≡ 1 → counted_of lists s held ≡ held 0
counts_one lists s held e = ap (λ (b : Bool). if b then held 0 else counted_of_many lists s held) (eq-eqb lists 1 e)

pub counts_many : (lists : ℕ) (s : Standing) (held : ℕ → Option Held) → lists ≢ 1 → counted_of lists s held ≡ counted_of_many lists s held
counts_many lists s held e = ap (λ (b : Bool). if b then held 0 else counted_of_many lists s held) (ne_eqb lists 1 e)

module _ {P : Type 0} (lists seats : ℕ) (takes : Held → ℕ → Type 0) (words : List ℕ) (parts : List (SeatLists P))
    (r : AreLocks lists seats takes words parts) where
  -- what a seat holds in a list is a range
  pub range_in : (i a : ℕ) (x : SeatLists P) (g : Held) → i < lists → get_elem? parts a ≡ some x → held_in x i ≡ Some g → IsRange g.range.lo g.range.hi
  range_in i a x g less at held = let m : Machine = machine_at i seats words (map cores_of parts) in
      held_range m (r.locks i less) a (core_at i x.cores) g (to_get m.views a (core_at i x.cores) (at_map (core_at i) (map cores_of parts) a x.cores
      (at_map cores_of parts a x at))) held

  -- what two seats hold in one list isn't in conflict
  pub one_list : (i a b : ℕ) (x y : SeatLists P) (g h : Held) → i < lists → a ≢ b → get_elem? parts a ≡ some x → get_elem? parts b ≡ some y → held_in x i
      ≡ Some g → held_in y i ≡ Some h → ¬ (Conflicts g h)
  one_list i a b x y g h less differ at_a at_b held_a held_b = let m : Machine = machine_at i seats words (map cores_of parts) in
      let held = λ (n : ℕ) (w : SeatLists P) (k : Held) (at : get_elem? parts n ≡ some w) (e : held_in w i ≡ Some k). at_map (λ
      (v : View). held_at v.own) m.views n (core_at i w.cores) (at_map (core_at i) (map cores_of parts) n w.cores (at_map cores_of parts n w at)) ∙ ap some e in
      exclusive m (r.locks i less) a b g h differ (held a x g at_a held_a) (held b y h at_b held_b)

  -- of a narrow range and a wide one that has passed all lists
  across : IsCutBy lists takes → (a b i : ℕ) (x y : SeatLists P) (g h : Held) → a ≢ b → get_elem? parts a ≡ some x → get_elem? parts b ≡ some y
      → x.standing ≡ Narrow i → y.standing ≡ Wide lists → held_in x i ≡ Some g → held_in y 0 ≡ Some h → ¬ (Conflicts g h)
  across cut a b i x y g h differ at_a at_b narrow_a wide_b held_a held_b conflict = let one = r.narrow_one a i x at_a narrow_a in
      let t = cut g h (range_in i a x g one.there at_a held_a) (range_in 0 b y h (r.wide_one b lists y at_b wide_b).first at_b held_b) conflict in
      let is : ◌≡◌ {A = Option Held} (Some one.range) (Some g) = sym one.held ∙ held_a in let same : one.range ≡ g = cc in
      let here : t.0 ≡ i = one.only t.0 (subst (λ (z : Held). takes z t.0) (sym same) t.2) in
      r.passed a b i lists x y g h differ at_a at_b narrow_a wide_b one.there held_a held_b (subst (takes h) here t.3) conflict

  by_stands : IsCutBy lists takes → (a b : ℕ) (g h : Held) → a ≢ b → (x y : SeatLists P) → get_elem? parts a ≡ some x → get_elem? parts b ≡ some y
      → counted_of_many lists x.standing (held_in x) ≡ Some g → counted_of_many lists y.standing (held_in y) ≡ Some h → ¬ (Conflicts g h)
  by_stands cut a b g h differ x y at_a at_b grant_a grant_b conflict = let back : b ≢ a = λ e. differ (sym e) in
      ⊎_elim
      (λ (s : (i : ℕ) × (x.standing ≡ Narrow i) × (held_in x i ≡ Some g)). ⊎_elim
      (λ (t : (j : ℕ) × (y.standing ≡ Narrow j) × (held_in y j ≡ Some h)). let one = r.narrow_one a s.0 x at_a s.1 in let two = r.narrow_one b t.0 y at_b t.1 in
      let c = cut g h (range_in s.0 a x g one.there at_a s.2) (range_in t.0 b y h two.there at_b t.2) conflict in
      let is_one : ◌≡◌ {A = Option Held} (Some one.range) (Some g) = sym one.held ∙ s.2 in
      let is_two : ◌≡◌ {A = Option Held} (Some two.range) (Some h) = sym two.held ∙ t.2 in
      let same_one : one.range ≡ g = cc in let same_two : two.range ≡ h = cc in
      let here : c.0 ≡ s.0 = one.only c.0 (subst (λ (z : Held). takes z c.0) (sym same_one) c.2) in
      let there : c.0 ≡ t.0 = two.only c.0 (subst (λ (z : Held). takes z c.0) (sym same_two) c.3) in
      one_list s.0 a b x y g h one.there differ at_a at_b s.2 (ap (held_in y) (sym here ∙ there) ∙ t.2) conflict)
      (λ (t : (y.standing ≡ Wide lists) × (held_in y 0 ≡ Some h)). across cut a b s.0 x y g h differ at_a at_b s.1 t.0 s.2 t.1 conflict)
      (counts lists y.standing (held_in y) h grant_b))
      (λ (s : (x.standing ≡ Wide lists) × (held_in x 0 ≡ Some g)). ⊎_elim
      (λ (t : (j : ℕ) × (y.standing ≡ Narrow j) × (held_in y j ≡ Some h)). across cut b a t.0 y x h g back at_b at_a t.1 s.0 t.2 s.1 (turned g h conflict))
      (λ (t : (y.standing ≡ Wide lists) × (held_in y 0 ≡ Some h)). one_list 0 a b x y g h
      (r.wide_one a lists x at_a s.0).first differ at_a at_b s.1 t.1 conflict) (counts lists y.standing (held_in y) h grant_b))
      (counts lists x.standing (held_in x) g grant_a)

  -- no two ranges that count conflict
  pub counts_exclude : IsCutBy lists takes → IsExclusive (grants_in lists parts)
  counts_exclude cut a b g h differ grant_a grant_b conflict = let x = at_unmap (grant_in lists) parts a (Some g) grant_a in
      let y = at_unmap (grant_in lists) parts b (Some h) grant_b in
      dite (ℕ_discrete lists 1)
      (λ one. one_list 0 a b x.0 y.0 g h (omega arith) differ x.1 y.1 (sym (counts_one lists x.0.standing (held_in x.0) one) ∙ x.2) (sym
      (counts_one lists y.0.standing (held_in y.0) one) ∙ y.2) conflict)
      (λ many. by_stands cut a b g h differ x.0 y.0 x.1 y.1 (sym (counts_many lists x.0.standing (held_in x.0) many) ∙ x.2) (sym
      (counts_many lists y.0.standing (held_in y.0) many) ∙ y.2) conflict)
