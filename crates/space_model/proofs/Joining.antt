-- Lists put together in order have the kinds of their parts.
use Rattle.std.proofs.Common.{◌≡◌, ℕ, ◌+◌, ◌<◌, ◌≤◌, length, inl, inr, Bool, true, false, if◌then◌else◌, List, [], ◌∷◌, ◌++◌, ◌&&◌, Option, Some, None, nat_eq}
use Rattle.std.proofs.Common.{max, sym, ◌∙◌, ap, subst, refl, arith, get_or, drop, drop-cons, add-one}
use Rattle.std.proofs.lemmas.Bool.{cases_lt, cases_Bool, and_parts, and_from, eqb-true, eq-eqb, true≢false}
use Rattle.std.proofs.lemmas.Bool.Decides.{nat_tests}
use Rattle.page_types.specs.declared.calls.Kind.{Kind}
use Rattle.space_model.specs.declared.areas.Area.{Area}
use Rattle.space_model.specs.Areas.{IsInRange, MayFollow, IsAreaList, IsInOrder, HasKinds, kind_at}
use Rattle.space_model.specs.Starts.{same_bool, same_kind}
use Rattle.space_model.specs.Building.{goes_on, merged, pair_joined, joined, join_all}
use Rattle.space_model.proofs.AreaKinds.{kind_at-here, kind_at-after, LeadsTo}

-- an area is joined with the last of a list, and those before it stay
pub joined-append : (list : List Area) (b a : Area) → joined (list ++ b ∷ []) a ≡ list ++ pair_joined b a
joined-append [] b a = refl
joined-append (x ∷ []) b a = refl
joined-append (x ∷ y ∷ list) b a = ap (λ rest. x ∷ rest) (joined-append (y ∷ list) b a)

same_bool-true : (a b : Bool) → same_bool a b ≡ true → a ≡ b
same_bool-true true true e = refl
same_bool-true true false e = cc
same_bool-true false true e = cc
same_bool-true false false e = refl

same_bool-same : (a : Bool) → same_bool a a ≡ true
same_bool-same true = refl
same_bool-same false = refl

kind_of : ℕ → Bool → Bool → Kind
kind_of n b s = record { prot = record { 0 = n }; shared = b; sealed = s }

-- kinds that the test calls equal are equal
pub same_kind-true : (k m : Kind) → same_kind k m ≡ true → k ≡ m
unfolding kind_of
same_kind-true k m e =
    let both : (nat_eq k.prot.0 m.prot.0 ≡ true) × ((same_bool k.shared m.shared && same_bool k.sealed m.sealed) ≡ true) = and_parts _ _ e in
    let flags : (same_bool k.shared m.shared ≡ true) × (same_bool k.sealed m.sealed ≡ true) = and_parts _ _ both.1 in
    ap (λ n. kind_of n k.shared k.sealed) (eqb-true _ _ both.0) ∙
    ap (λ b. kind_of m.prot.0 b k.sealed) (same_bool-true _ _ flags.0) ∙
    ap (λ b. kind_of m.prot.0 m.shared b) (same_bool-true _ _ flags.1)

-- the test calls a kind equal to itself
pub same_kind-same : (k : Kind) → same_kind k k ≡ true
same_kind-same k = grind (arith, nat_tests, same_bool-same k.shared, same_bool-same k.sealed)

-- the first kind, or the second where there is none
abbrev pub first_of : Option Kind → Option Kind → Option Kind
first_of (Some k) other = Some k
first_of None other = other

-- where the second is none, it is the first
pub first_of-none : (o : Option Kind) → first_of o None ≡ o
first_of-none (Some k) = refl
first_of-none None = refl

-- a page has the kind of the first area, or else of the others
pub kind_at-cons : (a : Area) (rest : List Area) (p : ℕ) → kind_at (a ∷ rest) p ≡ first_of (kind_at (a ∷ []) p) (kind_at rest p)
kind_at-cons a rest p = grind (arith, nat_tests)

-- a page has the kind of the first list, or else of the second
pub kind_at-append : (A B : List Area) (p : ℕ) → kind_at (A ++ B) p ≡ first_of (kind_at A p) (kind_at B p)
kind_at-append [] B p = refl
kind_at-append (a ∷ A) B p = grind (arith, nat_tests, kind_at-append A B p)

-- no page at or above this one has a kind
abbrev pub IsFreeFrom : List Area → ℕ → Type 0
IsFreeFrom A e = (p : ℕ) → e ≤ p → kind_at A p ≡ None

-- so an area list ends there
pub ends_below : (a : Area) (rest : List Area) (e : ℕ) → IsInRange a → IsFreeFrom (a ∷ rest) e → a.hi ≤ e
ends_below a rest e w free =
    let n : a.lo < a.hi = w.has_page in
    elim (cases_lt e a.hi) [
      | inl l ↦
          let p : ℕ = max e a.lo in
          let none : kind_at (a ∷ rest) p ≡ None = free p (omega arith) in
          let some : kind_at (a ∷ rest) p ≡ Some a.kind = kind_at-here a rest p (omega arith) (omega arith) in cc
      | inr g ↦ g
    ]

free_tail : (a : Area) (rest : List Area) (e : ℕ) → a.hi ≤ e → IsFreeFrom (a ∷ rest) e → IsFreeFrom rest e
free_tail a rest e h free p l = sym (kind_at-after a rest p (omega arith)) ∙ free p l

-- an area that goes on with another is one with it
pub pair-true : (b a : Area) → goes_on b a ≡ true → pair_joined b a ≡ merged b a ∷ []
pair-true b a e = ap (λ t. if t then merged b a ∷ [] else b ∷ a ∷ []) e

-- an area that doesn't go on with another stands behind it
pub pair-false : (b a : Area) → goes_on b a ≡ false → pair_joined b a ≡ b ∷ a ∷ []
pair-false b a e = ap (λ t. if t then merged b a ∷ [] else b ∷ a ∷ []) e

touches_of : (b a : Area) → goes_on b a ≡ true → (b.hi ≡ a.lo) × (b.kind ≡ a.kind)
touches_of b a e =
    let both : (nat_eq b.hi a.lo ≡ true) × (same_kind b.kind a.kind ≡ true) = and_parts _ _ e in
    (eqb-true _ _ both.0, same_kind-true _ _ both.1)

goes_on_of : (b a : Area) → b.hi ≡ a.lo → b.kind ≡ a.kind → goes_on b a ≡ true
goes_on_of b a t k =
    and_from (nat_eq b.hi a.lo) (same_kind b.kind a.kind) (eq-eqb _ _ t) (rw (← k) (same_kind-same b.kind))

merged-kinds : (b a : Area) (p : ℕ) → IsInRange b → IsInRange a → b.hi ≡ a.lo → b.kind ≡ a.kind →
    kind_at (merged b a ∷ []) p ≡ first_of (kind_at (b ∷ []) p) (kind_at (a ∷ []) p)
merged-kinds b a p w v t k = grind (arith, nat_tests, w.has_page, v.has_page)

pair-kinds : (b a : Area) (p : ℕ) → IsInRange b → IsInRange a → b.hi ≤ a.lo →
    kind_at (pair_joined b a) p ≡ first_of (kind_at (b ∷ []) p) (kind_at (a ∷ []) p)
pair-kinds b a p w v l =
    elim (cases_Bool (goes_on b a)) [
      | inl e ↦
          let t = touches_of b a e in ap (λ list. kind_at list p) (pair-true b a e) ∙ merged-kinds b a p w v t.0 t.1
      | inr e ↦ ap (λ list. kind_at list p) (pair-false b a e) ∙ kind_at-cons b (a ∷ []) p
    ]

pair-areas : (b a : Area) → IsInRange b → IsInRange a → b.hi ≤ a.lo → IsAreaList (pair_joined b a)
pair-areas b a w v l =
    elim (cases_Bool (goes_on b a)) [
      | inl e ↦
          let t = touches_of b a e in
          let whole : IsInRange (merged b a) =
          record {
            has_page = omega (arith, w.has_page, v.has_page, t.0);
            below_limit = v.below_limit;
          } in
          let list : IsAreaList (merged b a ∷ []) = (whole, tt, tt) in
          subst IsAreaList (sym (pair-true b a e)) list
      | inr e ↦
          let apart : MayFollow b a =
          record { after = l; differs = λ touch same. true≢false (sym (goes_on_of b a touch same) ∙ e) } in
          let list : IsAreaList (b ∷ a ∷ []) = (w, apart, (v, tt, tt)) in
          subst IsAreaList (sym (pair-false b a e)) list
    ]

-- joining at the end keeps what leads to the list
joined-leads : (x b : Area) (rest : List Area) (a : Area) → LeadsTo x (b ∷ rest) → LeadsTo x (joined (b ∷ rest) a)
joined-leads x b [] a l =
    elim (cases_Bool (goes_on b a)) [
      | inl e ↦
          let list : LeadsTo x (merged b a ∷ []) = record { after = l.after; differs = l.differs } in
          subst (LeadsTo x) (sym (pair-true b a e)) list
      | inr e ↦ let list : LeadsTo x (b ∷ a ∷ []) = l in subst (LeadsTo x) (sym (pair-false b a e)) list
    ]
joined-leads x b (c ∷ rest) a l = l

first_on : (b : Area) (J A B : List Area) (p : ℕ) → kind_at J p ≡ first_of (kind_at A p) (kind_at B p) →
    kind_at (b ∷ J) p ≡ first_of (kind_at (b ∷ A) p) (kind_at B p)
first_on b J A B p e = grind (arith, nat_tests)

then_others : (a : Area) (J A rest : List Area) (p : ℕ) → kind_at J p ≡ first_of (kind_at A p) (kind_at (a ∷ []) p) →
    first_of (kind_at J p) (kind_at rest p) ≡ first_of (kind_at A p) (kind_at (a ∷ rest) p)
then_others a J A rest p e = grind (arith, nat_tests, first_of-none (kind_at A p))

-- an area behind all others, joined to an area list, makes one with the kinds of both
pub joined-kinds : (A : List Area) (a : Area) → IsAreaList A → IsFreeFrom A a.lo → IsInRange a →
    HasKinds (λ p. first_of (kind_at A p) (kind_at (a ∷ []) p)) (joined A a)
joined-kinds [] a w free r = record { areas = (r, tt, tt); kinds_are = λ p. refl }
joined-kinds (b ∷ []) a w free r =
    let l : b.hi ≤ a.lo = ends_below b [] a.lo w.0 free in
    record { areas = pair-areas b a w.0 r l; kinds_are = λ p. pair-kinds b a p w.0 r l }
joined-kinds (b ∷ c ∷ rest) a w free r =
    let l : b.hi ≤ a.lo = ends_below b (c ∷ rest) a.lo w.0 free in
    let more = joined-kinds (c ∷ rest) a w.2 (free_tail b (c ∷ rest) a.lo l free) r in
    record {
      areas = (w.0, joined-leads b c rest a w.1, more.areas);
      kinds_are = λ p. first_on b (joined (c ∷ rest) a) (c ∷ rest) (a ∷ []) p (more.kinds_are p);
    }

-- pieces in order behind an area list, joined to it, make one with the kinds of both
pub join_all-kinds : (A pieces : List Area) (e : ℕ) → IsAreaList A → IsFreeFrom A e → IsInOrder e pieces →
    HasKinds (λ p. first_of (kind_at A p) (kind_at pieces p)) (join_all A pieces)
join_all-kinds A [] e w free s = record { areas = w; kinds_are = λ p. sym (first_of-none (kind_at A p)) }
join_all-kinds A (a ∷ rest) e w free s =
    let low : e ≤ a.lo = s.0 in
    let one = joined-kinds A a w (λ p l. free p (omega arith)) s.1 in
    let above : IsFreeFrom (joined A a) a.hi =
    λ p l.
    one.kinds_are p ∙
    ap (λ k. first_of k (kind_at (a ∷ []) p)) (free p (omega (arith, s.1.has_page))) ∙
    kind_at-after a [] p l in
    let all = join_all-kinds (joined A a) rest a.hi one.areas above s.2 in
    record {
      areas = all.areas;
      kinds_are = λ p. all.kinds_are p ∙ then_others a (joined A a) A rest p (one.kinds_are p);
    }

length-pair : (b a : Area) → length (pair_joined b a) ≤ 2
length-pair b a = grind (arith, nat_tests)

-- a list has at most one area more once one was joined to it
pub length-joined : (A : List Area) (a : Area) → length (joined A a) ≤ length A + 1
length-joined [] a = omega arith
length-joined (b ∷ []) a = omega (arith, length-pair b a)
length-joined (b ∷ c ∷ rest) a = omega (arith, length-joined (c ∷ rest) a)

-- pieces in order keep their kinds when they are joined
pub pieces-kinds : (pieces : List Area) → IsInOrder 0 pieces → HasKinds (kind_at pieces) (join_all [] pieces)
pieces-kinds pieces s =
    let h = join_all-kinds [] pieces 0 tt (λ p g. refl) s in record { areas = h.areas; kinds_are = λ p. h.kinds_are p }

-- one more piece
pub join_all-next : (list new pieces : List Area) (i : ℕ) (d : Area) → i < length pieces → new ≡ joined list (get_or pieces i d) →
    join_all list (drop i pieces) ≡ join_all [] pieces → length list ≤ i →
    (join_all new (drop (i + 1) pieces) ≡ join_all [] pieces) × (length new ≤ i + 1)
join_all-next list new pieces i d within is so_far few =
    let step : join_all list (drop i pieces) ≡ join_all (joined list (get_or pieces i d)) (drop (i + 1) pieces) =
    rw (drop-cons pieces i d, add-one) refl in (
      rw is (sym step ∙ so_far),
      omega (arith, ap length is, length-joined list (get_or pieces i d)),
    )
