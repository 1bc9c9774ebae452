-- The kinds of an area list, page by page, and that they give back the list.
use Rattle.std.proofs.Common.{◌≡◌, ◌≢◌, ℕ, ◌<◌, ◌≤◌, inl, inr, List, [], ◌∷◌, Some, None, sym, ◌∙◌, ap, refl, arith}
use Rattle.std.proofs.lemmas.Bool.{cases_lt}
use Rattle.std.proofs.lemmas.Bool.Decides.{nat_tests}
use Rattle.std.specs.Prelude.{IfSome, slice_get}
use Rattle.page_types.specs.declared.calls.Kind.{Kind}
use Rattle.space_model.specs.declared.areas.Area.{Area}
use Rattle.space_model.specs.Areas.{MayFollow, IsAreaList, kind_at, OnlyOneHasKinds}

-- a page of the first area has its kind
pub kind_at-here : (a : Area) (rest : List Area) (p : ℕ) → a.lo ≤ p → p < a.hi → kind_at (a ∷ rest) p ≡ Some a.kind
kind_at-here a rest p l h = grind (arith, nat_tests)

-- a page before the first area has the kind that the others give it
pub kind_at-before : (a : Area) (rest : List Area) (p : ℕ) → p < a.lo → kind_at (a ∷ rest) p ≡ kind_at rest p
kind_at-before a rest p l = grind (arith, nat_tests)

-- so has a page behind it
pub kind_at-after : (a : Area) (rest : List Area) (p : ℕ) → a.hi ≤ p → kind_at (a ∷ rest) p ≡ kind_at rest p
kind_at-after a rest p l = grind (arith, nat_tests)

-- two numbers of which neither is less are equal
pub neither_less : (m n : ℕ) → (m < n → ⊥) → (n < m → ⊥) → m ≡ n
neither_less m n a b = grind arith

-- a page lies before an area, in it or after it
pub data Side (lo hi p : ℕ) : Type 0 where
  before : p < lo → Side lo hi p
  inside : lo ≤ p → p < hi → Side lo hi p
  after : hi ≤ p → Side lo hi p

-- each page is before a span, within it, or behind it
pub side_of : (lo hi p : ℕ) → Side lo hi p
side_of lo hi p =
    elim (cases_lt p lo) [
      | inl l ↦ before l
      | inr g ↦ elim (cases_lt p hi) [ inl l ↦ inside g l | inr h ↦ after h ]
    ]

-- no area starts below a page
abbrev pub IsAbove : ℕ → List Area → Type 0
IsAbove e [] = Unit {0}
IsAbove e (a ∷ rest) = e ≤ a.lo

-- no area starts below page 0
pub above_zero : (A : List Area) → IsAbove 0 A
above_zero [] = tt
above_zero (a ∷ rest) = omega arith

-- the list's first area, if it has one, may follow this one
abbrev pub LeadsTo : Area → List Area → Type 0
LeadsTo a list = IfSome (slice_get list 0) (MayFollow a)

-- the areas that may follow an area don't start below its end
pub LeadsTo-above : (a : Area) (rest : List Area) → LeadsTo a rest → IsAbove a.hi rest
LeadsTo-above a [] l = tt
LeadsTo-above a (b ∷ rest) l = l.after

-- a page below all areas has no kind
pub kind_at-below : (A : List Area) (e p : ℕ) → IsAreaList A → IsAbove e A → p < e → kind_at A p ≡ None
kind_at-below [] e p w above l = refl
kind_at-below (a ∷ rest) e p w above l =
    let n : a.lo < a.hi = w.0.has_page in
    kind_at-before a rest p (omega arith) ∙ kind_at-below rest a.hi p w.2 (LeadsTo-above a rest w.1) (omega arith)

-- the page after an area isn't of its kind
pub kind_at-end : (a : Area) (rest : List Area) → LeadsTo a rest → IsAreaList rest → kind_at rest a.hi ≢ Some a.kind
kind_at-end a [] l w e = cc
kind_at-end a (b ∷ rest) l w e =
    let n : b.lo < b.hi = w.0.has_page in
    elim (cases_lt a.hi b.lo) [
      | inl lt ↦
          let none : kind_at (b ∷ rest) a.hi ≡ None = kind_at-below (b ∷ rest) b.lo a.hi w (omega arith) lt in cc
      | inr ge ↦
          let touch : a.hi ≡ b.lo = omega (arith, l.after) in
          let some : kind_at (b ∷ rest) a.hi ≡ Some b.kind = kind_at-here b rest a.hi (omega arith) (omega arith) in
          let same : a.kind ≡ b.kind = cc in l.differs touch same
    ]

-- areas with the same parts are equal
pub same_area : (a b : Area) → a.lo ≡ b.lo → a.hi ≡ b.hi → a.kind ≡ b.kind → a ≡ b
same_area a b l h k =
    let from : ℕ → ℕ → Kind → Area = λ x y z. record { lo = x; hi = y; kind = z } in
    ap (λ x. from x a.hi a.kind) l ∙ ap (λ y. from b.lo y a.kind) h ∙ ap (λ z. from b.lo b.hi z) k

-- the first pages of two area lists with the same kinds
first_page : (a b : Area) (A B : List Area) → IsAreaList (a ∷ A) → IsAreaList (b ∷ B) →
    ((p : ℕ) → kind_at (a ∷ A) p ≡ kind_at (b ∷ B) p) → a.lo < b.lo → ⊥
first_page a b A B w v e l =
    let n : a.lo < a.hi = w.0.has_page in
    let some : kind_at (a ∷ A) a.lo ≡ Some a.kind = kind_at-here a A a.lo (omega arith) n in
    let none : kind_at (b ∷ B) a.lo ≡ None = kind_at-below (b ∷ B) b.lo a.lo v (omega arith) l in
    let both = e a.lo in cc

-- and where their first areas end
first_end : (a b : Area) (A B : List Area) → IsAreaList (a ∷ A) → IsAreaList (b ∷ B) →
    ((p : ℕ) → kind_at (a ∷ A) p ≡ kind_at (b ∷ B) p) → a.lo ≡ b.lo → a.kind ≡ b.kind → a.hi < b.hi → ⊥
first_end a b A B w v e s k l =
    let n : a.lo < a.hi = w.0.has_page in
    let some : kind_at (b ∷ B) a.hi ≡ Some b.kind = kind_at-here b B a.hi (omega arith) l in
    let rest : kind_at (a ∷ A) a.hi ≡ kind_at A a.hi = kind_at-after a A a.hi (omega arith) in
    let both = e a.hi in
    kind_at-end a A w.1 w.2 cc

-- two area lists whose pages have the same kinds are one
pub only_one : (A B : List Area) → OnlyOneHasKinds A B
only_one [] [] w v e = refl
only_one [] (b ∷ B) w v e =
    let n : b.lo < b.hi = v.0.has_page in
    let some : kind_at (b ∷ B) b.lo ≡ Some b.kind = kind_at-here b B b.lo (omega arith) n in
    let both = e b.lo in cc
only_one (a ∷ A) [] w v e =
    let n : a.lo < a.hi = w.0.has_page in
    let some : kind_at (a ∷ A) a.lo ≡ Some a.kind = kind_at-here a A a.lo (omega arith) n in
    let both = e a.lo in cc
only_one (a ∷ A) (b ∷ B) w v e =
    let n : a.lo < a.hi = w.0.has_page in
    let m : b.lo < b.hi = v.0.has_page in
    let back : (p : ℕ) → kind_at (b ∷ B) p ≡ kind_at (a ∷ A) p = λ p. sym (e p) in
    let lows : a.lo ≡ b.lo = neither_less _ _ (first_page a b A B w v e) (first_page b a B A v w back) in
    let kinds : a.kind ≡ b.kind =
    let x : kind_at (a ∷ A) a.lo ≡ Some a.kind = kind_at-here a A a.lo (omega arith) n in
    let y : kind_at (b ∷ B) a.lo ≡ Some b.kind = kind_at-here b B a.lo (omega arith) (omega arith) in
    let both = e a.lo in cc in
    let ends : a.hi ≡ b.hi =
    neither_less _ _ (first_end a b A B w v e lows kinds) (first_end b a B A v w back (sym lows) (sym kinds)) in
    let rest : (p : ℕ) → kind_at A p ≡ kind_at B p =
    λ p. elim (cases_lt p a.hi) [
      | inl l ↦
          kind_at-below A a.hi p w.2 (LeadsTo-above a A w.1) l ∙
          sym (kind_at-below B b.hi p v.2 (LeadsTo-above b B v.1) (omega arith))
      | inr g ↦ sym (kind_at-after a A p g) ∙ e p ∙ kind_at-after b B p (omega arith)
    ] in
    let heads : a ≡ b = same_area a b lows ends kinds in
    let tails : A ≡ B = only_one A B w.2 v.2 rest in
    cc
