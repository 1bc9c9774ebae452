-- The changes that the pages lie in give back the list of them.
use Rattle.std.proofs.Common.{◌≡◌, ℕ, ◌<◌, ◌≤◌, inl, inr, List, [], ◌∷◌, ◌++◌, Option, Some, None, sym, ◌∙◌, refl, arith, subst, map}
use Rattle.std.proofs.lemmas.Bool.{cases_lt}
use Rattle.std.proofs.lemmas.Bool.Decides.{nat_tests}
use Rattle.std.specs.Prelude.{IfSome, slice_get}
use Rattle.page_types.specs.declared.calls.Kind.{Kind}
use Rattle.space_model.specs.declared.areas.Area.{Area}
use Rattle.space_model.specs.declared.entries.Entry.{Entry}
use Rattle.space_model.specs.Areas.{kind_at}
use Rattle.space_model.proofs.AreaKinds.{neither_less}
use Rattle.space_model.proofs.OneAnswer.{one_answer}
use Rattle.area_changes.specs.declared.changes.AreaChange.{AreaChange}
use Rattle.area_changes.specs.Changes.{MayFollow, AreInOrder, change_at, LiesIn, AreChanges, HasOneList, Make, MakeOneList, of_entry}

-- a page of the first change lies in it
pub at-here : (c : AreaChange) (rest : List AreaChange) (p : ℕ) → c.lo ≤ p → p < c.hi → change_at (c ∷ rest) p ≡ Some c
at-here c rest p l h = grind (arith, nat_tests)

-- a page before the first change lies where the others have it
pub at-before : (c : AreaChange) (rest : List AreaChange) (p : ℕ) → p < c.lo → change_at (c ∷ rest) p ≡ change_at rest p
at-before c rest p l = grind (arith, nat_tests)

-- so does a page behind it
pub at-after : (c : AreaChange) (rest : List AreaChange) (p : ℕ) → c.hi ≤ p → change_at (c ∷ rest) p ≡ change_at rest p
at-after c rest p l = grind (arith, nat_tests)

-- no change starts below a page
abbrev pub StartAbove : ℕ → List AreaChange → Type 0
StartAbove e [] = Unit {0}
StartAbove e (c ∷ rest) = e ≤ c.lo

-- the list's first change, if it has one, may follow this one
abbrev pub LeadsTo : AreaChange → List AreaChange → Type 0
LeadsTo c list = IfSome (slice_get list 0) (MayFollow c)

-- the changes that may follow one don't start below its end
pub leads_above : (c : AreaChange) (rest : List AreaChange) → LeadsTo c rest → StartAbove c.hi rest
leads_above c [] l = tt
leads_above c (d ∷ rest) l = l.after

-- a page below all changes lies in none
pub at-below : (list : List AreaChange) (e p : ℕ) → AreInOrder list → StartAbove e list → p < e → change_at list p ≡ None
at-below [] e p w above l = refl
at-below (c ∷ rest) e p w above l =
    let n : c.lo < c.hi = w.0 in
    at-before c rest p (omega arith) ∙ at-below rest c.hi p w.2 (leads_above c rest w.1) (omega arith)

-- two pages lie in changes of the same two kinds, or both in none
abbrev SamePair : Option AreaChange → Option AreaChange → Type 0
SamePair None None = Unit {0}
SamePair (Some c) (Some d) = (c.before ≡ d.before) × (c.after ≡ d.after)
SamePair o q = ⊥

-- so do pages whose kinds are the same before and after
pair_by : (o q : Option AreaChange) (b a : Option Kind) → LiesIn o b a → LiesIn q b a → SamePair o q
pair_by None None b a h k = tt
pair_by None (Some d) b a h k = k.2 h
pair_by (Some c) None b a h k = h.2 k
pair_by (Some c) (Some d) b a h k = (h.0 ∙ sym k.0, h.1 ∙ sym k.1)

pair_to : (o q o2 q2 : Option AreaChange) → o ≡ o2 → q ≡ q2 → SamePair o q → SamePair o2 q2
pair_to o q o2 q2 d e h = subst (λ x. SamePair o2 x) e (subst (λ x. SamePair x q) d h)

pair_back : (o q : Option AreaChange) → SamePair o q → SamePair q o
pair_back None None h = tt
pair_back None (Some d) h = h
pair_back (Some c) None h = h
pair_back (Some c) (Some d) h = (sym h.0, sym h.1)

-- the page after a change isn't one of the same two kinds
at-end : (c : AreaChange) (rest : List AreaChange) → LeadsTo c rest → AreInOrder rest → SamePair (Some c) (change_at rest c.hi) → ⊥
at-end c [] l w h = h
at-end c (d ∷ rest) l w h =
    let n : d.lo < d.hi = w.0 in
    elim (cases_lt c.hi d.lo) [
      | inl lt ↦ pair_to (Some c) _ (Some c) None refl (at-below (d ∷ rest) d.lo c.hi w (omega arith) lt) h
      | inr ge ↦
          let touch : c.hi ≡ d.lo = omega (arith, l.after) in
          let same = pair_to (Some c) _ (Some c) (Some d) refl (at-here d rest c.hi (omega arith) (omega arith)) h in
          l.differs touch same.0 same.1
    ]

-- changes with the same parts are equal
same_change : (c d : AreaChange) → c.lo ≡ d.lo → c.hi ≡ d.hi → c.before ≡ d.before → c.after ≡ d.after → c ≡ d
same_change c d l h b a =
    let from : ℕ → ℕ → Option Kind → Option Kind → AreaChange = λ x y z w. record { lo = x; hi = y; before = z; after = w } in
    (λ i. from (l i) (h i) (b i) (a i))

-- the pages of two lists lie in changes of the same two kinds
abbrev SamePages : List AreaChange → List AreaChange → Type 0
SamePages some other = (p : ℕ) → SamePair (change_at some p) (change_at other p)

-- then their first changes start at one page
first_page : (c d : AreaChange) (some other : List AreaChange) → AreInOrder (c ∷ some) → AreInOrder (d ∷ other) →
    SamePages (c ∷ some) (d ∷ other) → c.lo < d.lo → ⊥
first_page c d some other w v e l =
    let n : c.lo < c.hi = w.0 in
    pair_to _ _ (Some c) None (at-here c some c.lo (omega arith) n) (at-below (d ∷ other) d.lo c.lo v (omega arith) l) (e c.lo)

-- and end at one
first_end : (c d : AreaChange) (some other : List AreaChange) → AreInOrder (c ∷ some) → AreInOrder (d ∷ other) →
    SamePages (c ∷ some) (d ∷ other) → c.lo ≡ d.lo → c.before ≡ d.before → c.after ≡ d.after → c.hi < d.hi → ⊥
first_end c d some other w v e s b a l =
    let n : c.lo < c.hi = w.0 in
    let both = pair_to _ _ (change_at some c.hi) (Some d) (at-after c some c.hi (omega arith)) (at-here d other c.hi (omega arith) l) (e c.hi) in
    at-end c some w.1 w.2 (here (change_at some c.hi) both)
  where
    here : (o : Option AreaChange) → SamePair o (Some d) → SamePair (Some c) o
    here None h = h
    here (Some x) h = (b ∙ sym h.0, a ∙ sym h.1)

-- lists whose pages lie in changes of the same two kinds are one
one_by_pages : (some other : List AreaChange) → AreInOrder some → AreInOrder other → SamePages some other → some ≡ other
one_by_pages [] [] w v e = refl
one_by_pages [] (d ∷ other) w v e =
    let n : d.lo < d.hi = v.0 in
    absurd (pair_to _ _ None (Some d) refl (at-here d other d.lo (omega arith) n) (e d.lo))
one_by_pages (c ∷ some) [] w v e =
    let n : c.lo < c.hi = w.0 in
    absurd (pair_to _ _ (Some c) None (at-here c some c.lo (omega arith) n) refl (e c.lo))
one_by_pages (c ∷ some) (d ∷ other) w v e =
    let n : c.lo < c.hi = w.0 in
    let m : d.lo < d.hi = v.0 in
    let back : SamePages (d ∷ other) (c ∷ some) = λ p. pair_back _ _ (e p) in
    let lows : c.lo ≡ d.lo = neither_less _ _ (first_page c d some other w v e) (first_page d c other some v w back) in
    let same = pair_to _ _ (Some c) (Some d) (at-here c some c.lo (omega arith) n) (at-here d other c.lo (omega arith) (omega arith)) (e c.lo) in
    let ends : c.hi ≡ d.hi =
    neither_less _ _ (first_end c d some other w v e lows same.0 same.1)
    (first_end d c other some v w back (sym lows) (sym same.0) (sym same.1)) in
    let rest : SamePages some other =
    λ p. elim (cases_lt p c.hi) [
      | inl l ↦
          pair_to None None _ _ (sym (at-below some c.hi p w.2 (leads_above c some w.1) l))
          (sym (at-below other d.hi p v.2 (leads_above d other v.1) (omega arith))) tt
      | inr g ↦ pair_to _ _ _ _ (at-after c some p g) (at-after d other p (omega arith)) (e p)
    ] in
    let heads : c ≡ d = same_change c d lows ends same.0 same.1 in
    let tails : some ≡ other = one_by_pages some other w.2 v.2 rest in
    cc

-- kinds before and after have one list of changes
pub one_list : (before after : ℕ → Option Kind) → HasOneList before after
one_list before after some other h k =
    one_by_pages some other h.in_order k.in_order (λ p. pair_by _ _ (before p) (after p) (h.pages p) (k.pages p))

-- a history makes one list of changes
pub make_one : (A : List Area) (entries : List Entry) → MakeOneList A entries
make_one A [] some other h k = h ∙ sym k
make_one A (e ∷ rest) some other (B, xs, more, right, changes, next, is) (C, ys, left, other_right, other_changes, other_next, other_is) =
    let same : B ≡ C = (one_answer A e.call e.reply e.reply B C right other_right).1 in
    let lists : xs ≡ ys =
    one_list (kind_at A) (kind_at C) xs ys (subst (λ X. AreChanges (kind_at A) (kind_at X) xs) same changes) other_changes in
    let tails : more ≡ left = make_one C rest more left (subst (λ X. Make X rest more) same next) other_next in
    is ∙ (λ i. map (of_entry e.number) (lists i) ++ tails i) ∙ sym other_is
