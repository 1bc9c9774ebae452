-- An area list cut at a page, and what the first area above the page says of the kinds there.
use Rattle.std.proofs.Common.{◌≡◌, ℕ, zero, suc, ◌+◌, ◌<◌, ◌≤◌, inl, inr, leb, leb-true, leb-false, true, false, List, [], ◌∷◌, ◌++◌, length, take, drop}
use Rattle.std.proofs.Common.{get_or, slice_get, Option, Some, None, MatchOption, All, sym, ◌∙◌, ap, subst, refl, arith}
use Rattle.std.proofs.lemmas.Bool.{cases_lt}
use Rattle.std.proofs.lemmas.List.{append-nil, take-append-drop, length-take-le, length-drop, get_or-take, get_or-drop}
use Rattle.std.proofs.lemmas.List.Elements.{All-head, All-tail, All-same, All-contains, Contains-get_or, Contains-append_right}
use Rattle.std.specs.List.{Contains}
use Rattle.std.specs.List.Sorted.{IsNonDecreasingBy, IsPartitionPoint}
use Rattle.space_model.specs.declared.areas.Area.{Area}
use Rattle.space_model.specs.declared.sorts.Sort.{Sort}
use Rattle.space_model.specs.Areas.{IsAreaList, kind_at}
use Rattle.space_model.specs.Held.{LiesIn}
use Rattle.space_model.specs.Cutting.{IsCutBy, IsFirstAbove}
use Rattle.space_model.proofs.AreaKinds.{kind_at-after}
use Rattle.space_model.proofs.Searching.{Remains, remains_all, free_before, mapped_inside, EndsAbove, NoneSoFar}
use Rattle.space_model.proofs.Simple.{member_in_range, kind_at-member}
use Rattle.space_model.proofs.FourWays.{starts_after, after_member}

-- later areas end and start higher
pub ends_rise : (A : List Area) → IsAreaList A → IsNonDecreasingBy (λ a. a.hi) A
ends_rise [] w i j d l h = absurd (omega arith)
ends_rise (a ∷ rest) w zero zero d l h = omega arith
ends_rise (a ∷ rest) w zero (suc j) d l h =
    let m = Contains-get_or rest j d (omega arith) in
    omega (arith, starts_after a rest (get_or rest j d) w m, (member_in_range rest (get_or rest j d) w.2 m).has_page)
ends_rise (a ∷ rest) w (suc i) zero d l h = absurd (omega arith)
ends_rise (a ∷ rest) w (suc i) (suc j) d l h = ends_rise rest w.2 i j d (omega arith) (omega arith)

-- later areas start higher
pub starts_rise : (A : List Area) → IsAreaList A → IsNonDecreasingBy (λ a. a.lo) A
starts_rise [] w i j d l h = absurd (omega arith)
starts_rise (a ∷ rest) w zero zero d l h = omega arith
starts_rise (a ∷ rest) w zero (suc j) d l h =
    omega (arith, w.0.has_page, starts_after a rest (get_or rest j d) w (Contains-get_or rest j d (omega arith)))
starts_rise (a ∷ rest) w (suc i) zero d l h = absurd (omega arith)
starts_rise (a ∷ rest) w (suc i) (suc j) d l h = starts_rise rest w.2 i j d (omega arith) (omega arith)

-- the two parts at the point where a number of the areas passes the page
pub cut_at : (number : Area → ℕ) (A : List Area) (page i : ℕ) (front rest : List Area) → i ≤ length A →
    IsPartitionPoint (λ y. leb (number y) page ≡ true) (λ y. leb (number y) page ≡ false) A i →
    front ≡ take i A → rest ≡ drop i A → IsCutBy number A page front rest
cut_at number A page i front rest within point f r =
    record {
      whole = sym (take-append-drop i A) ∙ ap (λ x. x ++ drop i A) (sym f) ∙ ap (λ x. front ++ x) (sym r);
      upto =
          All-same (λ a. number a ≤ page) front (take i A) f
          (λ k d h.
          let k_is : k < i = omega (arith, length-take-le i A within) in
          subst (λ a. number a ≤ page) (sym (get_or-take i A k d k_is)) (leb-true _ _ (point.0 k d (omega arith) k_is)));
      above =
          All-same (λ a. page < number a) rest (drop i A) r
          (λ k d h.
          subst (λ a. page < number a) (sym (get_or-drop i A k d))
          (leb-false _ _ (point.1 (i + k) d (omega arith) (omega (arith, length-drop i A)))));
    }

-- past the areas that end at or before a page the others have the kinds
remains_past : (front rest : List Area) (page : ℕ) → IsAreaList (front ++ rest) → All (λ a. a.hi ≤ page) front →
    Remains (front ++ rest) rest page
remains_past [] rest page w all = remains_all rest page w
remains_past (a ∷ front) rest page w all =
    let r = remains_past front rest page w.2 (All-tail (λ b. b.hi ≤ page) a front all) in
    let h : a.hi ≤ page = All-head (λ b. b.hi ≤ page) a front all in
    record { areas = r.areas; kinds = λ p l. r.kinds p l ∙ sym (kind_at-after a (front ++ rest) p (omega arith)) }

-- behind a cut at a page, the areas that are left have the kinds from the page on
pub remains_cut : (A : List Area) (page : ℕ) (front rest : List Area) → IsAreaList A → IsCutBy (λ a. a.hi) A page front rest →
    Remains A rest page
remains_cut A page front rest w cut =
    subst (λ X. Remains X rest page) (sym cut.whole) (remains_past front rest page (subst IsAreaList cut.whole w) cut.upto)

ends_cut : (rest : List Area) (page : ℕ) → All (λ a. page < a.hi) rest → EndsAbove page rest
ends_cut [] page all = tt
ends_cut (a ∷ rest) page all = All-head (λ b. page < b.hi) a rest all

-- behind the cut at the first page of a search, no page was passed yet
pub none_cut : (A : List Area) (sort : Sort) (page : ℕ) (front rest : List Area) → IsAreaList A → IsCutBy (λ a. a.hi) A page front rest →
    NoneSoFar A rest sort page page
none_cut A sort page front rest w cut =
    record {
      remains = remains_cut A page front rest w cut;
      ends = ends_cut rest page cut.above;
      above = omega arith;
      none = λ p l h. absurd (omega arith);
    }

-- where all areas end at or below a page, no page from it on has a kind
pub free_past : (A : List Area) (page p : ℕ) → All (λ a. a.hi ≤ page) A → page ≤ p → kind_at A p ≡ None
free_past [] page p all l = refl
free_past (a ∷ rest) page p all l =
    kind_at-after a rest p (omega (arith, All-head (λ b. b.hi ≤ page) a rest all)) ∙
    free_past rest page p (All-tail (λ b. b.hi ≤ page) a rest all) l

-- the first area behind the cut is the first that ends above the page; without one, none ends above it
pub first_of_rest : (A : List Area) (page : ℕ) (front rest : List Area) (o : Option Area) → IsCutBy (λ a. a.hi) A page front rest →
    o ≡ slice_get rest 0 → MatchOption o (All (λ a. a.hi ≤ page) A) (IsFirstAbove A page)
first_of_rest A page front [] o cut e = rw e (All-same (λ a. a.hi ≤ page) A front (cut.whole ∙ append-nil front) cut.upto)
first_of_rest A page front (a ∷ rest) o cut e = rw e (record { front = front; rest = rest; cut = cut })

module _ (A : List Area) (page : ℕ) (a : Area) (w : IsAreaList A) (first : IsFirstAbove A page a) where
  -- this area and those behind it have the kinds from the page on
  pub first_remains : Remains A (a ∷ first.rest) page
  first_remains = remains_cut A page first.front (a ∷ first.rest) w first.cut

  -- it ends above the page
  pub first_ends : page < a.hi
  first_ends = All-head (λ b. page < b.hi) a first.rest first.cut.above

  -- where it starts at or below the page, the page has its kind
  pub first_kind : a.lo ≤ page → kind_at A page ≡ Some a.kind
  first_kind l = mapped_inside A a first.rest page page first_remains (omega arith) l first_ends

  -- where it starts above the page, the page has none
  pub first_none : page < a.lo → kind_at A page ≡ None
  first_none l = free_before A a first.rest page page first_remains (omega arith) l

  first_member : Contains A a
  first_member =
      subst (λ X. Contains X a) (sym first.cut.whole)
      (Contains-append_right first.front (a ∷ first.rest) a (Contains-get_or (a ∷ first.rest) 0 a (omega arith)))

  -- the pages from here on lie in this area, or in none
  pub first_lies : (hi : ℕ) → a.lo ≤ page → hi ≤ a.hi → LiesIn A a page hi
  first_lies hi l h = record { member = first_member; from = l; within = h }

  -- where the pages from the page up to `hi` lie in some area of the list, they are among this one's
  pub only_first_lies : (hi : ℕ) (b : Area) → page < hi → LiesIn A b page hi → (a.lo ≤ page) × (hi ≤ a.hi)
  only_first_lies hi b l lies =
      let mine : kind_at A page ≡ Some b.kind =
      kind_at-member A b page w lies.member lies.from (omega (arith, lies.within)) in
      let low : a.lo ≤ page =
      elim (cases_lt page a.lo) [ inl lt ↦ absurd (let none = first_none lt in cc) | inr ge ↦ ge ] in
      let same : Some a.kind ≡ Some b.kind = sym (first_kind low) ∙ mine in
      let high : hi ≤ a.hi =
      elim (cases_lt a.hi hi) [
        | inl lt ↦
            absurd (after_member A a w first_member
            (kind_at-member A b a.hi w lies.member (omega (arith, lies.from, first_ends)) (omega (arith, lies.within)) ∙ sym same))
        | inr ge ↦ ge
      ] in
      (low, high)

-- where all areas end at or below a page, pages from it on lie in no area
pub none_lies : (A : List Area) (page hi : ℕ) → page < hi → All (λ a. a.hi ≤ page) A → (b : Area) → LiesIn A b page hi → ⊥
none_lies A page hi l all b lies =
    absurd (omega (arith, All-contains (λ a. a.hi ≤ page) A b all lies.member, lies.within))
