-- What a search over the areas in order knows when it has come to one of them.
use Rattle.std.proofs.Common.{◌≡◌, ℕ, ◌+◌, ◌<◌, ◌≤◌, inl, inr, List, [], ◌∷◌, length, drop, get_or, add-one, drop-cons, Some, None, min, max, sym, ◌∙◌, ap}
use Rattle.std.proofs.Common.{subst, refl, arith}
use Rattle.std.proofs.lemmas.Bool.{cases_lt}
use Rattle.space_model.specs.declared.areas.Area.{Area}
use Rattle.space_model.specs.declared.sorts.Sort.{Sort}
use Rattle.space_model.specs.Areas.{IsAreaList, kind_at}
use Rattle.space_model.specs.Building.{no_area}
use Rattle.space_model.specs.Cutting.{IsFound}
use Rattle.space_model.specs.Sorts.{is_sort, NoneOf, IsEnd}
use Rattle.space_model.proofs.AreaKinds.{kind_at-here, kind_at-after, kind_at-below}

-- the areas from an index on, the first one apart
pub drop_at : (A : List Area) (i : ℕ) → i < length A → drop i A ≡ get_or A i no_area ∷ drop (i + 1) A
drop_at A i l = rw (add-one, drop-cons A i no_area) refl

-- the areas that are left are in order and have the kinds from a page on
pub record Remains (A left : List Area) (from : ℕ) : Type 0 where
  -- the areas that are left are an area list
  pub areas : IsAreaList left
  -- from the page on they give each page its kind
  pub kinds : (p : ℕ) → from ≤ p → kind_at left p ≡ kind_at A p

-- at the start all areas are left
pub remains_all : (A : List Area) (from : ℕ) → IsAreaList A → Remains A A from
remains_all A from w = record { areas = w; kinds = λ p l. refl }

-- past the next area
pub remains_next : (A : List Area) (a : Area) (left : List Area) (from to : ℕ) →
    Remains A (a ∷ left) from → from ≤ to → a.hi ≤ to → Remains A left to
remains_next A a left from to r l h =
    record { areas = r.areas.2; kinds = λ p g. sym (kind_at-after a left p (omega arith)) ∙ r.kinds p (omega arith) }

-- the pages before the next area are free
pub free_before : (A : List Area) (a : Area) (left : List Area) (from p : ℕ) →
    Remains A (a ∷ left) from → from ≤ p → p < a.lo → kind_at A p ≡ None
free_before A a left from p r l h =
    sym (r.kinds p l) ∙ kind_at-below (a ∷ left) a.lo p r.areas (omega arith) h

-- and those of the next area are mapped
pub mapped_inside : (A : List Area) (a : Area) (left : List Area) (from p : ℕ) →
    Remains A (a ∷ left) from → from ≤ p → a.lo ≤ p → p < a.hi → kind_at A p ≡ Some a.kind
mapped_inside A a left from p r l low high = sym (r.kinds p l) ∙ kind_at-here a left p low high

-- the first of the areas that are left ends above a page
abbrev pub EndsAbove : ℕ → List Area → Type 0
EndsAbove page [] = Unit {0}
EndsAbove page (a ∷ rest) = page < a.hi

ends_next : (a : Area) (rest : List Area) → IsAreaList (a ∷ rest) → EndsAbove a.hi rest
ends_next a [] w = tt
ends_next a (b ∷ rest) w = omega (arith, w.1.after, w.2.0.has_page)

-- no page so far is of the sort, and these areas are left
pub record NoneSoFar (A left : List Area) (sort : Sort) (from at : ℕ) : Type 0 where
  -- these areas are left from the page on
  pub remains : Remains A left at
  -- the first of them ends above it
  pub ends : EndsAbove at left
  -- the page isn't below the start
  pub above : from ≤ at
  -- no page up to it is of the sort
  pub none : NoneOf (kind_at A) sort from at

module _ (A : List Area) (sort : Sort) (a : Area) (left : List Area) (lo hi at : ℕ) (o : lo ≤ hi)
    (so : NoneSoFar A (a ∷ left) sort lo at) where
  -- no page of the area is of the sort, nor one of the gap before it
  pub none_next : IsFound sort at a None → NoneSoFar A left sort lo a.hi
  none_next f =
      record {
        remains = remains_next A a left at a.hi so.remains (omega (arith, so.ends)) (omega arith);
        ends = ends_next a left so.remains.areas;
        above = omega (arith, so.above, so.ends);
        none = λ p low high.
            elim (cases_lt p at) [
              | inl lt ↦ so.none p low lt
              | inr ge ↦
                  elim (cases_lt p a.lo) [
                    | inl free ↦ ap (is_sort sort) (free_before A a left at p so.remains ge free) ∙ f.0 (omega arith)
                    | inr mapped ↦ ap (is_sort sort) (mapped_inside A a left at p so.remains ge mapped high) ∙ f.1
                  ]
            ];
      }

  -- the page that is found, or `hi` where that is lower, is where the search ends
  pub end_found : (page : ℕ) → IsFound sort at a (Some page) → IsEnd (kind_at A) sort lo hi (min page hi)
  end_found page (inl (e, free, is)) =
      record {
        from = omega (arith, so.above);
        within = omega arith;
        such = λ l.
            let here : min page hi ≡ at = omega arith in
            ap (λ p. is_sort sort (kind_at A p)) here ∙
            ap (is_sort sort) (free_before A a left at at so.remains (omega arith) free) ∙ is;
        none_below = λ p low high. so.none p low (omega arith);
      }
  end_found page (inr (e, gap, is)) =
      record {
        from = omega (arith, so.above);
        within = omega arith;
        such = λ l.
            let here : min page hi ≡ max a.lo at = omega arith in
            ap (λ p. is_sort sort (kind_at A p)) here ∙
            ap (is_sort sort)
            (mapped_inside A a left at (max a.lo at) so.remains (omega arith) (omega arith)
            (omega (arith, so.ends, so.remains.areas.0.has_page))) ∙ is;
        none_below = λ p low high.
            elim (cases_lt p at) [
              | inl lt ↦ so.none p low lt
              | inr ge ↦ ap (is_sort sort) (free_before A a left at p so.remains ge (omega arith)) ∙ gap (omega arith)
            ];
      }

-- where no page up to `hi` is of the sort, the search ends there
pub end_none : (A left : List Area) (sort : Sort) (lo hi at : ℕ) → lo ≤ hi → NoneSoFar A left sort lo at → hi ≤ at →
    IsEnd (kind_at A) sort lo hi hi
end_none A left sort lo hi at o so l =
    record {
      from = o;
      within = omega arith;
      such = λ below. absurd (omega arith);
      none_below = λ p low high. so.none p low (omega arith);
    }

-- the same, where no page so far is of a sort
pub none_left : (A left : List Area) (sort : Sort) (i from at : ℕ) → i < length left → NoneSoFar A (drop i left) sort from at →
    NoneSoFar A (get_or left i no_area ∷ drop (i + 1) left) sort from at
none_left A left sort i from at l so = subst (λ more. NoneSoFar A more sort from at) (drop_at left i l) so
