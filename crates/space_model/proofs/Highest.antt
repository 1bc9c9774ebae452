-- The highest place of so many free pages in a window, looked for from the last area down.
use Rattle.std.proofs.Common.{◌≡◌, ℕ, ◌+◌, ◌-◌, ◌<◌, ◌≤◌, inl, inr, List, [], ◌∷◌, ◌++◌, length, take, drop, get_or, Some, None, max, min, sym, ◌∙◌, ap, subst}
use Rattle.std.proofs.Common.{arith}
use Rattle.std.proofs.lemmas.Bool.{cases_lt}
use Rattle.std.proofs.lemmas.List.{take-append-drop, drop_all}
use Rattle.std.proofs.lemmas.List.Elements.{Contains-get_or, Contains-append_right}
use Rattle.std.specs.List.{Contains}
use Rattle.page_types.specs.declared.TheConstants.{LIMIT, LOWEST}
use Rattle.space_model.specs.declared.areas.Area.{Area}
use Rattle.space_model.specs.Areas.{IsAreaList, kind_at}
use Rattle.space_model.specs.Places.{FitsAt, IsHighestFit}
use Rattle.space_model.specs.Building.{no_area}
use Rattle.space_model.specs.Cutting.{start_of, NoneAbove}
use Rattle.space_model.proofs.AreaKinds.{kind_at-after, kind_at-below, IsAbove}
use Rattle.space_model.proofs.Searching.{drop_at}
use Rattle.space_model.proofs.Simple.{member_in_range, kind_at-member}
use Rattle.space_model.proofs.FourWays.{starts_after}

above_start : (A : List Area) → IsAbove (start_of A) A
above_start [] = tt
above_start (a ∷ rest) = omega arith

-- an area between two lists is one of the whole list
pub member_between : (front : List Area) (a : Area) (rest : List Area) → Contains (front ++ a ∷ rest) a
member_between front a rest = Contains-append_right front (a ∷ rest) a (Contains-get_or (a ∷ rest) 0 a (omega arith))

-- the pages between an area and the next one are free
free_between : (front : List Area) (a : Area) (rest : List Area) (p : ℕ) → IsAreaList (front ++ a ∷ rest) → a.hi ≤ p →
    p < start_of rest → kind_at (front ++ a ∷ rest) p ≡ None
free_between [] a rest p w l h = kind_at-after a rest p l ∙ kind_at-below rest (start_of rest) p w.2 (above_start rest) h
free_between (x ∷ front) a rest p w l h =
    let m = member_between front a rest in
    kind_at-after x (front ++ a ∷ rest) p
    (omega (arith, starts_after x (front ++ a ∷ rest) a w m, (member_in_range (front ++ a ∷ rest) a w.2 m).has_page)) ∙
    free_between front a rest p w.2 l h

-- at the start each place ends at or below the window's end
pub none_above_all : (A : List Area) (window pages : ℕ) → window ≤ LIMIT → NoneAbove A window pages (length A) window
none_above_all A window pages low =
    let e : start_of (drop (length A) A) ≡ LIMIT = ap start_of (drop_all (length A) A (omega arith)) in
    record { at = omega arith; high = omega arith; ends = λ start fit. fit.high }

module _ (A : List Area) (window pages i to : ℕ) (w : IsAreaList A) (within : i < length A) (some : 0 < pages)
    (above : NoneAbove A window pages (i + 1) to) where
  here : Area
  here = get_or A i no_area

  member : Contains A here
  unfolding here
  member = Contains-get_or A i no_area within

  cut : A ≡ take i A ++ here ∷ drop (i + 1) A
  unfolding here
  cut = sym (take-append-drop i A) ∙ ap (λ x. take i A ++ x) (drop_at A i within)

  free : (p : ℕ) → here.hi ≤ p → p < to → kind_at A p ≡ None
  free p l h =
      subst (λ X. kind_at X p ≡ None) (sym cut)
      (free_between (take i A) here (drop (i + 1) A) p (subst IsAreaList cut w) l (omega (arith, above.at)))

  -- the gap behind the area at the index is long enough
  found : max here.hi LOWEST + pages ≤ to → IsHighestFit (kind_at A) window pages (to - pages)
  found l =
      record {
        fits =
            record {
              low = omega arith;
              high = omega (arith, above.high);
              free = λ p g t. free p (omega arith) (omega arith);
            };
        highest = λ other fit. omega (arith, above.ends other fit);
      }

  -- or it isn't, and then no place ends above the area
  ends_below : to < max here.hi LOWEST + pages → (start : ℕ) → FitsAt (kind_at A) window pages start → start + pages ≤ here.lo
  ends_below l start fit =
      let n : here.lo < here.hi = (member_in_range A here w member).has_page in
      elim (cases_lt here.lo (start + pages)) [
        | inl lt ↦
            elim (cases_lt start here.hi) [
              | inl inside ↦
                  let p : ℕ = max start here.lo in
                  let none : kind_at A p ≡ None = fit.free p (omega arith) (omega arith) in
                  let mapped : kind_at A p ≡ Some here.kind = kind_at-member A here p w member (omega arith) (omega arith) in
                  cc
              | inr past ↦ absurd (omega (arith, above.ends start fit, fit.low))
            ]
        | inr ge ↦ ge
      ]

  next : to < max here.hi LOWEST + pages → NoneAbove A window pages i (min to here.lo)
  unfolding here
  next l =
      let e : start_of (drop i A) ≡ here.lo = ap start_of (drop_at A i within) in
      record {
        at = omega arith;
        high = omega (arith, above.high);
        ends = λ start fit. omega (arith, above.ends start fit, ends_below l start fit);
      }

-- the same, for an area that is the last one below a later index
pub highest_here : (A : List Area) (window pages k i to : ℕ) (a : Area) → k ≡ i + 1 → IsAreaList A → i < length A → 0 < pages →
    NoneAbove A window pages k to → a ≡ get_or A i no_area → max a.hi LOWEST + pages ≤ to → IsHighestFit (kind_at A) window pages (to - pages)
unfolding here
highest_here A window pages k i to a e w within some above is l =
    found A window pages i to w within some (rw e at above) (rw is at l)

-- where the gap above an area is too short, each place ends at or below the area's start
pub none_above_next : (A : List Area) (window pages k i to : ℕ) (a : Area) → k ≡ i + 1 → IsAreaList A → i < length A → 0 < pages →
    NoneAbove A window pages k to → a ≡ get_or A i no_area → to < max a.hi LOWEST + pages → NoneAbove A window pages i (min to a.lo)
unfolding here
none_above_next A window pages k i to a e w within some above is l =
    rw is (next A window pages i to w within some (rw e at above) (rw is at l))

-- below the first area
pub highest_below : (A : List Area) (window pages to : ℕ) → IsAreaList A → NoneAbove A window pages 0 to → LOWEST + pages ≤ to →
    IsHighestFit (kind_at A) window pages (to - pages)
highest_below A window pages to w above l =
    record {
      fits =
          record {
            low = omega arith;
            high = omega (arith, above.high);
            free = λ p g t. kind_at-below A (start_of A) p w (above_start A) (omega (arith, above.at));
          };
      highest = λ other fit. omega (arith, above.ends other fit);
    }

-- where the last gap is too short too, no place fits
pub no_fit : (A : List Area) (window pages to : ℕ) → NoneAbove A window pages 0 to → to < LOWEST + pages → (start : ℕ) →
    FitsAt (kind_at A) window pages start → ⊥
no_fit A window pages to above l start fit = absurd (omega (arith, above.ends start fit, fit.low))
