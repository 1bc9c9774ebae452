-- How the bodies of this crate find the areas round a page, and leave those alone that a change doesn't touch: the list
-- is cut by halving, the areas at the place become others, and the rows are counted between the two cuts. This is the
-- project's own way. Private functions speak of it, and `row_plans` of `last_end`; what callers see is the kinds of
-- pages.
use Rattle.std.specs.Prelude.{ℕ, ◌+◌, ◌<◌, ◌≤◌, ◌≡◌, ◌⊎◌, true, false, max, Option, Some, None, MatchOption, List, [], ◌∷◌, ◌++◌, length, drop, All}
use Rattle.std.specs.List.{splice}
use Rattle.page_types.specs.declared.TheConstants.{LIMIT}
use Rattle.space_model.specs.declared.areas.Area.{Area}
use Rattle.space_model.specs.declared.paint.Patch.{Patch}
use Rattle.space_model.specs.declared.sorts.Sort.{Sort}
use Rattle.space_model.specs.Sorts.{is_sort}
use Rattle.space_model.specs.Areas.{gap_between, row_count, kind_at, HasKinds}
use Rattle.space_model.specs.Effect.{patched}
use Rattle.space_model.specs.Places.{FitsAt}

-- the list in two parts: the areas up to a page, by a number of each, and those above it
pub record IsCutBy (number : Area → ℕ) (A : List Area) (page : ℕ) (front rest : List Area) : Type 0 where
  pub whole : A ≡ front ++ rest
  pub upto : All (λ a. number a ≤ page) front
  pub above : All (λ a. page < number a) rest

-- the area is the first one of the list that ends above a page
pub record IsFirstAbove (A : List Area) (page : ℕ) (a : Area) : Type 0 where
  pub front : List Area
  pub rest : List Area
  pub cut : IsCutBy (λ b. b.hi) A page front (a ∷ rest)

-- what is found of a sort from a page on, up to the end of an area before which the pages are free: its lowest page, or
-- that neither the free pages nor the area's are of the sort
abbrev pub IsFound : Sort → ℕ → Area → Option ℕ → Type 0
IsFound sort at a found =
    MatchOption found
    ((at < a.lo → is_sort sort None ≡ false) × (is_sort sort (Some a.kind) ≡ false))
    (λ page.
    ((page ≡ at) × (at < a.lo) × (is_sort sort None ≡ true)) ⊎
    ((page ≡ max a.lo at) × (at < a.lo → is_sort sort None ≡ false) × (is_sort sort (Some a.kind) ≡ true)))

-- the page behind the last area, or this one where there is none
abbrev pub end_of : ℕ → List Area → ℕ
end_of page [] = page
end_of page (a ∷ rest) = end_of a.hi rest

-- the first page of the first area, or LIMIT where there is none
abbrev pub start_of : List Area → ℕ
start_of [] = LIMIT
start_of (a ∷ rest) = a.lo

-- the gaps between a page, the areas and another page
abbrev pub gaps_between : ℕ → List Area → ℕ → ℕ
gaps_between from [] to = gap_between from to
gaps_between from (a ∷ rest) to = gap_between from a.lo + gaps_between a.hi rest to

-- the areas with these gaps
abbrev pub rows_between : ℕ → List Area → ℕ → ℕ
rows_between from list to = length list + gaps_between from list to

-- the page where the last patch ends, or this one where there is none
abbrev pub last_end : ℕ → List Patch → ℕ
last_end page [] = page
last_end page (p ∷ rest) = last_end p.hi rest

-- after patches there are so many rows, and these areas in the place of those from one index up to another
pub record IsPlan (A : List Area) (patches : List Patch) (first end rows : ℕ) (middle : List Area) : Type 0 where
  pub ordered : first ≤ end
  pub within : end ≤ length A
  pub list : HasKinds (patched patches (kind_at A)) (splice A first end middle)
  pub counted : rows ≡ row_count (splice A first end middle)

-- each place of so many free pages ends at or before a page that no area from an index on starts before
pub record NoneAbove (A : List Area) (window pages i to : ℕ) : Type 0 where
  -- it isn't above the start of the first area that was passed
  pub at : to ≤ start_of (drop i A)
  -- it isn't above the window's end
  pub high : to ≤ window
  -- each place ends at or below it
  pub ends : (start : ℕ) → FitsAt (kind_at A) window pages start → start + pages ≤ to
