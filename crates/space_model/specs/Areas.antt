-- An address space as the list of its areas: proc_pid_maps(5) has one line for each. What counts is the kind of each
-- page; the area list is the one list that has these kinds, since two areas that touch differ in kind.
use Rattle.std.specs.Prelude.{ℕ, Bool, ◌&&◌, nat_le, nat_lt, if◌then◌else◌, ◌≡◌, ◌≢◌, ◌<◌, ◌≤◌, ◌+◌, Option, Some, None, IfSome, List, [], ◌∷◌, length, take, slice_get, All}
use Rattle.page_types.specs.declared.TheConstants.{LIMIT}
use Rattle.page_types.specs.declared.calls.Kind.{Kind}
use Rattle.page_types.specs.Named.{IsNamedKind}
use Rattle.space_model.specs.declared.areas.Area.{Area}

-- the area has a page, and no page at or above LIMIT
pub record IsInRange (a : Area) : Type 0 where
  pub has_page : a.lo < a.hi
  pub below_limit : a.hi ≤ LIMIT

-- the second area starts at or after the first one's end, and differs from it in kind where the two touch
pub record MayFollow (a b : Area) : Type 0 where
  pub after : a.hi ≤ b.lo
  pub differs : a.hi ≡ b.lo → a.kind ≢ b.kind

-- proc_pid_maps(5): areas in range, sorted and disjoint, and two that touch differ in kind: the next one, if there is
-- one, may follow the first
abbrev pub IsAreaList : List Area → Type 0
IsAreaList [] = Unit {0}
IsAreaList (a ∷ rest) = IsInRange a × IfSome (slice_get rest 0) (MayFollow a) × IsAreaList rest

-- the areas before this index are an area list, and with the one at the index they aren't
pub record IsFirstWrong (list : List Area) (index : ℕ) : Type 0 where
  pub within : index < length list
  pub right_before : IsAreaList (take index list)
  pub wrong : ¬ IsAreaList (take (index + 1) list)

-- areas in range and in order from a page on, as maps lines have them; two that touch may be of one kind
abbrev pub IsInOrder : ℕ → List Area → Type 0
IsInOrder from [] = Unit {0}
IsInOrder from (a ∷ rest) = (from ≤ a.lo) × IsInRange a × IsInOrder a.hi rest

-- the page is one of those from lo up to hi
abbrev pub is_within : ℕ → ℕ → ℕ → Bool
is_within lo hi page = nat_le lo page && nat_lt page hi

-- the kind of the area in which the page lies, or none
abbrev pub kind_at : List Area → ℕ → Option Kind
kind_at [] page = None
kind_at (a ∷ rest) page = if is_within a.lo a.hi page then Some a.kind else kind_at rest page

-- no kind of the list has a bit but the named ones
abbrev pub HasNamedKinds : List Area → Type 0
HasNamedKinds = All (λ a. IsNamedKind a.kind)

-- the area list whose pages have these kinds; there is only one
pub record HasKinds (kinds : ℕ → Option Kind) (list : List Area) : Type 0 where
  pub areas : IsAreaList list
  pub kinds_are : (page : ℕ) → kind_at list page ≡ kinds page

-- a gap between two pages, if there is one
abbrev pub gap_between : ℕ → ℕ → ℕ
gap_between lo hi = if nat_lt lo hi then 1 else 0

-- the gaps between a page and LIMIT
abbrev pub gaps_from : ℕ → List Area → ℕ
gaps_from page [] = gap_between page LIMIT
gaps_from page (a ∷ rest) = gap_between page a.lo + gaps_from a.hi rest

-- areas and gaps between 0 and LIMIT; this project's own count, 1 for an empty list
abbrev pub row_count : List Area → ℕ
row_count list = length list + gaps_from 0 list

-- only one area list has given kinds
abbrev pub OnlyOneHasKinds : List Area → List Area → Type 0
OnlyOneHasKinds A B = IsAreaList A → IsAreaList B → ((page : ℕ) → kind_at A page ≡ kind_at B page) → A ≡ B
