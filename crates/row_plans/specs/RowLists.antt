-- What a list of row words shows: the kind of each page. Rows are areas and gaps in order, as the lines of
-- proc_pid_maps(5) and what lies between them. `ShowFrom` takes the kinds as a function from pages, so that rows which
-- lag behind a history at some pages are said by another function and not by another definition.
use Rattle.std.specs.Prelude.{ℕ, ◌≡◌, ◌≢◌, ◌<◌, ◌≤◌, nat_lt, if◌then◌else◌, Option, Some, None, List, [], ◌∷◌, ◌++◌}
use Rattle.page_types.specs.declared.TheConstants.{LIMIT}
use Rattle.page_types.specs.declared.calls.Kind.{Kind}
use Rattle.space_model.specs.declared.areas.Area.{Area}
use Rattle.row_plans.specs.RowWords.{row_start, row_kind, row_word}

-- the page where these rows start, or LIMIT where there is none
abbrev pub rows_start : List ℕ → ℕ
rows_start [] = LIMIT
rows_start (word ∷ rest) = row_start word

-- the next row isn't of the same kind, a gap counting as a kind
abbrev pub DiffersFrom : ℕ → List ℕ → Type 0
DiffersFrom word [] = Unit {0}
DiffersFrom word (next ∷ rest) = row_kind word ≢ row_kind next

-- from a page on the rows rise up to LIMIT, neighbours differ, and each row's pages have its kind
abbrev pub ShowFrom : ℕ → List ℕ → (ℕ → Option Kind) → Type 0
ShowFrom page [] kinds = page ≡ LIMIT
ShowFrom page (word ∷ rest) kinds =
    (row_start word ≡ page) × (page < rows_start rest) × DiffersFrom word rest ×
    ((p : ℕ) → page ≤ p → p < rows_start rest → kinds p ≡ row_kind word) × ShowFrom (rows_start rest) rest kinds

-- a gap's word is the one that is written for it, so there is one word for each row
abbrev pub IsBareGap : ℕ → Type 0
IsBareGap word = row_kind word ≡ None → word ≡ row_word (row_start word) None

-- the areas before others, with one more where the row is no gap
abbrev pub with_row : ℕ → Option Kind → ℕ → List Area → List Area
with_row lo None hi rest = rest
with_row lo (Some kind) hi rest = record { lo = lo; hi = hi; kind = kind } ∷ rest

-- the areas that rows stand for
abbrev pub areas_from : List ℕ → List Area
areas_from [] = []
areas_from (word ∷ rest) = with_row (row_start word) (row_kind word) (rows_start rest) (areas_from rest)

-- a gap between two pages, if there is one
abbrev pub gap_rows : ℕ → ℕ → List ℕ
gap_rows lo hi = if nat_lt lo hi then row_word lo None ∷ [] else []

-- the row words of an area list, from a page on
abbrev pub rows_from : ℕ → List Area → List ℕ
rows_from page [] = gap_rows page LIMIT
rows_from page (a ∷ rest) = gap_rows page a.lo ++ row_word a.lo (Some a.kind) ∷ rows_from a.hi rest
