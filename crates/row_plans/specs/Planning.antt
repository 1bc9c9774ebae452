-- How the rows that come where a call changes pages are put together, from left to right: stretches of pages are
-- appended in order, and one whose kind is the last row's lengthens that row. Each step goes on from the page and the
-- old row that the one before has come to. Only private functions speak of this; what callers see is the kinds of pages
-- and the reply.
use Rattle.std.specs.Prelude.{ℕ, Bool, false, ◌≡◌, ◌<◌, ◌≤◌, ◌+◌, ◌-◌, min, if◌then◌else◌, Option, Some, None, List, [], ◌∷◌, length, drop, slice_index}
use Rattle.page_types.specs.declared.calls.Kind.{Kind}
use Rattle.page_types.specs.declared.calls.Reply.{Reply}
use Rattle.space_model.specs.declared.areas.Area.{Area}
use Rattle.space_model.specs.declared.judged.Change.{Change}
use Rattle.space_model.specs.Areas.{kind_at, row_count}
use Rattle.space_model.specs.declared.paint.Paint.{Paint}
use Rattle.space_model.specs.Effect.{painted}
use Rattle.space_model.specs.Judges.{Makes, IsNamedPaint}
use Rattle.space_model.specs.Places.{FitsAt}
use Rattle.space_model.specs.Starts.{same_option}
use Rattle.page_types.specs.Named.{IsNamedOption}
use Rattle.row_plans.specs.declared.plan.Planned.{Planned}
use Rattle.row_plans.specs.declared.planning.Come.{Come}
use Rattle.row_plans.specs.Plans.{PlanShows, IsPlaceOf, spliced}
use Rattle.row_plans.specs.RowWords.{row_start, row_kind, row_word}
use Rattle.row_plans.specs.RowLists.{DiffersFrom, rows_start}

-- the page where these rows start, or the page where they end where there is none
abbrev pub start_or : List ℕ → ℕ → ℕ
start_or [] end = end
start_or (word ∷ rest) end = row_start word

-- rows show these kinds from one page up to another
abbrev pub ShowTo : ℕ → List ℕ → ℕ → (ℕ → Option Kind) → Type 0
ShowTo page [] end kinds = page ≡ end
ShowTo page (word ∷ rest) end kinds =
    (row_start word ≡ page) × (page < start_or rest end) × DiffersFrom word rest ×
    ((p : ℕ) → page ≤ p → p < start_or rest end → kinds p ≡ row_kind word) × ShowTo (start_or rest end) rest end kinds

-- there is a last row, and it is of that kind
abbrev pub ends_with : List ℕ → Option Kind → Bool
ends_with [] kind = false
ends_with (word ∷ []) kind = same_option (row_kind word) kind
ends_with (word ∷ next ∷ rest) kind = ends_with (next ∷ rest) kind

-- the rows with a stretch of a kind at their end: a new row, unless the last one is of that kind
abbrev pub put : List ℕ → ℕ → Option Kind → List ℕ
put [] page kind = row_word page kind ∷ []
put (word ∷ []) page kind = if same_option (row_kind word) kind then word ∷ [] else word ∷ row_word page kind ∷ []
put (word ∷ next ∷ rest) page kind = word ∷ put (next ∷ rest) page kind

-- the next of the rows behind isn't of the kind of the last row
abbrev pub GoesOn : List ℕ → List ℕ → Type 0
GoesOn rows behind = (next : ℕ) (rest : List ℕ) → behind ≡ next ∷ rest → ends_with rows (row_kind next) ≡ false

-- what becomes of the kind of a page that is painted, or stays as it is
abbrev pub repainted : Option Paint → Option Kind → Option Kind
repainted None kind = kind
repainted (Some paint) kind = painted paint kind

-- and if it is painted, by no bit but the named ones
abbrev pub IsNamedRepaint : Option Paint → Type 0
IsNamedRepaint None = Unit {0}
IsNamedRepaint (Some paint) = IsNamedPaint paint

-- so many of the rows start before a page
pub record StartBefore (rows : List ℕ) (page count : ℕ) : Type 0 where
  pub there : count ≤ length rows
  pub ahead : page ≤ rows_start (drop count rows)
  pub behind : 0 < count → rows_start (drop (count - 1) rows) < page

-- how many rows start before the page up to which they were gone through, where places tell the numbers of rows
abbrev pub come_to : {P : Type 0} → (P → ℕ) → Come P → ℕ
come_to number come = number come.at + come.gone

-- the rows were gone through up to a page
pub record IsCome {P : Type 0} (rows : List ℕ) (number : P → ℕ) (page : ℕ) (come : Come P) : Type 0 where
  pub before : StartBefore rows page (come_to number come)
  pub kind : 0 < come_to number come → come.kind ≡ row_kind (slice_index rows (come_to number come - 1))
  pub named : IsNamedOption come.kind
  pub next : IsPlaceOf rows number (come_to number come) come.next
  pub end : come.end ≡ rows_start (drop (come_to number come) rows)

-- 1 where a page, before which so many rows start, isn't the first of the next row
abbrev pub part_left : List ℕ → ℕ → ℕ → ℕ
part_left rows page count = min 1 (rows_start (drop count rows) - page)

-- no place of so many free pages in the window ends above a page
abbrev pub NoneEndsAbove : (ℕ → Option Kind) → ℕ → ℕ → ℕ → Type 0
NoneEndsAbove kinds window pages end = (s : ℕ) → FitsAt kinds window pages s → s + pages ≤ end

-- what a change of an area list leaves as row words: its reply, and how many rows and which the list has that it leaves
pub record IsMade (change : Change) (reply : Reply) (count : ℕ) (plan : List ℕ) (state : List Area) : Type 0 where
  pub left : List Area
  pub made : Makes state change reply left
  pub counted : count ≡ row_count left
  pub shows : PlanShows plan (kind_at left)

-- a plan leaves the rows as they are, where places tell the numbers of rows
pub record IsUnchanged {P : Type 0} (rows : List ℕ) (number : P → ℕ) (plan : Planned P) (more : List ℕ) : Type 0 where
  pub at : number plan.cut.at < length rows
  pub counted : plan.rows ≡ length rows
  pub same : spliced number rows plan.cut more ≡ rows
