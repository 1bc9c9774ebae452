-- What a call on an address space leaves, as row words: a plan says the reply and the rows before any word is stored.
-- Both are those of `Answers`, this project's profile of mmap(2) and the calls like it, at the areas that the rows
-- before stand for. The rows after are a splice of those before, and the rows as they are where nothing changes.
use Rattle.std.specs.Prelude.{ℕ, ◌≡◌, ◌<◌, ◌≤◌, ◌+◌, All, Option, Some, None, List, [], length}
use Rattle.std.specs.List.{splice}
use Rattle.page_types.specs.declared.TheConstants.{ROWS}
use Rattle.page_types.specs.declared.calls.Kind.{Kind}
use Rattle.page_types.specs.declared.calls.Call.{Call}
use Rattle.page_types.specs.declared.calls.Reply.{Reply}
use Rattle.page_types.specs.PlainReply.{plain_reply}
use Rattle.space_model.specs.declared.areas.Area.{Area}
use Rattle.space_model.specs.declared.paint.Patch.{Patch}
use Rattle.space_model.specs.Areas.{kind_at, row_count}
use Rattle.space_model.specs.Answers.{Answers, IsEffect}
use Rattle.space_model.specs.Answers.Effect.{changes}
use Rattle.row_plans.specs.declared.planning.Cut.{Cut}
use Rattle.row_plans.specs.RowLists.{ShowFrom, IsBareGap, areas_from}

-- a list of row words shows these kinds of the pages below LIMIT, and an address space has room for them
pub record PlanShows (rows : List ℕ) (kinds : ℕ → Option Kind) : Type 0 where
  pub some : 0 < length rows
  pub few : length rows ≤ ROWS
  pub show : ShowFrom 0 rows kinds
  pub gaps : All IsBareGap rows

-- a list of row words is that of the areas that it stands for
abbrev pub IsRowList : List ℕ → Type 0
IsRowList rows = PlanShows rows (kind_at (areas_from rows))

-- the place, if any, of the row of a number that is at most the number of rows, where places tell the numbers of rows
abbrev pub IsPlaceOf : {P : Type 0} → List ℕ → (P → ℕ) → ℕ → Option P → Type 0
IsPlaceOf rows number n None = n ≡ length rows
IsPlaceOf rows number n (Some at) = (number at ≡ n) × (n < length rows)

-- a list of rows in which those of a cut go and others come in their place, where places tell the numbers of rows
abbrev pub spliced : {P : Type 0} → (P → ℕ) → List ℕ → Cut P → List ℕ → List ℕ
spliced number rows cut more = splice rows (number cut.at) (number cut.at + cut.gone) more

-- no row goes and none comes, so nothing is to be written
abbrev pub LeavesRows : {P : Type 0} → Cut P → List ℕ → Type 0
LeavesRows cut more = (cut.gone ≡ 0) × (more ≡ [])

-- on an area list a call changes pages, perhaps to what they are, and this is its reply
abbrev pub ChangesPages : List Area → Call → Reply → Type 0
ChangesPages state call reply =
    (patches : List Patch) × (full : Option Reply) × (plain_reply call ≡ None) × IsEffect (kind_at state) call (changes patches reply full)

-- the plan of a call on an area list: its reply, and how many rows and which the list has that it leaves
pub record IsPlan (call : Call) (reply : Reply) (count : ℕ) (plan : List ℕ) (state : List Area) : Type 0 where
  pub left : List Area
  pub answers : Answers state call reply left
  pub counted : count ≡ row_count left
  pub shows : PlanShows plan (kind_at left)
