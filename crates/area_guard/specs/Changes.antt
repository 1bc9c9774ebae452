-- The change of one row: what a Protect leaves that changes no number of rows. It is the speculative mprotect of Kogan,
-- Dice and Issa, EuroSys 2020: pages of one area get another kind, so the area changes whole, or the boundary to a
-- neighbour moves, and either is one store. Its caller holds the area and a page on each side, so calls elsewhere go
-- on.
use Rattle.std.specs.Prelude.{ℕ, ◌≡◌, ◌≢◌, ◌<◌, ◌≤◌, ◌+◌, ◌-◌, ◌*◌, ◌⊎◌, min, if◌then◌else◌, Option, Some, List, slice_index, slice_set}
use Rattle.page_types.specs.declared.TheConstants.{LIMIT}
use Rattle.page_types.specs.declared.calls.Kind.{Kind}
use Rattle.page_types.specs.declared.pages.Span.{Span}
use Rattle.space_model.specs.declared.areas.Area.{Area}
use Rattle.space_model.specs.Areas.{is_within, kind_at}
use Rattle.lock_core.specs.declared.range.Mode.TheVariants.{Writer}
use Rattle.lock_core.specs.declared.range.Held.{Held}
use Rattle.area_guard.specs.declared.guard.Change.{Change}
use Rattle.row_plans.specs.RowWords.{row_start, row_kind, row_word}
use Rattle.area_guard.specs.Rows.{nb_in, RowsShow, IsSlot, IsRowOf}

-- the page lies in the span
abbrev pub IsIn : Span → ℕ → Type 0
IsIn span page = (span.lo ≤ page) × (page < span.hi)

-- the span, held as a writer
abbrev pub alone : Span → Held
alone span = record { range = record { lo = span.lo; hi = span.hi }; mode = Writer }

-- the word that a change stores
abbrev pub new_word : Change → ℕ
new_word c = row_word c.start (Some c.kind)

-- the pages that change are held
abbrev pub IsInside : Change → Type 0
IsInside c = (c.span.lo ≤ c.place.lo) × (c.place.hi ≤ c.span.hi)

-- the kinds after a change
abbrev pub with_change : Change → (ℕ → Option Kind) → ℕ → Option Kind
with_change c kinds page = if is_within c.place.lo c.place.hi page then Some c.new else kinds page

-- a call that holds this span makes this change from one area list to another: its pages had one kind and get another,
-- and all others keep theirs
pub record IsChange (state : List Area) (span : Span) (c : Change) (left : List Area) : Type 0 where
  pub held : c.span ≡ span
  pub inside : IsInside c
  pub before : (page : ℕ) → IsIn c.place page → kind_at state page ≡ Some c.old
  pub after : (page : ℕ) → IsIn c.place page → kind_at left page ≡ Some c.new
  pub elsewhere : (page : ℕ) → ¬ IsIn c.place page → kind_at left page ≡ kind_at state page

-- the row of a change may get its new word: the rows then show the changed kinds. Its start moves over held pages
-- alone, and from a page that is held on both sides; and it gets another kind only where all its pages are held
pub record MayReplace (words : List ℕ) (c : Change) : Type 0 where
  pub there : c.index < 128 * nb_in words
  pub used : IsSlot words c.index
  pub up : (page : ℕ) → row_start (slice_index words (3 + c.index)) ≤ page → page < row_start (new_word c) → IsIn c.span page
  pub down : (page : ℕ) → row_start (new_word c) ≤ page → page < row_start (slice_index words (3 + c.index)) → IsIn c.span page
  pub stood : row_start (slice_index words (3 + c.index)) ≢ row_start (new_word c)
      → (page : ℕ) → (page ≡ row_start (slice_index words (3 + c.index))) ⊎ (page + 1 ≡ row_start (slice_index words (3 + c.index)))
      → IsIn c.span page
  pub recoloured : row_kind (new_word c) ≢ row_kind (slice_index words (3 + c.index))
      → (page : ℕ) → page < LIMIT → IsRowOf words page c.index → IsIn c.span page
  pub shows : (kinds : ℕ → Option Kind) → RowsShow words kinds → RowsShow (slice_set words (3 + c.index) (new_word c)) (with_change c kinds)
