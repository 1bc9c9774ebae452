-- The one store by which a Protect within an area changes it, in terms of the area's row as its caller has read it: the
-- speculative mprotect of Kogan, Dice and Issa, EuroSys 2020. What the store does to the kinds of pages is `IsChange`
-- of `area_guard`.
use Rattle.std.specs.Prelude.{ℕ, ◌≡◌, ◌≢◌, ◌<◌, ◌+◌, ◌-◌, min, Option, Some}
use Rattle.page_types.specs.declared.TheConstants.{LIMIT}
use Rattle.page_types.specs.declared.calls.Kind.{Kind}
use Rattle.page_types.specs.declared.pages.Span.{Span}
use Rattle.area_guard.specs.declared.guard.Change.{Change}
use Rattle.area_rows.specs.declared.row.Row.{Row}

-- the three ways in which one store changes pages of an area, with the slot of its row and the next one, and the kinds
-- of the page before it and of the page behind it, None where there is none: all its pages get a kind that neither has;
-- its first pages go to the area before it; its last pages go to the area behind it
pub data IsOneStore (slot next : ℕ) (row : Row) (before behind : Option Kind) (c : Change) : Type 0 where
  whole : c.index ≡ slot → c.start ≡ row.lo → c.kind ≡ c.new
      → c.place.lo ≡ row.lo → c.place.hi ≡ row.hi → before ≢ Some c.new → behind ≢ Some c.new
      → IsOneStore slot next row before behind c
  first_part : c.index ≡ slot → c.start ≡ c.place.hi → c.kind ≡ c.old
      → c.place.lo ≡ row.lo → c.place.hi < row.hi → before ≡ Some c.new
      → IsOneStore slot next row before behind c
  last_part : c.index ≡ next → c.start ≡ c.place.lo → c.kind ≡ c.new
      → row.lo < c.place.lo → c.place.hi ≡ row.hi → behind ≡ Some c.new
      → IsOneStore slot next row before behind c

-- the pages of a row and one page more on each side, where there is one
abbrev pub IsRound : Row → Span → Type 0
IsRound row span = (span.lo ≡ row.lo - 1) × (span.hi ≡ min (row.hi + 1) LIMIT)
