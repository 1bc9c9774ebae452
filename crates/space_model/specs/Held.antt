-- Which range is held when a call draws its number: none for a call that its arguments decide, the page as a reader
-- for a fault, everything for a call that may change the number of rows, and the area with a page on each side for a
-- Protect that doesn't, one that a sealed area refuses among them. The last is the speculative mprotect of Kogan, Dice
-- and Issa, EuroSys 2020; the rest is this project's own profile.
use Rattle.std.specs.Prelude.{ℕ, zero, suc, Option, None, ◌≡◌, ◌≤◌, ◌+◌, ◌-◌, ◌⊎◌, IsTrue, min, MatchOption, List, length}
use Rattle.std.specs.List.{Contains}
use Rattle.page_types.specs.declared.TheConstants.{LIMIT}
use Rattle.page_types.specs.declared.pages.Span.{Span}
use Rattle.page_types.specs.declared.calls.Kind.{Kind}
use Rattle.page_types.specs.declared.calls.Call.{Call}
use Rattle.page_types.specs.declared.calls.Call.TheVariants.{Map, Unmap, Protect, Fault, Seal, Brk, Remap}
use Rattle.page_types.specs.Pages.{page_of, end_page}
use Rattle.page_types.specs.PlainReply.{plain_reply}
use Rattle.space_model.specs.declared.areas.Area.{Area}
use Rattle.space_model.specs.declared.paint.Paint.TheVariants.{Protects}
use Rattle.space_model.specs.declared.entries.Under.{Under}
use Rattle.space_model.specs.declared.entries.Under.TheVariants.{Nothing, Reader, Area as Held, Whole}
use Rattle.space_model.specs.Areas.{kind_at, gaps_from, HasKinds}
use Rattle.space_model.specs.Effect.{patch, with_patch}

-- the pages from lo up to hi lie in this area of the list
pub record LiesIn (A : List Area) (a : Area) (lo hi : ℕ) : Type 0 where
  pub member : Contains A a
  pub from : a.lo ≤ lo
  pub within : hi ≤ a.hi

-- the kind of the page before, or none before page 0
abbrev pub kind_before : List Area → ℕ → Option Kind
kind_before A zero = None
kind_before A (suc page) = kind_at A page

-- a Protect is simple in this area: all its pages lie there, and the area is sealed, or the list that the change of the
-- pages gives, before the row limit is asked, has as many areas and as many gaps
abbrev pub IsSimpleIn : List Area → Call → Area → Type 0
IsSimpleIn A (Map addr len prot flags) a = ⊥
IsSimpleIn A (Unmap addr len) a = ⊥
IsSimpleIn A (Protect addr len prot) a =
    Contains A a × (a.lo ≤ page_of addr) × (end_page addr len ≤ a.hi) × (IsTrue a.kind.sealed
    ⊎ ((B : List Area) × HasKinds (with_patch (patch (page_of addr) (end_page addr len) (Protects prot)) (kind_at A)) B
    × (length B ≡ length A) × (gaps_from 0 B ≡ gaps_from 0 A)))
IsSimpleIn A (Fault addr access) a = ⊥
IsSimpleIn A (Seal addr len flags) a = ⊥
IsSimpleIn A (Brk base addr) a = ⊥
IsSimpleIn A (Remap addr old new may hint) a = ⊥

-- a Protect is simple
abbrev pub IsSimple : List Area → Call → Type 0
IsSimple A c = (a : Area) × IsSimpleIn A c a

-- the one page is held as a reader
abbrev pub ReadsPage : ℕ → Under → Type 0
ReadsPage page Nothing = ⊥
ReadsPage page (Reader span) = (span.lo ≡ page) × (span.hi ≡ page + 1)
ReadsPage page (Held span) = ⊥
ReadsPage page Whole = ⊥

-- the pages of the area and one page more on each side, clipped to 0 and LIMIT
pub record IsWidened (a : Area) (span : Span) : Type 0 where
  pub first : span.lo ≡ a.lo - 1
  pub end : span.hi ≡ min (a.hi + 1) LIMIT

-- an area is held as a writer
abbrev pub HoldsSomeArea : Under → Type 0
HoldsSomeArea Nothing = ⊥
HoldsSomeArea (Reader span) = ⊥
HoldsSomeArea (Held span) = Unit {0}
HoldsSomeArea Whole = ⊥

-- what is held for a call that its arguments don't decide: a fault's page as a reader, and otherwise everything; for a
-- Protect that is simple in an area also this area as a writer, with a page more on each side, clipped to 0 and LIMIT
abbrev pub FitsByState : List Area → Call → Under → Type 0
FitsByState A (Map addr len prot flags) under = under ≡ Whole
FitsByState A (Unmap addr len) under = under ≡ Whole
FitsByState A (Protect addr len prot) under =
    (under ≡ Whole) ⊎ ((a : Area) × IsSimpleIn A (Protect addr len prot) a × (span : Span) × (under ≡ Held span)
    × (span.lo ≡ a.lo - 1) × (span.hi ≡ min (a.hi + 1) LIMIT))
FitsByState A (Fault addr access) under = ReadsPage (page_of addr) under
FitsByState A (Seal addr len flags) under = under ≡ Whole
FitsByState A (Brk base addr) under = under ≡ Whole
FitsByState A (Remap addr old new may hint) under = under ≡ Whole

-- what was held fits the call on this area list
abbrev pub FitsUnder : List Area → Call → Under → Type 0
FitsUnder A c under = MatchOption (plain_reply c) (FitsByState A c under) (λ reply. under ≡ Nothing)
