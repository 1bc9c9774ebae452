-- What a change of protection over the area that its caller holds comes to: a refusal where the area is sealed, as
-- mseal(2) says; else more rows or fewer, or one of four ways that keep their number, with the call's reply. The four
-- are those of `FourCases` of `space_model`; that no other way keeps it is its law `simple_protects_are_of_four_kinds`.
use Rattle.std.specs.Prelude.{ℕ, ◌≡◌, ◌≢◌, ◌<◌, ◌≤◌, IsTrue, false, Option, Some, None, List}
use Rattle.page_types.specs.declared.calls.Kind.{Kind}
use Rattle.page_types.specs.declared.calls.Call.{Call}
use Rattle.page_types.specs.declared.calls.Reply.{Reply}
use Rattle.page_types.specs.declared.calls.Reply.TheVariants.{Zero, Refused}
use Rattle.page_types.specs.declared.calls.Why.TheVariants.{Eperm}
use Rattle.page_types.specs.declared.pages.Span.{Span}
use Rattle.space_model.specs.declared.areas.Area.{Area}
use Rattle.space_model.specs.declared.entries.Under.TheVariants.{Area as OverArea}
use Rattle.space_model.specs.Areas.{kind_at}
use Rattle.space_model.specs.Held.{kind_before, IsSimple}
use Rattle.space_model.specs.Laws.{FourCases}
use Rattle.area_rows.specs.declared.area.AreaPlan.{AreaPlan}
use Rattle.area_rows.specs.declared.area.AreaPlan.TheVariants.{NotSimple, Sealed, Same, SetKind, MoveStart}
use Rattle.area_guard.specs.declared.guard.Change.{Change}
use Rattle.area_rows.specs.declared.row.Row.{Row}
use Rattle.area_rows.specs.OneStore.{IsOneStore}
use Rattle.area_rows.specs.Callers.{CallerView, MayNumber, IsReadRound, Shows}

-- all these pages are mapped with one kind
abbrev pub IsOneKind : List Area → ℕ → ℕ → Type 0
IsOneKind A lo hi = (kind : Kind) × ((page : ℕ) → lo ≤ page → page < hi → kind_at A page ≡ Some kind)

-- the row is an area of the list, with these kinds before it and behind it
pub record IsAmong (A : List Area) (a : Area) (row : Row) (old : Kind) (before behind : Option Kind) : Type 0 where
  pub lo : a.lo ≡ row.lo
  pub hi : a.hi ≡ row.hi
  pub kind : a.kind ≡ old
  pub left : kind_before A row.lo ≡ before
  pub right : kind_at A row.hi ≡ behind

-- a change is of the pages and kinds of another
pub record IsLike (c d : Change) : Type 0 where
  pub span : d.span ≡ c.span
  pub place : d.place ≡ c.place
  pub old : d.old ≡ c.old
  pub new : d.new ≡ c.new

-- the way and the reply were chosen by the row, the slot next to its own, and the kinds beside it, for a change that
-- names the row's slot
abbrev pub IsChosen : Row → ℕ → Change → Option Kind → Option Kind → AreaPlan → Type 0
IsChosen row next c before behind NotSimple =
    (c.old.sealed ≡ false) × ((A : List Area) (a : Area) → IsAmong A a row c.old before behind → ¬ FourCases A a c.place.lo c.place.hi c.new)
IsChosen row next c before behind (Sealed reply) = IsTrue c.old.sealed × (reply ≡ Refused (Eperm c.place.lo))
IsChosen row next c before behind (Same reply) = (c.old.sealed ≡ false) × (c.new ≡ c.old) × (reply ≡ Zero)
IsChosen row next c before behind (SetKind d reply) =
    (c.old.sealed ≡ false) × IsLike c d × IsOneStore c.index next row before behind d × (c.new ≢ c.old) × (d.index ≡ c.index) × (reply ≡ Zero)
IsChosen row next c before behind (MoveStart d reply) =
    (c.old.sealed ≡ false) × IsLike c d × IsOneStore c.index next row before behind d × (c.new ≢ c.old) × (reply ≡ Zero)

-- the row that a plan changes
abbrev pub planned_change : AreaPlan → Option Change
planned_change NotSimple = None
planned_change (Sealed reply) = None
planned_change (Same reply) = None
planned_change (SetKind c reply) = Some c
planned_change (MoveStart c reply) = Some c

-- a caller has chosen a change, which is one, and may number its call with this reply over the area that it holds
pub record MayChange (c : CallerView) (call : Call) (span : Span) (change : Change) (reply : Reply) : Type 0 where
  pub number : MayNumber c call reply (OverArea span)
  pub said : reply ≡ Zero
  pub chosen : c.change ≡ Some change
  pub differs : change.new ≢ change.old
  pub round : IsReadRound c.seat change

-- what a caller that holds the area may do: not this, where the pages have one kind and the number of rows would
-- change; or number the call, refused for its first page where the area is sealed, and then store the row, where one
-- changes
abbrev pub IsAreaPlan : CallerView → Call → Span → ℕ → ℕ → AreaPlan → Type 0
IsAreaPlan c call span lo hi NotSimple = Shows c.seat (λ _ state. IsOneKind state lo hi × ¬ IsSimple state call)
IsAreaPlan c call span lo hi (Sealed reply) =
    (c.change ≡ None) × MayNumber c call reply (OverArea span) × (reply ≡ Refused (Eperm lo))
IsAreaPlan c call span lo hi (Same reply) = (c.change ≡ None) × MayNumber c call reply (OverArea span) × (reply ≡ Zero)
IsAreaPlan c call span lo hi (SetKind change reply) = MayChange c call span change reply
IsAreaPlan c call span lo hi (MoveStart change reply) = MayChange c call span change reply
