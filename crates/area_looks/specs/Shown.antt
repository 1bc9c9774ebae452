-- What a caller sees of the areas of a span that it holds, as proc_pid_maps(5) prints them, clipped to the span. It is
-- so at every moment at which the caller goes on holding the span, and at one of them it was; so the list is the state
-- of one moment in that span. The definitions are this project's own.
use Rattle.std.specs.Prelude.{ℕ, ◌≡◌, ◌≢◌, ◌<◌, ◌≤◌, ◌+◌, ◌-◌, ◌*◌, ◌⊎◌, Bool, if◌then◌else◌, Option, Some, None, List, length}
use Rattle.std.specs.List.{Contains}
use Rattle.page_types.specs.declared.TheConstants.{SEARCH}
use Rattle.page_types.specs.declared.calls.Kind.{Kind}
use Rattle.page_types.specs.declared.pages.Span.{Span}
use Rattle.space_model.specs.declared.areas.Area.{Area}
use Rattle.space_model.specs.declared.entries.Entry.{Entry}
use Rattle.space_model.specs.Areas.{HasKinds, is_within, kind_at}
use Rattle.lock_core.specs.declared.range.Held.{Held}
use Rattle.lock_core.specs.declared.range.Mode.TheVariants.{Reader}
use Rattle.range_rw.specs.Contract.{SeatState}
use Rattle.area_guard.specs.declared.guard.Pass.{Pass}
use Rattle.area_rows.specs.History.{IsAtRest, StartsWith}
use Rattle.area_rows.specs.Callers.{CallerView, HasSameRows, IsMoment, IsReading, Shows}

-- the kinds of a state's pages from one page up to another, and none outside
abbrev pub kinds_within : ℕ → ℕ → List Area → ℕ → Option Kind
kinds_within lo hi state page = if is_within lo hi page then kind_at state page else None

-- the areas of a state from one page up to another, clipped to these: the one area list with the kinds of its pages
-- there, and with none outside
abbrev pub AreAreasIn : ℕ → ℕ → List Area → List Area → Type 0
AreAreasIn lo hi list state = HasKinds (kinds_within lo hi state) list

-- each page of a span is held, in either mode
abbrev pub HoldsSpan : Option Held → Span → Type 0
HoldsSpan held span = (h : Held) × (held ≡ Some h) × (h.range.lo ≤ span.lo) × (span.hi ≤ h.range.hi)

-- at every moment at which the caller of this seat holds its range and has read what it has read, these are the areas
-- of the state from one page up to another
abbrev pub ShowsAreas : SeatState Pass → ℕ → ℕ → List Area → Type 0
ShowsAreas seat lo hi list = Shows seat (λ words state. AreAreasIn lo hi list state)

-- these are the areas of the span's pages below one of them
abbrev pub ShowsPart : SeatState Pass → Span → List Area → Type 0
ShowsPart seat span list = (page : ℕ) × (page < span.hi) × ShowsAreas seat span.lo page list

-- a look is no call of the history: the seat is of the same table and number, and its caller has seen and numbered what
-- it had, and has looked at the history as often
pub record HasSeenSame (before after : SeatState Pass) : Type 0 where
  pub table : after.table ≡ before.table
  pub number : after.number ≡ before.number
  pub start : after.pass.start ≡ before.pass.start
  pub seen : after.pass.seen ≡ before.pass.seen
  pub mine : after.pass.mine ≡ before.pass.mine
  pub looks : after.pass.looks ≡ before.pass.looks

-- and it has as many numbers left, and nothing to write
pub record HasLookedAt (before after : CallerView) : Type 0 where
  pub same : HasSeenSame before.seat after.seat
  pub left : after.left ≡ before.left
  pub rest : IsAtRest after.seat.pass

-- at a moment of the running space, at which the caller held this, it was so of the state that the history left, and it
-- is so at every moment at which the caller goes on holding it; the history went on with what the caller has seen
pub record WasSeen (before : SeatState Pass) (held : Option Held) (what : List Area → Type 0) : Type 0 where
  pub seat : SeatState Pass
  pub same : HasSeenSame before seat
  pub holds : seat.held ≡ held
  pub history : List Entry
  pub state : List Area
  pub words : List ℕ
  pub moment : IsMoment seat seat.pass.start history state words
  pub more : StartsWith history before.pass.seen
  pub shows : Shows seat (λ words state. what state)
  pub so : what state

-- what is told of a page: the area of the state in which it lies, or that it isn't mapped
abbrev pub IsAreaAt : ℕ → Option Area → List Area → Type 0
IsAreaAt page None state = kind_at state page ≡ None
IsAreaAt page (Some a) state = Contains state a × (a.lo ≤ page) × (page < a.hi)

-- a range of pages round this one, as a reader
abbrev pub IsReadAround : ℕ → Held → Type 0
IsReadAround page h = (h.mode ≡ Reader) × (h.range.lo ≤ page) × (page < h.range.hi)

-- ---- what private functions say of rows that were read

-- from a page of the state up to another these are the areas; where pages go on the kind changes; and so many rows
-- were read: at most two for each area, and one more where the last one is a gap
pub record AreRead (lo hi page rows : ℕ) (list : List Area) (state : List Area) : Type 0 where
  pub areas : AreAreasIn lo page list state
  pub turns : lo < page → page < hi → kind_at state (page - 1) ≢ kind_at state page
  pub few : rows ≤ 2 * length list + 1
  pub fewer : (page ≡ lo) ⊎ (kind_at state (page - 1) ≢ None) → rows ≤ 2 * length list

-- since then a caller has read rows up to a page, as many as the first number says, and made steps for at most as many
-- as the second one
pub record HasReadTo (before : CallerView) (span : Span) (page rows made : ℕ) (list : List Area) (after : CallerView) : Type 0 where
  pub reading : IsReading before.seat after.seat
  pub left : after.left ≡ before.left
  pub same : HasSameRows before after
  pub from : span.lo ≤ page
  pub until : page ≤ span.hi
  pub shows : Shows after.seat (λ words state. AreRead span.lo span.hi page rows list state)
  pub taken : after.seat.trace.taken ≤ before.seat.trace.taken + (SEARCH + 3) * made

-- up to the span's end
abbrev pub HasReadAll : CallerView → Span → List Area → CallerView → Type 0
HasReadAll before span list after = (rows : ℕ) × HasReadTo before span span.hi rows rows list after

-- up to a page of the span, and one row more
abbrev pub HasReadPart : CallerView → Span → List Area → CallerView → Type 0
HasReadPart before span list after = (page : ℕ) × (page < span.hi) × ((rows : ℕ) × HasReadTo before span page rows (rows + 1) list after)
