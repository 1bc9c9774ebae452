-- What the steps of a change of protection have found, each as a fact of the history that the caller has seen. Only
-- private functions speak of this; what callers see is `IsProtected` of `Protects`.
use Rattle.area_rows.specs.Rows.{keeps_by}
use Rattle.std.specs.Prelude.{true, ℕ, ◌≡◌, ◌≢◌, ◌<◌, ◌≤◌, Some, None}
use Rattle.page_types.specs.declared.calls.Call.TheVariants.{Protect}
use Rattle.page_types.specs.declared.calls.Kind.{Kind}
use Rattle.page_types.specs.declared.pages.Span.{Span}
use Rattle.page_types.specs.Pages.{page_of, end_page}
use Rattle.page_types.specs.Named.{IsNamedCall, IsNamedKind}
use Rattle.page_types.specs.PlainReply.{plain_reply}
use Rattle.space_model.specs.declared.areas.Area.{Area}
use Rattle.space_model.specs.declared.entries.Entry.{Entry}
use Rattle.space_model.specs.Areas.{IsInRange}
use Rattle.space_model.specs.Held.{HoldsSomeArea, IsSimple}
use Rattle.range_rw.specs.Contract.{SeatState}
use Rattle.area_rows.specs.Seated.{TableId}
use Rattle.area_guard.specs.declared.guard.Pass.{Pass}
use Rattle.area_rows.specs.declared.row.Row.{Row}
use Rattle.area_rows.specs.AreaPlans.{IsOneKind}
use Rattle.area_rows.specs.Changes.{alone}
use Rattle.area_rows.specs.OneStore.{IsRound}
use Rattle.area_rows.specs.Callers.{CallerView, CountsWhole, IsAsRead, IsReading, RowIs, Shows}
use Rattle.area_rows.specs.Called.{IsCalled}
use Rattle.area_protect.specs.declared.beside.Made.{Made}
use Rattle.area_protect.specs.declared.beside.Made.TheVariants.{Done as Entered, Again as OtherEnds, Whole as NeedsAll}
use Rattle.area_protect.specs.declared.path.Cause.{Cause}
use Rattle.area_protect.specs.declared.path.Cause.TheVariants.{NotOneArea, NotSimple, Moved}
use Rattle.area_protect.specs.declared.steps.Attempt.{Attempt}
use Rattle.area_protect.specs.declared.steps.Attempt.TheVariants.{Done, Again, Whole}
use Rattle.area_protect.specs.declared.steps.Found.{Found}
use Rattle.area_protect.specs.declared.steps.Held.{Held}
use Rattle.area_protect.specs.declared.steps.Held.TheVariants.{Area as IsArea, Other, Moved as HasMoved}
use Rattle.area_protect.specs.declared.steps.Request.{Request}
use Rattle.area_protect.specs.Looks.{IsAfter, HasWhole, HasLooked, IsLookedAt}

-- the caller is of this table, holds nothing and has a number left
pub record MayCall (table : TableId) (c : CallerView) : Type 0 where
  pub table_is : c.seat.table ≡ table
  pub free : c.seat.held ≡ None
  pub left : 0 < c.left

-- the call of a request has named bits alone, and its arguments don't decide it
pub record IsUndecided (r : Request) : Type 0 where
  pub named : IsNamedCall (Protect r.addr r.len r.prot)
  pub undecided : plain_reply (Protect r.addr r.len r.prot) ≡ None

-- the pages of a request
abbrev pub ArePagesOf : Request → Span → Type 0
ArePagesOf r pages = (pages.lo ≡ page_of r.addr) × (pages.hi ≡ end_page r.addr r.len)

-- a look found an area with all the pages, after so many entries, of which so many were under everything
pub record IsFound (before after : SeatState Pass) (pages : Span) (f : Found) : Type 0 where
  pub area : IsInRange f.area
  pub from : f.area.lo ≤ pages.lo
  pub until : pages.hi ≤ f.area.hi
  pub looked : IsLookedAt before f.at after
  pub whole : HasWhole after f.at f.sequence

-- a look found that the pages weren't of one kind after so many entries
abbrev pub IsOtherKind : SeatState Pass → SeatState Pass → Span → ℕ → Type 0
IsOtherKind before after pages at = IsLookedAt before at after × IsAfter after at (λ A. ¬ IsOneKind A pages.lo pages.hi)

-- the caller holds a row's pages, and a page on each side, as a writer, and has read the row, which has this kind
pub record HoldsRow (after : CallerView) (page : ℕ) (wide : Span) (row : Row) (kind : Kind) : Type 0 where
  pub held : after.seat.held ≡ Some (alone wide)
  pub round : IsRound row wide
  pub kind_is : row.kind ≡ Some kind
  pub named : IsNamedKind kind
  pub read : IsAsRead after.seat.pass row
  pub shows : Shows after.seat (RowIs after.seat.held page row)

-- the row that it holds so is that of the area that was found; as many entries are under everything as were then
pub record HoldsFound (after : CallerView) (page : ℕ) (f : Found) (wide : Span) (row : Row) (kind : Kind) : Type 0 where
  pub holds : HoldsRow after page wide row kind
  pub lo : row.lo ≡ f.area.lo
  pub hi : row.hi ≡ f.area.hi
  pub whole : CountsWhole after.seat f.sequence

-- what holding the area came to
abbrev pub IsHeld : CallerView → CallerView → ℕ → Found → Span → Held → Type 0
IsHeld before after page f wide (IsArea row kind) = HoldsFound after page f wide row kind
IsHeld before after page f wide Other = after.seat.held ≡ None
IsHeld before after page f wide (HasMoved second sequence) = (after.seat.held ≡ None) × IsLookedAt before.seat second after.seat
    × HasWhole after.seat second sequence × (sequence ≢ f.sequence)

-- the call of a request
abbrev pub CallIs : CallerView → Request → Entry → CallerView → Type 0
CallIs before r e after = IsCalled before r.line (Protect r.addr r.len r.prot) e after

-- the change got its entry while the caller held its area; as many entries before it were under everything as the
-- caller knew, where the space keeps its history, and it made no look
pub record IsChanged (before : CallerView) (r : Request) (after : CallerView) (e : Entry) : Type 0 where
  pub called : CallIs (record before { seat = record before.seat { held = None } }) r e after
  pub area : HoldsSomeArea e.under
  pub whole : keeps_by before.seat.table ≡ true → (n : ℕ) → CountsWhole before.seat n → HasWhole after.seat e.number n
  pub looks : after.seat.pass.looks ≡ before.seat.pass.looks

-- the change of pages of one kind would leave another number of rows, as what the caller has read shows; it is not
-- made, and the caller holds what it held
pub record NeedsRows (before : CallerView) (r : Request) (after : CallerView) : Type 0 where
  pub reading : IsReading before.seat after.seat
  pub left : after.left ≡ before.left
  pub shows : Shows after.seat (λ _ state. IsOneKind state (page_of r.addr) (end_page r.addr r.len) × ¬ IsSimple state (Protect r.addr r.len r.prot))

-- after so many entries the change of pages of one kind would have left another number of rows
pub record NeedsMoreRows (before : CallerView) (r : Request) (after : CallerView) (at : ℕ) : Type 0 where
  pub looked : HasLooked before after
  pub when : IsLookedAt before.seat at after.seat
  pub state : IsAfter after.seat at (λ A. IsOneKind A (page_of r.addr) (end_page r.addr r.len) × ¬ IsSimple A (Protect r.addr r.len r.prot))

-- why an attempt has to hold everything
abbrev pub IsReason : CallerView → Request → CallerView → Cause → Type 0
IsReason before r after (NotOneArea at) = IsLookedAt before.seat at after.seat
    × IsAfter after.seat at (λ A. ¬ IsOneKind A (page_of r.addr) (end_page r.addr r.len))
IsReason before r after (NotSimple at) = IsLookedAt before.seat at after.seat
    × IsAfter after.seat at (λ A. IsOneKind A (page_of r.addr) (end_page r.addr r.len)
    × ¬ IsSimple A (Protect r.addr r.len r.prot))
IsReason before r after (Moved first second old new) = IsLookedAt before.seat first after.seat
    × IsLookedAt before.seat second after.seat × (first < second) × HasWhole after.seat first old × HasWhole after.seat second new
    × (old ≢ new)

-- another attempt is due
abbrev pub IsAgain : Attempt → Type 0
IsAgain (Done e seq) = ⊥
IsAgain Again = Unit {0}
IsAgain (Whole cause) = ⊥

-- what one attempt came to
abbrev pub IsAttempt : CallerView → Request → CallerView → Attempt → Type 0
IsAttempt before r after (Done e seq) = CallIs before r e after × HoldsSomeArea e.under × HasWhole after.seat e.number seq
IsAttempt before r after Again = HasLooked before after
IsAttempt before r after (Whole cause) = HasLooked before after × IsReason before r after cause

-- an area with all these pages
pub record IsAround (pages : Span) (a : Area) : Type 0 where
  pub area : IsInRange a
  pub from : a.lo ≤ pages.lo
  pub until : pages.hi ≤ a.hi

-- the same of an attempt that makes no look at the history: its entry is over its area, or it has none
abbrev pub IsMade : CallerView → Request → CallerView → Made → Type 0
IsMade before r after (Entered e) = CallIs before r e after × HoldsSomeArea e.under
IsMade before r after OtherEnds = HasLooked before after
IsMade before r after NeedsAll = HasLooked before after

-- another one is due
abbrev pub IsMadeAgain : Made → Type 0
IsMadeAgain (Entered e) = ⊥
IsMadeAgain OtherEnds = Unit {0}
IsMadeAgain NeedsAll = ⊥
