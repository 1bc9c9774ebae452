-- What contracts see of a caller and of a space, and what each call says. What a caller's range has shown of the
-- history is stated as what is so at every moment at which the caller holds that range and has read those rows; so it
-- lasts while the caller keeps both. The definitions are this project's own.
use Rattle.std.specs.Prelude.{All, Bool, true, false, ℕ, ◌≡◌, ◌≢◌, ◌<◌, ◌≤◌, ◌+◌, ◌-◌, ◌/◌, ◌%◌, Option, Some, None, List, [], ◌∷◌, ◌++◌, length, min}
use Rattle.std.specs.Prelude.{slice_index, ◌⊎◌}
use mathlib.Core.Option.{some}
use lib.ListN.{get_elem?}
use Rattle.page_types.specs.declared.TheConstants.{LIMIT, ROWS, SPARE}
use Rattle.space_model.specs.declared.areas.Area.{Area}
use Rattle.space_model.specs.declared.entries.Entry.{Entry}
use Rattle.space_model.specs.declared.entries.Under.{Under}
use Rattle.space_model.specs.Areas.{IsAreaList, HasNamedKinds, kind_at}
use Rattle.space_model.specs.History.{HasNamedCalls}
use Rattle.atomic_table.specs.Seated.{TableId}
use Rattle.lock_core.specs.Grants.{Grants, IsExclusive}
use Rattle.lock_core.specs.declared.range.Held.{Held}
use Rattle.lock_core.specs.declared.range.Mode.{Mode}
use Rattle.page_types.specs.declared.calls.Call.{Call}
use Rattle.page_types.specs.declared.calls.Reply.{Reply}
use Rattle.page_types.specs.declared.pages.Span.{Span}
use Rattle.page_types.specs.declared.calls.Kind.{Kind}
use Rattle.page_types.specs.Named.{IsNamedKind}
use Rattle.range_rw.specs.Contract.{SeatState, IsSeatCount, new_seat_in, client_trace}
use Rattle.area_guard.specs.declared.guard.Change.{Change}
use Rattle.area_guard.specs.declared.guard.ReadRow.{ReadRow}
use Rattle.area_guard.specs.declared.guard.Pass.{Pass}
use Rattle.area_guard.specs.declared.guard.Pending.{Pending}
use Rattle.area_guard.specs.declared.guard.Splice.{Splice}
use Rattle.area_guard.specs.declared.guard.Pending.TheVariants.{AtRest, Planned, OneRow}
use Rattle.area_rows.specs.declared.row.Row.{Row}
use Rattle.area_rows.specs.declared.space.SpaceFault.{SpaceFault}
use Rattle.area_rows.specs.declared.space.SpaceFault.TheVariants.{Callers, Rows, Memory}
use Rattle.row_plans.specs.RowWords.{row_start, row_kind}
use Rattle.area_guard.specs.Rows.{layout_in, slots_of, slot_at, slots_in, AreNeighbours, IsOneOf, IsFirstOf, IsLastOf, IsNext, IsRowOf, rows_in}
use Rattle.area_guard.specs.Rows.{blocks_by, keeps_by, number_place, room_of, IsInReach}
use Rattle.row_plans.specs.declared.planning.Cut.{Cut}
use Rattle.row_plans.specs.Plans.{IsRowList, spliced, IsPlan}
use Rattle.row_plans.specs.Loads.{fit_loads}
use Rattle.area_guard.specs.Reads.{everything, IsHeldPage, HasRead, known_rows, KnowsRows}
use Rattle.row_blocks.specs.Blocks.{blocks_of}
use Rattle.row_blocks.specs.declared.positions.Position.{Position}
use Rattle.plan_words.specs.Places.{number_at, splice_at}
pub use Rattle.plan_words.specs.Writing.{KeepsRead, IsWritten}
pub use Rattle.plan_words.specs.Reading.{IsReading, keeps_on, reading_on}
use Rattle.area_guard.specs.Changes.{alone}
use Rattle.area_rows.specs.OneStore.{IsOneStore, IsRound}
use Rattle.area_guard.specs.History.{Runs, StartsWith, entries_of, HasNamedReplies, whole_count, planned_calls}
use Rattle.area_guard.specs.History.{IsRunningSpace, AreBacked, HasPages, HoldsFor, IsAtRest, IsRight, Leaves, FitsIn, pending_of}
use Rattle.area_guard.specs.History.{after_look, rows_after}

-- a caller: its seat in the lock's table, whose pass is what it knows of the space; how many numbers it may still draw;
-- how many rows there were at its last plan, which of them go by it, and which come in their place; and the row that
-- its last plan over an area changes, if any
pub record CallerView : Type 0 where
  pub seat : SeatState Pass
  pub left : ℕ
  pub count : ℕ
  pub cut : Cut Position
  pub more : List ℕ
  pub change : Option Change

-- a caller's last plans are as they were
pub record HasSameRows (before after : CallerView) : Type 0 where
  pub count : after.count ≡ before.count
  pub cut : after.cut ≡ before.cut
  pub more : after.more ≡ before.more
  pub change : after.change ≡ before.change

-- a splice of the rows that a seat knows: so many go from a position on
abbrev pub splice_of : SeatState Pass → Cut Position → List ℕ → Splice
splice_of seat cut more = splice_at seat.pass cut.at cut.gone more

-- a caller's last plan under everything
abbrev pub plan_of : CallerView → Splice
plan_of c = splice_of c.seat c.cut c.more

-- a caller knows all rows, which are a list of rows, and how many there are, and its plan is a splice of them: it
-- begins at a row, brings at most SPARE rows more than go, and leaves one where the first one goes
pub record IsKnown (c : CallerView) : Type 0 where
  pub rows : KnowsRows c.seat.pass
  pub list : IsRowList (known_rows c.seat.pass)
  pub counted : c.count ≡ length (known_rows c.seat.pass)
  pub at : number_at c.seat.pass c.cut.at < length (known_rows c.seat.pass)
  pub there : number_at c.seat.pass c.cut.at + c.cut.gone ≤ length (known_rows c.seat.pass)
  pub grows : length c.more ≤ c.cut.gone + SPARE
  pub stays : 0 < number_at c.seat.pass c.cut.at + c.cut.gone + length c.more → 0 < number_at c.seat.pass c.cut.at + length c.more

-- how many loads a search for a place takes in words that are laid out in so many blocks: a row is found, and then one
-- word of each block in use is read, and the rows of two blocks
abbrev pub place_loads : ℕ → List ℕ → ℕ
place_loads nb words = fit_loads (blocks_of nb words + 257)

-- a closed space: the areas that are left and the whole history
pub record ClosedView : Type 0 where
  pub areas : List Area
  pub entries : List Entry

-- a span that is held in a mode
abbrev pub held_span : Span → Mode → Held
held_span span mode = record { range = record { lo = span.lo; hi = span.hi }; mode = mode }

-- a held range has pages alone
abbrev pub IsHeldBelow : Option Held → ℕ → Type 0
IsHeldBelow held limit = (h : Held) → held ≡ Some h → h.range.hi ≤ limit

-- a held range has a page, and pages alone
abbrev pub IsHeldPages : Option Held → Type 0
IsHeldPages held = (h : Held) → held ≡ Some h → HasPages h

-- a moment of the running space, at which its history is this one and leaves this state: the caller of this seat
-- holds its range there and has read what it has read, or more, and no two held ranges conflict
pub record IsMoment (seat : SeatState Pass) (start : List Area) (history : List Entry) (state : List Area) (words : List ℕ) : Type 0 where
  pub grants : Grants
  pub passes : List Pass
  pub pass : Pass
  pub running : IsRunningSpace start history state words passes
  pub backed : AreBacked grants words state passes
  pub exclusive : IsExclusive grants
  pub granted : get_elem? grants seat.number ≡ some seat.held
  pub own : get_elem? passes seat.number ≡ some pass
  pub read : KeepsRead seat.pass pass

-- it is so at every moment at which the caller of this seat holds its range and has read what it has read
abbrev pub Shows : SeatState Pass → (List ℕ → List Area → Type 0) → Type 0
Shows seat what = (start : List Area) (history : List Entry) (state : List Area) (words : List ℕ)
    → IsMoment seat start history state words → what words state

-- so many entries of the history were numbered under everything, the caller's own aside where it isn't written yet, at
-- every moment at which the caller of this seat holds its range and has read what it has read
abbrev pub CountsWhole : SeatState Pass → ℕ → Type 0
CountsWhole seat n = (start : List Area) (history : List Entry) (state : List Area) (words : List ℕ)
    → IsMoment seat start history state words → n + planned_calls seat.pass.pending ≡ whole_count history

-- a caller may number a call with this reply under this range: at every moment at which it holds its range and has read
-- what it has read the entry is right, and its plan is what the call leaves: a splice of the rows under everything, one
-- row over an area
abbrev pub MayNumber : CallerView → Call → Reply → Under → Type 0
MayNumber c call reply under = Shows c.seat (λ _ state. (left : List Area)
    × IsRight state call reply under left × Leaves state under (pending_of under (plan_of c) c.change) left)

-- a caller's plan is of this call: under everything, at every moment at which it still holds it, the call has this
-- reply and leaves so many rows, and they are those of the moment with the plan's splice; the caller knows all rows,
-- and how many there are
pub record HasPlanned (call : Call) (reply : Reply) (count : ℕ) (c : CallerView) : Type 0 where
  pub shows : Shows c.seat (λ words state. IsPlan call reply count (spliced (λ (at : Position). number_at c.seat.pass at) (rows_in words) c.cut c.more) state)
  pub known : IsKnown c

-- a caller has its plan to write: it holds everything, has numbered the call, knows the rows that stand there, and the
-- table has room for those after the plan's splice, none of which starts above LIMIT
pub record HasToWrite (c : CallerView) : Type 0 where
  pub held : c.seat.held ≡ Some everything
  pub pending : c.seat.pass.pending ≡ Planned (plan_of c)
  pub known : IsKnown c
  pub some : 0 < length (rows_after (plan_of c))
  pub fits : length (rows_after (plan_of c)) ≤ room_of c.seat.pass.blocks
  pub low : All (λ w. row_start w ≤ LIMIT) (rows_after (plan_of c))

-- where the row in a slot ends, by what was read: where the one in the next slot starts, or at LIMIT
abbrev pub IsRowEnd : List ReadRow → List ℕ → ℕ → ℕ → Type 0
IsRowEnd rows slots slot hi = ((next : ℕ) × AreNeighbours slots slot next × (word : ℕ) × HasRead rows next word × (hi ≡ row_start word))
    ⊎ (IsLastOf slots slot × (hi ≡ LIMIT))

-- the ends and the kind of the row are as they were read, in one of these slots
pub record IsReadIn (rows : List ReadRow) (slots : List ℕ) (slot : ℕ) (row : Row) : Type 0 where
  pub there : IsOneOf slots slot
  pub word : ℕ
  pub read : HasRead rows slot word
  pub lo : row.lo ≡ row_start word
  pub kind : row.kind ≡ row_kind word
  pub hi : IsRowEnd rows slots slot row.hi

-- the row of that number stands at a place of a block in use, by a layout
abbrev pub IsPlaceOf : List ℕ → ℕ → Type 0
IsPlaceOf layout index = (index / 128 < slice_index layout 1) × (index % 128 ≤ slice_index layout (2 + index / 128) % 128)

-- they are as the caller has read them under its range, in the row's slot by the layout that it has read
pub record IsAsRead (pass : Pass) (row : Row) : Type 0 where
  pub layout : List ℕ
  pub laid : pass.laid ≡ Some layout
  pub block : row.index / 128 < pass.blocks
  pub place : IsPlaceOf layout row.index
  pub in_slot : IsReadIn pass.rows (slots_of layout) (slot_at layout row.index) row

-- a page past each end of the row is held as well, or there is none
abbrev pub HoldsAround : Option Held → Row → Type 0
HoldsAround held row = (h : Held) × (held ≡ Some h) × (h.range.lo ≤ row.lo - 1) × (min (row.hi + 1) LIMIT ≤ h.range.hi)

-- where the row in a slot ends: where the one in the next slot starts, or at LIMIT
abbrev pub IsEndIn : List ℕ → ℕ → ℕ → Type 0
IsEndIn words slot hi = ((next : ℕ) × IsNext words slot next × (row_start (slice_index words (3 + next)) ≡ hi))
    ⊎ (IsLastOf (slots_in words) slot × (hi ≡ LIMIT))

-- the row word in the row's slot starts at lo, and the row ends at hi
abbrev pub HasEnds : List ℕ → Row → Type 0
HasEnds words row = (row_start (slice_index words (3 + slot_at (layout_in words) row.index)) ≡ row.lo)
    × IsEndIn words (slot_at (layout_in words) row.index) row.hi

-- the row is that of the page; its held pages have its kind at the state, and the held pages next to it have another,
-- a gap counting as a kind; its ends are those of the row words where a page past each of them is held as well
pub record RowIs (held : Option Held) (page : ℕ) (row : Row) (words : List ℕ) (state : List Area) : Type 0 where
  pub index : IsRowOf words page (slot_at (layout_in words) row.index)
  pub kind : (p : ℕ) → IsHeldPage held p → row.lo ≤ p → p < row.hi → kind_at state p ≡ row.kind
  pub next : IsHeldPage held row.hi → kind_at state row.hi ≢ row.kind
  pub previous : 0 < row.lo → IsHeldPage held (row.lo - 1) → kind_at state (row.lo - 1) ≢ row.kind
  pub ends : HoldsAround held row → HasEnds words row

-- the kind of the row before the one in a slot, as the caller has read it, or None where there is no row before it
abbrev pub IsReadBefore : List ReadRow → List ℕ → ℕ → Option Kind → Type 0
IsReadBefore rows slots slot kind = (IsFirstOf slots slot × (kind ≡ None))
    ⊎ ((previous : ℕ) × AreNeighbours slots previous slot × (word : ℕ) × HasRead rows previous word × (kind ≡ row_kind word))

-- the kind of the row behind the one in a slot, in the next slot, as the caller has read it, or None where there is no
-- row behind it
abbrev pub IsReadBehind : List ReadRow → List ℕ → ℕ → ℕ → Option Kind → Type 0
IsReadBehind rows slots slot next kind = (IsLastOf slots slot × (kind ≡ None))
    ⊎ (AreNeighbours slots slot next × (word : ℕ) × HasRead rows next word × (kind ≡ row_kind word))

-- the kind of the row in a slot, as the caller has read it, or None where there is no slot
abbrev pub IsKindIn : List ReadRow → Option ℕ → Option Kind → Type 0
IsKindIn rows None kind = kind ≡ None
IsKindIn rows (Some slot) kind = (word : ℕ) × HasRead rows slot word × (kind ≡ row_kind word)

-- all of these slots are in reach of a table
abbrev pub AreInReach : TableId → List ℕ → Type 0
AreInReach table slots = (slot : ℕ) → IsOneOf slots slot → IsInReach (blocks_by table) slot

-- a caller holds an area and a page on each side as a writer, has read the area's row and those on both sides, and the
-- change is one store on one of them
pub record IsReadRound (seat : SeatState Pass) (change : Change) : Type 0 where
  pub row : Row
  pub next : ℕ
  pub before : Option Kind
  pub behind : Option Kind
  pub held : seat.held ≡ Some (alone change.span)
  pub round : IsRound row change.span
  pub pages : row.lo < row.hi
  pub limit : row.hi ≤ LIMIT
  pub read : IsAsRead seat.pass row
  pub reach : AreInReach seat.table (slots_of read.layout)
  pub kind : row.kind ≡ Some change.old
  pub named : IsNamedKind change.kind
  pub read_before : IsReadBefore seat.pass.rows (slots_of read.layout) (slot_at read.layout row.index) before
  pub read_behind : IsReadBehind seat.pass.rows (slots_of read.layout) (slot_at read.layout row.index) next behind
  pub store : IsOneStore (slot_at read.layout row.index) next row before behind change

-- a caller has one row to store: it has numbered the call, and has read the rows round its change
pub record HasToStore (c : CallerView) (change : Change) : Type 0 where
  pub pending : c.seat.pass.pending ≡ OneRow change
  pub chosen : c.change ≡ Some change
  pub round : IsReadRound c.seat change

-- the one row that a call over its area left is stored, by one step; all is written, and what the caller holds, has
-- seen and has numbered is as before, and its pools are
pub record IsStoredRow (before : SeatState Pass) (index : ℕ) (after : SeatState Pass) : Type 0 where
  pub rest : IsAtRest after.pass
  pub start : after.pass.start ≡ before.pass.start
  pub seen : after.pass.seen ≡ before.pass.seen
  pub mine : after.pass.mine ≡ before.pass.mine
  pub drew : after.pass.drew ≡ before.pass.drew
  pub looks : after.pass.looks ≡ before.pass.looks
  pub table : after.table ≡ before.table
  pub number : after.number ≡ before.number
  pub held : after.held ≡ before.held
  pub pools : after.pools ≡ before.pools
  pub further : after.further ≡ before.further
  pub trace : after.trace ≡ client_trace before.trace (3 + index)

-- a new pass over these areas, in a table with room for so many blocks, whose space keeps its history or doesn't, of a
-- caller that may have so many entries
abbrev pub new_pass : List Area → ℕ → Bool → ℕ → Pass
new_pass start blocks keeps most = record {
  start = start;
  blocks = blocks;
  keeps = keeps;
  most = most;
  seen = [];
  mine = [];
  laid = None;
  rows = [];
  sequence = None;
  pending = AtRest;
  drew = None;
  looks = [];
  since = 0;
  took = 0;
}

-- the callers of a new space with so many lists, in order of their numbers, each with as many numbers to draw as was
-- asked
abbrev pub AreNewCallersIn : ℕ → TableId → List Area → List ℕ → List CallerView → Type 0
AreNewCallersIn lists table start calls callers = (k : ℕ) (c : CallerView) → get_elem? callers k ≡ some c
    → c ≡ record {
      seat = new_seat_in lists table (λ n. new_pass start (blocks_by table) (keeps_by table) (slice_index calls n)) k;
      left = slice_index calls k;
      count = 0;
      cut = record { at = record { block = 0; place = 0 }; gone = 0 };
      more = [];
      change = None;
    }

-- the same where there is one list
abbrev pub AreNewCallers : TableId → List Area → List ℕ → List CallerView → Type 0
AreNewCallers table start calls callers = AreNewCallersIn 1 table start calls callers

-- why no space is opened for so many callers over so many rows
abbrev pub IsSpaceFault : ℕ → ℕ → SpaceFault → Type 0
IsSpaceFault callers rows (Callers n) = (n ≡ callers) × ¬ (IsSeatCount callers)
IsSpaceFault callers rows (Rows n) = IsSeatCount callers × (n ≡ rows) × (ROWS < rows)
IsSpaceFault callers rows Memory = IsSeatCount callers × (rows ≤ ROWS)

-- the callers are all of one table, in order of their numbers, and hold nothing
abbrev pub AreIdle : TableId → List CallerView → Type 0
AreIdle table callers = (k : ℕ) (c : CallerView) → get_elem? callers k ≡ some c → (c.seat.table ≡ table) × (c.seat.number ≡ k) × (c.seat.held ≡ None)

-- one step on the client word of that place, which left this pass: the seat holds what it held, and its pools stay
pub record IsClientStep (before : SeatState Pass) (place : ℕ) (left_pass : Pass) (after : SeatState Pass) : Type 0 where
  pub table : after.table ≡ before.table
  pub number : after.number ≡ before.number
  pub held : after.held ≡ before.held
  pub pools : after.pools ≡ before.pools
  pub further : after.further ≡ before.further
  pub pass : after.pass ≡ left_pass
  pub trace : after.trace ≡ client_trace before.trace place

-- a seat of this table may plan a call on all rows, of which there are so many: it holds everything, has nothing to
-- write, and knows them, and they are a list of rows for which there is room
pub record MayPlan (table : TableId) (count : ℕ) (seat : SeatState Pass) : Type 0 where
  pub table_is : seat.table ≡ table
  pub held : seat.held ≡ Some everything
  pub rest : IsAtRest seat.pass
  pub knows : KnowsRows seat.pass
  pub counted : count ≡ length (known_rows seat.pass)
  pub fits : count ≤ room_of (blocks_by table)
  pub list : IsRowList (known_rows seat.pass)

-- a look at the number word: at a moment of the running space the caller sees the history so far, and it keeps what
-- it has read; so what its range has shown is so of the state that this history leaves. Its pass keeps how many entries
-- were there, and what it held
pub record IsLook (before : SeatState Pass) (found : ℕ) (after : SeatState Pass) : Type 0 where
  pub state : List Area
  pub words : List ℕ
  pub moment : IsMoment before before.pass.start after.pass.seen state words
  pub step : IsClientStep before (number_place (blocks_by before.table)) (after_look after.pass.seen before.held before.pass) after
  pub more : StartsWith after.pass.seen before.pass.seen
  pub count : length after.pass.seen ≡ found

-- an entry as the history has it, behind what there was: with its number. Where the space keeps its history that is the
-- number of the entry that the call gives, and otherwise the call gives it with number 0
abbrev pub entry_in : List Entry → Entry → Entry
entry_in history e = record e { number = length history }

-- a call got the next number. The history before the entry begins with what the caller had seen before the call, the
-- entry is right at the state that this history leaves, and the caller sees it at the end and has it. At the step
-- that drew its last number, which is this one, the caller held what the entry names
pub record IsNumbered (before : SeatState Pass) (e : Entry) (after : SeatState Pass) : Type 0 where
  pub history : List Entry
  pub state : List Area
  pub more : StartsWith history before.pass.seen
  pub runs : Runs 0 before.pass.start history state
  pub in_order : IsAreaList state
  pub counted : keeps_by before.table ≡ true → e.number ≡ length history
  pub unkept : keeps_by before.table ≡ false → e.number ≡ 0
  pub worker : e.worker ≡ before.number
  pub left : List Area
  pub right : IsRight state e.call e.reply e.under left
  pub seen : after.pass.seen ≡ history ++ entry_in history e ∷ []
  pub mine : after.pass.mine ≡ before.pass.mine ++ entry_in history e ∷ []
  pub drew : HoldsFor (keeps_by before.table) after.pass.drew e.under
  pub start : after.pass.start ≡ before.pass.start
  pub table : after.table ≡ before.table
  pub number : after.number ≡ before.number
  pub held : after.held ≡ before.held

-- a caller that has rows to write still has what it has read of the old ones
abbrev pub KeepsRows : Pending → Pass → Pass → Type 0
KeepsRows AtRest old new = Unit {0}
KeepsRows (Planned plan) old new = (new.laid ≡ old.laid) × (new.rows ≡ old.rows)
KeepsRows (OneRow change) old new = (new.laid ≡ old.laid) × (new.rows ≡ old.rows)

-- the same by one step on the number word, made at a moment of the running space whose history is the one before the
-- entry; so what the caller's range has shown is so of the state that this history leaves. What was held at the draw
-- is what the caller holds, and this is to be written; the pools stay
pub record IsDrawn (before : SeatState Pass) (e : Entry) (pending : Pending) (after : SeatState Pass) : Type 0 where
  pub numbered : IsNumbered before e after
  pub words : List ℕ
  pub moment : IsMoment before before.pass.start numbered.history numbered.state words
  pub drew : after.pass.drew ≡ before.held
  pub looks : after.pass.looks ≡ before.pass.looks
  pub since : after.pass.since ≡ 0
  pub took : after.pass.took ≡ before.pass.since
  pub pools : after.pools ≡ before.pools
  pub further : after.further ≡ before.further
  pub blocks : after.pass.blocks ≡ before.pass.blocks
  pub keeps_on : after.pass.keeps ≡ before.pass.keeps
  pub most : after.pass.most ≡ before.pass.most
  pub fits : FitsIn pending after.pass.blocks
  pub writes : after.pass.pending ≡ pending
  pub keeps : KeepsRows pending before.pass after.pass
  pub trace : after.trace ≡ client_trace before.trace (number_place (blocks_by before.table))

-- the whole history of callers that have stopped: it runs from what each began with to the areas that are left, which
-- are an area list; calls, replies and areas have named bits alone; each caller's entries stand in it in order, no
-- other ones do, and each has seen a beginning of it
pub record IsWhole (callers : List CallerView) (entries : List Entry) (areas : List Area) : Type 0 where
  pub runs : (k : ℕ) (c : CallerView) → get_elem? callers k ≡ some c → Runs 0 c.seat.pass.start entries areas
  pub calls : HasNamedCalls entries
  pub replies : HasNamedReplies entries
  pub in_order : IsAreaList areas
  pub named : HasNamedKinds areas
  pub mine : (k : ℕ) (c : CallerView) → get_elem? callers k ≡ some c → entries_of k entries ≡ c.seat.pass.mine
  pub seen : (k : ℕ) (c : CallerView) → get_elem? callers k ≡ some c → StartsWith entries c.seat.pass.seen
  pub no_other : (k : ℕ) → length callers ≤ k → entries_of k entries ≡ []
