-- The one history of a running address space: the number word counts it, each caller stores its own entries, and the
-- rows stand for the state after it. It is stored in the callers' lists, by number, so it isn't just some history that
-- exists. It is legal as a sequential history of an object (Herlihy and Wing, TOPLAS 1990), and each entry was
-- numbered under the range that it names.
use Rattle.std.specs.Prelude.{Bool, true, false, ℕ, suc, ◌≡◌, ◌≢◌, ◌<◌, ◌≤◌, ◌+◌, ◌-◌, ◌*◌, ◌^◌, ◌==◌, ◌⊎◌, All, Option, Some, None, List, []}
use Rattle.std.specs.Prelude.{◌∷◌, ◌++◌, not, filter, length, slice_index, slice_set, sum_by}
use mathlib.Core.Option.{some}
use lib.ListN.{get_elem?}
use Rattle.page_types.specs.declared.TheConstants.{LIMIT, ROWS, SPARE}
use Rattle.page_types.specs.declared.calls.Call.{Call}
use Rattle.page_types.specs.declared.calls.Kind.{Kind}
use Rattle.page_types.specs.declared.calls.Reply.{Reply}
use Rattle.space_model.specs.declared.areas.Area.{Area as Areas}
use Rattle.space_model.specs.declared.entries.Entry.{Entry}
use Rattle.space_model.specs.declared.entries.Under.{Under}
use Rattle.space_model.specs.declared.entries.Under.TheVariants.{Nothing, Reader, Area, Whole}
use Rattle.page_types.specs.Named.{IsNamedCall, IsNamedReply}
use Rattle.space_model.specs.Areas.{IsAreaList, HasNamedKinds, kind_at, row_count}
use Rattle.space_model.specs.Answers.{Answers}
use Rattle.space_model.specs.Held.{FitsUnder}
use Rattle.space_model.specs.History.{HasNamedCalls}
pub use Rattle.space_model.specs.History.{FitsAndReplies, Runs}
use Rattle.lock_core.specs.Grants.{Grants, Holds, IsExclusive}
use Rattle.lock_core.specs.Client.{ClientStep, loads, stores, adds, exchanges}
use Rattle.lock_core.specs.declared.range.Mode.TheVariants.{Reader as Shared, Writer as Alone}
use Rattle.lock_core.specs.declared.range.Held.{Held}
use Rattle.area_guard.specs.declared.guard.Change.{Change}
use Rattle.area_guard.specs.declared.guard.ReadRow.{ReadRow}
use Rattle.area_guard.specs.declared.guard.Note.{Note}
use Rattle.area_guard.specs.declared.guard.Pass.{Pass}
use Rattle.area_guard.specs.declared.guard.Pending.{Pending}
use Rattle.area_guard.specs.declared.guard.Splice.{Splice}
use Rattle.area_guard.specs.declared.guard.Pending.TheVariants.{AtRest, Planned, OneRow}
use Rattle.row_plans.specs.RowLists.{areas_from}
use Rattle.area_guard.specs.Rows.{nb_in, keeps_in, number_place, rows_in, room_of, layout_in, slots_to, IsLayoutPlace, IsOneOf, IsSlot, RowsShow}
use Rattle.row_plans.specs.Plans.{PlanShows}
use Rattle.area_guard.specs.Reads.{everything, StillStands, noted_at}
use Rattle.std.specs.List.{splice}
use Rattle.area_guard.specs.Changes.{IsIn, alone, new_word, IsInside, IsChange, MayReplace}

-- a history begins with these entries
abbrev pub StartsWith : List Entry → List Entry → Type 0
StartsWith history first = (rest : List Entry) × (history ≡ first ++ rest)

-- the entries of one caller, in order
abbrev pub entries_of : ℕ → List Entry → List Entry
entries_of worker history = filter (λ e. e.worker == worker) history

-- one more where the entry was numbered under everything
abbrev pub with_whole : Under → ℕ → ℕ
with_whole Nothing n = n
with_whole (Reader span) n = n
with_whole (Area span) n = n
with_whole Whole n = n + 1

-- how many entries were numbered under everything
abbrev pub whole_count : List Entry → ℕ
whole_count [] = 0
whole_count (e ∷ rest) = with_whole e.under (whole_count rest)

-- the replies of entries have no bit but the named ones
abbrev pub HasNamedReplies : List Entry → Type 0
HasNamedReplies = All (λ e. IsNamedReply e.reply)

-- how many entries a caller has
abbrev pub own_count : Pass → ℕ
own_count pass = length pass.mine

-- how many entries the callers have together
abbrev pub entry_count : List Pass → ℕ
entry_count passes = sum_by own_count passes

-- how many entries a caller may have
abbrev pub own_most : Pass → ℕ
own_most pass = pass.most

-- how many the callers may have together
abbrev pub most_count : List Pass → ℕ
most_count passes = sum_by own_most passes

-- so many blocks have room for as many rows as there may be, or for those of the start and SPARE more for each entry
-- that the callers may have
abbrev pub HasRoom : ℕ → ℕ → ℕ → Type 0
HasRoom nb rows most = (ROWS ≤ room_of nb) ⊎ (rows + SPARE * most ≤ room_of nb)

-- the layout that a caller has read under its range is so
abbrev pub StillLaid : List ℕ → Option (List ℕ) → Type 0
StillLaid words laid = (layout : List ℕ) → laid ≡ Some layout → layout_in words ≡ layout

-- what a caller has read of the sequence word under its range is so
abbrev pub StillRaised : List ℕ → Option ℕ → Type 0
StillRaised words sequence = (n : ℕ) → sequence ≡ Some n → slice_index words 1 ≡ n

-- the call may be numbered at this state with this reply and under this range, and leaves another: it fits, and the
-- reply is right
pub record IsRight (state : List Areas) (call : Call) (reply : Reply) (under : Under) (left : List Areas) : Type 0 where
  pub fits : FitsUnder state call under
  pub answers : Answers state call reply left

-- the rows after a splice
abbrev pub rows_after : Splice → List ℕ
rows_after plan = splice plan.old plan.first plan.end plan.more

-- what is to be written after a draw is what the call leaves: under everything a splice that shows it, and over an area
-- the change of one row. Otherwise it is nothing, and nothing has changed
abbrev pub Leaves : List Areas → Under → Pending → List Areas → Type 0
Leaves state Nothing AtRest left = left ≡ state
Leaves state (Reader span) AtRest left = left ≡ state
Leaves state (Area span) AtRest left = left ≡ state
Leaves state Whole AtRest left = ⊥
Leaves state Nothing (Planned plan) left = ⊥
Leaves state (Reader span) (Planned plan) left = ⊥
Leaves state (Area span) (Planned plan) left = ⊥
Leaves state Whole (Planned plan) left = PlanShows (rows_after plan) (kind_at left)
Leaves state Nothing (OneRow change) left = ⊥
Leaves state (Reader span) (OneRow change) left = ⊥
Leaves state (Area span) (OneRow change) left = IsChange state span change left
Leaves state Whole (OneRow change) left = ⊥

-- so many blocks have room for the rows that are to be written
abbrev pub FitsIn : Pending → ℕ → Type 0
FitsIn AtRest nb = Unit {0}
FitsIn (Planned plan) nb = length (rows_after plan) ≤ room_of nb
FitsIn (OneRow change) nb = Unit {0}

-- what is to be written is what one entry leaves: the last one of its caller. The entries before it lead to a state at
-- which it is right, and from that state to the one that it leaves the change is the one that is to be written
pub record IsOfLastEntry (start : List Areas) (history : List Entry) (mine : List Entry) (pending : Pending) : Type 0 where
  pub others : List Entry
  pub entry : Entry
  pub own : mine ≡ others ++ entry ∷ []
  pub before : List Entry
  pub later : List Entry
  pub stands : history ≡ before ++ entry ∷ later
  pub found : List Areas
  pub runs : Runs 0 start before found
  pub left : List Areas
  pub right : IsRight found entry.call entry.reply entry.under left
  pub leaves : Leaves found entry.under pending left

-- nothing is to be written, or what the caller's last entry leaves: a plan where that was numbered under everything,
-- and the change of one row where it was numbered under the area that is held for it
abbrev pub IsOwed : List Areas → List Entry → List Entry → Pending → Type 0
IsOwed start history mine AtRest = Unit {0}
IsOwed start history mine (Planned plan) = IsOfLastEntry start history mine (Planned plan)
IsOwed start history mine (OneRow change) = IsOfLastEntry start history mine (OneRow change)

-- so many blocks are those that the words tell, there is room for them before the last eighteen words, and the words
-- tell whether the space keeps its history
abbrev pub HasBlocks : List ℕ → ℕ → Bool → Type 0
HasBlocks words nb keeps = (nb ≡ nb_in words) × (36 + 129 * nb_in words ≤ length words) × (keeps ≡ keeps_in words)

-- one caller's part: it began with the same areas, has seen a beginning of the history, stores just its own entries,
-- no more of them than it may have, knows how many blocks there is room for and whether the space keeps its history,
-- what it has to write is what the last of these entries leaves, and what it has read of the layout and the sequence
-- word is still so
pub record IsPart (start : List Areas) (history : List Entry) (words : List ℕ) (worker : ℕ) (pass : Pass) : Type 0 where
  pub began : pass.start ≡ start
  pub seen : StartsWith history pass.seen
  pub mine : entries_of worker history ≡ pass.mine
  pub few : length pass.mine ≤ pass.most
  pub room : HasBlocks words pass.blocks pass.keeps
  pub owed : IsOwed start history pass.mine pass.pending
  pub laid : StillLaid words pass.laid
  pub sequence : StillRaised words pass.sequence

-- 1 where a call under everything has its number and isn't written yet
abbrev pub planned_calls : Pending → ℕ
planned_calls AtRest = 0
planned_calls (Planned plan) = 1
planned_calls (OneRow change) = 0

-- how many calls under everything a caller has to write
abbrev pub own_planned : Pass → ℕ
own_planned pass = planned_calls pass.pending

-- how many the callers have together; two exclude each other, so it is 0 or 1
abbrev pub planned_count : List Pass → ℕ
planned_count passes = sum_by own_planned passes

-- the pages whose row may lag behind the state while this is to be written: those that the change of one row is about.
-- There are none where a caller is at rest, and while a plan is to be written nothing is said of any row
abbrev pub LagsAt : Pending → ℕ → Type 0
LagsAt AtRest page = ⊥
LagsAt (Planned plan) page = ⊥
LagsAt (OneRow change) page = IsIn change.place page

-- what the rows show of those pages: the kind that they had before the call
abbrev pub ShowsBefore : Pending → (ℕ → Option Kind) → Type 0
ShowsBefore AtRest kinds = Unit {0}
ShowsBefore (Planned plan) kinds = Unit {0}
ShowsBefore (OneRow change) kinds = (page : ℕ) → IsIn change.place page → kinds page ≡ Some change.old

-- the kinds that the rows show: those of the state, but at pages whose row may lag
pub record IsShown (state : List Areas) (passes : List Pass) (kinds : ℕ → Option Kind) : Type 0 where
  pub lagging : (worker : ℕ) (pass : Pass) → get_elem? passes worker ≡ some pass → ShowsBefore pass.pending kinds
  pub elsewhere : (page : ℕ) → ((worker : ℕ) (pass : Pass) → get_elem? passes worker ≡ some pass → ¬ LagsAt pass.pending page)
      → kinds page ≡ kind_at state page

-- the row words show the state as far as it is written
abbrev pub RowsStandFor : List Areas → List Pass → List ℕ → Type 0
RowsStandFor state passes words = (kinds : ℕ → Option Kind) × IsShown state passes kinds × RowsShow words kinds

-- a running address space: from the start the history leaves the state, and the client words and the callers' passes
-- stand for both. A call under everything that isn't written yet leaves the sequence word one behind, and meanwhile the
-- row words may be anything
pub record IsRunningSpace (start : List Areas) (history : List Entry) (state : List Areas) (words : List ℕ) (passes : List Pass) : Type 0 where
  pub callers : length passes ≤ 16
  pub runs : Runs 0 start history state
  pub calls : HasNamedCalls history
  pub replies : HasNamedReplies history
  pub in_order : IsAreaList state
  pub named : HasNamedKinds state
  pub limit : row_count state ≤ ROWS
  -- each entry has made SPARE rows more at most
  pub grown : row_count state ≤ row_count start + SPARE * length history
  -- where the space keeps no history, nobody stores the number word
  pub number : keeps_in words ≡ true → slice_index words (number_place (nb_in words)) ≡ length history
  pub sequence : slice_index words 1 + planned_count passes ≡ whole_count history
  pub small : most_count passes < 2 ^ 62
  pub room : HasRoom (nb_in words) (row_count start) (most_count passes)
  pub rows : planned_count passes ≡ 0 → RowsStandFor state passes words
  pub parts : (worker : ℕ) (pass : Pass) → get_elem? passes worker ≡ some pass → IsPart start history words worker pass
  -- no entry is of another caller
  pub no_other : (worker : ℕ) → length passes ≤ worker → entries_of worker history ≡ []
  pub total : length history ≡ entry_count passes

-- a range that has a page, and pages alone. One without a page would conflict with no other
abbrev pub HasPages : Held → Type 0
HasPages h = (h.range.lo < h.range.hi) × (h.range.hi ≤ LIMIT)

-- the caller of that number holds pages
abbrev pub HoldsPages : Grants → ℕ → Type 0
HoldsPages grants worker = (h : Held) × Holds grants worker h × HasPages h

-- a pass that has read nothing of what others may change
abbrev pub HasReadNothing : Pass → Type 0
HasReadNothing pass = (pass.laid ≡ None) × (pass.rows ≡ []) × (pass.sequence ≡ None)

-- what is to be written is right for the last state, and its caller holds what its entry names
abbrev pub Backs : Grants → List Areas → ℕ → Pending → Type 0
Backs grants state worker AtRest = Unit {0}
Backs grants state worker (Planned plan) = Holds grants worker everything × PlanShows (rows_after plan) (kind_at state)
Backs grants state worker (OneRow change) = Holds grants worker (alone change.span) × IsInside change
    × ((page : ℕ) → IsIn change.place page → kind_at state page ≡ Some change.new)

-- what a caller has read was read under pages that it still holds, the rows stand still as far as these tell, and the
-- caller holds what it needs for what it has to write
pub record IsBacked (grants : Grants) (words : List ℕ) (state : List Areas) (worker : ℕ) (pass : Pass) : Type 0 where
  pub reads : HasReadNothing pass ⊎ HoldsPages grants worker
  pub rows : (held : Option Held) → get_elem? grants worker ≡ some held → All (StillStands held words) pass.rows
  pub pending : Backs grants state worker pass.pending

-- the same of all callers
abbrev pub AreBacked : Grants → List ℕ → List Areas → List Pass → Type 0
AreBacked grants words state passes = (worker : ℕ) (pass : Pass) → get_elem? passes worker ≡ some pass
    → IsBacked grants words state worker pass

-- the rule of the guard
abbrev pub HasHistory : Grants → List ℕ → List Pass → Type 0
HasHistory grants words passes = (start : List Areas) × (history : List Entry) × (state : List Areas)
    × IsRunningSpace start history state words passes × AreBacked grants words state passes

-- the pass of the new caller of that number, over the client words of the opening, whose last sixteen say how many
-- entries each caller may have
abbrev pub newcomer : List ℕ → ℕ → Pass
newcomer words number = record {
  start = areas_from (rows_in words);
  blocks = nb_in words;
  keeps = keeps_in words;
  most = slice_index words (length words - 16 + number);
  seen = [];
  mine = [];
  laid = None;
  rows = [];
  sequence = None;
  pending = AtRest;
  drew = None;
  looks = [];
  since = 0;
  took = 0;
}

-- a pass when its range is given back: what was read under it may change from now on
abbrev pub rest_of : Pass → Pass
rest_of p = record p { laid = None; rows = []; sequence = None }

-- nothing is left to be written
abbrev pub IsAtRest : Pass → Type 0
IsAtRest p = p.pending ≡ AtRest

-- the caller of a number holds what its entry names, and nothing where it names nothing. Where the space keeps no
-- history a page that the entry names as read may be held as a writer, so that two faults don't bring one page in twice
abbrev pub HoldsFor : Bool → Option Held → Under → Type 0
HoldsFor keeps held Nothing = held ≡ None
HoldsFor keeps held (Reader span) =
    (held ≡ Some (record { range = record { lo = span.lo; hi = span.hi }; mode = Shared })) ⊎ ((keeps ≡ false) × (held ≡ Some (alone span)))
HoldsFor keeps held (Area span) = held ≡ Some (record { range = record { lo = span.lo; hi = span.hi }; mode = Alone })
HoldsFor keeps held Whole = held ≡ Some everything

-- what a call over one area has to write: the row that it planned, or nothing
abbrev pub change_pending : Option Change → Pending
change_pending None = AtRest
change_pending (Some change) = OneRow change

-- what a call that is numbered under this has to write: under everything the splice that it planned, and over an area
-- the row that it planned
abbrev pub pending_of : Under → Splice → Option Change → Pending
pending_of Nothing plan change = AtRest
pending_of (Reader span) plan change = AtRest
pending_of (Area span) plan change = change_pending change
pending_of Whole plan change = Planned plan

-- the entry that a note becomes
abbrev pub entry_of : ℕ → ℕ → Note → Entry
entry_of number worker note = record { number = number; worker = worker; line = note.line; call = note.call; reply = note.reply; under = note.under }

-- what an entry says beside its number and its worker, and what is to be written when it has its number
abbrev pub entry_note : Entry → Pending → Note
entry_note e pending = record { line = e.line; call = e.call; reply = e.reply; under = e.under; pending = pending }

-- a moment of the running space, and one caller's pass there
pub record Here (grants : Grants) (words : List ℕ) (passes : List Pass) (worker : ℕ) : Type 0 where
  pub start : List Areas
  pub history : List Entry
  pub state : List Areas
  pub pass : Pass
  pub running : IsRunningSpace start history state words passes
  pub backed : AreBacked grants words state passes
  pub exclusive : IsExclusive grants
  pub own : get_elem? passes worker ≡ some pass

-- the pass after a load of the number word, by which the caller sees the history so far. It keeps how many entries
-- there were, and what was held
abbrev pub after_look : List Entry → Option Held → Pass → Pass
after_look history held p = record p { seen = history; looks = record { found = length history; held = held } ∷ p.looks; since = p.since + 1 }

-- the pass after a step that leaves what the caller knows: it is counted
abbrev pub after_step : Pass → Pass
after_step p = record p { since = p.since + 1 }

-- the pass after a load of the sequence word
abbrev pub after_sequence : ℕ → Pass → Pass
after_sequence n p = record p { sequence = Some n; since = p.since + 1 }

-- the pass after a load of a word of the layout, with which the caller notes all of it, and the words of all slots,
-- also of those in which no row stands
abbrev pub after_seen : List ℕ → Pass → Pass
after_seen words p = record p {
  laid = Some (layout_in words);
  rows = noted_at words (slots_to (nb_in words)) ++ p.rows;
  since = p.since + 1;
}

-- a layout that was read, with one of its words changed
abbrev pub laid_with : ℕ → ℕ → Option (List ℕ) → Option (List ℕ)
laid_with index word None = None
laid_with index word (Some layout) = Some (slice_set layout index word)

-- the pass after a store of a word of the layout
abbrev pub after_layout : ℕ → ℕ → Pass → Pass
after_layout index word p = record p { laid = laid_with index word p.laid; since = p.since + 1 }

-- the pass after a load of a row
abbrev pub after_row : ℕ → ℕ → Pass → Pass
after_row index word p = record p { rows = record { index = index; word = word } ∷ p.rows; since = p.since + 1 }

-- the rows that were read, but one
abbrev pub without : ℕ → List ReadRow → List ReadRow
without index rows = filter (λ r. not (r.index == index)) rows

-- the pass after a store of a row
abbrev pub after_store : ℕ → ℕ → Pass → Pass
after_store index word p = record p { rows = record { index = index; word = word } ∷ without index p.rows; since = p.since + 1 }

-- the pass after an entry was numbered. A caller that has rows to write keeps what it has read of them, which only
-- itself may change until then
abbrev pub after_draw : List Entry → Entry → Pending → Option Held → Pass → Pass
after_draw history e AtRest held p = record {
  start = p.start;
  blocks = p.blocks;
  keeps = p.keeps;
  most = p.most;
  seen = history ++ e ∷ [];
  mine = p.mine ++ e ∷ [];
  laid = None;
  rows = [];
  sequence = None;
  pending = AtRest;
  drew = held;
  looks = p.looks;
  since = 0;
  took = p.since;
}
after_draw history e (Planned plan) held p = record {
  start = p.start;
  blocks = p.blocks;
  keeps = p.keeps;
  most = p.most;
  seen = history ++ e ∷ [];
  mine = p.mine ++ e ∷ [];
  laid = p.laid;
  rows = p.rows;
  sequence = p.sequence;
  pending = Planned plan;
  drew = held;
  looks = p.looks;
  since = 0;
  took = p.since;
}
after_draw history e (OneRow change) held p = record {
  start = p.start;
  blocks = p.blocks;
  keeps = p.keeps;
  most = p.most;
  seen = history ++ e ∷ [];
  mine = p.mine ++ e ∷ [];
  laid = p.laid;
  rows = p.rows;
  sequence = p.sequence;
  pending = OneRow change;
  drew = held;
  looks = p.looks;
  since = 0;
  took = p.since;
}

-- the pass after the sequence word was raised: all is written
abbrev pub after_raise : Pass → Pass
after_raise p = record p { sequence = None; pending = AtRest; since = p.since + 1 }

-- the pass after the one row of a call over its area was stored: all is written, and what was read is read anew
abbrev pub after_change : Pass → Pass
after_change p = record p { laid = None; rows = []; sequence = None; pending = AtRest; since = p.since + 1 }

-- the loads that a caller may make: the number word, where the space keeps its history, and the sequence word at any
-- time. What it has read of the sequence word, of the layout and of a row it remembers, and it reads the last two only
-- while it holds pages. With a word of the layout it remembers all of it and the words of all slots at the moment;
-- those that others may change beside its range stand still as far as it can tell, and all of them where it holds
-- everything. Of a load of the number word it remembers what it found and held
pub data MayLoad (own : Option Held → Type 0) (free held : Type 0) (words : List ℕ) (history : List Entry) (place : ℕ) (p after : Pass) : Type 0 where
  number : (h : Option Held) → own h → p.keeps ≡ true → place ≡ number_place p.blocks → after ≡ after_look history h p
      → MayLoad own free held words history place p after
  glance : free → place ≡ 1 → after ≡ after_step p → MayLoad own free held words history place p after
  sequence : held → place ≡ 1 → after ≡ after_sequence (slice_index words 1) p → MayLoad own free held words history place p after
  layout : held → IsLayoutPlace p.blocks place → after ≡ after_seen words p → MayLoad own free held words history place p after
  row : (index : ℕ) → held → index < 128 * p.blocks → place ≡ 3 + index → after ≡ after_row index (slice_index words (3 + index)) p
      → MayLoad own free held words history place p after

-- the caller of that number holds this, or nothing
abbrev pub HoldsJust : Grants → ℕ → Option Held → Type 0
HoldsJust grants worker held = get_elem? grants worker ≡ some held

-- the caller of that number holds nothing
abbrev pub HoldsNothing : Grants → ℕ → Type 0
HoldsNothing grants worker = get_elem? grants worker ≡ some None

-- a draw of a number: the entry is right at the state, and what its call leaves is to be written; the range that it
-- names is held, nothing else is to be written, and the caller has no more entries with it than it may have
pub record MayDraw (grants : Grants) (words : List ℕ) (passes : List Pass) (worker : ℕ) (note : Note)
    (here : Here grants words passes worker) : Type 0 where
  pub left : List Areas
  pub named : IsNamedCall note.call
  pub right : IsRight here.state note.call note.reply note.under left
  pub leaves : Leaves here.state note.under note.pending left
  pub rest : IsAtRest here.pass
  pub held : (h : Option Held) × (get_elem? grants worker ≡ some h) × HoldsFor here.pass.keeps h note.under
  pub few : length here.pass.mine + 1 ≤ here.pass.most

-- a caller that may draw a number has drawn it
abbrev pub HasDrawn : (grants : Grants) (words : List ℕ) (passes : List Pass) (worker : ℕ) (note : Note)
    → Here grants words passes worker → Pass → Type 0
HasDrawn grants words passes worker note here after = (may : MayDraw grants words passes worker note here)
    × (after ≡ after_draw here.history (entry_of (length here.history) worker note) note.pending may.held.0 here.pass)

-- a draw in a space that keeps no history: a load of the number word, which changes no word. At this step the entry
-- takes its place in the history
pub record IsQuietDraw (grants : Grants) (words : List ℕ) (passes : List Pass) (worker : ℕ) (note : Note)
    (here : Here grants words passes worker) (place : ℕ) (after : Pass) : Type 0 where
  pub number : place ≡ number_place here.pass.blocks
  pub unkept : here.pass.keeps ≡ false
  pub drawn : HasDrawn grants words passes worker note here after

-- a word is one of the rows of a plan: of those that stood, or of those that it leaves
abbrev pub IsPlanRow : Splice → ℕ → Type 0
IsPlanRow plan word = IsOneOf plan.old word ⊎ IsOneOf (rows_after plan) word

-- the stores of a call under everything: a row of its plan in a slot, the count of the rows that it leaves, or another
-- word of the layout
pub data MayStore (plan : Splice) (place value : ℕ) (p after : Pass) : Type 0 where
  store_row : (index : ℕ) → index < 128 * p.blocks → place ≡ 3 + index → IsPlanRow plan value
      → after ≡ after_store index value p → MayStore plan place value p after
  store_count : place ≡ 2 → value ≡ length (rows_after plan) → after ≡ after_layout 0 value p → MayStore plan place value p after
  store_layout : (index : ℕ) → index ≤ p.blocks → place ≡ 3 + 128 * p.blocks + index → after ≡ after_layout (suc index) value p
      → MayStore plan place value p after

-- a word is new at its place: another word stands there, whether or not that place is in use
abbrev pub IsNew : List ℕ → ℕ → ℕ → Type 0
IsNew words place value = slice_index words place ≢ value

-- what a caller that has something to write may store
abbrev pub MayWrite : List ℕ → Pending → ℕ → ℕ → Pass → Pass → Type 0
MayWrite words AtRest place value p after = ⊥
MayWrite words (Planned plan) place value p after = MayStore plan place value p after × IsNew words place value
MayWrite words (OneRow change) place value p after = (place ≡ 3 + change.index) × (value ≡ new_word change)
    × MayReplace words change × (after ≡ after_change p)

-- the additions: a draw of a number in a space that keeps its history, and the raising of the sequence word where the
-- rows show what a call under everything has left
pub data MayAdd (grants : Grants) (words : List ℕ) (passes : List Pass) (worker : ℕ) (note : Note)
    (here : Here grants words passes worker) (place : ℕ) (after : Pass) : Type 0 where
  draw : place ≡ number_place here.pass.blocks → here.pass.keeps ≡ true → HasDrawn grants words passes worker note here after
      → MayAdd grants words passes worker note here place after
  raise : (plan : Splice) → place ≡ 1 → here.pass.pending ≡ Planned plan → RowsShow words (kind_at here.state)
      → after ≡ after_raise here.pass → MayAdd grants words passes worker note here place after

-- the steps on client words that the guard allows
abbrev pub Allowed : Grants → List ℕ → List Pass → ℕ → ClientStep → Note → Pass → Type 0
Allowed grants words passes worker (loads i) note after =
    (here : Here grants words passes worker)
    × (MayLoad (HoldsJust grants worker) (HoldsNothing grants worker) (HoldsPages grants worker) words here.history i here.pass after
    ⊎ IsQuietDraw grants words passes worker note here i after)
Allowed grants words passes worker (stores i value) note after =
    (here : Here grants words passes worker) × MayWrite words here.pass.pending i value here.pass after
Allowed grants words passes worker (exchanges i expected new) note after = ⊥
Allowed grants words passes worker (adds i by) note after =
    (by ≡ 1) × (here : Here grants words passes worker) × MayAdd grants words passes worker note here i after
