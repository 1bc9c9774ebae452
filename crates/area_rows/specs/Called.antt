-- What every call promises that gives an entry, whichever it is: a fault, a change of protection, or one that changes
-- rows. It is one clause, so that who uses several of them needs one lemma. The entry stands in the one history
-- (Herlihy and Wing, TOPLAS 1990), and the caller held what it names at the step that drew its number.
use Rattle.std.specs.Prelude.{ℕ, ◌≡◌, ◌<◌, ◌≤◌, ◌+◌, ◌*◌, ◌⊎◌, Some, MatchOption, List, [], ◌∷◌, ◌++◌}
use Rattle.page_types.specs.declared.TheConstants.{SPARE}
use Rattle.page_types.specs.declared.calls.Call.{Call}
use Rattle.page_types.specs.declared.calls.Reply.TheVariants.{Refused}
use Rattle.page_types.specs.declared.calls.Why.{Why}
use Rattle.page_types.specs.Named.{IsNamedReply}
use Rattle.page_types.specs.PlainReply.{plain_reply}
use Rattle.space_model.specs.declared.areas.Area.{Area as Areas}
use Rattle.space_model.specs.Areas.{IsAreaList, row_count}
use Rattle.space_model.specs.declared.entries.Entry.{Entry}
use Rattle.space_model.specs.declared.entries.Under.{Under}
use Rattle.space_model.specs.declared.entries.Under.TheVariants.{Nothing, Reader, Area, Whole}
use Rattle.row_plans.specs.RowLists.{areas_from}
use Rattle.row_plans.specs.Plans.{IsRowList}
use Rattle.row_plans.specs.Loads.{TakesLoads}
use Rattle.row_blocks.specs.Blocks.{IsLaidOut, rows_in}
use Rattle.range_rw.specs.Contract.{SeatState, AsksFor}
use Rattle.lock_core.specs.declared.range.Held.{Held}
use Rattle.area_guard.specs.declared.guard.Pass.{Pass}
use Rattle.area_rows.specs.declared.answer.Answer.{Answer}
use Rattle.area_rows.specs.declared.answer.Answer.TheVariants.{Given, Spent}
use Rattle.area_guard.specs.Reads.{everything}
use Rattle.area_guard.specs.Rows.{blocks_by, number_place}
use Rattle.area_guard.specs.History.{Runs, IsAtRest}
use Rattle.area_rows.specs.Callers.{CallerView, IsNumbered, entry_in, place_loads}

-- the client word of a call's last step, over so many blocks: the number word; over an area this, or a row word where
-- a row changes; under everything the sequence word
abbrev pub IsLastPlace : ℕ → Under → ℕ → Type 0
IsLastPlace nb Nothing place = place ≡ number_place nb
IsLastPlace nb (Reader span) place = place ≡ number_place nb
IsLastPlace nb (Area span) place = (place ≡ number_place nb) ⊎ (3 ≤ place)
IsLastPlace nb Whole place = place ≡ 1

-- the last step that the caller made on a client word was made in this call, on that word: it has a number not below
-- that of the steps at the call's entry
pub record IsLastStep (before : SeatState Pass) (under : Under) (after : SeatState Pass) : Type 0 where
  pub place : ℕ
  pub step : ℕ
  pub word : IsLastPlace (blocks_by before.table) under place
  pub client : after.trace.client ≡ Some (record { place = place; step = step })
  pub since : before.trace.taken ≤ step
  pub until : step < after.trace.taken

-- the call got one entry, with this line and with named bits alone, and one number of the caller is used. The entry got
-- the next number, which was drawn while the caller held what the entry names. All that it leaves is written, by the
-- last step at the latest, and the caller holds what it held before
pub record IsCalled (before : CallerView) (line : ℕ) (call : Call) (e : Entry) (after : CallerView) : Type 0 where
  pub line_is : e.line ≡ line
  pub call_is : e.call ≡ call
  pub named : IsNamedReply e.reply
  pub numbered : IsNumbered before.seat e after.seat
  pub last : IsLastStep before.seat e.under after.seat
  pub written : IsAtRest after.seat.pass
  pub left : after.left + 1 ≡ before.left

-- the answer of a call: an entry where a number is left, and otherwise nothing has changed
abbrev pub IsAnswered : CallerView → ℕ → Call → Answer → CallerView → Type 0
IsAnswered before line call (Given e) after = (0 < before.left) × IsCalled before line call e after
IsAnswered before line call Spent after = (before.left ≡ 0) × (after ≡ before)

-- how a call under everything goes on from where it holds all pages. Up to its draw it made no more steps on client
-- words than one plan of the call loads on the rows that show the state before its entry, as they are laid out in
-- blocks, and one; the pass counts them from the draw before on. A search for a place takes one load for each block in
-- use and 277 more. From the draw on it made at most three for each row of that state and for SPARE more, 16 for each
-- block that the space has room for, and 2362 more; after a refusal the one that raises the sequence word. That was the
-- last of them, and behind it came at most two steps of the lock, by which the pages were given back
pub record EndsSoon (before : SeatState Pass) (e : Entry) (after : SeatState Pass) : Type 0 where
  pub history : List Entry
  pub state : List Areas
  pub runs : Runs 0 before.pass.start history state
  pub in_order : IsAreaList state
  pub words : List ℕ
  pub laid : IsLaidOut (blocks_by before.table) words
  pub list : IsRowList (rows_in (blocks_by before.table) words)
  pub shown : areas_from (rows_in (blocks_by before.table) words) ≡ state
  pub took : TakesLoads (rows_in (blocks_by before.table) words) (place_loads (blocks_by before.table) words) e.call (before.pass.since + 1) after.pass.took
  pub seen : after.pass.seen ≡ history ++ entry_in history e ∷ []
  pub since : after.pass.since ≤ 3 * (row_count state + SPARE) + 16 * blocks_by before.table + 2362
  pub refused : (why : Why) → e.reply ≡ Refused why → after.pass.since ≡ 1
  pub step : ℕ
  pub client : after.trace.client ≡ Some (record { place = 1; step = step })
  pub back : after.trace.taken ≤ step + 3

-- the caller's last step raised the sequence word, which ends a call under everything
abbrev pub EndsAtOnce : SeatState Pass → Type 0
EndsAtOnce after = (step : ℕ) × (after.trace.client ≡ Some (record { place = 1; step = step })) × (after.trace.taken ≡ step + 1)

-- how many steps a call takes: one where its arguments decide it, and none where no number is left. Any other waits
-- until it holds everything, and ends soon
abbrev pub TakesSteps : SeatState Pass → Call → Answer → SeatState Pass → Type 0
TakesSteps before call (Given e) after =
    MatchOption (plain_reply call) (EndsSoon before e after) (λ _. after.trace.taken ≡ before.trace.taken + 1)
TakesSteps before call Spent after = after.trace.taken ≡ before.trace.taken

-- which ranges a call asks for that may have to hold everything: that, once or more often, or none where its arguments
-- decide it or no number is left. What is held was asked for, so it holds nothing else on its way
abbrev pub AsksAtCall : Call → Answer → List Held → List Held → Type 0
AsksAtCall call (Given e) before after = MatchOption (plain_reply call) (AsksFor everything before after) (λ _. after ≡ before)
AsksAtCall call Spent before after = after ≡ before
