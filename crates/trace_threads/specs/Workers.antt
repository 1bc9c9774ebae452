-- What contracts see of a worker, and what it is that lines were played: each line's call was made once, by the
-- worker's caller, in the lines' order, and has its entry. A trace's lines are those of strace(1) with the process that
-- made them; how they are shared out among workers is no matter of this crate.
use Rattle.std.specs.Prelude.{true, ℕ, ◌≡◌, ◌<◌, ◌≤◌, ◌+◌, ◌↔◌, None, List, [], ◌∷◌, ◌++◌, length}
use mathlib.Core.Option.{some}
use lib.ListN.{get_elem?}
use Rattle.area_rows.specs.Rows.{keeps_by}
use Rattle.atomic_table.specs.Seated.{TableId}
use Rattle.page_types.specs.PlainReply.{plain_reply}
use Rattle.space_model.specs.declared.areas.Area.{Area}
use Rattle.space_model.specs.declared.entries.Entry.{Entry}
use Rattle.space_model.specs.Held.{FitsUnder, HoldsSomeArea, IsSimple}
use Rattle.area_rows.specs.declared.answer.Answer.{Answer}
use Rattle.area_rows.specs.declared.answer.Answer.TheVariants.{Given, Spent}
use Rattle.area_rows.specs.History.{StartsWith}
use Rattle.area_rows.specs.Callers.{CallerView}
use Rattle.area_rows.specs.Called.{IsCalled}
use Rattle.trace_threads.specs.declared.worker.Line.{Line}

-- a worker: a caller of a space, and the lines that it has to play
pub record WorkerView : Type 0 where
  pub caller : CallerView
  pub lines : List Line

-- the workers' callers are all of one table
abbrev pub AreOfTable : TableId → List WorkerView → Type 0
AreOfTable table workers = (k : ℕ) (w : WorkerView) → get_elem? workers k ≡ some w → w.caller.seat.table ≡ table

-- the entry is that of a worker's line: of this worker, with the line's number and its call
pub record IsEntryOf (worker : ℕ) (l : Line) (e : Entry) : Type 0 where
  pub worker_is : e.worker ≡ worker
  pub line_is : e.line ≡ l.line
  pub call_is : e.call ≡ l.call

-- the entries are those of a worker's lines: one for each line, in their order, and no other
abbrev pub AreEntriesOf : ℕ → List Line → List Entry → Type 0
AreEntriesOf worker [] [] = Unit {0}
AreEntriesOf worker (l ∷ ls) (e ∷ es) = IsEntryOf worker l e × AreEntriesOf worker ls es
AreEntriesOf worker _ _ = ⊥

-- the numbers of the entries rise: each is above the one before it, the first not below lo and the last below hi
abbrev pub Rise : ℕ → List Entry → ℕ → Type 0
Rise lo [] hi = lo ≤ hi
Rise lo (e ∷ es) hi = (lo ≤ e.number) × Rise (e.number + 1) es hi

-- what was held is what the entry's call has to hold at these areas: where it may hold its area alone, it does
pub record IsHeld (A : List Area) (e : Entry) : Type 0 where
  pub fits : FitsUnder A e.call e.under
  pub area : HoldsSomeArea e.under ↔ ((plain_reply e.call ≡ None) × IsSimple A e.call)

-- the call of a line was made once and has this entry, as each call that gives one. Where no number was drawn since the
-- caller saw the history last, it holds its area alone exactly where it may. The space keeps its history
pub record IsPlayedAs (before : CallerView) (l : Line) (e : Entry) (after : CallerView) : Type 0 where
  pub called : IsCalled before l.line l.call e after
  pub keeps : keeps_by before.seat.table ≡ true
  pub alone : e.number ≡ length before.seat.pass.seen → IsHeld called.numbered.state e

-- the answer of a line's call: an entry where a number is left, and otherwise nothing has changed
abbrev pub IsLineAnswer : CallerView → Line → Answer → CallerView → Type 0
IsLineAnswer before l (Given e) after = (0 < before.left) × IsPlayedAs before l e after
IsLineAnswer before l Spent after = (before.left ≡ 0) × (after ≡ before)

-- the calls of the lines were made one after another, each once, and have these entries
abbrev pub Plays : List Line → CallerView → List Entry → CallerView → Type 0
Plays [] before [] after = after ≡ before
Plays (l ∷ ls) before (e ∷ es) after = (c : CallerView) × IsPlayedAs before l e c × Plays ls c es after
Plays _ before _ after = ⊥

-- a caller has played lines: its own entries have grown by one for each line, in their order, whose numbers rise and
-- are not below the number of entries that it had seen before; it has used one number for each, and is otherwise as
-- before
pub record HasPlayed (lines : List Line) (before after : CallerView) : Type 0 where
  pub entries : List Entry
  pub plays : Plays lines before entries after
  pub theirs : AreEntriesOf before.seat.number lines entries
  pub rise : Rise (length before.seat.pass.seen) entries (length after.seat.pass.seen)
  pub mine : after.seat.pass.mine ≡ before.seat.pass.mine ++ entries
  pub seen : StartsWith after.seat.pass.seen before.seat.pass.seen
  pub left : after.left + length lines ≡ before.left
  pub start : after.seat.pass.start ≡ before.seat.pass.start
  pub table : after.seat.table ≡ before.seat.table
  pub number : after.seat.number ≡ before.seat.number
  pub held : after.seat.held ≡ before.seat.held

-- a worker's caller has played all of its lines, and none is left
pub record HasDone (before after : WorkerView) : Type 0 where
  pub none_left : after.lines ≡ []
  pub played : HasPlayed before.lines before.caller after.caller

-- each worker has
pub record HavePlayed (before after : List WorkerView) : Type 0 where
  pub count : length after ≡ length before
  pub each : (k : ℕ) (a b : WorkerView) → get_elem? before k ≡ some a → get_elem? after k ≡ some b → HasDone a b
