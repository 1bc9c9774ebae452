-- What the closing of a space collects after workers have played: the entries of the workers' lines and no other, which
-- taken by number are a legal history of the one-thread address space (Herlihy and Wing, TOPLAS 1990).
use Rattle.std.specs.Prelude.{ℕ, ◌≡◌, ◌≢◌, ◌≤◌, List, [], length, map}
use mathlib.Core.Option.{some}
use lib.ListN.{get_elem?}
use Rattle.space_model.specs.declared.areas.Area.{Area}
use Rattle.space_model.specs.declared.entries.Entry.{Entry}
use Rattle.space_model.specs.Areas.{IsAreaList, HasNamedKinds}
use Rattle.space_model.specs.History.{Chains, HasRightReply, IsNumberedFrom, HasNamedCalls}
use Rattle.area_rows.specs.History.{Runs, HasNamedReplies, entries_of}
use Rattle.area_rows.specs.declared.space.SpaceFault.{SpaceFault}
use Rattle.area_rows.specs.declared.space.SpaceFault.TheVariants.{Callers, Rows, Memory}
use Rattle.area_rows.specs.Callers.{CallerView, IsSpaceFault, IsWhole}
use Rattle.trace_threads.specs.declared.worker.Line.{Line}
use Rattle.trace_threads.specs.Workers.{WorkerView, AreEntriesOf, Rise, IsHeld, HavePlayed}

-- For workers 0, 1 and so on with these lists of lines the entries are collected: there is one entry for each line of
-- each worker, with that worker, the line's number and its call, and no other entry; they are numbered 0, 1 and so on,
-- and of two lines of one worker the earlier has the smaller number.
pub record IsCollected (workers : List (List Line)) (entries : List Entry) : Type 0 where
  pub lines : (k : ℕ) (ls : List Line) → get_elem? workers k ≡ some ls → AreEntriesOf k ls (entries_of k entries)
  pub no_other : (k : ℕ) → length workers ≤ k → entries_of k entries ≡ []
  pub numbered : IsNumberedFrom 0 entries
  pub in_order : (k : ℕ) → Rise 0 (entries_of k entries) (length entries)

-- each caller of a space has just the entries of its list of lines
pub record AreMade (workers : List (List Line)) (callers : List CallerView) : Type 0 where
  pub count : length callers ≡ length workers
  pub each : (k : ℕ) (ls : List Line) (c : CallerView) → get_elem? workers k ≡ some ls → get_elem? callers k ≡ some c → AreEntriesOf k ls c.seat.pass.mine

-- these then are what the closing collects
abbrev pub OwnEntriesAreCollected : Type 0
OwnEntriesAreCollected = (workers : List (List Line)) (callers : List CallerView) (entries : List Entry) (areas : List Area)
    → AreMade workers callers → IsWhole callers entries areas → IsCollected workers entries

-- a worker's caller
abbrev pub caller_of : WorkerView → CallerView
caller_of w = w.caller

-- the workers have these lists of lines, in order of their callers' numbers, and no caller has an entry yet
pub record AreFresh (lines : List (List Line)) (workers : List WorkerView) : Type 0 where
  pub count : length workers ≡ length lines
  pub each : (k : ℕ) (ls : List Line) (w : WorkerView) → get_elem? lines k ≡ some ls → get_elem? workers k ≡ some w
      → (w.lines ≡ ls) × (w.caller.seat.number ≡ k) × (w.caller.seat.pass.mine ≡ [])

-- when they have played, each caller has just the entries of its list
abbrev pub PlaysAreMade : Type 0
PlaysAreMade = (lines : List (List Line)) (before after : List WorkerView) → AreFresh lines before → HavePlayed before after
    → AreMade lines (map caller_of after)

-- what was held is right for the entry's call, and the reply is what the call answers, which leaves area list B
abbrev pub HeldAndReplies : List Area → Entry → List Area → Type 0
HeldAndReplies A e B = IsHeld A e × HasRightReply A e B

-- what was held is right for each call at the state before it
abbrev pub AllHeld : List Area → List Entry → Type 0
AllHeld A entries = (B : List Area) × Chains HeldAndReplies A entries B

-- no worker but this one has an entry
abbrev pub IsOnlyWorker : ℕ → List Entry → Type 0
IsOnlyWorker worker entries = (k : ℕ) → k ≢ worker → entries_of k entries ≡ []

-- the lines were played on a space that started with these areas: the entries are collected, run from the start to the
-- areas that are left, and have named bits alone. Where one worker alone has lines, each call that may hold its area
-- alone does
pub record IsPlayed (start : List Area) (workers : List (List Line)) (entries : List Entry) (areas : List Area) : Type 0 where
  pub collected : IsCollected workers entries
  pub runs : Runs 0 start entries areas
  pub calls : HasNamedCalls entries
  pub replies : HasNamedReplies entries
  pub in_order : IsAreaList areas
  pub named : HasNamedKinds areas
  pub alone : (worker : ℕ) → IsOnlyWorker worker entries → AllHeld start entries

-- why no trace of so many lists was played on a start of so many rows. Want of memory may come at any growth
abbrev pub IsTraceFault : ℕ → ℕ → SpaceFault → Type 0
IsTraceFault lists rows (Callers n) = IsSpaceFault lists rows (Callers n)
IsTraceFault lists rows (Rows n) = IsSpaceFault lists rows (Rows n)
IsTraceFault lists rows Memory = Unit {0}
