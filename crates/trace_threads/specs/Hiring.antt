-- How lists of lines are given to the callers of a new space. Private functions speak of this, and a trial of
-- `AreNewWorkers`; what callers see is `IsPlayed`.
use Rattle.std.specs.Prelude.{ℕ, ◌≡◌, ◌≤◌, ◌<◌, None, List, [], ◌∷◌, All, length}
use mathlib.Core.Option.{some}
use lib.ListN.{get_elem?}
use Rattle.atomic_table.specs.Seated.{TableId}
use Rattle.page_types.specs.Named.{IsNamedCall}
use Rattle.space_model.specs.declared.areas.Area.{Area}
use Rattle.area_rows.specs.Callers.{CallerView}
use Rattle.trace_threads.specs.declared.worker.Line.{Line}
use Rattle.trace_threads.specs.Workers.{WorkerView}

-- the caller may be given these lines
pub record MayPlay (c : CallerView) (lines : List Line) : Type 0 where
  pub left : length lines ≤ c.left
  pub free : c.seat.held ≡ None
  pub named : All (λ l. IsNamedCall l.call) lines

-- each caller may be given its list, and there are as many of both
abbrev pub AreReady : List CallerView → List (List Line) → Type 0
AreReady [] [] = Unit {0}
AreReady (c ∷ cs) (ls ∷ rest) = MayPlay c ls × AreReady cs rest
AreReady _ _ = ⊥

-- one worker for each caller, with its list
abbrev pub hired : List CallerView → List (List Line) → List WorkerView
hired [] lines = []
hired (c ∷ cs) [] = []
hired (c ∷ cs) (ls ∷ rest) = record { caller = c; lines = ls } ∷ hired cs rest

-- a worker of a new space with these lines
pub record IsNewWorker (table : TableId) (start : List Area) (k : ℕ) (ls : List Line) (w : WorkerView) : Type 0 where
  pub lines : w.lines ≡ ls
  pub table_is : w.caller.seat.table ≡ table
  pub number : w.caller.seat.number ≡ k
  pub held : w.caller.seat.held ≡ None
  pub mine : w.caller.seat.pass.mine ≡ []
  pub seen : w.caller.seat.pass.seen ≡ []
  pub start_is : w.caller.seat.pass.start ≡ start

-- one worker for each list, and at least one
pub record AreNewWorkers (table : TableId) (start : List Area) (lines : List (List Line)) (workers : List WorkerView) : Type 0 where
  pub count : length workers ≡ length lines
  pub any : 0 < length workers
  pub each : (k : ℕ) (ls : List Line) (w : WorkerView) → get_elem? lines k ≡ some ls → get_elem? workers k ≡ some w → IsNewWorker table start k ls w
