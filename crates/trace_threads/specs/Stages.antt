-- What belongs to a caller and a seat while lines are played and pages touched, and how seats are given to the workers
-- of a new space. Only private functions speak of this; what callers see is `HasTouched` and `AreTouchedPages`.
use Rattle.std.specs.Prelude.{ℕ, ◌≡◌, ◌≤◌, ◌+◌, List, [], ◌∷◌, ◌++◌, length}
use Rattle.space_model.specs.declared.entries.Entry.{Entry}
use Rattle.area_rows.specs.Callers.{CallerView}
use Rattle.page_touch.specs.Touches.{TouchView}
use Rattle.trace_threads.specs.declared.worker.Line.{Line}
use Rattle.trace_threads.specs.Workers.{WorkerView, HasPlayed}
use Rattle.trace_threads.specs.Touching.{ToucherView, granted_page, granted_pages, fault_count}

-- a seat has touched the page of an entry that is a granted fault, and of another entry none
pub record HasTouchedPage (e : Entry) (before after : TouchView) : Type 0 where
  pub table : after.table ≡ before.table
  pub quota : after.quota ≡ before.quota
  pub touched : after.touched ≡ before.touched ++ granted_page e

-- a caller has played lines, and a seat has touched the pages of the granted faults among them
pub record HasTouchedLines (lines : List Line) (before after : CallerView) (old new : TouchView) : Type 0 where
  pub played : HasPlayed lines before after
  pub table : new.table ≡ old.table
  pub quota : new.quota ≡ old.quota
  pub touched : new.touched ≡ old.touched ++ granted_pages played.entries

-- how many of a worker's lines are faults
abbrev pub worker_faults : WorkerView → ℕ
worker_faults w = fault_count w.lines

-- each seat may touch as many pages as its worker's lines have faults, and there are as many of both
abbrev pub MaySit : List WorkerView → List TouchView → Type 0
MaySit [] [] = Unit {0}
MaySit (w ∷ ws) (s ∷ ss) = (fault_count w.lines + length s.touched ≤ s.quota) × MaySit ws ss
MaySit _ _ = ⊥

-- one worker that touches for each worker, with its seat
abbrev pub seated : List WorkerView → List TouchView → List ToucherView
seated [] seats = []
seated (w ∷ ws) [] = []
seated (w ∷ ws) (s ∷ ss) = record { worker = w; seat = s } ∷ seated ws ss

-- the parts of such a worker
abbrev pub toucher_worker : ToucherView → WorkerView
toucher_worker w = w.worker

abbrev pub toucher_seat : ToucherView → TouchView
toucher_seat w = w.seat

abbrev pub toucher_caller : ToucherView → CallerView
toucher_caller w = w.worker.caller
