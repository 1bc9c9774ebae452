-- Workers that touch the page of each fault that is granted, in a set of touched pages beside their space. What belongs
-- to a worker is then a caller with its lines and a seat of the set. A page is touched when a program's access to it
-- was granted, as the accessed bit of a page table says it (proc_pid_smaps(5), `Referenced`).
use Rattle.std.specs.Prelude.{ℕ, ◌≡◌, ◌↔◌, List, [], ◌∷◌, ◌++◌, length, sum_by, flat_map, Contains}
use mathlib.Core.Option.{some}
use lib.ListN.{get_elem?}
use Rattle.atomic_table.specs.Seated.{TableId}
use Rattle.page_types.specs.declared.calls.Call.{Call}
use Rattle.page_types.specs.declared.calls.Call.TheVariants.{Fault}
use Rattle.page_types.specs.declared.calls.Reply.{Reply}
use Rattle.page_types.specs.declared.calls.Reply.TheVariants.{At, Zero, Granted, Refused}
use Rattle.page_types.specs.Pages.{page_of}
use Rattle.page_touch.specs.Touches.{TouchView, IsRising}
use Rattle.space_model.specs.declared.entries.Entry.{Entry}
use Rattle.trace_threads.specs.declared.worker.Line.{Line}
use Rattle.trace_threads.specs.Workers.{WorkerView, HasDone}

-- the page of an address, where this is the reply to a fault there that was granted
abbrev pub page_granted : ℕ → Reply → List ℕ
page_granted addr (At at) = []
page_granted addr Zero = []
page_granted addr (Granted kind) = page_of addr ∷ []
page_granted addr (Refused why) = []

-- the page of a call, where it is a fault with that reply and was granted
abbrev pub page_by : Call → Reply → List ℕ
page_by (Fault addr access) reply = page_granted addr reply
page_by call reply = []

-- the page of an entry that is a granted fault, and of another entry none
abbrev pub granted_page : Entry → List ℕ
granted_page e = page_by e.call e.reply

-- the pages of the granted faults, in the order of the entries
abbrev pub granted_pages : List Entry → List ℕ
granted_pages entries = flat_map granted_page entries

-- 1 for a fault
abbrev pub fault_in : Call → ℕ
fault_in (Fault addr access) = 1
fault_in call = 0

abbrev pub line_faults : Line → ℕ
line_faults l = fault_in l.call

-- how many of the lines are faults
abbrev pub fault_count : List Line → ℕ
fault_count lines = sum_by line_faults lines

-- a worker that touches: a worker, and its seat of a set of touched pages
pub record ToucherView : Type 0 where
  pub worker : WorkerView
  pub seat : TouchView

-- the workers' callers are all of one space, and their seats all of one set
abbrev pub AreTouchersOf : TableId → TableId → List ToucherView → Type 0
AreTouchersOf space touches workers = (k : ℕ) (w : ToucherView) → get_elem? workers k ≡ some w
    → (w.worker.caller.seat.table ≡ space) × (w.seat.table ≡ touches)

-- a worker has played all of its lines, and none is left; and its seat has touched the pages of those faults among them
-- that were granted, in their order, and no other page
pub record HasTouched (before after : ToucherView) : Type 0 where
  pub done : HasDone before.worker after.worker
  pub table : after.seat.table ≡ before.seat.table
  pub quota : after.seat.quota ≡ before.seat.quota
  pub touched : after.seat.touched ≡ before.seat.touched ++ granted_pages done.played.entries

-- each worker has
pub record HaveTouched (before after : List ToucherView) : Type 0 where
  pub count : length after ≡ length before
  pub each : (k : ℕ) (a b : ToucherView) → get_elem? before k ≡ some a → get_elem? after k ≡ some b → HasTouched a b

-- these are the pages of the granted faults of a list of entries, each once, in rising order
pub record AreTouchedPages (entries : List Entry) (pages : List ℕ) : Type 0 where
  pub rising : IsRising pages
  pub all : (page : ℕ) → Contains pages page ↔ Contains (granted_pages entries) page
