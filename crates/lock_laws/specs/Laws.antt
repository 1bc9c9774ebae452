-- What is proved of the machine: laws over the definitions alone, each named by the contract of a public function
-- with no body. A lock is a state with the sizes that its type keeps and the invariant. The start is one, every step
-- keeps it, and it gives exclusion and no reuse; so both hold after every run. Kogan, Dice and Issa 2020 argue for
-- their list in prose; the barrier before reuse is this project's own profile.
use Rattle.std.specs.Prelude.{◌≡◌, ◌≢◌, ◌⊎◌, ℕ, suc, ◌/◌, ◌%◌, ◌<◌, ◌≤◌, List, ◌∷◌, Some, None, slice_get}
use Rattle.lock_core.specs.Counted.{times}
use Rattle.lock_core.specs.Range.{Overlaps, IsRange}
use Rattle.lock_core.specs.Grants.{IsExclusive, AreExclusive}
use Rattle.lock_core.specs.declared.range.Mode.TheVariants.{Reader, Writer}
use Rattle.lock_core.specs.declared.views.View.{View}
use Rattle.lock_core.specs.declared.views.Cursor.{Cursor}
use Rattle.lock_core.specs.declared.views.Own.TheVariants.{Nothing}
use Rattle.lock_core.specs.declared.steps.Step.{Step}
use Rattle.lock_core.specs.declared.steps.Step.TheVariants.{ClearHome}
use Rattle.lock_laws.specs.Paths.{Reach}
use Rattle.lock_core.specs.Words.{to, plain_node_of, IsUnmarked}
use Rattle.lock_core.specs.Nodes.{Listed, listed}
use Rattle.lock_core.specs.Views.{next_epoch}
use Rattle.lock_core.specs.StepTable.{Plan, IsLine}
use Rattle.lock_core.specs.Machine.{Machine, heap, after, run, start, held_by_seat, grants_from}
use Rattle.lock_core.specs.Sizes.{IsSized, IsViewSound}
use Rattle.lock_laws.specs.Invariant.{LockInvariant, NoReuse}

-- a state that the lock may be in between two steps
pub record IsLock (m : Machine) : Type 0 where
  pub sized : IsSized m
  pub invariant : LockInvariant (heap m) m.views

-- before any step the state is a lock, with any number of seats that there may be
abbrev pub StartIsLock : Type 0
StartIsLock = (seats : ℕ) → 0 < seats → seats ≤ 16 → IsLock (start seats)

-- this step, of any seat and wherever it is enabled, makes a lock of a lock
abbrev pub Keeps : Step → Type 0
Keeps step = (m next : Machine) (s : ℕ) → IsLock m → after m s step ≡ Some next → IsLock next

-- so does every step
abbrev pub StepsKeep : Type 0
StepsKeep = (step : Step) → Keeps step

-- no two conflicting ranges are held
abbrev pub LockIsExclusive : Type 0
LockIsExclusive = (m : Machine) → IsLock m → IsExclusive (held_by_seat m)

-- of a linked reader and a linked writer that overlap the reader stands before the writer
abbrev pub ReaderStandsFirst : Type 0
ReaderStandsFirst =
    (m : Machine) (i j : ℕ) (v u : View) (r w : Listed) → IsLock m → slice_get m.views i ≡ Some v → slice_get m.views j ≡ Some u →
    v.own ≡ listed r → u.own ≡ listed w →
    r.mode ≡ Reader → w.mode ≡ Writer → Overlaps r.range w.range → Reach (to (heap m)) w.node (to (heap m) (suc r.node))

-- no view may reach a node that is ready or being filled
abbrev pub LockHasNoReuse : Type 0
LockHasNoReuse = (m : Machine) → IsLock m → NoReuse (heap m) m.views

-- each view of a lock is sound by itself
abbrev pub ViewsAreSound : Type 0
ViewsAreSound = (m : Machine) (i : ℕ) (v : View) → IsLock m → slice_get m.views i ≡ Some v → IsViewSound m.seats i v

-- the lower end that a cursor knows of its node and the hi word of that node are the ends of a range
abbrev pub ReadsRange : Type 0
ReadsRange =
    (m : Machine) (i : ℕ) (v : View) (c : Cursor) (y lo : ℕ) → IsLock m → slice_get m.views i ≡ Some v → v.cursor ≡ Some c →
    plain_node_of c.cur ≡ Some y → c.lo ≡ Some lo →
    IsRange lo ((heap m).hi y / 2)

-- a cursor's node that is found unmarked is another seat's, or the own linked one
abbrev pub FindsOther : Type 0
FindsOther =
    (m : Machine) (i : ℕ) (v : View) (c : Cursor) (y : ℕ) → IsLock m → slice_get m.views i ≡ Some v → v.cursor ≡ Some c →
    plain_node_of c.cur ≡ Some y → IsUnmarked (heap m) y →
    (y / 16 ≢ i) ⊎ (k : Listed) × (v.own ≡ listed k) × (k.node ≡ y)

-- a node leaves the ready ones of seat i only by a ClearHome of seat i, which names it
abbrev pub LeavesReadyByClearHome : Type 0
LeavesReadyByClearHome =
    (m next : Machine) (s i x : ℕ) (step : Step) (v u : View) →
    after m s step ≡ Some next → slice_get m.views i ≡ Some v → slice_get next.views i ≡ Some u → times x u.ready < times x v.ready →
    (i ≡ s) × (step ≡ ClearHome x)

-- a seat between two calls has no own node, none in its hand and no cursor, and is outside its epoch. Each step that it
-- may make leaves the list's words as they are, or enters its epoch, or takes its first ready node; so a list of which
-- its ready nodes and its epoch are as they were has had no word changed by it
abbrev pub IdleStepsShow : Type 0
IdleStepsShow =
    (seats s : ℕ) (v : View) (step : Step) (p : Plan) → IsLine seats s v step p →
    v.epoch % 2 ≡ 0 → v.own ≡ Nothing → v.hand ≡ None → v.cursor ≡ None → (w : ℕ) →
    (p.write w ≡ w) ⊎ (((p.view w).epoch ≡ next_epoch v.epoch) ⊎ ((n : ℕ) × (v.ready ≡ n ∷ (p.view w).ready)))

-- after any run, however long and however the seats take turns
abbrev pub RunsAreExclusive : Type 0
RunsAreExclusive = (seats : ℕ) (steps : List (ℕ × Step)) → 0 < seats → seats ≤ 16 → IsExclusive (held_by_seat (run (start seats) steps))

-- and the same of the held ranges as a list of grants, in which no seat stands twice
abbrev pub RunsGrantApart : Type 0
RunsGrantApart = (seats : ℕ) (steps : List (ℕ × Step)) → 0 < seats → seats ≤ 16 → AreExclusive (grants_from 0 (held_by_seat (run (start seats) steps)))

abbrev pub RunsHaveNoReuse : Type 0
RunsHaveNoReuse = (seats : ℕ) (steps : List (ℕ × Step)) → 0 < seats → seats ≤ 16 → NoReuse (heap (run (start seats) steps)) (run (start seats) steps).views
