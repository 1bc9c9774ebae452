-- What is behind a seat: a hand of the list, with all that belongs to its number, and what the contract shows of that.
-- Between two calls a hand has no node of its own but one by which a range is held, and owes no node its home. This
-- project's own profile, over the list of Kogan, Dice and Issa 2020.
use Rattle.std.specs.Prelude.{◌≡◌, ◌≢◌, ℕ, suc, ◌+◌, ◌-◌, ◌*◌, ◌%◌, ◌<◌, ◌==◌, ◌&&◌, Bool, true, false, if◌then◌else◌, List, [], ◌∷◌, map, Option, Some, None}
use Rattle.std.specs.Prelude.{is_some, unwrap_or, slice_get}
use Rattle.atomic_table.specs.Seated.{TableId}
use Rattle.lock_core.specs.declared.views.View.{View}
use Rattle.lock_core.specs.declared.views.Cursor.{Cursor}
use Rattle.lock_core.specs.declared.views.Own.{Own}
use Rattle.lock_core.specs.declared.views.Own.TheVariants.{Nothing, Filling, Linked}
use Rattle.lock_core.specs.declared.views.Todo.TheVariants.{Done}
use Rattle.lock_core.specs.Machine.{held_at, numbers_from}
use Rattle.epoch_pools.specs.declared.record.Looked.{Looked}
use Rattle.epoch_pools.specs.declared.views.SeatPart.{SeatPart}
use Rattle.epoch_pools.specs.declared.views.Beside.{Beside}
use Rattle.epoch_pools.specs.declared.views.Standing.{Standing}
use Rattle.epoch_pools.specs.declared.views.Standing.TheVariants.{Free, Narrow, Wide}
use Rattle.epoch_pools.specs.Standings.{is_counted}
use Rattle.epoch_pools.specs.Beside.{shown_core, shown_grant}
use Rattle.epoch_pools.specs.Hands.{HandState}
use Rattle.marked_list.specs.Causes.{judged_in}
use Rattle.marked_list.specs.Scanning.{IsResting}
use Rattle.range_rw.specs.Contract.{SeatState, Pools, Waited, OpenScan, fresh_scan}

-- the seats from number k on that aren't passed and of which an epoch is noted, by the notes from there on and all
-- flags
abbrev pub waits_at : ℕ → Option ℕ → Bool → List Waited → List Waited
waits_at k None passed rest = rest
waits_at k (Some epoch) passed rest = if passed then rest else record { seat = k; epoch = epoch } ∷ rest

abbrev pub waits_from : ℕ → List (Option ℕ) → List Bool → List Waited
waits_from k [] passed = []
waits_from k (noted ∷ notes) passed = waits_at k noted (unwrap_or (slice_get passed k) false) (waits_from (suc k) notes passed)

abbrev pub pools_of : View → Pools
pools_of v = record { ready = v.ready; homes = v.homes; waits = waits_from 0 v.notes v.passed; epoch = v.epoch }

-- the open scan of a hand, which is inside its epoch, as its list has it: its cursor, where its walk has begun, and
-- what that has judged. The walk's number is that of the step that made its cursor
abbrev pub begun_in : Option Looked → Option ℕ
begun_in None = None
begun_in (Some l) = Some l.step

abbrev pub walk_of : ℕ → Option Cursor → Option Looked → OpenScan
walk_of most None l = fresh_scan most
walk_of most (Some c) l = record { list = 0; most = most; nodes = c.seen; passed = judged_in l; ended = c.cur == 0; walk = begun_in l }

abbrev pub scan_of : {P : Type 0} → SeatPart P → Option OpenScan
scan_of p = if p.core.epoch % 2 == 0 then None else Some (walk_of (16 * p.seats + 1) p.core.cursor p.trace.looked)

-- the same with the list in which it is, of so many: it is at its end at the end of the last one
abbrev pub placed_scan : ℕ → ℕ → OpenScan → OpenScan
placed_scan lists list s = record s { list = list; ended = s.ended && list + 1 == lists }

abbrev pub placed_in : ℕ → ℕ → Option OpenScan → Option OpenScan
placed_in lists list None = None
placed_in lists list (Some s) = Some (placed_scan lists list s)

-- an own node between two calls: none, or one by which a range is held
abbrev pub IsSettled : Own → Type 0
IsSettled Nothing = Unit {0}
IsSettled (Filling node lo hi mode aimed) = ⊥
IsSettled (Linked node range mode todo) = todo ≡ Done

-- a hand between two calls. Its epoch is left open, since a scan keeps it inside
pub record IsBetween (v : View) : Type 0 where
  pub own : IsSettled v.own
  pub hand : v.hand ≡ None
  pub cursor : IsResting v

-- what is behind a seat between two calls, at a table of any number of lists: its hand is between two calls in the list
-- to which it is turned, no other list has a node of its own, and what it holds counts
pub record IsSeated {P : Type 0} (p : SeatPart (Beside P)) : Type 0 where
  pub there : p.pass.list < p.pass.lists
  pub current : IsBetween p.core
  pub others : (j : ℕ) → j ≢ p.pass.list → (shown_core p j).own ≡ Nothing
  pub counts : held_at p.core.own ≢ None → is_counted p.pass.lists p.pass.standing p.pass.list ≡ true
  pub free : held_at p.core.own ≡ None → p.pass.standing ≡ Free
  pub one : p.pass.lists ≡ 1 → p.pass.standing ≡ Free

-- the pools of the lists behind the first one, in order
abbrev pub further_of : {P : Type 0} → SeatPart (Beside P) → List Pools
further_of p = map (λ j. pools_of (shown_core p j)) (numbers_from 1 (p.pass.lists - 1))

-- the list whose range counts, by how it counts
abbrev pub counted_in : Standing → ℕ
counted_in Free = 0
counted_in (Narrow i) = i
counted_in (Wide p) = 0

-- what contracts see of a seat, from its hand and whether it holds its range by the fast path
abbrev pub seat_of : {P : Type 0} → Bool → HandState (Beside P) → SeatState P
seat_of fast s = record {
  table = s.table;
  number = s.part.number;
  held = shown_grant s.part;
  list = counted_in s.part.pass.standing;
  fast = fast;
  pools = pools_of (shown_core s.part 0);
  further = further_of s.part;
  scan = placed_in s.part.pass.lists s.part.pass.list (scan_of s.part);
  pass = s.part.pass.pass;
  trace = s.part.trace;
}

-- it does where it holds one, by a node that the fast path linked
abbrev pub is_fast : {P : Type 0} → Bool → HandState (Beside P) → Bool
is_fast quick s = is_some (shown_grant s.part) && quick

-- and doesn't where it holds nothing
abbrev pub seat_state_of : {P : Type 0} → HandState (Beside P) → SeatState P
seat_state_of s = seat_of false s

-- the seat as the list has it to which its hand is turned. It says nothing of which list that is
abbrev pub seat_state_in : {P : Type 0} → TableId → SeatPart (Beside P) → SeatState P
seat_state_in table p = record {
  table = table;
  number = p.number;
  held = held_at p.core.own;
  list = 0;
  fast = false;
  pools = pools_of p.core;
  further = [];
  scan = scan_of p;
  pass = p.pass.pass;
  trace = record p.trace { list = 0 };
}
