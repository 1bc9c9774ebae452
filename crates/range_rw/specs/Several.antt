-- What a call leaves of a seat whose table has several lists. A piece of work goes on in one list: the hand is turned
-- to it, and all other lists are shown as before, so what is said of one list is said of the seat. A seat that holds
-- nothing holds nothing in any list, and nothing counts; one that holds a range holds it in one list alone, and it
-- counts. This project's own profile.
use Rattle.std.specs.Prelude.{◌≡◌, ◌≢◌, ◌⊎◌, ◌↔◌, ℕ, ◌+◌, ◌*◌, ◌<◌, ◌≤◌, true, false, [], length, Some, None, Bool, Result, IfOk, IfErr, OnOk, OnErr}
use Rattle.atomic_table.specs.Seated.{TableId}
use Rattle.list_cuts.specs.Cut.{Regions, list_count, Takes, TakesOne, TakesTwo}
use Rattle.lock_core.specs.Range.{Interval}
use Rattle.lock_core.specs.declared.range.Held.{Held}
use Rattle.lock_core.specs.declared.views.Own.TheVariants.{Nothing}
use Rattle.lock_core.specs.Machine.{held_at}
use Rattle.epoch_pools.specs.declared.views.SeatPart.{SeatPart}
use Rattle.epoch_pools.specs.declared.views.Beside.{Beside}
use Rattle.epoch_pools.specs.declared.views.Standing.{Standing}
use Rattle.epoch_pools.specs.declared.views.Standing.TheVariants.{Free, Wide}
use Rattle.epoch_pools.specs.Record.{KeepsOccupied}
use Rattle.epoch_pools.specs.Standings.{is_counted}
use Rattle.epoch_pools.specs.Beside.{shown_core}
use Rattle.epoch_pools.specs.Hands.{IsResting}
use Rattle.marked_list.specs.Causes.{nodes_in, IsSpent}
use Rattle.range_rw.specs.declared.refusals.NotHeld.{NotHeld}
use Rattle.range_rw.specs.Contract.{SeatState, AsksFor, AsksOnly, Finds, Meets, TakesMany, IsListCause, IsLongRefusal, IsReadyLeft, StandsIn, WorksIn}
use Rattle.range_rw.specs.Seats.{counted_in, seat_state_in}
use Rattle.range_rw.specs.Trying.{IsFast, LeavesEpoch}

-- the range takes one list alone, whichever it is
abbrev pub TakesAlone : Regions → Interval → Type 0
TakesAlone c range = (list : ℕ) × TakesOne c range list

-- from list `from` on and before list `to` the range takes none
abbrev pub TakesNone : Regions → Interval → ℕ → ℕ → Type 0
TakesNone c range from to = (list : ℕ) → from ≤ list → list < to → Takes c range list → ⊥

-- a call that is made once: its reader isn't patient, and a wide range has no further look
abbrev pub IsOnce : Bool → ℕ → Type 0
IsOnce patient looks = (patient ≡ false) × (looks ≡ 0)

module _ {P : Type 0} where
  -- the seat as list i has it: its view of that list, with the pools that it has there
  abbrev pub list_state : TableId → SeatPart (Beside P) → ℕ → SeatState P
  list_state table p i = seat_state_in table (record { number = p.number; seats = p.seats; core = shown_core p i; pass = p.pass; trace = p.trace })

  -- so many lists there are, as a table's cut and a hand of it both say
  pub record HasLists (c : Regions) (lists : ℕ) (p : SeatPart (Beside P)) : Type 0 where
    pub shown : lists ≡ p.pass.lists
    pub many : lists ≡ list_count c
    pub regions : 0 < c.count

  -- the epoch was left, and the hand rests, turned to one of so many lists
  pub record HasLeft (c : Regions) (n : ℕ) (p q : SeatPart (Beside P)) : Type 0 where
    pub left : LeavesEpoch p q
    pub rests : IsResting q.core
    pub lists : HasLists c n q
    pub there : q.pass.list < q.pass.lists

  -- what every call leaves, in whichever lists it works
  pub record IsLaterInLists (p q : SeatPart (Beside P)) : Type 0 where
    pub number : q.number ≡ p.number
    pub seats : q.seats ≡ p.seats
    pub lists : q.pass.lists ≡ p.pass.lists
    pub pass : q.pass.pass ≡ p.pass.pass
    pub client : q.trace.client ≡ p.trace.client
    pub occupied : KeepsOccupied p.trace q.trace
    pub taken : p.trace.taken ≤ q.trace.taken

  -- a piece of work in one list, to which the hand is turned afterwards and in which it rests: each other list is shown
  -- as before
  pub record IsPiece (at : ℕ) (p q : SeatPart (Beside P)) : Type 0 where
    pub later : IsLaterInLists p q
    pub turned : q.pass.list ≡ at
    pub only : (j : ℕ) → j ≢ at → shown_core q j ≡ shown_core p j
    pub rests : IsResting q.core

  -- a node may be linked in that list, to which the hand may turn and in which the seat has none
  pub record MayLinkIn (at : ℕ) (p : SeatPart (Beside P)) : Type 0 where
    pub there : at < p.pass.lists
    pub resting : IsResting p.core
    pub free : (shown_core p at).own ≡ Nothing

  -- that list holds a range which doesn't count through it, so it may be given back there with any pass
  pub record MayGiveIn (at : ℕ) (p : SeatPart (Beside P)) : Type 0 where
    pub there : at < p.pass.lists
    pub resting : IsResting p.core
    pub holds : held_at (shown_core p at).own ≢ None
    pub beside : is_counted p.pass.lists p.pass.standing at ≡ false

  -- one after which the seat has no node there, and stands so: it asks for nothing, and the ready nodes there stay
  pub record IsFreedIn (at : ℕ) (stands : Standing) (p q : SeatPart (Beside P)) : Type 0 where
    pub piece : IsPiece at p q
    pub asked : q.trace.asked ≡ p.trace.asked
    pub standing : q.pass.standing ≡ stands
    pub free : q.core.own ≡ Nothing
    pub ready : (shown_core q at).ready ≡ (shown_core p at).ready

  -- the seat holds nothing in any list, and nothing counts
  pub record IsFreeSeat (p : SeatPart (Beside P)) : Type 0 where
    pub rests : IsResting p.core
    pub free : (j : ℕ) → (shown_core p j).own ≡ Nothing
    pub standing : p.pass.standing ≡ Free

  -- so it may be made to hold a range, in one of so many lists
  pub record MayHold (c : Regions) (n : ℕ) (p : SeatPart (Beside P)) : Type 0 where
    pub lists : HasLists c n p
    pub free : IsFreeSeat p

  -- the seat holds this range in one list, to which its hand is turned, and nothing in any other
  pub record HoldsAlone (at : ℕ) (range : Held) (p : SeatPart (Beside P)) : Type 0 where
    pub rests : IsResting p.core
    pub turned : p.pass.list ≡ at
    pub held : held_at p.core.own ≡ Some range
    pub others : (j : ℕ) → j ≢ at → (shown_core p j).own ≡ Nothing

  -- the same in the middle of a call, where the hand may be turned to another list, in which it rests
  pub record HoldsIn (at : ℕ) (range : Held) (p : SeatPart (Beside P)) : Type 0 where
    pub rests : IsResting p.core
    pub held : held_at (shown_core p at).own ≡ Some range
    pub others : (j : ℕ) → j ≢ at → (shown_core p j).own ≡ Nothing

  -- why a try in list i was refused, by what the seat has there
  abbrev pub IsCauseAt : TableId → ℕ → SeatPart (Beside P) → SeatPart (Beside P) → Held → NotHeld → Type 0
  IsCauseAt table i p q asked why = IsListCause i (list_state table p i) (list_state table q i) asked why

  -- why a call was refused: by the cause that a try has in one of the lists in which it works
  abbrev pub IsCauseIn : TableId → Regions → SeatPart (Beside P) → SeatPart (Beside P) → Held → NotHeld → Type 0
  IsCauseIn table c p q asked why = (i : ℕ) × (i < p.pass.lists) × WorksIn c asked.range i × IsCauseAt table i p q asked why

  -- a piece of work in that list by which a range was to be held there: it asks for no other, and nothing comes to
  -- count. Where it is refused the seat has no node there. The rest is as a try in one list has it
  pub record IsLinkedIn (table : TableId) (many : ℕ) (patient : Bool) (at : ℕ) (asked : Held) (result : Result Bool NotHeld)
      (p q : SeatPart (Beside P)) : Type 0 where
    pub piece : IsPiece at p q
    pub asks : AsksOnly asked p.trace.asked q.trace.asked
    pub gets : OnOk result (AsksFor asked p.trace.asked q.trace.asked)
    pub standing : q.pass.standing ≡ p.pass.standing
    pub held : OnOk result (held_at q.core.own ≡ Some asked)
    pub free : OnErr result (q.core.own ≡ Nothing)
    pub ready : IsReadyLeft (shown_core p at).ready (shown_core q at).ready
    pub cause : patient ≡ false → IfErr result (IsCauseAt table at p q asked)
    pub long : IfErr result (λ why. IsLongRefusal why ↔ IsSpent q)
    pub fast : IfOk result (λ quick. (shown_core p at).ready ≢ [] → IsFast p q quick)
    pub met : OnErr result ((shown_core p at).ready ≢ [] → Meets p.trace.taken q.trace)
    pub seats : p.seats ≡ many

  -- each list in which a try for that range doesn't work is shown as before
  abbrev pub ShowsOthers : Regions → Interval → SeatPart (Beside P) → SeatPart (Beside P) → Type 0
  ShowsOthers c range p q = (j : ℕ) → (WorksIn c range j → ⊥) → shown_core q j ≡ shown_core p j

  -- what was a cause in another list than this one still is, by what the record has
  abbrev pub KeepsCauses : TableId → ℕ → SeatPart (Beside P) → SeatPart (Beside P) → Type 0
  KeepsCauses table at p q = (was : SeatPart (Beside P)) (i : ℕ) (asked : Held) (why : NotHeld) → i ≢ at
      → IsCauseAt table i was p asked why → IsCauseAt table i was q asked why

  -- the record keeps what was a cause elsewhere, and how many nodes the last walk has looked at
  abbrev pub KeepsRefusal : TableId → ℕ → SeatPart (Beside P) → SeatPart (Beside P) → Type 0
  KeepsRefusal table at p q = KeepsCauses table at p q × (nodes_in q.trace.looked ≡ nodes_in p.trace.looked)

  -- the last walk has looked at as many nodes as it may
  abbrev pub HasSpent : SeatPart (Beside P) → Type 0
  HasSpent q = nodes_in q.trace.looked ≡ 16 * q.seats + 1

  -- the seat holds that range, which counts: in the list that it takes alone, or in list 0. With one list nothing else
  -- stands for it
  pub record IsGranted (c : Regions) (asked : Held) (q : SeatPart (Beside P)) : Type 0 where
    pub held : HoldsAlone q.pass.list asked q
    pub counts : is_counted q.pass.lists q.pass.standing q.pass.list ≡ true
    pub one : q.pass.lists ≡ 1 → q.pass.standing ≡ Free
    pub stands : StandsIn c asked.range (counted_in q.pass.standing)

  -- what every call leaves that works for a range: the seat is the same, asks for no other range, and has each list as
  -- before in which a try for it doesn't work
  pub record IsWorkFor (c : Regions) (asked : Held) (p q : SeatPart (Beside P)) : Type 0 where
    pub later : IsLaterInLists p q
    pub asks : AsksOnly asked p.trace.asked q.trace.asked
    pub only : ShowsOthers c asked.range p q

  -- a call that is to hold it: the seat holds it then, or nothing
  pub record IsHoldCall {A E : Type 0} (c : Regions) (asked : Held) (result : Result A E) (p q : SeatPart (Beside P)) : Type 0 where
    pub work : IsWorkFor c asked p q
    pub held : OnOk result (IsGranted c asked q)
    pub free : OnErr result (IsFreeSeat q)

  -- a wide range was refused in list 0, and no other list has changed; or in another one, and so many further looks
  -- were made, each of which found its list not empty
  abbrev pub IsRefusedFrom : ℕ → SeatPart (Beside P) → SeatPart (Beside P) → Type 0
  IsRefusedFrom looks p q = ((j : ℕ) → j ≢ 0 → shown_core q j ≡ shown_core p j) ⊎ (length p.trace.occupied + looks < length q.trace.occupied)

  -- the same of a call that may be patient, and may make so many further looks: where it makes none, each list's ready
  -- nodes are as before, or without the first; where it isn't patient besides, a refusal has a cause in one of the
  -- lists, and is `Long` exactly where the last walk is spent. The lists have so many seats
  pub record IsTryCall (table : TableId) (c : Regions) (many looks : ℕ) (patient : Bool) (asked : Held) (result : Result Bool NotHeld)
      (p q : SeatPart (Beside P)) : Type 0 where
    pub call : IsHoldCall c asked result p q
    pub gets : OnOk result (AsksFor asked p.trace.asked q.trace.asked)
    pub ready : looks ≡ 0 → (j : ℕ) → IsReadyLeft (shown_core p j).ready (shown_core q j).ready
    pub cause : IsOnce patient looks → IfErr result (IsCauseIn table c p q asked)
    pub long : IsOnce patient looks → IfErr result (λ why. IsLongRefusal why ↔ IsSpent q)
    -- with a ready node in the list that holds the range, five steps and a look at each list that it takes, and the
    -- fast path linked its node; or it met another
    pub fast : IfOk result (λ quick. (k : ℕ) → TakesMany c asked.range k → (shown_core p q.pass.list).ready ≢ []
        → ((q.trace.taken ≤ p.trace.taken + (5 + k)) × (quick ≡ true)) ⊎ Meets p.trace.taken q.trace)
    -- and a call that is refused has met another
    pub met : OnErr result ((own : ℕ) → StandsIn c asked.range own → (shown_core p own).ready ≢ [] → Meets p.trace.taken q.trace)
    pub kept : OnErr result (TakesTwo c asked.range → IsRefusedFrom looks p q)
    -- each other list is as before, or a step of this call found it not empty
    pub apart : (own : ℕ) → StandsIn c asked.range own → (j : ℕ) → j ≢ own → (shown_core q j ≡ shown_core p j) ⊎ Finds p.trace.taken j q.trace
    pub seats : p.seats ≡ many

  -- how far a wide range is: nothing is passed yet, and it takes no list before this one; or all below it are passed
  abbrev pub HasPassed : Regions → Interval → ℕ → SeatPart (Beside P) → Type 0
  HasPassed c range at p = ((p.pass.standing ≡ Free) × TakesNone c range 0 at) ⊎ (p.pass.standing ≡ Wide at)
