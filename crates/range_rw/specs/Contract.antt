-- The contract of a range lock: what its clients see of a table and of a seat, and what each call leaves of them. A
-- seat is its table, its number, the range that it holds, its pools of nodes, the pass of the layer above, and the
-- record of its steps. The ranges are those of Kogan, Dice and Issa 2020; pools and record are this project's own
-- profile. The layer above reads of a refusal its cause, and needs to know nothing of nodes.
use Rattle.std.specs.Prelude.{◌≡◌, ◌≢◌, ◌⊎◌, ℕ, zero, suc, ◌+◌, ◌-◌, ◌*◌, ◌/◌, ◌%◌, ◌<◌, ◌≤◌, ◌==◌, ◌++◌, Bool, true, false, if◌then◌else◌, find}
use Rattle.std.specs.Prelude.{List, [], ◌∷◌, Option, Some, None, length, map, replicate, get_or}
use mathlib.Core.Option.{some}
use lib.ListN.{get_elem?}
use Rattle.atomic_table.specs.Seated.{TableId}
use Rattle.list_cuts.specs.Cut.{Regions, list_count, Takes, TakesOne, TakesTwo}
use Rattle.lock_core.specs.Range.{Interval}
use Rattle.lock_core.specs.Grants.{Conflicts}
use Rattle.lock_core.specs.Views.{next_epoch}
use Rattle.lock_core.specs.Machine.{numbers_from}
use Rattle.lock_core.specs.declared.range.Held.{Held}
use Rattle.lock_core.specs.declared.steps.Step.{Step}
use Rattle.lock_core.specs.declared.steps.Step.TheVariants.{Link, Unlink, QuickUnlink, Settle}
use Rattle.epoch_pools.specs.declared.record.Looked.{Looked}
use Rattle.epoch_pools.specs.declared.record.Lost.{Lost}
use Rattle.epoch_pools.specs.declared.record.Met.{Met}
use Rattle.epoch_pools.specs.declared.record.Noted.{Noted}
use Rattle.epoch_pools.specs.declared.record.Occupied.{Occupied}
use Rattle.epoch_pools.specs.declared.stuck.Stuck.{Stuck}
use Rattle.epoch_pools.specs.declared.stuck.Stuck.TheVariants.{Inside, Away}
use Rattle.epoch_pools.specs.Taking.{IsReadAway}
use Rattle.range_rw.specs.declared.refusals.NotHeld.{NotHeld}
use Rattle.range_rw.specs.declared.refusals.NotHeld.TheVariants.{Busy, Again, Long, NoNode}
use Rattle.range_rw.specs.declared.refusals.OpenFault.{OpenFault}
use Rattle.range_rw.specs.declared.refusals.OpenFault.TheVariants.{Seats, Memory}
pub use Rattle.epoch_pools.specs.declared.record.Record.{Record}
pub use Rattle.epoch_pools.specs.Record.{no_steps, client_trace}

-- a table: which one it is, how many seats and client words it has, and how the numbers are cut for its lists
pub record TableShape : Type 0 where
  pub table : TableId
  pub seats : ℕ
  pub client : ℕ
  pub cut : Regions

-- another seat that isn't passed since a used node last came home, and the odd epoch that was first noted of it
pub record Waited : Type 0 where
  pub seat : ℕ
  pub epoch : ℕ

-- the nodes that a seat has ready to be taken in a list, in order; those of its used ones that came home and wait for
-- the other seats; the seats that they wait for, of which an epoch is noted; and its own epoch there, which only rises.
-- A seat that changes a word of a list takes a ready node of it or enters an epoch there, so where all of this is as it
-- was the seat has changed no word of that list
pub record Pools : Type 0 where
  pub ready : List ℕ
  pub homes : List ℕ
  pub waits : List Waited
  pub epoch : ℕ

-- the ready nodes of such pools
abbrev pub ready_in : Pools → List ℕ
ready_in pools = pools.ready

-- an open scan: the list in which its walk is, how many nodes that may look at, how many it has looked at, past how
-- many of them it went, whether it is at the end of the last list, and the number of the step that began the walk,
-- where it has begun
pub record OpenScan : Type 0 where
  pub list : ℕ
  pub most : ℕ
  pub nodes : ℕ
  pub passed : ℕ
  pub ended : Bool
  pub walk : Option ℕ

-- one whose walk begins in that list with the next call
abbrev pub fresh_in : ℕ → ℕ → OpenScan
fresh_in list most = record { list = list; most = most; nodes = 0; passed = 0; ended = false; walk = None }

-- the same in list 0, where a scan begins
abbrev pub fresh_scan : ℕ → OpenScan
fresh_scan most = fresh_in 0 most

-- a seat: its table and number, the range that it holds, the list that holds it (0 where it holds nothing), whether the
-- fast path linked the node there by which it holds it (false where it holds nothing), its pools in list 0 and in each
-- further list, its open scan, its pass, and the record of its steps. It is inside an epoch of its own exactly where it
-- has an open scan
pub record SeatState (P : Type 0) : Type 0 where
  pub table : TableId
  pub number : ℕ
  pub held : Option Held
  pub list : ℕ
  pub fast : Bool
  pub pools : Pools
  pub further : List Pools
  pub scan : Option OpenScan
  pub pass : P
  pub trace : Record

-- the pools of the seat of number k before the first step: its own sixteen nodes are ready
abbrev pub first_pools : ℕ → Pools
first_pools k = record { ready = numbers_from (16 * k) 16; homes = []; waits = []; epoch = 0 }

-- a table has from 1 to 16 seats (this project's own profile)
abbrev pub IsSeatCount : ℕ → Type 0
IsSeatCount n = (0 < n) × (n ≤ 16)

-- why no table is opened for so many seats: there are none or too many, and otherwise out of memory
abbrev pub IsOpenFault : ℕ → OpenFault → Type 0
IsOpenFault seats (Seats n) = (n ≡ seats) × ¬ (IsSeatCount seats)
IsOpenFault seats Memory = IsSeatCount seats

-- one list alone, for all ranges
abbrev pub IsOneList : TableShape → Type 0
IsOneList t = list_count t.cut ≡ 1

-- how many of the first n lists a range takes, and of all
abbrev pub TakesBelow : Regions → Interval → ℕ → ℕ → Type 0
TakesBelow c range zero k = k ≡ 0
TakesBelow c range (suc n) k =
    (Takes c range n × ((m : ℕ) × (k ≡ suc m) × TakesBelow c range n m)) ⊎ ((Takes c range n → ⊥) × TakesBelow c range n k)

abbrev pub TakesMany : Regions → Interval → ℕ → Type 0
TakesMany c range k = TakesBelow c range (list_count c) k

-- how many steps a try makes at most, whatever other seats do, where its range takes so many lists: those of one list,
-- and fewer for each further one
abbrev pub try_steps : ℕ → ℕ → ℕ
try_steps seats k = 64 + 386 * seats + (55 + 193 * seats) * (k - 1)

-- how many it makes at most, whichever lists its range takes
abbrev pub most_steps : TableShape → ℕ
most_steps t = (64 + 386 * t.seats) * list_count t.cut

-- the lists in which a try for that range works: those that it takes, and list 0, which with one list is the one that
-- each range takes
abbrev pub WorksIn : Regions → Interval → ℕ → Type 0
WorksIn c range list = (list ≡ 0) ⊎ Takes c range list

-- the list that holds a range: the one that it takes alone, and list 0 where it takes more
abbrev pub StandsIn : Regions → Interval → ℕ → Type 0
StandsIn c range list = TakesOne c range list ⊎ (TakesTwo c range × (list ≡ 0))

-- a refusal that tells a list tells one in which the try works
abbrev pub TellsList : Regions → Interval → NotHeld → Type 0
TellsList c range (Busy owner held mode) = Unit {0}
TellsList c range (Again list place expected found) = WorksIn c range list
TellsList c range (Long visits) = Unit {0}
TellsList c range (NoNode list stuck) = WorksIn c range list

-- how many steps a call of a scan makes at most: those of one list, and in each list behind it those of leaving and
-- entering besides
abbrev pub scan_steps : TableShape → OpenScan → ℕ
scan_steps t was = 2 + 3 * was.most + (4 + 3 * was.most) * (list_count t.cut - 1 - was.list)

-- the exchanges whose loss refuses a try: all but those of the fast path, after which a call goes on without it
abbrev pub RefusesTry : Step → Type 0
RefusesTry Link = Unit {0}
RefusesTry Unlink = Unit {0}
RefusesTry Settle = Unit {0}
RefusesTry _ = ⊥

-- the answer that a walk was too long
abbrev pub IsLongRefusal : NotHeld → Type 0
IsLongRefusal (Busy owner range mode) = ⊥
IsLongRefusal (Again list place expected found) = ⊥
IsLongRefusal (Long visits) = Unit {0}
IsLongRefusal (NoNode list stuck) = ⊥

-- the ready pool after a try, where it wasn't empty before: as it was, or without its first node
abbrev pub IsReadyLeft : List ℕ → List ℕ → Type 0
IsReadyLeft before after = (before ≡ []) ⊎ ((after ≡ before) ⊎ ((n : ℕ) × (before ≡ n ∷ after)))

-- one of these steps that found a list not empty is such a one
abbrev pub HasOccupied : (Occupied → Type 0) → List Occupied → Type 0
HasOccupied IsOne [] = ⊥
HasOccupied IsOne (o ∷ rest) = IsOne o ⊎ HasOccupied IsOne rest

-- the step of that number, or a later one, found a list not empty: the fast path's exchange of its head, or a look at
-- it by which the range was to count. So the seat met another seat's node there, or one that nobody has swept away yet
abbrev pub Meets : ℕ → Record → Type 0
Meets first t = HasOccupied (λ o. first ≤ o.step) t.occupied

-- and it was that list
abbrev pub Finds : ℕ → ℕ → Record → Type 0
Finds first list t = HasOccupied (λ o. (first ≤ o.step) × (o.list ≡ list)) t.occupied

-- the first step of a call was the fast path's exchange at the head by which a node is unlinked, and it found another
-- word there: the node isn't alone in its list as the fast path linked it. The call made two steps
pub record LosesHead (before after : Record) : Type 0 where
  pub lost : Lost
  pub is : after.lost ≡ Some lost
  pub kind : lost.kind ≡ QuickUnlink
  pub first : lost.step ≡ before.taken
  pub two : after.taken ≡ before.taken + 2

-- what a release leaves in the record where the fast path linked the node: two steps, and nothing else; or the node
-- wasn't alone any more
abbrev pub GivesFast : Record → Record → Type 0
GivesFast before after = (after ≡ record before { taken = before.taken + 2; away = [] }) ⊎ LosesHead before after

-- the pools of list j once the epoch is left in which an open scan keeps its seat: its number there is one higher
abbrev pub closed_pools : Option OpenScan → ℕ → Pools → Pools
closed_pools None j pools = pools
closed_pools (Some s) j pools = if s.list == j then record pools { epoch = next_epoch pools.epoch } else pools

-- each of these ranges is such a one
abbrev pub AreAll : (Held → Type 0) → List Held → Type 0
AreAll IsOne [] = Unit {0}
AreAll IsOne (h ∷ rest) = IsOne h × AreAll IsOne rest

-- each range that was asked for between two records of a seat is such a one: those that the second one has more, the
-- latest first. A seat asks for a range when it fills a node with it, and a node that isn't filled is neither linked
-- nor held; so no other range was held on the way, nor stood in a list
pub record AsksAmong (IsOne : Held → Type 0) (before after : List Held) : Type 0 where
  pub more : List Held
  pub is : after ≡ more ++ before
  pub all : AreAll IsOne more

-- a call that asks for this range alone, once or more often, or for none
abbrev pub AsksOnly : Held → List Held → List Held → Type 0
AsksOnly held before after = AsksAmong (λ h. h ≡ held) before after

-- the same of a call that asks for it at least once
abbrev pub AsksFor : Held → List Held → List Held → Type 0
AsksFor held before after = (earlier : List Held) × AsksOnly held before earlier × (after ≡ held ∷ earlier)

module _ {P : Type 0} where
  -- the passes with which the seats from number n on begin, so many
  abbrev pub first_passes : (ℕ → P) → ℕ → ℕ → List P
  first_passes first n zero = []
  first_passes first n (suc k) = first n ∷ first_passes first (suc n) k

  abbrev pub pass_in : SeatState P → P
  pass_in s = s.pass

  -- what the seat of number k is when a table of so many lists is opened: new, and of that table
  abbrev pub new_seat_in : ℕ → TableId → (ℕ → P) → ℕ → SeatState P
  new_seat_in lists table first k = record {
    table = table;
    number = k;
    held = None;
    list = 0;
    fast = false;
    pools = first_pools k;
    further = replicate (lists - 1) (first_pools k);
    scan = None;
    pass = first k;
    trace = no_steps;
  }

  -- the same where there is one list
  abbrev pub new_seat : TableId → (ℕ → P) → ℕ → SeatState P
  new_seat table first k = new_seat_in 1 table first k

  -- the seats are those of a new table, in order of their numbers
  abbrev pub AreNewSeats : TableId → (ℕ → P) → List (SeatState P) → Type 0
  AreNewSeats table first seats = (k : ℕ) (s : SeatState P) → get_elem? seats k ≡ some s → s ≡ new_seat table first k

  -- the same where the table has so many lists
  abbrev pub AreNewSeatsIn : ℕ → TableId → (ℕ → P) → List (SeatState P) → Type 0
  AreNewSeatsIn lists table first seats = (k : ℕ) (s : SeatState P) → get_elem? seats k ≡ some s → s ≡ new_seat_in lists table first k

  -- the seats are all of one table
  abbrev pub AreSeatsOf : TableId → List (SeatState P) → Type 0
  AreSeatsOf table seats = (k : ℕ) (s : SeatState P) → get_elem? seats k ≡ some s → s.table ≡ table

  -- the seats are all of one table, in order of their numbers, and hold nothing
  abbrev pub AreIdleSeats : TableId → List (SeatState P) → Type 0
  AreIdleSeats table seats = (k : ℕ) (s : SeatState P) → get_elem? seats k ≡ some s → (s.table ≡ table) × (s.number ≡ k) × (s.held ≡ None)

  -- a call on the seat that is no client step and gives back no range: the pass stays, and the last client step
  pub record IsLockCall (before after : SeatState P) : Type 0 where
    pub table : after.table ≡ before.table
    pub number : after.number ≡ before.number
    pub pass : after.pass ≡ before.pass
    pub client : after.trace.client ≡ before.trace.client
    pub taken : before.trace.taken ≤ after.trace.taken

  -- one step on client word i: the seat holds what it held, where it held it, its pools and an open scan stay, and its
  -- record has this step
  pub record IsClientCall (before : SeatState P) (i : ℕ) (after : SeatState P) : Type 0 where
    pub table : after.table ≡ before.table
    pub number : after.number ≡ before.number
    pub held : after.held ≡ before.held
    pub list : after.list ≡ before.list
    pub fast : after.fast ≡ before.fast
    pub pools : after.pools ≡ before.pools
    pub further : after.further ≡ before.further
    pub scan : after.scan ≡ before.scan
    pub trace : after.trace ≡ client_trace before.trace i

  -- the seat's pools in list i, of the lists that its table has
  abbrev pub pools_at : SeatState P → ℕ → Pools
  pools_at s zero = s.pools
  pools_at s (suc j) = get_or s.further j s.pools

  -- the seat as that list has it
  abbrev pub in_list : ℕ → SeatState P → SeatState P
  in_list i s = record s { pools = pools_at s i }

  -- a range was given back, in one step or two, of which none is a client step and none meets a node: the pass is
  -- rested, and an open scan stays, so a seat that was outside its epoch is outside after it. What the seat has in each
  -- list but the one that held the range is as it was. Where the fast path linked the node it is tried here first: it
  -- makes two steps, or loses its exchange, and the node is marked
  pub record IsRelease (rested : P → P) (before after : SeatState P) : Type 0 where
    pub table : after.table ≡ before.table
    pub number : after.number ≡ before.number
    pub held : after.held ≡ None
    pub list : after.list ≡ 0
    pub pass : after.pass ≡ rested before.pass
    pub ready : after.pools.ready ≡ before.pools.ready
    pub further : map ready_in after.further ≡ map ready_in before.further
    pub only : (j : ℕ) → j ≤ length before.further → j ≢ before.list → pools_at after j ≡ pools_at before j
    pub scan : after.scan ≡ before.scan
    pub client : after.trace.client ≡ before.trace.client
    pub asked : after.trace.asked ≡ before.trace.asked
    pub met : after.trace.met ≡ before.trace.met
    pub least : before.trace.taken + 1 ≤ after.trace.taken
    pub most : after.trace.taken ≤ before.trace.taken + 2
    pub fast : before.fast ≡ true → GivesFast before.trace after.trace

  -- what calls leave that give back all that they take: the seat is of the same table and number, and holds nothing
  pub record IsGivenBack (before after : SeatState P) : Type 0 where
    pub table : after.table ≡ before.table
    pub number : after.number ≡ before.number
    pub held : after.held ≡ None

  -- the last walk after a call, which a step of this call began
  pub record IsWalkOf (before after : SeatState P) : Type 0 where
    pub walk : Looked
    pub is : after.trace.looked ≡ Some walk
    pub from : before.trace.taken ≤ walk.step
    pub below : walk.step < after.trace.taken

  -- one walk of this call has looked at as many nodes as it may, and its last step made no range held
  abbrev pub IsSpentIn : ℕ → SeatState P → SeatState P → Type 0
  IsSpentIn seats before after = (w : IsWalkOf before after) × (w.walk.nodes ≡ 16 * seats + 1) × (after.held ≡ None)

  -- what the seat has in each list in which a try for that range doesn't work is as it was
  abbrev pub KeepsOthers : Regions → Interval → SeatState P → SeatState P → Type 0
  KeepsOthers c range before after = (j : ℕ) → j < list_count c → (WorksIn c range j → ⊥) → pools_at after j ≡ pools_at before j

  -- what the seat has in list j, once an open scan is ended
  abbrev pub closed_at : SeatState P → ℕ → Pools
  closed_at s j = closed_pools s.scan j (pools_at s j)

  -- the same of a seat that may have an open scan, which a try ends first
  abbrev pub ClosesOthers : Regions → Interval → SeatState P → SeatState P → Type 0
  ClosesOthers c range before after = (j : ℕ) → j < list_count c → (WorksIn c range j → ⊥) → pools_at after j ≡ closed_at before j

  -- what the seat has in each list but that one is as it was, or a step of this call found the list not empty
  abbrev pub KeepsClear : Regions → ℕ → SeatState P → SeatState P → Type 0
  KeepsClear c own before after = (j : ℕ) → j < list_count c → j ≢ own
      → (pools_at after j ≡ closed_at before j) ⊎ Finds before.trace.taken j after.trace

  -- a range of several lists was refused in list 0, and what the seat has in each other list is as it was; or in
  -- another list, and so many further looks were made, each of which found its list not empty
  abbrev pub IsRefusedAfter : Regions → ℕ → SeatState P → SeatState P → Type 0
  IsRefusedAfter c looks before after = ((j : ℕ) → 0 < j → j < list_count c → pools_at after j ≡ closed_at before j)
      ⊎ (length before.trace.occupied + looks < length after.trace.occupied)

  -- the call made so many steps at most, and holds by a node that the fast path linked; or it met another
  abbrev pub MakesFew : ℕ → SeatState P → SeatState P → Type 0
  MakesFew few before after = ((after.trace.taken ≤ before.trace.taken + few) × (after.fast ≡ true)) ⊎ Meets before.trace.taken after.trace

  -- a used node came home, and this call read that odd epoch of another seat, last of all that it read there, in that
  -- list; that seat isn't passed, and no other epoch was noted of it before
  pub record IsHeldUp (list : ℕ) (before after : SeatState P) (seat epoch : ℕ) : Type 0 where
    pub home : after.pools.homes ≢ []
    pub other : seat ≢ after.number
    pub entry : Noted
    pub last : find (λ n. n.seat == seat) after.trace.noted ≡ Some entry
    pub listed : entry.list ≡ list
    pub from : before.trace.taken ≤ entry.step
    pub below : entry.step < after.trace.taken
    pub odd : epoch % 2 ≡ 1
    pub read : entry.epoch ≡ epoch
    pub first : find (λ w. w.seat == seat) after.pools.waits ≡ Some (record { seat = seat; epoch = epoch })

  -- why there is no node to take in a list: this call read each of the seat's sixteen nodes there as away, of which the
  -- lowest is named; or another seat is named that hinders one that came home
  abbrev pub IsStuckIn : ℕ → SeatState P → SeatState P → Stuck → Type 0
  IsStuckIn list before after (Away node) = (node ≡ 16 * after.number)
      × ((x : ℕ) → x / 16 ≡ after.number → IsReadAway list before.trace.taken after.trace.taken after.trace.away x)
  IsStuckIn list before after (Inside seat epoch) = IsHeldUp list before after seat epoch

  -- why a try for that range was refused in a list, by what the seat has there: at a step of this call another seat's
  -- node of that list was in conflict; or an exchange of this call there, whose loss refuses a try, found another value
  -- than it expected; or a walk of this call there was too long; or no node was ready there, and after a sweep of this
  -- call that read the end of the list there was none to take. A part of the record with a number not below the number
  -- of steps at the call's entry was made in this call
  abbrev pub IsListCause : ℕ → SeatState P → SeatState P → Held → NotHeld → Type 0
  IsListCause list before after asked (Busy owner range mode) = (m : Met) × (after.trace.met ≡ Some m) × (before.trace.taken ≤ m.step)
      × (m.step < after.trace.taken) × (m.owner ≡ owner) × (m.held ≡ record { range = range; mode = mode }) × (owner ≢ before.number)
      × Conflicts m.held asked × (m.list ≡ list)
  IsListCause list before after asked (Again told place expected found) = (l : Lost) × (after.trace.lost ≡ Some l)
      × (before.trace.taken ≤ l.step) × (l.step < after.trace.taken)
      × RefusesTry l.kind × (l.place ≡ place) × (l.expected ≡ expected) × (l.found ≡ found) × (found ≢ expected) × (l.list ≡ list) × (told ≡ list)
  IsListCause list before after asked (Long visits) = (w : IsWalkOf before after) × (w.walk.nodes ≡ visits) × (w.walk.list ≡ list)
  IsListCause list before after asked (NoNode told stuck) = (before.pools.ready ≡ [])
      × ((w : IsWalkOf before after) × (w.walk.ended ≡ true) × (w.walk.list ≡ list)) × IsStuckIn list before after stuck × (told ≡ list)

  -- why a try was refused: by a cause in one of the lists, which the refusal tells where it speaks of a word or of
  -- nodes
  abbrev pub IsCause : SeatState P → SeatState P → Held → NotHeld → Type 0
  IsCause before after asked why = (list : ℕ) × (list ≤ length before.further) × IsListCause list (in_list list before) (in_list list after) asked why
