-- A scan of the lists through a seat that holds nothing: what its calls leave of the seat, and why each answer comes.
-- It begins in list 0, and goes on in the next list where the end of one was read, at a step of the call or before it,
-- by the walk that stands there. A reader may rely on no list being left out: each was walked to its end, with a walk
-- of its own, and the record keeps these walks. The walk is that of Kogan, Dice and Issa 2020; a scan that stops after
-- each node is this project's own profile.
use Rattle.std.specs.Prelude.{◌≡◌, ◌≢◌, ◌⊎◌, ℕ, zero, suc, ◌+◌, ◌%◌, ◌<◌, ◌≤◌, ◌++◌, true, false, List, [], ◌∷◌, Option, Some, None, length, map}
use Rattle.lock_core.specs.declared.range.Held.{Held}
use Rattle.lock_core.specs.declared.views.Own.TheVariants.{Nothing}
use Rattle.epoch_pools.specs.declared.record.Looked.{Looked}
use Rattle.epoch_pools.specs.declared.record.Lost.{Lost}
use Rattle.epoch_pools.specs.declared.record.Met.{Met}
use Rattle.epoch_pools.specs.declared.views.SeatPart.{SeatPart}
use Rattle.epoch_pools.specs.declared.views.Beside.{Beside}
use Rattle.epoch_pools.specs.declared.views.Standing.TheVariants.{Free}
use Rattle.epoch_pools.specs.Beside.{shown_core}
use Rattle.marked_list.specs.declared.answers.Passed.{Passed}
use Rattle.marked_list.specs.declared.answers.Passed.TheVariants.{Found as NodeFound, End as ListEnd, Lost as NotWon, Long as TooLong}
use Rattle.marked_list.specs.Order.{IsInside}
use Rattle.marked_list.specs.Causes.{IsWalkLoss, nodes_in, judged_in}
use Rattle.range_rw.specs.declared.scan.Scanned.{Scanned}
use Rattle.range_rw.specs.declared.scan.Scanned.TheVariants.{Found, End, Again, Long}
use Rattle.range_rw.specs.Contract.{SeatState, OpenScan, fresh_in, ready_in}
use Rattle.range_rw.specs.Seats.{IsBetween, begun_in}
use Rattle.range_rw.specs.Several.{IsLaterInLists}

-- the answer of a scan for that of its call on the list
abbrev pub scanned_as : Passed → Scanned
scanned_as (NodeFound owner range mode) = Found owner range mode
scanned_as ListEnd = End
scanned_as (NotWon l) = Again l.place l.expected l.found
scanned_as (TooLong visits) = Long visits

-- walks of so many lists from that one on, one of each, the latest first, of which each came to its list's end. A walk
-- begins at the head
abbrev pub WalkedFrom : ℕ → ℕ → List Looked → Type 0
WalkedFrom first zero walks = walks ≡ []
WalkedFrom first (suc n) walks =
    (walk : Looked) × (rest : List Looked) × (walks ≡ walk ∷ rest) × (walk.list ≡ first + n) × (walk.ended ≡ true) × WalkedFrom first n rest

module _ {P : Type 0} where
  -- what a call of a scan leaves: the seat holds nothing, its ready pools and its pass stay, and no step is a client
  -- step
  pub record IsScanCall (before after : SeatState P) : Type 0 where
    pub table : after.table ≡ before.table
    pub number : after.number ≡ before.number
    pub held : after.held ≡ None
    pub ready : after.pools.ready ≡ before.pools.ready
    pub further : map ready_in after.further ≡ map ready_in before.further
    pub pass : after.pass ≡ before.pass
    pub client : after.trace.client ≡ before.trace.client
    pub asked : after.trace.asked ≡ before.trace.asked
    pub taken : before.trace.taken ≤ after.trace.taken

  -- at a step of this call that seat's node, with that range and mode, was found unmarked
  pub record IsFound (before after : SeatState P) (owner : ℕ) (held : Held) : Type 0 where
    pub met : Met
    pub is : after.trace.met ≡ Some met
    pub from : before.trace.taken ≤ met.step
    pub below : met.step < after.trace.taken
    pub owned : met.owner ≡ owner
    pub holds : met.held ≡ held

  -- an exchange of this call at that place found another value than it expected
  pub record IsAgain (before after : SeatState P) (place expected found : ℕ) : Type 0 where
    pub lost : Lost
    pub is : after.trace.lost ≡ Some lost
    pub kind : IsWalkLoss lost.kind
    pub from : before.trace.taken ≤ lost.step
    pub below : lost.step < after.trace.taken
    pub placed : lost.place ≡ place
    pub wanted : lost.expected ≡ expected
    pub had : lost.found ≡ found
    pub differ : found ≢ expected

  -- why a scan gives an answer in one list, with what its walk had come to before the call and what it comes to after
  -- it. It gives a node exactly where this call went past one, and the end only of the last list
  abbrev pub Gives : SeatState P → SeatState P → OpenScan → OpenScan → Scanned → Type 0
  Gives before after was now (Found owner range mode) = IsFound before after owner (record { range = range; mode = mode }) × (now.passed ≡ was.passed + 1)
  Gives before after was now End = (now.ended ≡ true) × (now.passed ≡ was.passed) × (now.nodes < now.most)
  Gives before after was now (Again place expected found) = IsAgain before after place expected found
      × (judged_in after.trace.looked ≡ was.passed) × (nodes_in after.trace.looked < was.most) × (now ≡ fresh_in was.list was.most)
  Gives before after was now (Long visits) = (visits ≡ now.most) × (now.nodes ≡ now.most) × (now.passed ≡ was.passed) × (now.ended ≡ false)

  -- a walk that had begun is still the same one, and one that had still to begin was begun by a step of this call
  abbrev pub WalksOn : SeatState P → SeatState P → Option ℕ → Option ℕ → Type 0
  WalksOn before after (Some begun) now = now ≡ Some begun
  WalksOn before after None now = (begun : ℕ) × (now ≡ Some begun) × (before.trace.taken ≤ begun) × (begun < after.trace.taken)

  -- a walk begins anew after a lost exchange alone, in its list, and the answer says so. The exchange was one of the
  -- walk that had begun there, or of one that this call began
  abbrev pub KeepsWalk : SeatState P → SeatState P → OpenScan → OpenScan → Scanned → Type 0
  KeepsWalk before after was now (Found owner range mode) = WalksOn before after was.walk now.walk
  KeepsWalk before after was now End = WalksOn before after was.walk now.walk
  KeepsWalk before after was now (Again place expected found) = (now.walk ≡ None) × WalksOn before after was.walk (begun_in after.trace.looked)
  KeepsWalk before after was now (Long visits) = WalksOn before after was.walk now.walk

  -- what a call of a scan comes to in one list, with what the scan had come to before it. One walk looks at no more
  -- nodes than it may
  pub record IsNextIn (before after : SeatState P) (was : OpenScan) (answer : Scanned) : Type 0 where
    pub now : OpenScan
    pub is : after.scan ≡ Some now
    pub list : now.list ≡ was.list
    pub same : now.most ≡ was.most
    pub bounded : now.nodes ≤ now.most
    pub gives : Gives before after was now answer
    pub keeps : KeepsWalk before after was now answer
    -- it leaves no walk, and where it is ended it is in the last list
    pub walks : after.trace.walks ≡ before.trace.walks
    pub last : now.ended ≡ true → now.list ≡ length after.further

  -- the end of the list was read in the walk that had begun there, or in one that this call began, and the call went
  -- past no node of it: the record's last walk is of that list. It was read at a step of this call, or that walk had
  -- read it before: a call without a step has looked at what was looked at before it
  pub record IsListEnd (before after : SeatState P) (was : OpenScan) : Type 0 where
    pub walk : Looked
    pub is : after.trace.looked ≡ Some walk
    pub listed : walk.list ≡ was.list
    pub ended : walk.ended ≡ true
    pub none : walk.judged ≡ was.passed
    pub few : walk.nodes < was.most
    pub keeps : WalksOn before after was.walk (Some walk.step)
    pub read : (after.trace.looked ≡ before.trace.looked) ⊎ (before.trace.taken < after.trace.taken)
    pub stay : after.trace.walks ≡ before.trace.walks

  -- the end of a list was read, past no node of it; then the seat left its epoch there and entered one of the next
  -- list, in two steps, where the walk is still to begin. Until then the seat's last walk is the one that read the end,
  -- and that is the one that it left
  pub record IsPassed (before after : SeatState P) (was : OpenScan) : Type 0 where
    pub end : SeatState P
    pub call : IsScanCall before end
    pub reads : IsListEnd before end was
    pub moves : IsScanCall end after
    pub taken : after.trace.taken ≡ end.trace.taken + 2
    pub last : after.trace.looked ≡ end.trace.looked
    pub left : after.trace.walks ≡ reads.walk ∷ end.trace.walks
    pub begun : after.scan ≡ Some (fresh_in (was.list + 1) was.most)

  -- so many lists are passed, one after another, and the answer is of the list behind them. Of the states between a
  -- caller knows the numbers of steps, and the walks: those that the seat left stand in its record after the call
  abbrev pub GoesOn : ℕ → SeatState P → SeatState P → OpenScan → Scanned → Type 0
  GoesOn zero before after was answer = IsNextIn before after was answer
  GoesOn (suc n) before after was answer =
      (mid : SeatState P) × IsPassed before mid was × GoesOn n mid after (fresh_in (was.list + 1) was.most) answer

  -- the call of a scan that had come to this before it: it goes past at most one node, in its list or, where no node is
  -- left there, in the first one behind it that has one. With one list, no list is passed. The walks that it left are
  -- one for each list that it passed, each from the list's head to its end: so no list is left out
  pub record IsNext (before after : SeatState P) (was : OpenScan) (answer : Scanned) : Type 0 where
    pub now : OpenScan
    pub is : after.scan ≡ Some now
    pub same : now.most ≡ was.most
    pub lists : ℕ
    pub list : now.list ≡ was.list + lists
    pub within : was.list + lists ≤ length before.further
    pub walked : List Looked
    pub walks : after.trace.walks ≡ walked ++ before.trace.walks
    pub each : WalkedFrom was.list lists walked
    pub goes : GoesOn lists before after was answer

-- an answer of a list that isn't its end
abbrev pub IsNoEnd : Passed → Type 0
IsNoEnd (NodeFound owner range mode) = Unit {0}
IsNoEnd ListEnd = ⊥
IsNoEnd (NotWon l) = Unit {0}
IsNoEnd (TooLong visits) = Unit {0}

module _ {P : Type 0} where
  -- what is behind a seat that holds nothing, between two calls or inside a scan
  pub record IsScanSeat (p : SeatPart (Beside P)) : Type 0 where
    pub within : p.pass.list < p.pass.lists
    pub between : IsBetween p.core
    pub free : (j : ℕ) → (shown_core p j).own ≡ Nothing
    pub standing : p.pass.standing ≡ Free

  -- the same inside a scan
  pub record IsInScan (p : SeatPart (Beside P)) : Type 0 where
    pub seat : IsScanSeat p
    pub inside : IsInside p.core

  -- what a call of a scan leaves of it, in whichever lists it goes
  pub record IsScanLater (p q : SeatPart (Beside P)) : Type 0 where
    pub later : IsLaterInLists p q
    pub asked : q.trace.asked ≡ p.trace.asked
    pub seat : IsScanSeat q
    pub ready : (j : ℕ) → (shown_core q j).ready ≡ (shown_core p j).ready

  -- the same of one that stays inside it
  pub record StaysInScan (p q : SeatPart (Beside P)) : Type 0 where
    pub later : IsScanLater p q
    pub inside : IsInside q.core

  -- the hand is turned to that list and entered its epoch there, and begins at the head
  pub record OpensEpoch (at : ℕ) (p q : SeatPart (Beside P)) : Type 0 where
    pub later : IsScanLater p q
    pub odd : q.core.epoch % 2 ≡ 1
    pub cursor : q.core.cursor ≡ None
    pub list : q.pass.list ≡ at

  -- it has left it, or was outside
  pub record ClosesEpoch (p q : SeatPart (Beside P)) : Type 0 where
    pub later : IsScanLater p q
    pub even : q.core.epoch % 2 ≡ 0
    pub cursor : q.core.cursor ≡ None

  -- what a call of a scan comes to in one list, by the answer of that list, with whether it is the last one
  abbrev pub ListGives : Type 0 → SeatState P → SeatState P → OpenScan → Passed → Type 0
  ListGives last before after was (NodeFound owner range mode) = IsNextIn before after was (Found owner range mode)
  ListGives last before after was ListEnd = IsListEnd before after was × (last → IsNextIn before after was End)
  ListGives last before after was (NotWon l) = IsNextIn before after was (Again l.place l.expected l.found)
  ListGives last before after was (TooLong visits) = IsNextIn before after was (Long visits)
