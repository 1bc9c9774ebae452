-- A scan of the list: one node after another is given, and marked nodes are unlinked on the way. Where it stands
-- between two of its calls the hand's view says: it has no cursor, and begins at the head with the next call; or its
-- cursor is at a node, or at the end. The walk is that of Kogan, Dice and Issa 2020; a scan that stops after each node
-- is this project's own profile.
use Rattle.std.specs.Prelude.{◌≡◌, ◌⊎◌, ℕ, ◌+◌, ◌*◌, ◌-◌, ◌/◌, ◌<◌, ◌≤◌, length, Option, Some, None}
use Rattle.lock_core.specs.declared.range.Held.{Held}
use Rattle.lock_core.specs.declared.views.View.{View}
use Rattle.lock_core.specs.declared.views.Cursor.{Cursor}
use Rattle.lock_core.specs.declared.views.Own.TheVariants.{Nothing}
use Rattle.lock_core.specs.Words.{mode_of}
use Rattle.epoch_pools.specs.declared.record.Looked.{Looked}
use Rattle.epoch_pools.specs.declared.record.Met.{Met}
use Rattle.epoch_pools.specs.declared.views.SeatPart.{SeatPart}
use Rattle.marked_list.specs.declared.answers.Passed.{Passed}
use Rattle.marked_list.specs.declared.answers.Passed.TheVariants.{Found, End, Lost, Long}
use Rattle.marked_list.specs.declared.answers.Walked.{Walked}
use Rattle.marked_list.specs.declared.answers.Walked.TheVariants.{Place, Conflict, Lost as NotWon, Long as TooLong}
use Rattle.marked_list.specs.Causes.{IsLost, IsWalkLoss, nodes_in, judged_in}
use Rattle.marked_list.specs.Leaves.{IsSameWalk, IsNewWalk}
use Rattle.marked_list.specs.Order.{IsInside, StandsAt}
use Rattle.marked_list.specs.Answers.{IsAtEnd}
use Rattle.marked_list.specs.Walking.{seen_of, GoesOn}

-- a scan's cursor is at a node, and has looked at no more nodes than a walk may; a view has one note for each seat
pub record IsScanAtNode (v : View) : Type 0 where
  pub stands : StandsAt v
  pub seen : seen_of v.cursor ≤ 16 * length v.notes + 1

-- it is at the end, which it came to before it had looked at as many nodes as it may
pub record IsScanAtEnd (v : View) : Type 0 where
  pub inside : IsInside v
  pub end : IsAtEnd v.cursor
  pub seen : seen_of v.cursor ≤ 16 * length v.notes

-- a scan is under way, with a cursor
pub record IsScanning (v : View) : Type 0 where
  pub own : v.own ≡ Nothing
  pub at : IsScanAtNode v ⊎ IsScanAtEnd v

-- how a cursor may stand while no call is made
abbrev pub IsResting : View → Type 0
IsResting v = (v.cursor ≡ None) ⊎ IsScanning v

-- the answer of a scan at a node, with the lower end and the hi word by which it was judged
abbrev pub found_with : ℕ → ℕ → ℕ → Passed
found_with cur lo word = Found ((cur / 2 - 1) / 16) (record { lo = lo; hi = word / 2 }) (mode_of word)

-- the answer of a scan for that of a walk
abbrev pub passed_from : Walked → Passed
passed_from Place = End
passed_from (Conflict owner range mode) = Found owner range mode
passed_from (NotWon l) = Lost l
passed_from (TooLong visits) = Long visits

-- how many nodes the walk of a scan has gone past: none where it has still to begin
abbrev pub passed_at : Option Cursor → Option Looked → ℕ
passed_at None l = 0
passed_at (Some c) l = judged_in l

module _ {P : Type 0} where
  -- the walk of a scan after a call is the one that the cursor was in before it, and where there was no cursor it is
  -- one that the call began
  abbrev pub IsScanWalk : Option Cursor → SeatPart P → SeatPart P → Type 0
  IsScanWalk None p q = IsNewWalk p.trace.taken q
  IsScanWalk (Some c) p q = IsSameWalk p q

  abbrev pub passed_by : SeatPart P → ℕ
  passed_by p = passed_at p.core.cursor p.trace.looked

  -- a node with that range and mode was found unmarked by the step of that number or a later one
  pub record IsSeen (first : ℕ) (q : SeatPart P) (owner : ℕ) (held : Held) : Type 0 where
    pub met : Met
    pub is : q.trace.met ≡ Some met
    pub from : first ≤ met.step
    pub below : met.step < q.trace.taken
    pub listed : met.list ≡ q.trace.list
    pub owned : met.owner ≡ owner
    pub holds : met.held ≡ held

  -- what the call of a scan came to, with how many nodes the walk had gone past before it: `Found` exactly where it
  -- went past a node, `End` and `Long` where it went past none and the end was read, or the walk has looked at as many
  -- nodes as it may
  abbrev pub PassesFrom : ℕ → ℕ → SeatPart P → Passed → Type 0
  PassesFrom first before q (Found owner range mode) = IsSeen first q owner (record { range = range; mode = mode })
      × (judged_in q.trace.looked ≡ before + 1) × IsScanning q.core
  PassesFrom first before q End = IsScanAtEnd q.core × (judged_in q.trace.looked ≡ before) × (nodes_in q.trace.looked ≤ 16 * q.seats)
  PassesFrom first before q (Lost l) = IsLost first q IsWalkLoss l.place l.expected l.found × (judged_in q.trace.looked ≡ before)
      × (nodes_in q.trace.looked ≤ 16 * q.seats) × (q.core.cursor ≡ None)
  PassesFrom first before q (Long visits) = (visits ≡ 16 * q.seats + 1) × (judged_in q.trace.looked ≡ before)
      × (nodes_in q.trace.looked ≡ 16 * q.seats + 1) × IsScanAtNode q.core

  -- why a scan gives an answer, from the hand before the call and after it
  abbrev pub Passes : SeatPart P → SeatPart P → Passed → Type 0
  Passes p q answer = PassesFrom p.trace.taken (passed_by p) q answer

  -- what one look of a scan comes to: the walk goes on past a marked node, or there is an answer
  abbrev pub Sees : ℕ → SeatPart P → SeatPart P → Option Passed → Type 0
  Sees first p q None = GoesOn p.core q.core × (judged_in q.trace.looked ≡ judged_in p.trace.looked)
  Sees first p q (Some answer) = PassesFrom first (judged_in p.trace.looked) q answer
