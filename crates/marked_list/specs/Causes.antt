-- What an answer tells of the steps of the call that gives it, by the record of the hand's steps. A step of the record
-- belongs to a call where its number isn't below the count at the call's entry, and it is of the hand's own list.
-- Conflicts are those of the compare rule and the two validations of Kogan, Dice and Issa 2020.
use Rattle.std.specs.Prelude.{◌≡◌, ◌≢◌, ℕ, ◌+◌, ◌*◌, ◌<◌, ◌≤◌, Option, Some, None}
use Rattle.lock_core.specs.declared.range.Held.{Held}
use Rattle.lock_core.specs.declared.views.Own.{Own}
use Rattle.lock_core.specs.declared.views.Own.TheVariants.{Nothing, Filling, Linked}
use Rattle.lock_core.specs.declared.steps.Step.{Step}
use Rattle.lock_core.specs.declared.steps.Step.TheVariants.{Unlink, Settle}
use Rattle.lock_core.specs.Grants.{Conflicts}
use Rattle.lock_core.specs.Machine.{given, held_at}
use Rattle.epoch_pools.specs.declared.record.Looked.{Looked}
use Rattle.epoch_pools.specs.declared.record.Lost.{Lost}
use Rattle.epoch_pools.specs.declared.record.Met.{Met}
use Rattle.epoch_pools.specs.declared.views.SeatPart.{SeatPart}

-- the range and mode that a seat holds or asks for, once both ends are known
abbrev pub asked_of : Own → Option Held
asked_of Nothing = None
asked_of (Filling node lo hi mode aimed) = given lo (λ low. given hi (λ high. Some (record { range = record { lo = low; hi = high }; mode = mode })))
asked_of (Linked node range mode todo) = Some (record { range = range; mode = mode })

-- a node of another seat, with that range and mode, was found unmarked by the step of that number or a later one, and
-- is in conflict with what this seat asks for
pub record IsMet {P : Type 0} (first : ℕ) (q : SeatPart P) (owner : ℕ) (held : Held) : Type 0 where
  pub met : Met
  pub is : q.trace.met ≡ Some met
  pub from : first ≤ met.step
  pub below : met.step < q.trace.taken
  pub listed : met.list ≡ q.trace.list
  pub owned : met.owner ≡ owner
  pub holds : met.held ≡ held
  pub other : owner ≢ q.number
  pub asked : Held
  pub asks : asked_of q.core.own ≡ Some asked
  pub conflicts : Conflicts held asked

-- an exchange of such a kind, by the step of that number or a later one, found another value than it expected
pub record IsLost {P : Type 0} (first : ℕ) (q : SeatPart P) (IsKind : Step → Type 0) (place expected found : ℕ) : Type 0 where
  pub lost : Lost
  pub is : q.trace.lost ≡ Some lost
  pub kind : IsKind lost.kind
  pub from : first ≤ lost.step
  pub below : lost.step < q.trace.taken
  pub listed : lost.list ≡ q.trace.list
  pub placed : lost.place ≡ place
  pub wanted : lost.expected ≡ expected
  pub had : lost.found ≡ found
  pub differ : found ≢ expected

-- the exchanges that a walk makes
abbrev pub IsWalkLoss : Step → Type 0
IsWalkLoss Unlink = Unit {0}
IsWalkLoss Settle = Unit {0}
IsWalkLoss _ = ⊥

-- how many nodes a cursor has looked at
abbrev pub nodes_in : Option Looked → ℕ
nodes_in None = 0
nodes_in (Some l) = l.nodes

-- and how many of them it has judged
abbrev pub judged_in : Option Looked → ℕ
judged_in None = 0
judged_in (Some l) = l.judged

-- the last walk has looked at as many nodes as it may, and no range is held: so its last step made none held
abbrev pub IsSpent : {P : Type 0} → SeatPart P → Type 0
IsSpent q = (nodes_in q.trace.looked ≡ 16 * q.seats + 1) × (held_at q.core.own ≡ None)

-- the last walk has looked at no more nodes than one walk may, 16 for each seat and one more
abbrev pub IsBoundedWalk : {P : Type 0} → SeatPart P → Type 0
IsBoundedWalk q = nodes_in q.trace.looked ≤ 16 * q.seats + 1
