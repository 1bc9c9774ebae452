-- What the calls on a list leave of a hand, whatever they answer. None makes a client step, and none but a mark and a
-- quick unlink changes the pass; none but a fill asks for a range. The pools stay, since nodes are taken and come home
-- elsewhere. Every call but a quick unlink leaves no node that is still to be given home. This project's own profile.
use Rattle.std.specs.Prelude.{◌≡◌, ℕ, ◌+◌, ◌≤◌, ◌<◌, Some, None}
use Rattle.lock_core.specs.declared.views.View.{View}
use Rattle.lock_core.specs.declared.views.Own.TheVariants.{Nothing}
use Rattle.epoch_pools.specs.declared.record.Looked.{Looked}
use Rattle.epoch_pools.specs.declared.views.SeatPart.{SeatPart}
use Rattle.epoch_pools.specs.Record.{KeepsOccupied}
use Rattle.marked_list.specs.Causes.{nodes_in}
use Rattle.marked_list.specs.Order.{IsOutside}

-- the pools and what is known of other seats stay
pub record IsSamePools (v w : View) : Type 0 where
  pub ready : w.ready ≡ v.ready
  pub used : w.used ≡ v.used
  pub homes : w.homes ≡ v.homes
  pub notes : w.notes ≡ v.notes
  pub passed : w.passed ≡ v.passed

-- what a call that walks leaves
pub record IsLaterInWalk {P : Type 0} (p q : SeatPart P) : Type 0 where
  pub number : q.number ≡ p.number
  pub seats : q.seats ≡ p.seats
  pub pass : q.pass ≡ p.pass
  pub client : q.trace.client ≡ p.trace.client
  pub asked : q.trace.asked ≡ p.trace.asked
  pub occupied : q.trace.occupied ≡ p.trace.occupied
  pub walks : q.trace.walks ≡ p.trace.walks
  pub list : q.trace.list ≡ p.trace.list
  pub epoch : q.core.epoch ≡ p.core.epoch
  pub pools : IsSamePools p.core q.core
  pub hand : q.core.hand ≡ None
  pub taken : p.trace.taken ≤ q.trace.taken

-- what a call of a fixed number of steps leaves beside the view
pub record IsCall {P : Type 0} (count : ℕ) (p q : SeatPart P) : Type 0 where
  pub number : q.number ≡ p.number
  pub seats : q.seats ≡ p.seats
  pub pass : q.pass ≡ p.pass
  pub client : q.trace.client ≡ p.trace.client
  pub occupied : KeepsOccupied p.trace q.trace
  pub list : q.trace.list ≡ p.trace.list
  pub taken : q.trace.taken ≡ count + p.trace.taken

-- the cursor that was looked with last is the same one: it was made by the same step, in the same list
abbrev pub IsSameWalk : {P : Type 0} → SeatPart P → SeatPart P → Type 0
IsSameWalk p q = (l : Looked) → p.trace.looked ≡ Some l → (m : Looked) × (q.trace.looked ≡ Some m) × (m.step ≡ l.step) × (m.list ≡ l.list)

-- and since then it has judged so many nodes
abbrev pub HasJudged : {P : Type 0} → ℕ → SeatPart P → SeatPart P → Type 0
HasJudged count p q = (l : Looked) → p.trace.looked ≡ Some l → (m : Looked) × (q.trace.looked ≡ Some m) × (m.step ≡ l.step) × (m.judged ≡ l.judged + count)

-- and it has looked at no more nodes
abbrev pub IsSameLook : {P : Type 0} → SeatPart P → SeatPart P → Type 0
IsSameLook p q = (nodes_in q.trace.looked ≡ nodes_in p.trace.looked) × IsSameWalk p q

-- it was made by the step of that number or a later one, in the hand's list
abbrev pub IsNewWalk : {P : Type 0} → ℕ → SeatPart P → Type 0
IsNewWalk first q = (l : Looked) × (q.trace.looked ≡ Some l) × (first ≤ l.step) × (l.step < q.trace.taken) × (l.list ≡ q.trace.list)

-- what a sweep leaves: the hand is outside its epoch again, without an own node
pub record IsSwept {P : Type 0} (p q : SeatPart P) : Type 0 where
  pub number : q.number ≡ p.number
  pub seats : q.seats ≡ p.seats
  pub pass : q.pass ≡ p.pass
  pub client : q.trace.client ≡ p.trace.client
  pub asked : q.trace.asked ≡ p.trace.asked
  pub occupied : q.trace.occupied ≡ p.trace.occupied
  pub list : q.trace.list ≡ p.trace.list
  pub pools : IsSamePools p.core q.core
  pub outside : IsOutside q.core
  pub own : q.core.own ≡ Nothing
  pub cursor : q.core.cursor ≡ None
