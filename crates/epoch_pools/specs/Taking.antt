-- What a call of take does and what it answers. The first ready node is taken. Where there is none, the home words of
-- the used nodes are read, and where one came home the epochs of the other seats; the nodes that came home are ready
-- once each other seat was seen outside, or in another operation, since the last of them. Each answer has its cause in
-- the record, at a step of the call. Pools and barrier are this project's own profile, after the epochs of Fraser 2004.
use Rattle.std.specs.Prelude.{◌≡◌, ◌≢◌, ◌⊎◌, ℕ, ◌+◌, ◌%◌, ◌<◌, ◌≤◌, ◌==◌, true, false, List, [], ◌∷◌, find, Option, Some, None}
use Rattle.view_lists.specs.Counted.{times, are_others_passed}
use Rattle.lock_core.specs.declared.range.Mode.TheVariants.{Writer}
use Rattle.lock_core.specs.declared.views.View.{View}
use Rattle.lock_core.specs.declared.views.Own.TheVariants.{Nothing, Filling}
use Rattle.lock_core.specs.Views.{is_passed, note_of, taken}
use Rattle.epoch_pools.specs.declared.record.Away.{Away}
use Rattle.epoch_pools.specs.declared.record.Noted.{Noted}
use Rattle.epoch_pools.specs.declared.views.SeatPart.{SeatPart}
use Rattle.epoch_pools.specs.Record.{KeepsOccupied}
use Rattle.epoch_pools.specs.declared.stuck.Stuck.{Stuck}
use Rattle.epoch_pools.specs.declared.stuck.Stuck.TheVariants.{Inside, Away as IsAway}
use Rattle.epoch_pools.specs.declared.stuck.Taken.{Taken}
use Rattle.epoch_pools.specs.declared.stuck.Taken.TheVariants.{Node, Out}

-- what the hand must be for take: outside an operation, and without a node of its own
pub record IsFree (v : View) : Type 0 where
  pub outside : v.epoch % 2 ≡ 0
  pub own : v.own ≡ Nothing

-- a call that makes no step on a client word, enters and leaves no operation, and touches no node but of the pools; it
-- fills none
pub record IsPoolCall {P : Type 0} (p q : SeatPart P) : Type 0 where
  pub number : q.number ≡ p.number
  pub seats : q.seats ≡ p.seats
  pub pass : q.pass ≡ p.pass
  pub client : q.trace.client ≡ p.trace.client
  pub list : q.trace.list ≡ p.trace.list
  pub asked : q.trace.asked ≡ p.trace.asked
  pub occupied : KeepsOccupied p.trace q.trace
  pub epoch : q.core.epoch ≡ p.core.epoch
  pub cursor : q.core.cursor ≡ p.core.cursor
  pub hand : q.core.hand ≡ p.core.hand
  -- what the last cursor has looked at stays
  pub looked : p.core.cursor ≡ None → q.trace.looked ≡ p.trace.looked
  pub taken : p.trace.taken ≤ q.trace.taken

-- node x was read as away in that list, for the last time by a step from number `since` on and below `taken`
pub record IsReadAway (list since taken : ℕ) (away : List Away) (x : ℕ) : Type 0 where
  pub entry : Away
  pub last : find (λ a. a.node == x) away ≡ Some entry
  pub listed : entry.list ≡ list
  pub from : since ≤ entry.step
  pub before : entry.step < taken

-- seat k isn't passed, since an odd epoch was read of it there by such a step; that epoch is noted of it, and no other
pub record IsReadInside (list since taken : ℕ) (noted : List Noted) (v : View) (k : ℕ) : Type 0 where
  pub entry : Noted
  pub last : find (λ n. n.seat == k) noted ≡ Some entry
  pub listed : entry.list ≡ list
  pub from : since ≤ entry.step
  pub before : entry.step < taken
  pub odd : entry.epoch % 2 ≡ 1
  pub only : note_of v k ≡ Some entry.epoch
  pub inside : is_passed v k ≡ false

-- every used node was read as away at a step of this call, and the lowest of them is named
pub record IsAllAway {P : Type 0} (p q : SeatPart P) (node : ℕ) : Type 0 where
  pub used : 1 ≤ times node q.core.used
  pub lowest : (x : ℕ) → 1 ≤ times x q.core.used → node ≤ x
  pub away : (x : ℕ) → 1 ≤ times x q.core.used → IsReadAway p.trace.list p.trace.taken q.trace.taken q.trace.away x

-- a used node was read as 1 at its home, and of that seat, the first that isn't passed, this call read that odd epoch
pub record IsHeldUp {P : Type 0} (p q : SeatPart P) (seat epoch : ℕ) : Type 0 where
  pub node : ℕ
  pub home : 1 ≤ times node q.core.homes
  pub used : 1 ≤ times node q.core.used
  pub there : seat < q.seats
  pub other : seat ≢ q.number
  pub read : IsReadInside p.trace.list p.trace.taken q.trace.taken q.trace.noted q.core seat
  pub epoch_is : read.entry.epoch ≡ epoch
  pub lowest : (k : ℕ) → k < seat → k ≢ q.number → is_passed q.core k ≡ true

abbrev pub IsStuck : {P : Type 0} → SeatPart P → SeatPart P → Stuck → Type 0
IsStuck p q (Inside seat epoch) = IsHeldUp p q seat epoch
IsStuck p q (IsAway node) = IsAllAway p q node

-- the first ready node was taken, and nothing else of the view changes
pub record TakesFirst {P : Type 0} (p q : SeatPart P) (node : ℕ) : Type 0 where
  pub rest : List ℕ
  pub ready : p.core.ready ≡ node ∷ rest
  pub core : q.core ≡ taken p.core node rest

-- no node was ready, and this call's barrier made used ones ready, of which the first was taken
pub record TakesFilled {P : Type 0} (p q : SeatPart P) (node : ℕ) : Type 0 where
  pub empty : p.core.ready ≡ []
  pub nodes : (x : ℕ) → times x (node ∷ q.core.ready) + times x q.core.used ≡ times x p.core.used

-- a node comes exactly where one was ready or the barrier of this call made one ready, and it is the own node then, of
-- whose words nothing is known; otherwise the hand is as free as before, and there is a cause
abbrev pub IsTaken : {P : Type 0} → SeatPart P → SeatPart P → Taken → Type 0
IsTaken p q (Node node) = (q.core.own ≡ Filling node None None Writer None) × (TakesFirst p q node ⊎ TakesFilled p q node)
IsTaken p q (Out stuck) = (p.core.ready ≡ []) × (q.core.ready ≡ []) × (q.core.own ≡ Nothing) × IsStuck p q stuck

-- the looks of a call that has taken no node yet: the hand stays free
pub record IsLooking {P : Type 0} (p q : SeatPart P) : Type 0 where
  pub call : IsPoolCall p q
  pub own : q.core.own ≡ p.core.own

-- a look whether node n came home. It is no used node any more, or it is a candidate, or it was read as away; what was
-- known of the others stays, where they are used still
pub record IsHomeLook {P : Type 0} (p q : SeatPart P) (n : ℕ) : Type 0 where
  pub used : (x : ℕ) → times x q.core.used ≤ times x p.core.used
  pub homes : (x : ℕ) → 1 ≤ times x p.core.homes → 1 ≤ times x q.core.used → 1 ≤ times x q.core.homes
  pub away : (x : ℕ) → x ≢ n → find (λ a. a.node == x) q.trace.away ≡ find (λ a. a.node == x) p.trace.away
  pub this : 1 ≤ times n q.core.used → (1 ≤ times n q.core.homes) ⊎ IsReadAway p.trace.list p.trace.taken q.trace.taken q.trace.away n

-- a used node of the hand is a candidate, or was read as away at a step since p
abbrev pub IsHomeKnown : {P : Type 0} → SeatPart P → SeatPart P → ℕ → Type 0
IsHomeKnown p q x = 1 ≤ times x q.core.used → (1 ≤ times x q.core.homes) ⊎ IsReadAway p.trace.list p.trace.taken q.trace.taken q.trace.away x

-- seat k is passed, or this call read that it is inside
abbrev pub IsSeatKnown : {P : Type 0} → SeatPart P → SeatPart P → ℕ → Type 0
IsSeatKnown p q k = (is_passed q.core k ≡ true) ⊎ IsReadInside p.trace.list p.trace.taken q.trace.taken q.trace.noted q.core k

-- the candidates wait on, since not all others are passed
pub record IsWaiting {P : Type 0} (p q : SeatPart P) : Type 0 where
  pub ready : q.core.ready ≡ p.core.ready
  pub used : q.core.used ≡ p.core.used
  pub homes : q.core.homes ≡ p.core.homes
  pub barred : are_others_passed q.number q.core.passed ≡ false

-- a look at the epoch of seat j after which the candidates wait on: what was known of the other seats stays
pub record IsSeatLook {P : Type 0} (p q : SeatPart P) (j : ℕ) : Type 0 where
  pub waiting : IsWaiting p q
  pub passed : (k : ℕ) → k ≢ j → is_passed q.core k ≡ is_passed p.core k
  pub notes : (k : ℕ) → k ≢ j → note_of q.core k ≡ note_of p.core k
  pub noted : (k : ℕ) → k ≢ j → find (λ n. n.seat == k) q.trace.noted ≡ find (λ n. n.seat == k) p.trace.noted
  pub this : IsSeatKnown p q j

-- a look at the epoch of seat j: the candidates became ready, or wait on
abbrev pub IsEpochLook : {P : Type 0} → SeatPart P → SeatPart P → ℕ → Type 0
IsEpochLook p q j = (q.core.ready ≢ []) ⊎ IsSeatLook p q j

-- every other seat was looked at, and not all of them are passed
pub record IsBarred {P : Type 0} (p q : SeatPart P) : Type 0 where
  pub waiting : IsWaiting p q
  pub known : (k : ℕ) → k < q.seats → k ≢ q.number → IsSeatKnown p q k

-- the first other seat that isn't passed, with its note
pub record IsFirstInside (v : View) (seats number seat epoch : ℕ) : Type 0 where
  pub there : seat < seats
  pub other : seat ≢ number
  pub inside : is_passed v seat ≡ false
  pub note : note_of v seat ≡ Some epoch
  pub lowest : (k : ℕ) → k < seat → k ≢ number → is_passed v k ≡ true

-- a seat is named that is so, of the hand's own view
abbrev pub IsInside : {P : Type 0} → SeatPart P → Stuck → Type 0
IsInside p (Inside seat epoch) = IsFirstInside p.core p.seats p.number seat epoch
IsInside p (IsAway node) = ⊥

-- used nodes became ready, or there is a cause why none did
abbrev pub IsRefill : {P : Type 0} → SeatPart P → SeatPart P → Option Stuck → Type 0
IsRefill p q None = q.core.ready ≢ []
IsRefill p q (Some stuck) = (q.core.ready ≡ []) × IsStuck p q stuck
