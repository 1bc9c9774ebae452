-- What a try comes to: its look was over before its first step on the lock, or it met an announcement and made none.
-- The seat between the two is `mid`; what the lock says of a try is said of it from there on. This project's own.
use Rattle.std.specs.Prelude.{◌≡◌, ℕ, ◌<◌, Bool, true, false, List, None, Some, Result, Ok, Err}
use Rattle.lock_core.specs.declared.range.Held.{Held}
use Rattle.range_rw.specs.declared.refusals.NotHeld.{NotHeld}
use Rattle.range_rw.specs.Contract.{SeatState, IsLockCall, IsCause, AsksOnly}
use Rattle.queue_laws.specs.declared.places.Announcement.{Announcement}
use Rattle.queue_laws.specs.declared.places.Look.TheVariants.{Clear, Way}
use Rattle.queue_laws.specs.declared.places.Telling.{Telling}
use Rattle.queue_laws.specs.declared.steps.QueueStep.TheVariants.{Gain}
use Rattle.queue_laws.specs.Machine.{IsLine}
use Rattle.queue_guard.specs.Lines.{place_with}
use Rattle.queue_guard.specs.declared.passes.QueuePass.{QueuePass}
use Rattle.range_queue.specs.declared.answers.NotYet.{NotYet}
use Rattle.range_queue.specs.declared.answers.NotYet.TheVariants.{Refused, Behind}
use Rattle.range_queue.specs.Looks.{GivesWay, IsLast, IsLooking, ticket_of}
use Rattle.range_queue.specs.Settled.{IsLeft}

-- the answer for a try of the lock
abbrev pub refused_by : {A : Type 0} → Result A NotHeld → Result A NotYet
refused_by (Ok a) = Ok a
refused_by (Err why) = Err (Refused why)

module _ {P : Type 0} where
  -- what the seat has told and written, and what the guard behind the queue has it know, stays
  pub record IsKept (before after : SeatState (QueuePass P)) : Type 0 where
    pub table : after.table ≡ before.table
    pub number : after.number ≡ before.number
    pub seats : after.pass.seats ≡ before.pass.seats
    pub telling : after.pass.telling ≡ before.pass.telling
    pub own : after.pass.own ≡ before.pass.own
    pub inner : after.pass.inner ≡ before.pass.inner

  -- steps on the lock alone, for that range alone
  pub record IsLockTry (asked : Held) (mid after : SeatState (QueuePass P)) : Type 0 where
    pub call : IsLockCall mid after
    pub asks : AsksOnly asked mid.trace.asked after.trace.asked

  -- what a try of the lock comes to
  abbrev pub TriesNext : {A : Type 0} → Held → Result A NotYet → SeatState (QueuePass P) → SeatState (QueuePass P) → Type 0
  TriesNext asked (Ok nothing) mid after = IsLockTry asked mid after × (after.held ≡ Some asked)
  TriesNext asked (Err (Refused why)) mid after = IsLockTry asked mid after × (after.held ≡ None) × IsCause mid after asked why
  TriesNext asked (Err (Behind seat met)) mid after = ⊥

  -- a look that this call began is over for that range, and its last step is the last one so far
  pub record IsClear (asked : Held) (before mid : SeatState (QueuePass P)) : Type 0 where
    pub looked : IsLooking 1 before mid
    pub clear : mid.pass.look ≡ Clear asked
    pub last : IsLast mid.trace

  -- a look that met an announcement to which the caller gives way: the seat holds what it held, and no step on the lock
  -- was made
  pub record IsBehind (asked : Held) (seat : ℕ) (met : Announcement) (before after : SeatState (QueuePass P)) : Type 0 where
    pub looked : IsLooking 1 before after
    pub way : after.pass.look ≡ Way asked seat met
    pub gives : GivesWay asked (ticket_of before.pass.telling) met
    pub there : seat < before.pass.seats

  -- a look alone, by whether it met an announcement to which the caller gives way
  abbrev pub LooksOnce : Held → Bool → SeatState (QueuePass P) → SeatState (QueuePass P) → Type 0
  LooksOnce asked true before after = (seat : ℕ) × (met : Announcement) × IsBehind asked seat met before after
  LooksOnce asked false before after = IsClear asked before after

  -- what a try comes to by its answer: it looked first, and then the lock was tried; or it gave way
  abbrev pub IsTried : {A : Type 0} → Held → Result A NotYet → SeatState (QueuePass P) → SeatState (QueuePass P) → Type 0
  IsTried asked (Ok nothing) before after = (mid : SeatState (QueuePass P)) × IsClear asked before mid × TriesNext asked (Ok nothing) mid after
  IsTried {A} asked (Err (Refused why)) before after =
      (mid : SeatState (QueuePass P)) × IsClear asked before mid × TriesNext {A = A} asked (Err (Refused why)) mid after
  IsTried asked (Err (Behind seat met)) before after = IsBehind asked seat met before after

  -- the lock gives a seat this range: a line of the queue's machine, whatever all seats have told
  abbrev pub IsGain : Held → SeatState (QueuePass P) → SeatState (QueuePass P) → Type 0
  IsGain asked mid after = (next : ℕ) (tellings : List Telling)
      → IsLine next tellings (place_with mid.pass mid.held) (Gain asked) (place_with after.pass after.held)

  -- a call by which the range is held: at `mid` its look was over, at `got` the lock had given the range, and then the
  -- caller took its own announcement back, if it had one
  pub record IsGained (asked : Held) (before after : SeatState (QueuePass P)) : Type 0 where
    pub mid : SeatState (QueuePass P)
    pub got : SeatState (QueuePass P)
    pub clear : IsClear asked before mid
    pub next : IsLockTry asked mid got
    pub gain : IsGain asked mid got
    pub kept : IsKept before got
    pub left : IsLeft got after

  -- what a whole call comes to by its answer
  abbrev pub IsQueueTry : {A : Type 0} → Held → Result A NotYet → SeatState (QueuePass P) → SeatState (QueuePass P) → Type 0
  IsQueueTry asked (Ok nothing) before after = IsGained asked before after
  IsQueueTry {A} asked (Err why) before after = IsTried {A = A} asked (Err why) before after × IsKept before after
