-- What a caller that waits may do from one try to the next. Each try that the lock refuses has a look behind it, and
-- who gives way there wakes the others. A caller sleeps only with a ticket, behind a refusal that another seat ends.
-- The orders that lose a wake are played in `test_wait`. This project's own.
use Rattle.std.specs.Prelude.{◌≡◌, ◌⊎◌, ◌+◌, ◌-◌, ◌<◌, ◌≤◌, ℕ, zero, suc, Bool, true, false, if◌then◌else◌, List, Some, IsSome, Result, Ok, Err}
use Rattle.lock_core.specs.declared.range.Held.{Held}
use Rattle.range_rw.specs.Contract.{SeatState}
use Rattle.range_rw.specs.declared.refusals.NotHeld.{NotHeld}
use Rattle.range_rw.specs.declared.refusals.NotHeld.TheVariants.{Busy, Again, Long, NoNode}
use Rattle.event_count.specs.declared.calls.Notified.{Notified}
use Rattle.event_count.specs.declared.records.EventStep.{EventStep}
use Rattle.event_count.specs.Calls.{Prepares, Cancels, Notifies}
use Rattle.event_count.specs.Sleeping.{Sleeps}
use Rattle.queue_guard.specs.declared.passes.QueuePass.{QueuePass}
use Rattle.range_queue.specs.declared.answers.NotAnnounced.{NotAnnounced}
use Rattle.range_queue.specs.declared.answers.NotYet.{NotYet}
use Rattle.range_queue.specs.declared.answers.NotYet.TheVariants.{Refused, Behind}
use Rattle.range_queue.specs.Looks.{IsBeside, ticket_of}
use Rattle.range_queue.specs.Settled.{IsAnnouncedBy, IsLeft, IsSameBut}
use Rattle.range_queue.specs.Tries.{IsGained, IsQueueTry, LooksOnce}
use Rattle.range_wait.specs.declared.refused.Missed.{Missed}
use Rattle.range_wait.specs.declared.refused.Next.{Next}
use Rattle.range_wait.specs.declared.refused.Next.TheVariants.{Sleeps as Sleeping, Wakes, Anew}
use Rattle.range_wait.specs.Seats.{WaitState}

-- how a counted caller goes on behind a refusal of the lock, where it gives way to nobody
abbrev pub next_by : NotHeld → Next
next_by (Busy owner held mode) = Sleeping
next_by (Again list place expected found) = Anew
next_by (Long visits) = Anew
next_by (NoNode list stuck) = Anew

-- how it goes on behind a refusal, where `way` says whether the look behind it met what the caller gives way to
abbrev pub next_of : NotYet → Bool → Next
next_of (Behind seat met) way = Sleeping
next_of (Refused why) way = if way then Wakes else next_by why

-- the steps on the event count behind the refusal of a caller that was counted, and of one that wasn't
abbrev pub EndsTurn : ℕ → Next → List EventStep → List EventStep → Type 0
EndsTurn seen Sleeping before after = (found : ℕ) × Sleeps seen before found after
EndsTurn seen Wakes before after = (out : List EventStep) × (how : Notified) × Cancels before out × Notifies out how after
EndsTurn seen Anew before after = Cancels before after

abbrev pub EndsAwake : Bool → List EventStep → List EventStep → Type 0
EndsAwake true before after = (how : Notified) × Notifies before how after
EndsAwake false before after = after ≡ before

module _ {P : Type 0} where
  -- a refused try; behind a refusal of the lock there is a look more
  abbrev pub IsRefusedBy : Held → NotYet → Bool → SeatState (QueuePass P) → SeatState (QueuePass P) → Type 0
  IsRefusedBy asked (Behind seat met) way before after =
      (way ≡ false) × IsQueueTry {A = Unit {0}} asked (Err (Behind seat met)) before after
  IsRefusedBy asked (Refused why) way before after =
      (mid : SeatState (QueuePass P)) × IsQueueTry {A = Unit {0}} asked (Err (Refused why)) before mid × LooksOnce asked way mid after

  abbrev pub IsTriedTwice : {A : Type 0} → Held → Result A Missed → SeatState (QueuePass P) → SeatState (QueuePass P) → Type 0
  IsTriedTwice asked (Ok a) before after = IsGained asked before after × (after.held ≡ Some asked)
  IsTriedTwice asked (Err m) before after = IsRefusedBy asked m.why m.way before after

  -- a try of a caller that isn't counted
  pub record IsAwakeTry (asked : Held) (why : NotYet) (before after : WaitState P) : Type 0 where
    pub way : Bool
    pub refused : IsRefusedBy asked why way before.lock after.lock
    pub ends : EndsAwake way before.event.steps after.event.steps

  -- one of a caller that is counted and has a ticket
  pub record IsTurn (asked : Held) (why : NotYet) (before after : WaitState P) : Type 0 where
    pub seen : ℕ
    pub counted : List EventStep
    pub way : Bool
    pub ticket : IsSome (ticket_of before.lock.pass.telling)
    pub prepares : Prepares before.event.steps seen counted
    pub refused : IsRefusedBy asked why way before.lock after.lock
    pub ends : EndsTurn seen (next_of why way) counted after.event.steps

  -- it announced the range, or couldn't
  pub record IsTelling (asked : Held) (before after : WaitState P) : Type 0 where
    pub answer : Result ℕ NotAnnounced
    pub beside : IsBeside before.lock after.lock
    pub same : IsSameBut before.lock.pass after.lock.pass
    pub told : IsAnnouncedBy asked answer after.lock.pass.telling
    pub events : after.event.steps ≡ before.event.steps

  abbrev pub IsMove : Held → WaitState P → WaitState P → Type 0
  IsMove asked before after =
      ((why : NotYet) × IsAwakeTry asked why before after) ⊎ (((why : NotYet) × IsTurn asked why before after) ⊎ IsTelling asked before after)

  -- so many of these, one after another
  abbrev pub Runs : (WaitState P → WaitState P → Type 0) → ℕ → WaitState P → WaitState P → Type 0
  Runs step zero before after = after ≡ before
  Runs step (suc n) before after = (mid : WaitState P) × Runs step n before mid × step mid after

  abbrev pub Moves : Held → ℕ → WaitState P → WaitState P → Type 0
  Moves asked n before after = Runs (IsMove asked) n before after

  -- the try by which the range is held, of a caller that wasn't counted, or was and counts itself out
  pub record IsHeldBy (asked : Held) (before after : WaitState P) : Type 0 where
    pub gained : IsGained asked before.lock after.lock
    pub held : after.lock.held ≡ Some asked
    pub ends : (after.event.steps ≡ before.event.steps)
        ⊎ ((seen : ℕ) × (counted : List EventStep) × Prepares before.event.steps seen counted × Cancels counted after.event.steps)

  -- a whole call by which it is held
  abbrev pub IsWaited : Held → WaitState P → WaitState P → Type 0
  IsWaited asked before after = (n : ℕ) × (last : WaitState P) × Moves asked n before last × IsHeldBy asked last after

  abbrev pub HasGone : Held → Bool → WaitState P → WaitState P → Type 0
  HasGone asked true before after = IsWaited asked before after
  HasGone asked false before after = (n : ℕ) × Moves asked n before after

  -- a try of either kind, by its answer
  abbrev pub IsRound : {A : Type 0} → Held → Result A NotYet → WaitState P → WaitState P → Type 0
  IsRound asked (Ok a) before after = IsHeldBy asked before after
  IsRound asked (Err why) before after = IsMove asked before after

  -- one try of a caller that isn't counted, by its answer: one that holds the range makes no step on the event count
  abbrev pub IsOneTry : {A : Type 0} → Held → Result A NotYet → WaitState P → WaitState P → Type 0
  IsOneTry asked (Ok a) before after = IsHeldBy asked before after × (after.event.steps ≡ before.event.steps)
  IsOneTry asked (Err why) before after = IsAwakeTry asked why before after

  -- a refused try, by whatever cause
  abbrev pub IsRefused : Held → WaitState P → WaitState P → Type 0
  IsRefused asked before after = (why : NotYet) × IsAwakeTry asked why before after

  -- up to so many tries: one that holds the range is the last; a refusal has the cause of the last of them all
  abbrev pub IsTriedUpTo : {A : Type 0} → Held → ℕ → Result A NotYet → WaitState P → WaitState P → Type 0
  IsTriedUpTo {A} asked tries (Ok a) before after =
      (n : ℕ) × (last : WaitState P) × (n < tries) × Runs (IsRefused asked) n before last × IsOneTry {A = A} asked (Ok a) last after
  IsTriedUpTo {A} asked tries (Err why) before after =
      (n : ℕ) × (last : WaitState P) × (n + 1 ≡ tries) × Runs (IsRefused asked) n before last × IsOneTry {A = A} asked (Err why) last after

  -- the caller takes its announcement back, if it has one, and then wakes those who may have given way to it
  pub record IsGivenUp (before after : WaitState P) : Type 0 where
    pub how : Notified
    pub left : IsLeft before.lock after.lock
    pub wakes : Notifies before.event.steps how after.event.steps

  -- it announces the range, tries up to so many times, and gives up where all were refused
  abbrev pub IsToldUpTo : {A : Type 0} → Held → ℕ → Result A NotYet → WaitState P → WaitState P → Type 0
  IsToldUpTo {A} asked tries (Ok a) before after =
      (told : WaitState P) × IsTelling asked before told × IsTriedUpTo {A = A} asked tries (Ok a) told after
  IsToldUpTo {A} asked tries (Err why) before after =
      (told : WaitState P) × (last : WaitState P) × IsTelling asked before told × IsTriedUpTo {A = A} asked tries (Err why) told last
      × IsGivenUp last after

  -- more tries than `awake`: so many without an announcement, and the others with one
  abbrev pub IsLongCall : {A : Type 0} → Held → ℕ → ℕ → Result A NotYet → WaitState P → WaitState P → Type 0
  IsLongCall {A} asked awake more (Ok a) before after = IsTriedUpTo {A = A} asked awake (Ok a) before after
      ⊎ ((mid : WaitState P) × (why : NotYet) × IsTriedUpTo {A = A} asked awake (Err why) before mid × IsToldUpTo {A = A} asked more (Ok a) mid after)
  IsLongCall {A} asked awake more (Err last) before after =
      (mid : WaitState P) × (why : NotYet) × IsTriedUpTo {A = A} asked awake (Err why) before mid × IsToldUpTo {A = A} asked more (Err last) mid after

  -- a whole call that makes up to so many tries and never sleeps
  pub record IsUpTo {A : Type 0} (asked : Held) (awake tries : ℕ) (answer : Result A NotYet) (before after : WaitState P) : Type 0 where
    pub short : tries ≤ awake → IsTriedUpTo asked tries answer before after
    pub long : awake < tries → IsLongCall asked awake (tries - awake) answer before after
