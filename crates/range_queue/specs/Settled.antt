-- What announcing a range and taking the announcement back leave of what a seat knows, and of the seat. This project's
-- own.
use Rattle.std.specs.Prelude.{◌≡◌, ◌≢◌, ℕ, ◌<◌, ◌≤◌, ◌^◌, List, slice_index, Option, Some, None, Result, Ok, Err}
use mathlib.Core.Option.{some}
use lib.ListN.{get_elem?}
use Rattle.lock_core.specs.declared.range.Held.{Held}
use Rattle.lock_core.specs.Words.{hi_word}
use Rattle.range_rw.specs.Contract.{SeatState, IsClientCall}
use Rattle.queue_laws.specs.declared.places.Telling.{Telling}
use Rattle.queue_laws.specs.declared.places.Telling.TheVariants.{Silent, Counted, Drawn, Shown}
use Rattle.queue_guard.specs.declared.passes.QueuePass.{QueuePass}
use Rattle.queue_guard.specs.Acts.{both_ends, with_telling}
use Rattle.queue_guard.specs.Places.{next_place}
use Rattle.queue_guard.specs.Rule.{IsQueue}
use Rattle.range_queue.specs.declared.answers.NotAnnounced.{NotAnnounced}
use Rattle.range_queue.specs.declared.answers.NotAnnounced.TheVariants.{Again, Full}
use Rattle.range_queue.specs.Looks.{IsBeside}

-- a seat has told nothing, or has shown an announcement with that ticket
abbrev pub IsToldBy : Telling → Option ℕ → Type 0
IsToldBy Silent ticket = ticket ≡ None
IsToldBy Counted ticket = ⊥
IsToldBy (Drawn drawn) ticket = ⊥
IsToldBy (Shown a) ticket = ticket ≡ Some a.ticket

-- why no ticket was drawn: another seat drew it first, or there is none left
abbrev pub IsNoTicket : NotAnnounced → Type 0
IsNoTicket (Again expected found) = found ≢ expected
IsNoTicket Full = Unit {0}

-- what a seat has told after it has announced a range, and after it couldn't
abbrev pub IsAnnouncedBy : Held → Result ℕ NotAnnounced → Telling → Type 0
IsAnnouncedBy asked (Ok ticket) telling = telling ≡ Shown (record { ticket = ticket; held = asked })
IsAnnouncedBy asked (Err why) telling = (telling ≡ Silent) × IsNoTicket why

module _ {P : Type 0} where
  -- all but what the seat has told, written and read stays
  pub record IsSameBut (before after : QueuePass P) : Type 0 where
    pub seats : after.seats ≡ before.seats
    pub look : after.look ≡ before.look
    pub begun : after.begun ≡ before.begun
    pub inner : after.inner ≡ before.inner

  -- a seat that is counted, and has written the ends of this range
  pub record IsEntered (asked : Held) (before after : QueuePass P) : Type 0 where
    pub same : IsSameBut before after
    pub telling : after.telling ≡ Counted
    pub own : after.own ≡ both_ends asked.range.lo (hi_word asked.range.hi asked.mode)

  -- a ticket was drawn, or none
  abbrev pub HasDrawn : Result ℕ NotAnnounced → QueuePass P → QueuePass P → Type 0
  HasDrawn (Ok ticket) before after = after ≡ with_telling before (Drawn ticket)
  HasDrawn (Err why) before after = (after ≡ before) × IsNoTicket why

  -- what a load of the next ticket found: the value at a moment at which the queue's rule held, with this seat so
  pub record IsNextAt (found : ℕ) (s : SeatState (QueuePass P)) : Type 0 where
    pub words : List ℕ
    pub passes : List (QueuePass P)
    pub rule : IsQueue words passes
    pub own : get_elem? passes s.number ≡ some s.pass
    pub word : slice_index words next_place ≡ found

  -- one step, a load of the next ticket, by which none was left
  pub record IsLastTicket (before after : SeatState (QueuePass P)) : Type 0 where
    pub found : ℕ
    pub load : IsClientCall before next_place after
    pub at : IsNextAt found before
    pub none : 2 ^ 62 ≤ found

  -- a refusal for want of tickets comes of such a step
  abbrev pub HasNoneLeft : NotAnnounced → SeatState (QueuePass P) → SeatState (QueuePass P) → Type 0
  HasNoneLeft (Again expected found) before after = Unit {0}
  HasNoneLeft Full before after = IsLastTicket before after

  -- the same of a whole call, with other steps on the queue's words before and behind
  abbrev pub IsFullCall : NotAnnounced → SeatState (QueuePass P) → SeatState (QueuePass P) → Type 0
  IsFullCall (Again expected found) before after = Unit {0}
  IsFullCall Full before after =
      (mid : SeatState (QueuePass P)) × (got : SeatState (QueuePass P)) × IsBeside before mid × IsLastTicket mid got × IsBeside got after

  -- the seat has taken its announcement back, if it had one, by steps on the queue's words alone
  pub record IsLeft (before after : SeatState (QueuePass P)) : Type 0 where
    pub beside : IsBeside before after
    pub pass : after.pass ≡ with_telling before.pass Silent

  -- the seat of that number, of so many, between two calls, with the ticket of its announcement
  pub record IsSettled (number seats : ℕ) (ticket : Option ℕ) (s : SeatState (QueuePass P)) : Type 0 where
    pub is_number : s.number ≡ number
    pub low : number < seats
    pub few : seats ≤ 16
    pub seats_are : s.pass.seats ≡ seats
    pub told : IsToldBy s.pass.telling ticket
    pub free : (t : ℕ) → ticket ≡ Some t → s.held ≡ None
    pub outside : s.scan ≡ None
