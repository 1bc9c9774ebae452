-- What steps on the queue's words leave of a seat: it holds what it held, its pools stay, and its record has asked for
-- nothing and met nothing meanwhile. What it has told, what it has written and what the guard behind the queue has it
-- know stay too, but where a call says otherwise. This project's own.
use Rattle.std.specs.Prelude.{◌≡◌, ℕ, ◌+◌, ◌<◌, ◌≤◌, ◌==◌, ◌&&◌, nat_lt, nat_le, Bool, true, false, if◌then◌else◌, Option, Some, None}
use Rattle.lock_core.specs.declared.range.Held.{Held}
use Rattle.epoch_pools.specs.declared.record.LastClient.{LastClient}
use Rattle.range_rw.specs.Contract.{SeatState, Record}
use Rattle.queue_laws.specs.declared.places.Telling.{Telling}
use Rattle.queue_laws.specs.declared.places.Telling.TheVariants.{Silent, Counted, Drawn, Shown}
use Rattle.queue_laws.specs.declared.places.Look.{Look}
use Rattle.queue_laws.specs.declared.places.Look.TheVariants.{At, Clear, Way}
use Rattle.queue_laws.specs.declared.places.Announcement.{Announcement}
use Rattle.queue_laws.specs.Machine.{conflicts}
use Rattle.queue_guard.specs.Places.{held_from}
use Rattle.range_queue.specs.declared.looking.Met.{Met}
use Rattle.queue_guard.specs.declared.passes.QueuePass.{QueuePass}

-- the seat's own ticket, if it has one
abbrev pub ticket_of : Telling → Option ℕ
ticket_of Silent = None
ticket_of Counted = None
ticket_of (Drawn ticket) = Some ticket
ticket_of (Shown a) = Some a.ticket

-- whether a ticket is older than that one
abbrev pub older_than : ℕ → Option ℕ → Bool
older_than ticket None = true
older_than ticket (Some mine) = nat_lt ticket mine

-- a look that has passed the seats below k, of so many: it is over behind the last one
abbrev pub look_from : ℕ → Held → ℕ → Look
look_from seats asked k = if nat_le seats k then Clear asked else At asked k None

-- the announcement that a look meets by its loads of a ticket, the two ends and the ticket again, if it gives way
abbrev pub met_by : Held → ℕ → ℕ → ℕ → ℕ → Option Announcement
met_by asked ticket lo hi again = if (again == ticket) && conflicts asked (held_from lo hi)
    then Some (record { ticket = ticket; held = held_from lo hi }) else None

-- a look behind one at seat k that met this, or nothing
abbrev pub look_behind : ℕ → Held → ℕ → Option Announcement → Look
look_behind seats asked k None = look_from seats asked (k + 1)
look_behind seats asked k (Some a) = Way asked k a

-- whether a ticket word shows an older announcement
abbrev pub is_noted : ℕ → Option ℕ → Bool
is_noted ticket mine = if ticket == 0 then false else older_than ticket mine

-- an announcement to which a caller gives way: it is older than the caller's own, if it has one, and conflicts with
-- what was asked for
pub record GivesWay (asked : Held) (mine : Option ℕ) (met : Announcement) : Type 0 where
  pub older : older_than met.ticket mine ≡ true
  pub against : conflicts asked met.held ≡ true

-- the same of what a look met, if it met one of these seats
abbrev pub MeetsOne : Held → Option ℕ → ℕ → Option Met → Type 0
MeetsOne asked mine seats None = Unit {0}
MeetsOne asked mine seats (Some m) = (m.seat < seats) × GivesWay asked mine m.met

-- a look that is over, or that met an announcement
abbrev pub look_ended : Held → Option Met → Look
look_ended asked None = Clear asked
look_ended asked (Some m) = Way asked m.seat m.met

-- the record after client steps alone: more steps were made, and none of them asked for a range, met a node, lost an
-- exchange of the lock or found a list not empty
pub record IsClientOnly (t u : Record) : Type 0 where
  pub taken : t.taken ≤ u.taken
  pub met : u.met ≡ t.met
  pub lost : u.lost ≡ t.lost
  pub noted : u.noted ≡ t.noted
  pub looked : u.looked ≡ t.looked
  pub asked : u.asked ≡ t.asked
  pub occupied : u.occupied ≡ t.occupied

-- the last step of the record is a client step
abbrev pub IsLast : Record → Type 0
IsLast t = (c : LastClient) × (t.client ≡ Some c) × (c.step + 1 ≡ t.taken)

module _ {P : Type 0} where
  -- client steps alone, after which the pass is another
  pub record IsBeside (before after : SeatState P) : Type 0 where
    pub table : after.table ≡ before.table
    pub number : after.number ≡ before.number
    pub held : after.held ≡ before.held
    pub list : after.list ≡ before.list
    pub pools : after.pools ≡ before.pools
    pub further : after.further ≡ before.further
    pub scan : after.scan ≡ before.scan
    pub trace : IsClientOnly before.trace after.trace

module _ {P : Type 0} where
  -- steps of a look, of which so many begin one: what the seat has told and written stays
  pub record IsLooking (begins : ℕ) (before after : SeatState (QueuePass P)) : Type 0 where
    pub beside : IsBeside before after
    pub seats : after.pass.seats ≡ before.pass.seats
    pub telling : after.pass.telling ≡ before.pass.telling
    pub own : after.pass.own ≡ before.pass.own
    pub begun : after.pass.begun ≡ before.pass.begun + begins
    pub inner : after.pass.inner ≡ before.pass.inner
