-- Steps of a look one after another are steps of a look, and what each leaves of the look is what the next one asks
-- for.
use Rattle.std.specs.Prelude.{Option, Some, None, IfSome, if◌then◌else◌, ◌==◌, ◌&&◌, false, true}
use Rattle.std.proofs.Common.{◌≡◌, ℕ, ◌+◌, ◌<◌, ◌≤◌, Bool, sym, refl, ap, ◌∙◌, subst, arith}
use Rattle.std.proofs.lemmas.Bool.{lt-leb, le-leb, true≢false}
use Rattle.lock_core.specs.declared.range.Held.{Held}
use Rattle.range_rw.specs.Contract.{SeatState, Record, IsClientCall, client_trace}
use Rattle.queue_laws.specs.declared.places.Announcement.{Announcement}
use Rattle.queue_laws.specs.declared.places.Telling.{Telling}
use Rattle.queue_laws.specs.declared.places.Telling.TheVariants.{Silent, Counted, Drawn, Shown}
use Rattle.queue_laws.specs.declared.places.Look.{Look}
use Rattle.queue_laws.specs.declared.places.Look.TheVariants.{At, Clear, Way}
use Rattle.queue_laws.specs.Machine.{conflicts, is_older, past_seat}
use Rattle.queue_guard.specs.declared.passes.Ends.{Ends}
use Rattle.queue_guard.specs.declared.passes.QueuePass.{QueuePass}
use Rattle.queue_guard.specs.Places.{held_from}
use Rattle.queue_guard.specs.Acts.{both_ends, look_begun, look_noted, look_judged, with_look, with_read, with_begun}
use Rattle.range_queue.specs.Looks.{GivesWay, IsBeside, IsClientOnly, IsLast, IsLooking, MeetsOne}
use Rattle.range_queue.specs.Looks.{is_noted, look_behind, look_from, met_by, older_than, ticket_of}

-- one client step in the record
only_one : {t u : Record} {i : ℕ} → u ≡ client_trace t i → IsClientOnly t u
only_one e = record {
  taken = let n = ap (λ (r : Record). r.taken) e in omega arith;
  met = ap (λ (r : Record). r.met) e;
  lost = ap (λ (r : Record). r.lost) e;
  noted = ap (λ (r : Record). r.noted) e;
  looked = ap (λ (r : Record). r.looked) e;
  asked = ap (λ (r : Record). r.asked) e;
  occupied = ap (λ (r : Record). r.occupied) e;
}

module _ {P : Type 0} where
  -- one client step
  pub client_beside : {p q : SeatState P} {i : ℕ} → IsClientCall p i q → IsBeside p q
  client_beside c = record {
    table = c.table;
    number = c.number;
    held = c.held;
    list = c.list;
    pools = c.pools;
    further = c.further;
    scan = c.scan;
    trace = only_one c.trace;
  }

  -- it is the last step then
  pub client_last : {p q : SeatState P} {i : ℕ} → IsClientCall p i q → IsLast q.trace
  client_last {p} {q} {i} c = (
    record { place = i; step = p.trace.taken },
    ap (λ (t : Record). t.client) c.trace,
    sym (ap (λ (t : Record). t.taken) c.trace),
  )

  -- no step at all
  pub beside_none : (p : SeatState P) → IsBeside p p
  beside_none p = record {
    table = refl;
    number = refl;
    held = refl;
    list = refl;
    pools = refl;
    further = refl;
    scan = refl;
    trace = record { taken = omega arith; met = refl; lost = refl; noted = refl; looked = refl; asked = refl; occupied = refl };
  }

  -- client steps one after another
  pub beside_on : {p q r : SeatState P} → IsBeside p q → IsBeside q r → IsBeside p r
  beside_on a b = let t = a.trace in let u = b.trace in record {
    table = b.table ∙ a.table;
    number = b.number ∙ a.number;
    held = b.held ∙ a.held;
    list = b.list ∙ a.list;
    pools = b.pools ∙ a.pools;
    further = b.further ∙ a.further;
    scan = b.scan ∙ a.scan;
    trace = record {
      taken = let x = t.taken in let y = u.taken in omega arith;
      met = u.met ∙ t.met;
      lost = u.lost ∙ t.lost;
      noted = u.noted ∙ t.noted;
      looked = u.looked ∙ t.looked;
      asked = u.asked ∙ t.asked;
      occupied = u.occupied ∙ t.occupied;
    };
  }

module _ {P : Type 0} where
  -- a load of a look that leaves it at this
  pub look_step : {p q : SeatState (QueuePass P)} {i : ℕ} {l : Look} → IsClientCall p i q → q.pass ≡ with_look p.pass l → IsLooking 0 p q
  look_step c e = record {
    beside = client_beside c;
    seats = ap (λ (x : QueuePass P). x.seats) e;
    telling = ap (λ (x : QueuePass P). x.telling) e;
    own = ap (λ (x : QueuePass P). x.own) e;
    begun = let b = ap (λ (x : QueuePass P). x.begun) e in omega arith;
    inner = ap (λ (x : QueuePass P). x.inner) e;
  }

  -- a load of an end
  pub read_step : {p q : SeatState (QueuePass P)} {i : ℕ} {ends : Ends} → IsClientCall p i q → q.pass ≡ with_read p.pass ends → IsLooking 0 p q
  read_step c e = record {
    beside = client_beside c;
    seats = ap (λ (x : QueuePass P). x.seats) e;
    telling = ap (λ (x : QueuePass P). x.telling) e;
    own = ap (λ (x : QueuePass P). x.own) e;
    begun = let b = ap (λ (x : QueuePass P). x.begun) e in omega arith;
    inner = ap (λ (x : QueuePass P). x.inner) e;
  }

  -- the load that begins one
  pub begin_step : {p q : SeatState (QueuePass P)} {i : ℕ} {l : Look} → IsClientCall p i q → q.pass ≡ with_begun p.pass l → IsLooking 1 p q
  begin_step c e = record {
    beside = client_beside c;
    seats = ap (λ (x : QueuePass P). x.seats) e;
    telling = ap (λ (x : QueuePass P). x.telling) e;
    own = ap (λ (x : QueuePass P). x.own) e;
    begun = ap (λ (x : QueuePass P). x.begun) e;
    inner = ap (λ (x : QueuePass P). x.inner) e;
  }

  -- a look that makes no step
  pub looking_none : (p : SeatState (QueuePass P)) → IsLooking 0 p p
  looking_none p = record { beside = beside_none p; seats = refl; telling = refl; own = refl; begun = omega arith; inner = refl }

  -- steps of looks one after another
  pub looking_on : {n : ℕ} {p q r : SeatState (QueuePass P)} → IsLooking n p q → IsLooking 0 q r → IsLooking n p r
  looking_on a b = record {
    beside = beside_on a.beside b.beside;
    seats = b.seats ∙ a.seats;
    telling = b.telling ∙ a.telling;
    own = b.own ∙ a.own;
    begun = let x = a.begun in let y = b.begun in omega arith;
    inner = b.inner ∙ a.inner;
  }

-- both ends are read, one after the other
pub both_read : {P : Type 0} (p q r : QueuePass P) (lo hi : ℕ) → q ≡ with_read p (record { lo = Some lo; hi = None })
    → r ≡ with_read q (record { lo = q.read.lo; hi = Some hi }) → r.read ≡ both_ends lo hi
both_read {P} p q r lo hi e f = let reads : QueuePass P → Ends = λ x. record { lo = x.read.lo; hi = Some hi } in
    ap (λ (x : QueuePass P). x.read) f ∙ ap reads e

-- a look that has passed seat k goes on behind it
behind_is : (seats : ℕ) (asked : Held) (k : ℕ) → past_seat seats asked k ≡ look_from seats asked (k + 1)
behind_is seats asked k = refl

judged_split : (seats : ℕ) (asked : Held) (k : ℕ) (a : Announcement) (b : Bool)
    → (if b then Way asked k a else past_seat seats asked k) ≡ look_behind seats asked k (if b then Some a else None)
judged_split seats asked k a true = refl
judged_split seats asked k a false = refl

-- a judged look is what the answer says
pub judged_met : (seats : ℕ) (asked : Held) (k ticket lo hi again : ℕ)
    → look_judged seats asked k ticket lo hi again ≡ look_behind seats asked k (met_by asked ticket lo hi again)
judged_met seats asked k ticket lo hi again =
    judged_split seats asked k (record { ticket = ticket; held = held_from lo hi }) ((again == ticket) && conflicts asked (held_from lo hi))

older_same : (ticket : ℕ) (t : Telling) → is_older ticket t ≡ older_than ticket (ticket_of t)
older_same ticket Silent = refl
older_same ticket Counted = refl
older_same ticket (Drawn d) = refl
older_same ticket (Shown a) = refl

noted_split : (seats : ℕ) (asked : Held) (k ticket : ℕ) (zero older : Bool)
    → (if zero then past_seat seats asked k else if older then At asked k (Some ticket) else past_seat seats asked k)
    ≡ (if (if zero then false else older) then At asked k (Some ticket) else past_seat seats asked k)
noted_split seats asked k ticket true older = refl
noted_split seats asked k ticket false older = refl

-- a look at a ticket by the caller's own ticket
pub noted_mine : (seats : ℕ) (t : Telling) (mine : Option ℕ) (asked : Held) (k ticket : ℕ) → ticket_of t ≡ mine
    → look_noted seats t asked k ticket ≡ (if is_noted ticket mine then At asked k (Some ticket) else past_seat seats asked k)
noted_mine seats t mine asked k ticket e =
    ap (λ (b : Bool). if ticket == 0 then past_seat seats asked k else if b then At asked k (Some ticket) else past_seat seats asked k)
    (older_same ticket t ∙ ap (older_than ticket) e)
    ∙ noted_split seats asked k ticket (ticket == 0) (older_than ticket mine)

-- an older one is noted
pub noted_older : (seats : ℕ) (t : Telling) (mine : Option ℕ) (asked : Held) (k ticket : ℕ) → ticket_of t ≡ mine → is_noted ticket mine ≡ true
    → look_noted seats t asked k ticket ≡ At asked k (Some ticket)
noted_older seats t mine asked k ticket e older = noted_mine seats t mine asked k ticket e
    ∙ ap (λ (b : Bool). if b then At asked k (Some ticket) else past_seat seats asked k) older

-- and another passed
pub noted_not : (seats : ℕ) (t : Telling) (mine : Option ℕ) (asked : Held) (k ticket : ℕ) → ticket_of t ≡ mine → is_noted ticket mine ≡ false
    → look_noted seats t asked k ticket ≡ look_from seats asked (k + 1)
noted_not seats t mine asked k ticket e not_older = noted_mine seats t mine asked k ticket e
    ∙ ap (λ (b : Bool). if b then At asked k (Some ticket) else past_seat seats asked k) not_older

-- a look that has seats before it is at the next one, and otherwise it is over
pub look_below : (seats : ℕ) (asked : Held) (k : ℕ) → k < seats → look_from seats asked k ≡ At asked k None
look_below seats asked k lt = ap (λ (b : Bool). if b then Clear asked else At asked k None) (lt-leb seats k lt)

pub look_over : (seats : ℕ) (asked : Held) (k : ℕ) → seats ≤ k → look_from seats asked k ≡ Clear asked
look_over seats asked k le = ap (λ (b : Bool). if b then Clear asked else At asked k None) (le-leb seats k le)

-- a look that begins, by the count
pub begun_none : (asked : Held) (count : ℕ) → (count == 0) ≡ true → look_begun asked count ≡ Clear asked
begun_none asked count e = ap (λ (b : Bool). if b then Clear asked else At asked 0 None) e

pub begun_some : (seats : ℕ) (asked : Held) (count : ℕ) → 0 < seats → (count == 0) ≡ false → look_begun asked count ≡ look_from seats asked 0
begun_some seats asked count some_seats e = ap (λ (b : Bool). if b then Clear asked else At asked 0 None) e ∙ sym (look_below seats asked 0 some_seats)

split_older : (z b : Bool) → (if z then false else b) ≡ true → b ≡ true
split_older true b e = absurd (true≢false (sym e))
split_older false b e = e

-- a caller gives way to an announcement in conflict whose ticket it noted
pub gives_way : (asked : Held) (mine : Option ℕ) (ticket : ℕ) (r : Option Announcement) → is_noted ticket mine ≡ true
    → IfSome r (λ a. (a.ticket ≡ ticket) × (conflicts asked a.held ≡ true)) → IfSome r (GivesWay asked mine)
gives_way asked mine ticket None noted met = tt
gives_way asked mine ticket (Some a) noted met = record {
  older = ap (λ (n : ℕ). older_than n mine) met.0 ∙ split_older (ticket == 0) (older_than ticket mine) noted;
  against = met.1;
}

-- what a look met at seat k
pub meets_one : (asked : Held) (mine : Option ℕ) (seats k : ℕ) (r : Option Announcement) (a : Announcement) → r ≡ Some a → k < seats
    → IfSome r (GivesWay asked mine) → MeetsOne asked mine seats (Some (record { seat = k; met = a }))
meets_one asked mine seats k r a is low met = (low, subst (λ (x : Option Announcement). IfSome x (GivesWay asked mine)) is met)
