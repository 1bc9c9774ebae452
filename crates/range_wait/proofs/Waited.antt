-- Moves one after another, and what a try with a look behind it leaves of a seat.
use Rattle.std.specs.Prelude.{Bool, true, false, Result, Ok, Err, None, Some, IsSome}
use Rattle.std.proofs.Common.{◌≡◌, ◌+◌, arith, ℕ, zero, suc, sym, ap, refl, inl, inr, ◌∙◌, subst}
use Rattle.lock_core.specs.declared.range.Held.{Held}
use Rattle.range_rw.specs.Contract.{SeatState}
use Rattle.queue_guard.specs.declared.passes.QueuePass.{QueuePass}
use Rattle.queue_laws.specs.declared.places.Telling.{Telling}
use Rattle.queue_laws.specs.declared.places.Telling.TheVariants.{Silent, Counted, Drawn, Shown}
use Rattle.range_queue.specs.declared.answers.NotYet.{NotYet}
use Rattle.event_count.specs.Calls.{SeatView}
use Rattle.range_queue.specs.declared.answers.NotAnnounced.{NotAnnounced}
use Rattle.range_queue.specs.Looks.{IsBeside, IsLooking, ticket_of}
use Rattle.range_queue.specs.Settled.{IsAnnouncedBy, IsSameBut, IsToldBy}
use Rattle.range_queue.specs.Tries.{IsGained, IsKept, LooksOnce}
use Rattle.range_wait.specs.Seats.{WaitState, both}
use Rattle.range_wait.specs.Moves.{HasGone, IsHeldBy, IsLongCall, IsMove, IsOneTry, IsRefused, IsToldUpTo, IsTriedUpTo, IsWaited, Moves, Runs}

module _ {P : Type 0} (step : WaitState P → WaitState P → Type 0) where
  -- one run after another
  pub runs_on : {a b : WaitState P} → ((n : ℕ) × Runs step n a b) → (m : ℕ) (c : WaitState P) → Runs step m b c → (n : ℕ) × Runs step n a c
  runs_on {a} g zero c e = (g.0, subst (λ (x : WaitState P). Runs step g.0 a x) (sym e) g.1)
  runs_on g (suc m) c p = let r = runs_on g m p.0 p.1 in (suc r.0, (p.0, r.1, p.2))

-- refused tries are moves
refused_moves : {P : Type 0} (asked : Held) (n : ℕ) (a b : WaitState P) → Runs (IsRefused asked) n a b → Moves asked n a b
refused_moves asked zero a b e = e
refused_moves asked (suc n) a b r = (r.0, refused_moves asked n a r.0 r.1, inl r.2)

-- so many refused tries but one, and one more
pub last_try : {P : Type 0} (asked : Held) (a : WaitState P) (tries n : ℕ) → n + 1 ≡ tries → (last : WaitState P) (answer : Result (Unit {0}) NotYet)
    (b : WaitState P) → Runs (IsRefused asked) n a last → IsOneTry asked answer last b → IsTriedUpTo asked tries answer a b
last_try asked a tries n e last (Ok x) b r t = (n, last, omega arith, r, t)
last_try asked a tries n e last (Err why) b r t = (n, last, e, r, t)

module _ {P : Type 0} {asked : Held} where
  pub gone_on : {a b : WaitState P} → ((n : ℕ) × Moves asked n a b) → (m : ℕ) (c : WaitState P) → Moves asked m b c
      → (n : ℕ) × Moves asked n a c
  gone_on g m c p = runs_on (IsMove asked) g m c p

  pub then_gone : {a b : WaitState P} (held : Bool) (c : WaitState P) → ((n : ℕ) × Moves asked n a b) → HasGone asked held b c → HasGone asked held a c
  then_gone true c g w = let r = gone_on g w.0 w.1 w.2 in (r.0, w.1, r.1, w.3)
  then_gone false c g w = gone_on g w.0 c w.1

  -- one move, and the try by which the range is held
  pub one_move : {a b : WaitState P} → IsMove asked a b → HasGone asked false a b
  one_move {a} m = (suc zero, (a, refl, m))

  -- an announcement, or one that couldn't be made
  pub announced : (answer : Result ℕ NotAnnounced) (before after : SeatState (QueuePass P)) (event : SeatView) → IsBeside before after
      → IsSameBut before.pass after.pass → IsAnnouncedBy asked answer after.pass.telling → HasGone asked false (both before event) (both after event)
  announced answer before after event beside same told =
      one_move (inr (inr (record { answer = answer; beside = beside; same = same; told = told; events = refl })))

  pub at_once : {a b : WaitState P} → IsHeldBy asked a b → HasGone asked true a b
  at_once {a} h = (zero, a, refl, h)

  -- up to so many tries, of which the last is refused, are moves; and one that holds the range is behind such moves
  pub tries_gone : {a : WaitState P} (tries : ℕ) (why : NotYet) (b : WaitState P) → IsTriedUpTo {A = Unit {0}} asked tries (Err why) a b
      → HasGone asked false a b
  tries_gone {a} tries why b t = (suc t.0, (t.1, refused_moves asked t.0 a t.1 t.3, inl (why, t.4)))

  pub tries_held : {a : WaitState P} (tries : ℕ) (b : WaitState P) → IsTriedUpTo {A = Unit {0}} asked tries (Ok tt) a b → HasGone asked true a b
  tries_held {a} tries b t = (t.0, t.1, refused_moves asked t.0 a t.1 t.3, t.4.0)

  -- who holds its range has no announcement
  pub now_silent : {a b : WaitState P} → IsWaited asked a b → b.lock.pass.telling ≡ Silent
  now_silent w = ap (λ (p : QueuePass P). p.telling) w.3.gained.left.pass

-- a call by which a range is held leaves the seat at its table
pub gained_table : {P : Type 0} (asked : Held) (before after : SeatState (QueuePass P)) → IsGained asked before after → after.table ≡ before.table
gained_table asked before after h = h.left.beside.table ∙ h.kept.table

-- more tries than may be made without an announcement
pub long_call : {P : Type 0} (asked : Held) (awake more : ℕ) (before mid : WaitState P) (why : NotYet) (answer : Result (Unit {0}) NotYet)
    (after : WaitState P) → IsTriedUpTo {A = Unit {0}} asked awake (Err why) before mid → IsToldUpTo asked more answer mid after
    → IsLongCall asked awake more answer before after
long_call asked awake more before mid why (Ok x) after t u = inr (mid, why, t, u)
long_call asked awake more before mid why (Err last) after t u = (mid, why, t, u)

module _ {P : Type 0} where
  -- a look keeps what the seat has told, and what it holds
  looking_kept : {before after : SeatState (QueuePass P)} {n : ℕ} → IsLooking n before after → IsKept before after
  looking_kept l = record {
    table = l.beside.table;
    number = l.beside.number;
    seats = l.seats;
    telling = l.telling;
    own = l.own;
    inner = l.inner;
  }

  pub kept_on : {before mid after : SeatState (QueuePass P)} → IsKept before mid → IsKept mid after → IsKept before after
  kept_on a b = record {
    table = b.table ∙ a.table;
    number = b.number ∙ a.number;
    seats = b.seats ∙ a.seats;
    telling = b.telling ∙ a.telling;
    own = b.own ∙ a.own;
    inner = b.inner ∙ a.inner;
  }

  pub looked_kept : (asked : Held) (before mid after : SeatState (QueuePass P)) (way : Bool) → IsKept before mid → LooksOnce asked way mid after
      → IsKept before after
  looked_kept asked before mid after true k l = kept_on k (looking_kept l.2.looked)
  looked_kept asked before mid after false k l = kept_on k (looking_kept l.looked)

  pub looked_held : (asked : Held) (mid after : SeatState (QueuePass P)) (way : Bool) → LooksOnce asked way mid after → after.held ≡ mid.held
  looked_held asked mid after true l = l.2.looked.beside.held
  looked_held asked mid after false l = l.looked.beside.held

-- a seat that is told a ticket has one
pub has_ticket : (t : Telling) (ticket : ℕ) → IsToldBy t (Some ticket) → IsSome (ticket_of t)
has_ticket Silent ticket e = absurd cc
has_ticket Counted ticket e = absurd e
has_ticket (Drawn d) ticket e = absurd e
has_ticket (Shown a) ticket e = refl

-- and one that is told none is silent
pub is_silent : (t : Telling) → IsToldBy t None → t ≡ Silent
is_silent Silent e = refl
is_silent Counted e = absurd e
is_silent (Drawn d) e = absurd e
is_silent (Shown a) e = absurd cc
