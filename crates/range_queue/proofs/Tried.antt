-- A try of the lock behind a look that is over is a try, and a look that met an announcement is one that gave way.
use Rattle.std.specs.Prelude.{Option, Some, None, Result, Ok, Err, OnOk, OnErr, IfErr}
use Rattle.std.proofs.Common.{◌≡◌, ℕ, sym, ap, ◌∙◌, subst, arith}
use Rattle.lock_core.specs.declared.range.Held.{Held}
use Rattle.range_rw.specs.declared.refusals.NotHeld.{NotHeld}
use Rattle.range_rw.specs.Contract.{SeatState, IsLockCall, IsCause, AsksOnly}
use Rattle.queue_guard.specs.declared.passes.QueuePass.{QueuePass}
use Rattle.range_queue.specs.declared.answers.NotYet.{NotYet}
use Rattle.range_queue.specs.declared.answers.NotYet.TheVariants.{Refused, Behind}
use Rattle.queue_laws.specs.declared.places.Announcement.{Announcement}
use Rattle.queue_laws.specs.declared.places.Look.TheVariants.{Way}
use Rattle.queue_guard.specs.Lines.{place_with}
use Rattle.range_queue.specs.Looks.{GivesWay, IsLooking, MeetsOne, ticket_of}
use Rattle.range_queue.specs.Settled.{IsLeft}
use Rattle.range_queue.specs.Tries.{IsBehind, IsClear, IsGain, IsGained, IsKept, IsLockTry, IsTried, TriesNext, refused_by}

module _ {P : Type 0} {asked : Held} where
  -- what a try of the lock comes to
  pub tried_next : {A : Type 0} {mid after : SeatState (QueuePass P)} (r : Result A NotHeld) → IsLockCall mid after
      → AsksOnly asked mid.trace.asked after.trace.asked
      → OnOk r (after.held ≡ Some asked) → OnErr r (after.held ≡ None) → IfErr r (IsCause mid after asked)
      → TriesNext asked (refused_by r) mid after
  tried_next (Ok a) call asks held free cause = (record { call = call; asks = asks }, held)
  tried_next (Err why) call asks held free cause = (record { call = call; asks = asks }, free, cause)

  -- what a whole try does, where nothing was met
  pub tried_all : {A : Type 0} (before mid after : SeatState (QueuePass P)) (r : Result A NotYet) → IsClear asked before mid
      → TriesNext asked r mid after → IsTried asked r before after
  tried_all before mid after (Ok a) clear next = (mid, clear, next)
  tried_all before mid after (Err (Refused why)) clear next = (mid, clear, next)
  tried_all before mid after (Err (Behind seat met)) clear next = absurd next

  -- a look that met an announcement
  pub behind_by : {before after : SeatState (QueuePass P)} {mine : Option ℕ} {seats number : ℕ} {met : Announcement}
      → IsLooking 1 before after → after.pass.look ≡ Way asked number met
      → MeetsOne asked mine seats (Some (record { seat = number; met = met })) → ticket_of before.pass.telling ≡ mine → before.pass.seats ≡ seats
      → IsBehind asked number met before after
  behind_by {met = met} looked way meets own many = record {
    looked = looked;
    way = way;
    gives = subst (λ (m : Option ℕ). GivesWay asked m met) (sym own) meets.1;
    there = let m = many in let l = meets.0 in omega arith;
  }

  -- the lock gives a range behind a look that is over for it
  pub gained_by : {before mid after : SeatState (QueuePass P)} → IsClear asked before mid → before.held ≡ None
      → IsLockTry asked mid after → after.held ≡ Some asked → IsGain asked mid after
  gained_by clear free next held n tellings = (
    clear.looked.beside.held ∙ free,
    clear.clear,
    (λ i. place_with (next.call.pass i) (held i)),
  )

-- a value stays where the answer is renamed
pub on_ok : {A : Type 0} (P : Type 0) (r : Result A NotHeld) → OnOk r P → OnOk (refused_by r) P
on_ok P (Ok a) p = p
on_ok P (Err why) p = tt

module _ {P : Type 0} where
  -- a look keeps what the seat has told
  pub looking_kept : {before after : SeatState (QueuePass P)} {n : ℕ} → IsLooking n before after → IsKept before after
  looking_kept l = record {
    table = l.beside.table;
    number = l.beside.number;
    seats = l.seats;
    telling = l.telling;
    own = l.own;
    inner = l.inner;
  }

  -- so does a call on the lock
  pub call_kept : {before after : SeatState (QueuePass P)} → IsLockCall before after → IsKept before after
  call_kept c = record {
    table = c.table;
    number = c.number;
    seats = ap (λ (x : QueuePass P). x.seats) c.pass;
    telling = ap (λ (x : QueuePass P). x.telling) c.pass;
    own = ap (λ (x : QueuePass P). x.own) c.pass;
    inner = ap (λ (x : QueuePass P). x.inner) c.pass;
  }

  -- and both after each other
  pub kept_on : {before mid after : SeatState (QueuePass P)} → IsKept before mid → IsKept mid after → IsKept before after
  kept_on a b = record {
    table = b.table ∙ a.table;
    number = b.number ∙ a.number;
    seats = b.seats ∙ a.seats;
    telling = b.telling ∙ a.telling;
    own = b.own ∙ a.own;
    inner = b.inner ∙ a.inner;
  }

module _ {P : Type 0} where
  -- a call by which the range is held, once its own announcement is taken back
  pub gained_all : (asked : Held) (before got after : SeatState (QueuePass P))
      → (mid : SeatState (QueuePass P)) × IsClear asked before mid × (IsLockTry asked mid got × (got.held ≡ Some asked))
      → IsKept before got → before.held ≡ None → IsLeft got after → IsGained asked before after
  gained_all asked before got after tried kept free left = record {
    mid = tried.0;
    got = got;
    clear = tried.1;
    next = tried.2.0;
    gain = gained_by tried.1 free tried.2.0 tried.2.1;
    kept = kept;
    left = left;
  }

  -- the seat holds nothing after a try that was refused
  pub tried_free : {A : Type 0} (asked : Held) (before after : SeatState (QueuePass P)) (r : Result A NotYet) → IsTried asked r before after
      → before.held ≡ None → OnErr r (after.held ≡ None)
  tried_free asked before after (Ok a) t free = tt
  tried_free asked before after (Err (Refused why)) t free = t.2.1
  tried_free asked before after (Err (Behind seat met)) t free = t.looked.beside.held ∙ free
