-- What follows where a range has a list still to look at, alike for a narrow range and for a wide one.
use Rattle.std.proofs.Common.{◌≡◌, ◌≢◌, ◌⊎◌, ◌↔◌, ℕ, ◌+◌, ◌-◌, ◌*◌, ◌<◌, ◌≤◌, Bool, true, false, Result, Ok, Err, zero, suc, inl, inr, ⊎_elim}
use Rattle.std.proofs.Common.{sym, ap, ◌∙◌, subst, refl, arith}
use Rattle.std.proofs.Math.Nat.{mul-suc}
use Rattle.std.specs.Prelude.{[], Some, OnErr}
use mathlib.Core.Logic.{dite}
use native.Mathlib.Decide.{dec_le, ℕ_discrete}
use Rattle.atomic_table.specs.Seated.{TableId}
use Rattle.list_cuts.specs.Cut.{Regions, list_count, TakesOne}
use Rattle.list_cuts.proofs.Cutting.{takes_there}
use Rattle.lock_core.specs.Range.{Interval}
use Rattle.lock_core.specs.declared.range.Held.{Held}
use Rattle.lock_core.specs.declared.views.View.{View}
use Rattle.lock_core.specs.declared.views.Own.TheVariants.{Nothing}
use Rattle.lock_core.specs.Machine.{held_at}
use Rattle.epoch_pools.specs.declared.views.SeatPart.{SeatPart}
use Rattle.epoch_pools.specs.declared.views.Beside.{Beside}
use Rattle.epoch_pools.specs.declared.views.Standing.{Standing}
use Rattle.epoch_pools.specs.declared.views.Standing.TheVariants.{Free, Narrow, Wide}
use Rattle.epoch_pools.specs.Passing.{after_look_at, standing_by}
use Rattle.epoch_pools.specs.Standings.{is_counted, standing_back, passed_by}
use Rattle.epoch_pools.specs.Beside.{shown_core}
use Rattle.epoch_pools.specs.Hands.{IsResting, turned}
use Rattle.marked_list.specs.Causes.{IsSpent}
use Rattle.range_rw.specs.declared.refusals.NotHeld.{NotHeld}
use Rattle.range_rw.specs.Contract.{AsksOnly, IsLongRefusal, IsReadyLeft, StandsIn, TakesMany, WorksIn}
use Rattle.range_rw.specs.Several.{IsLaterInLists, IsPiece, IsLinkedIn, IsFreedIn, IsFreeSeat, HoldsAlone, HoldsIn, IsCauseAt}
use Rattle.range_rw.specs.Several.{HasLists, MayHold, HasPassed, TakesNone, IsGranted, IsWorkFor}
use Rattle.range_rw.specs.Looks.{MayLook, IsToLook, IsDue, IsNarrowDue, IsWideDue, IsHome, LooksAt, LooksAtAll, LooksOnce, MeetsMore, standing_for}
use Rattle.range_rw.proofs.Asking.{asks_from, asks_on, asks_stay}
use Rattle.range_rw.proofs.Meeting.{IsApart, once_apart, once_few, found_met, ok_any, err_any}
use Rattle.range_rw.proofs.Pieces.{err_free, err_on, ok_on}
use Rattle.range_rw.proofs.TakenLists.{some_below}
use Rattle.range_rw.proofs.Moves.{narrow_beside, narrow_back, wide_beside, wide_back, free_beside, lists_on, turn_on, turn_asks, seen_on, seen_shows}
use Rattle.range_rw.proofs.Moves.{holds_on, holds_turned, holds_seen, piece_free, piece_alone, ready_each, ready_from, cause_on}
use Rattle.range_rw.proofs.Choosing.{alone_there, alone_narrow, alone_wide, stands_narrow, stands_wide}

-- a wide range stands as having passed
pub standing_wide : (own up : ℕ) → own ≡ 0 → standing_for own up ≡ Wide up
unfolding standing_for
standing_wide own up e = ap (λ n. standing_for n up) e

-- and a narrow one as counted
pub standing_narrow : (own up : ℕ) → own ≢ 0 → standing_for own up ≡ Narrow own
unfolding standing_for
standing_narrow zero up differ = absurd (differ refl)
standing_narrow (suc own) up differ = refl

module _ {P : Type 0} {c : Regions} {range : Interval} {own at up : ℕ} {p : SeatPart (Beside P)} (due : IsDue c range own at up p) where
  -- the list that is looked at is another one
  pub due_differ : at ≢ own
  due_differ = ⊎_elim (λ (n : IsNarrowDue c range p own at). λ e. let a = n.low in let b = n.first in omega arith)
      (λ (w : IsWideDue c range p own at up). λ e. let a = w.low in let b = w.first in omega arith) due

  -- there is that list
  pub due_there : at < p.pass.lists
  due_there = ⊎_elim (λ (n : IsNarrowDue c range p own at). let a = n.there in let b = n.first in omega arith)
      (λ (w : IsWideDue c range p own at up). let a = w.below in let b = w.most in omega arith) due

  -- and the one that holds the range
  pub due_own : own < p.pass.lists
  due_own = ⊎_elim (λ (n : IsNarrowDue c range p own at). n.there)
      (λ (w : IsWideDue c range p own at up). let a = w.below in let b = w.most in let e = w.first in omega arith) due

  -- so there are several
  pub due_several : p.pass.lists ≢ 1
  due_several e = let a = due_differ in let b = due_there in let d = due_own in a (omega arith)

  -- it is due still while the standing stays
  pub due_on : (q : SeatPart (Beside P)) → q.pass.lists ≡ p.pass.lists → q.pass.standing ≡ p.pass.standing → IsDue c range own at up q
  due_on q lists standing = ⊎_elim
      (λ (n : IsNarrowDue c range p own at). inl
      (record { low = n.low; there = let a = n.there in omega arith; first = n.first; takes = n.takes; free = standing ∙ n.free }))
      (λ (w : IsWideDue c range p own at up). inr (record {
        first = w.first;
        low = w.low;
        standing = subst (λ (s : Standing). (s ≡ Free) ⊎ ((passed : ℕ) × (s ≡ Wide passed))) (sym standing) w.standing;
        from = subst (λ (s : Standing). passed_by s ≤ at) (sym standing) w.from;
        below = w.below;
        most = let a = w.most in omega arith;
        others = λ other from below differ. w.others other (subst (λ (s : Standing). passed_by s ≤ other) standing from) below differ;
      }))
      due

  -- that its node is given back in the list looked at leaves how it stands
  pub due_beside : is_counted p.pass.lists (standing_for own up) at ≡ false
  due_beside = ⊎_elim
      (λ (n : IsNarrowDue c range p own at). ap (λ (s : Standing). is_counted p.pass.lists s at) (standing_narrow own up (λ e. let a = n.low in omega arith))
      ∙ narrow_beside p.pass.lists own at due_several due_differ)
      (λ (w : IsWideDue c range p own at up). ap (λ (s : Standing). is_counted p.pass.lists s at) (standing_wide own up w.first)
      ∙ wide_beside p.pass.lists up at due_several (λ e. let a = w.low in omega arith))
      due

  pub due_back : standing_back (standing_for own up) at ≡ standing_for own up
  due_back = ⊎_elim
      (λ (n : IsNarrowDue c range p own at). subst (λ (s : Standing). standing_back s at ≡ s)
      (sym (standing_narrow own up (λ e. let a = n.low in omega arith))) (narrow_back own at due_differ))
      (λ (w : IsWideDue c range p own at up). subst (λ (s : Standing). standing_back s at ≡ s)
      (sym (standing_wide own up w.first)) (wide_back up at (λ e. let a = w.low in omega arith)))
      due

-- a narrow range of which nothing counts has list 0 due
pub due_first : {P : Type 0} {c : Regions} {range : Interval} {own lists up : ℕ} {p : SeatPart (Beside P)} → IsHome c range lists own → lists ≡ p.pass.lists
    → own ≢ 0 → p.pass.standing ≡ Free → IsDue c range own 0 up p
due_first home many differ free =
    inl (record { low = omega arith; there = let t = home.there in omega arith; first = refl; takes = home.narrow differ; free = free })

-- a wide range has the next list due that it takes
pub due_next : {P : Type 0} (c : Regions) (at up : ℕ) (range : Interval) (p : SeatPart (Beside P)) → 1 ≤ at → HasPassed c range at p
    → TakesNone c range (at + 1) up → at + 1 ≤ up → up ≤ p.pass.lists → IsDue c range 0 at up p
due_next c at up range p low passed none next most = inr (⊎_elim
    (λ (x : (p.pass.standing ≡ Free) × TakesNone c range 0 at). record {
      first = refl;
      low = low;
      standing = inl x.0;
      from = subst (λ (s : Standing). passed_by s ≤ at) (sym x.0) (omega arith);
      below = omega arith;
      most = most;
      others = λ other from below differ t. dite (dec_le (suc other) at)
          (λ less. x.1 other (omega arith) less t)
          (λ no. none other (omega arith) below t);
    })
    (λ (e : p.pass.standing ≡ Wide at). record {
      first = refl;
      low = low;
      standing = inr (at, e);
      from = subst (λ (s : Standing). passed_by s ≤ at) (sym e) (omega arith);
      below = omega arith;
      most = most;
      others = λ other from below differ t.
          none other (let f : at ≤ other = subst (λ (s : Standing). passed_by s ≤ other) e from in omega arith) below t;
    })
    passed)

-- the seat may look there, where its hand is turned to the list that holds the range
pub may_look : {P : Type 0} {c : Regions} {own at up : ℕ} {p : SeatPart (Beside P)} (asked : Held) → IsDue c asked.range own at up p
    → p.pass.list ≡ own → held_at p.core.own ≡ Some asked → MayLook c own at up p
may_look {P} {c} {own} {at} {up} {p} asked due way held = ⊎_elim
    (λ (n : IsNarrowDue c asked.range p own at). record {
      turned = way;
      pass = λ e. absurd (let l = n.low in omega arith);
      count = λ differ. record {
        several = let l = n.low in let t = n.there in omega arith;
        standing = n.free;
        range = asked;
        held = held;
        takes = subst (TakesOne c asked.range) (sym way) n.takes;
      };
      first = λ differ. n.first;
    })
    (λ (w : IsWideDue c asked.range p own at up). record {
      turned = way;
      pass = λ e. record {
        several = let l = w.low in let b = w.below in let m = w.most in omega arith;
        first = way ∙ e;
        standing = w.standing;
        range = asked;
        held = held;
        from = w.from;
        below = w.below;
        most = w.most;
        others = w.others;
      };
      count = λ differ. absurd (differ w.first);
      first = λ differ. absurd (differ w.first);
    })
    due

-- calls after which a range is held and stands as before: they ask for nothing, and leave the ready nodes of the list
-- `at`, and each other list
pub record Quiet {P : Type 0} (at : ℕ) (p m : SeatPart (Beside P)) : Type 0 where
  pub later : IsLaterInLists p m
  pub asked : m.trace.asked ≡ p.trace.asked
  pub standing : m.pass.standing ≡ p.pass.standing
  pub ready : (shown_core m at).ready ≡ (shown_core p at).ready
  pub only : (j : ℕ) → j ≢ at → shown_core m j ≡ shown_core p j

-- another list than the one that holds the range is swept, and the hand turns back
pub record Swept {P : Type 0} (home other : ℕ) (asked : Held) (p w t : SeatPart (Beside P)) : Type 0 where
  pub differ : other ≢ home
  pub holds : HoldsIn home asked p
  pub sweep : IsFreedIn other p.pass.standing p w
  pub turn : t ≡ turned w home
  pub stays : (j : ℕ) → shown_core t j ≡ shown_core w j
  pub rests : IsResting t.core

pub swept_by : {P : Type 0} {c : Regions} {asked : Held} {own at up : ℕ} {p w t : SeatPart (Beside P)} → IsDue c asked.range own at up p → HoldsIn own asked p
    → IsFreedIn at p.pass.standing p w → t ≡ turned w own → ((j : ℕ) → shown_core t j ≡ shown_core w j) → IsResting t.core → Swept own at asked p w t
swept_by due holds sweep turn stays rests =
    record { differ = due_differ due; holds = holds; sweep = sweep; turn = turn; stays = stays; rests = rests }

-- a list in which the call doesn't work isn't one in which it works
works_not : {c : Regions} {range : Interval} {at j : ℕ} → WorksIn c range at → (WorksIn c range j → ⊥) → j ≢ at
works_not {c} {range} works none e = none (subst (WorksIn c range) (sym e) works)

-- the call works in the list that holds the range
pub home_works : {c : Regions} {range : Interval} {lists own : ℕ} → IsHome c range lists own → WorksIn c range own
home_works {c} {range} {lists} {own} home = dite (ℕ_discrete own 0) (λ e. inl e) (λ far. inr (home.narrow far).takes)

-- a range takes one list at least
pub home_many : {c : Regions} {range : Interval} {lists own k : ℕ} → IsHome c range lists own → lists ≡ list_count c → 0 < c.count → TakesMany c range k
    → 1 ≤ k
home_many {c} {range} {lists} {own} {k} home same some many = dite (ℕ_discrete own 0)
    (λ e. let two = home.wide e in some_below c range (list_count c) k two.one (takes_there c range two.one some two.takes_one) two.takes_one many)
    (λ far. some_below c range (list_count c) k own (let t = home.there in omega arith) (home.narrow far).takes many)

-- the list that holds a range where there are several is the one that it takes alone, or list 0
pub home_is : {c : Regions} {range : Interval} {lists own at : ℕ} → StandsIn c range at → IsHome c range lists own → at ≡ own
home_is {c} {range} {lists} {own} {at} stands home = dite (ℕ_discrete own 0)
    (λ e. let two = home.wide e in ⊎_elim
    (λ (one : TakesOne c range at). absurd (two.differ (one.alone two.one two.takes_one ∙ sym (one.alone two.two two.takes_two))))
    (λ x. x.1 ∙ sym e) stands)
    (λ far. let one = home.narrow far in ⊎_elim
    (λ (other : TakesOne c range at). one.alone at other.takes)
    (λ x. absurd (x.0.differ (one.alone x.0.one x.0.takes_one ∙ sym (one.alone x.0.two x.0.takes_two)))) stands)

module _ {P : Type 0} where
  -- the range is held as before, and the hand is turned to it
  pub swept_alone : {home other : ℕ} {asked : Held} {p w t : SeatPart (Beside P)} → Swept home other asked p w t → HoldsAlone home asked t
  swept_alone swept = holds_turned swept.turn swept.stays swept.rests (holds_on (λ e. swept.differ (sym e)) swept.holds swept.sweep.piece swept.sweep.free)

  -- the sweep and the turn are such calls
  pub swept_quiet : {home other : ℕ} {asked : Held} {p w t : SeatPart (Beside P)} → Swept home other asked p w t → Quiet other p t
  swept_quiet {home} {other} {asked} {p} {w} swept = record {
    later = lists_on swept.sweep.piece.later (turn_on w swept.turn);
    asked = turn_asks w swept.turn ∙ swept.sweep.asked;
    standing = ap (λ (x : SeatPart (Beside P)). x.pass.standing) swept.turn ∙ swept.sweep.standing;
    ready = ap (λ (v : View). v.ready) (swept.stays other) ∙ swept.sweep.ready;
    only = λ j away. swept.stays j ∙ swept.sweep.piece.only j away;
  }

  -- and so is a look that found the list not empty
  pub look_quiet : (s : Standing) {at : ℕ} {p q : SeatPart (Beside P)} {b : Bool} → q ≡ after_look_at at b s p → b ≡ false → Quiet at p q
  look_quiet s {at} {p} {q} {b} is isnt = record {
    later = seen_on p at b s is;
    asked = ap (λ (x : SeatPart (Beside P)). x.trace.asked) is;
    standing = ap (λ (x : SeatPart (Beside P)). x.pass.standing) is ∙ ap (λ (y : Bool). standing_by y s p) isnt;
    ready = ap (λ (v : View). v.ready) (seen_shows p at b s is at);
    only = λ j away. seen_shows p at b s is j;
  }

  -- such calls one after another
  pub quiet_on : {at : ℕ} {p m q : SeatPart (Beside P)} → Quiet at p m → Quiet at m q → Quiet at p q
  quiet_on a b = record {
    later = lists_on a.later b.later;
    asked = b.asked ∙ a.asked;
    standing = b.standing ∙ a.standing;
    ready = b.ready ∙ a.ready;
    only = λ j away. b.only j away ∙ a.only j away;
  }

  -- what a look comes to behind them
  pub looks_from : {A : Type 0} {first next : TableId} {own at : ℕ} {asked : Held} {s : Standing} {p m q : SeatPart (Beside P)} {r : Result A NotHeld}
      → next ≡ first → Quiet at p m → LooksAt next own at asked s r m q → LooksAt first own at asked s r p q
  looks_from {A} {first} {next} {own} {at} {asked} {s} {p} {m} {q} {r} same quiet rest = record {
    later = lists_on quiet.later rest.later;
    asks = asks_from quiet.asked rest.asks;
    ready = ready_from quiet.ready rest.ready;
    only = λ j away. rest.only j away ∙ quiet.only j away;
    done = rest.done;
    kept = err_free r (λ h. (h.0, h.1 ∙ quiet.standing)) rest.kept;
    cause = err_on _ _ r (cause_on at q same quiet.later quiet.ready asked) rest.cause;
    long = rest.long;
  }

  -- one that found the list empty: the range is held as it was, and counts there
  pub look_clear : {A : Type 0} {x : A} {table : TableId} {own at : ℕ} {asked : Held} {s : Standing} {p q : SeatPart (Beside P)} {b : Bool}
      → HoldsAlone own asked p → q ≡ after_look_at at b s p → b ≡ true → LooksAt table own at asked s (Ok x) p q
  look_clear {A} {x} {table} {own} {at} {asked} {s} {p} {q} {b} alone is clear = record {
    later = seen_on p at b s is;
    asks = asks_stay (ap (λ (x : SeatPart (Beside P)). x.trace.asked) is);
    ready = inr (inl (ap (λ (v : View). v.ready) (seen_shows p at b s is at)));
    only = λ j away. seen_shows p at b s is j;
    done = (holds_seen at b s is alone, ap (λ (x : SeatPart (Beside P)). x.pass.standing) is ∙ ap (λ (y : Bool). standing_by y s p) clear);
    kept = tt;
    cause = tt;
    long = tt;
  }

  -- what it comes to where a piece of work in that list refuses, and leaves the seat no node there
  pub look_refused : {A : Type 0} {table : TableId} {own at : ℕ} {asked : Held} {s : Standing} {p q : SeatPart (Beside P)} {why : NotHeld} → at ≢ own
      → HoldsIn own asked p → IsPiece at p q → AsksOnly asked p.trace.asked q.trace.asked → q.pass.standing ≡ p.pass.standing → q.core.own ≡ Nothing
      → IsReadyLeft (shown_core p at).ready (shown_core q at).ready → IsCauseAt table at p q asked why → (IsLongRefusal why ↔ IsSpent q)
      → LooksAt {A = A} table own at asked s (Err why) p q
  look_refused differ holds piece asks standing free ready cause long = record {
    later = piece.later;
    asks = asks;
    ready = ready;
    only = piece.only;
    done = tt;
    kept = (holds_on (λ e. differ (sym e)) holds piece free, standing);
    cause = cause;
    long = (λ l. (long.0 l).0, λ spent. long.1 (spent, ap held_at free));
  }

  -- ---- what works for a range

  -- nothing yet
  pub work_first : {c : Regions} {asked : Held} {p : SeatPart (Beside P)} → IsWorkFor c asked p p
  work_first = record {
    later = record { number = refl; seats = refl; lists = refl; pass = refl; client = refl; occupied = ([], refl); taken = omega arith };
    asks = asks_stay refl;
    only = λ j none. refl;
  }

  -- calls one after another
  pub work_on : {c : Regions} {asked : Held} {p m q : SeatPart (Beside P)} → IsWorkFor c asked p m → IsWorkFor c asked m q → IsWorkFor c asked p q
  work_on a b = record { later = lists_on a.later b.later; asks = asks_on a.asks b.asks; only = λ j none. b.only j none ∙ a.only j none }

  -- a look at a list in which it works
  pub work_look : {A : Type 0} {table : TableId} {c : Regions} {own at : ℕ} {asked : Held} {s : Standing} {p q : SeatPart (Beside P)} {r : Result A NotHeld}
      → WorksIn c asked.range at → LooksAt table own at asked s r p q → IsWorkFor c asked p q
  work_look works looks = record { later = looks.later; asks = looks.asks; only = λ j none. looks.only j (works_not works none) }

  -- a turn
  pub work_turned : {c : Regions} {at : ℕ} {asked : Held} {p t : SeatPart (Beside P)} → t ≡ turned p at → ((j : ℕ) → shown_core t j ≡ shown_core p j)
      → IsWorkFor c asked p t
  work_turned {c} {at} {asked} {p} is stays = record { later = turn_on p is; asks = asks_stay (turn_asks p is); only = λ j none. stays j }

  -- the link there, and that it is given back
  pub work_link : {c : Regions} {table : TableId} {many at : ℕ} {patient : Bool} {asked : Held} {p q : SeatPart (Beside P)} {r : Result Bool NotHeld}
      → WorksIn c asked.range at → IsLinkedIn table many patient at asked r p q → IsWorkFor c asked p q
  work_link works link = record { later = link.piece.later; asks = link.asks; only = λ j none. link.piece.only j (works_not works none) }

  pub work_freed : {c : Regions} {at : ℕ} {asked : Held} {s : Standing} {p q : SeatPart (Beside P)} → WorksIn c asked.range at → IsFreedIn at s p q
      → IsWorkFor c asked p q
  work_freed works freed =
      record { later = freed.piece.later; asks = asks_stay freed.asked; only = λ j none. freed.piece.only j (works_not works none) }

  -- ---- a range in the list that holds it

  -- there are the lists still
  pub lists_still : {c : Regions} {lists : ℕ} {p q : SeatPart (Beside P)} → HasLists c lists p → IsLaterInLists p q → HasLists c lists q
  lists_still has later = record { shown = has.shown ∙ sym later.lists; many = has.many; regions = has.regions }

  -- where that is refused the seat holds nothing
  pub link_free : {table : TableId} {many own : ℕ} {patient : Bool} {asked : Held} {p q : SeatPart (Beside P)} {e : NotHeld} → IsFreeSeat p
      → IsLinkedIn table many patient own asked (Err e) p q → IsFreeSeat q
  link_free free link = piece_free link.piece link.free (link.standing ∙ free.standing) (λ j away. free.free j)

  -- where the range is linked there it has still to look at the other lists, and nothing counts yet
  pub link_due : {c : Regions} {table : TableId} {many lists own : ℕ} {patient : Bool} {asked : Held} {p q : SeatPart (Beside P)} {x : Bool}
      → IsHome c asked.range lists own → MayHold c lists p → IsLinkedIn table many patient own asked (Ok x) p q → IsToLook c lists own asked q
  link_due home may link = record {
    lists = lists_still may.lists link.piece.later;
    home = home;
    holds = piece_alone may.free link.piece link.held;
    free = link.standing ∙ may.free.standing;
  }

  -- and the seat holds nothing then
  pub given_free : {own : ℕ} {asked : Held} {q g : SeatPart (Beside P)} → HoldsIn own asked q → standing_back q.pass.standing own ≡ Free
      → IsFreedIn own (standing_back q.pass.standing own) q g → IsFreeSeat g
  given_free holds back freed = piece_free freed.piece freed.free (freed.standing ∙ back) holds.others

  -- what counts there is granted
  pub home_granted : {c : Regions} {asked : Held} {lists own : ℕ} {q : SeatPart (Beside P)} → IsHome c asked.range lists own → lists ≡ q.pass.lists
      → HoldsAlone own asked q → q.pass.standing ≡ standing_for own q.pass.lists → IsGranted c asked q
  home_granted {c} {asked} {lists} {own} {q} home many alone stands = record {
    held = alone_there alone;
    counts = dite (ℕ_discrete own 0)
        (λ e. alone_wide e alone (stands ∙ standing_wide own q.pass.lists e))
        (λ far. alone_narrow alone (stands ∙ standing_narrow own q.pass.lists far));
    one = λ e. absurd (let s = home.several in omega arith);
    stands = dite (ℕ_discrete own 0)
        (λ e. stands_wide (home.wide e) (stands ∙ standing_wide own q.pass.lists e))
        (λ far. stands_narrow (home.narrow far) (stands ∙ standing_narrow own q.pass.lists far));
  }

  -- a look at list 0 is all that a narrow range has to look at
  pub looks_narrow : {A : Type 0} {table : TableId} {c : Regions} {own looks : ℕ} {asked : Held} {p q : SeatPart (Beside P)} {r : Result A NotHeld} → own ≢ 0
      → 1 < p.pass.lists → p.pass.standing ≡ Free → LooksAt table own 0 asked (standing_for own 0) r p q → LooksOnce 0 p q
      → ((k : ℕ) → TakesMany c asked.range k → 1 ≤ k) → q.trace.taken ≤ p.trace.taken + 55 + 193 * p.seats → OnErr r (MeetsMore 0 p q)
      → LooksAtAll table c own looks asked r p q
  looks_narrow {A} {table} {c} {own} {looks} {asked} {p} {q} {r} differ several free one once some bound more = record {
    work = work_look (inl refl) one;
    home = one.only own differ;
    ready = λ _. ready_each 0 p q one.ready one.only;
    done = ok_on r (λ d. (d.0, d.1 ∙ (standing_narrow own 0 differ ∙ sym (standing_narrow own q.pass.lists differ)))) one.done;
    kept = err_free r (λ k. (
      k.0,
      ap (λ (s : Standing). is_counted q.pass.lists s own) (k.1 ∙ free) ∙ free_beside q.pass.lists own (λ e. let l = one.later.lists in omega arith),
      ap (λ (s : Standing). standing_back s own) (k.1 ∙ free),
    )) one.kept;
    cause = err_on _ _ r (λ why x none. (0, (λ e. differ (sym e)), omega arith, inl refl, x)) one.cause;
    long = one.long;
    apart = λ j away. dite (ℕ_discrete j 0) (λ e. subst (λ n. IsApart n p q) (sym e) (once_apart 0 p q once)) (λ other. inl (one.only j other));
    few = ok_any r (λ k many. ⊎_elim (λ few. inl (let s = some k many in omega arith)) (λ m. inr m) (once_few 0 p q once));
    each = λ k many. let s = some k many in let n = 55 + 193 * p.seats in let whole : k + looks ≡ suc (k + looks - 1) = omega arith in
        let product : n * (k + looks) ≡ n * (k + looks - 1) + n = ap (λ m. n * m) whole ∙ mul-suc n (k + looks - 1) in omega arith;
    narrow = λ _. bound;
    met = err_free r (λ m. found_met p.trace.taken 0 q.trace m.1) more;
    more = err_any r (λ e. absurd (differ e));
  }
