-- How a seat goes on from list to list in one call: a turn and a look leave every list as it was, and a piece of work
-- leaves each other list. So a range that one list holds stays held there while its seat works in another.
use Rattle.std.proofs.Common.{◌≡◌, ◌≢◌, ◌⊎◌, ◌↔◌, ℕ, ◌+◌, ◌*◌, ◌<◌, ◌≤◌, Bool, true, false, Ok, inl, inr, ⊎_elim, refl, sym, ap, ◌∙◌, subst, arith}
use Rattle.std.proofs.Common.{eqb-true, eq-eqb, ne_eqb}
use Rattle.std.specs.Prelude.{List, [], Option, Some, None, ◌==◌, ◌&&◌, ◌||◌, if◌then◌else◌}
use mathlib.Core.Logic.{dite}
use native.Mathlib.Decide.{ℕ_discrete}
use Rattle.list_cuts.specs.Cut.{Regions, first_list, list_count, Takes, TakesTwo}
use Rattle.list_cuts.proofs.Cutting.{takes_there, none_before}
use Rattle.atomic_table.specs.Seated.{TableId}
use Rattle.lock_core.specs.Range.{Interval}
use Rattle.lock_core.specs.declared.range.Held.{Held}
use Rattle.lock_core.specs.declared.views.View.{View}
use Rattle.lock_core.specs.declared.views.Own.TheVariants.{Nothing}
use Rattle.lock_core.specs.Machine.{held_at}
use Rattle.epoch_pools.specs.declared.views.SeatPart.{SeatPart}
use Rattle.epoch_pools.specs.declared.views.Beside.{Beside}
use Rattle.epoch_pools.specs.declared.views.Standing.{Standing}
use Rattle.epoch_pools.specs.declared.views.Standing.TheVariants.{Free, Narrow, Wide}
use Rattle.epoch_pools.specs.Standings.{is_here, is_whole, is_counted, standing_back}
use Rattle.epoch_pools.specs.Beside.{shown_core}
use Rattle.epoch_pools.specs.Hands.{IsResting, turned}
use Rattle.epoch_pools.specs.Passing.{after_look_at, HoldsToo}
use Rattle.epoch_pools.proofs.Stepping.{occupied_on}
use Rattle.range_rw.specs.Contract.{AsksOnly, IsReadyLeft}
use Rattle.marked_list.specs.Causes.{nodes_in, IsSpent}
use Rattle.range_rw.specs.declared.refusals.NotHeld.{NotHeld}
use Rattle.range_rw.specs.Several.{IsLaterInLists, IsPiece, IsFreedIn, IsFreeSeat, HoldsAlone, HoldsIn, HasSpent, HasPassed}
use Rattle.range_rw.specs.Several.{TakesNone, list_state, IsCauseAt, KeepsCauses}
use Rattle.range_rw.specs.Looks.{LooksAt}
use Rattle.range_rw.proofs.Asking.{asks_kept}
use Rattle.range_rw.proofs.Meeting.{seen_keeps}
use Rattle.range_rw.proofs.Pieces.{own_at, own_each}
use Rattle.range_rw.proofs.Taking.{cause_within}

-- ---- which lists are taken

-- a range that takes two lists doesn't take list 0
pub none_first : (c : Regions) (range : Interval) → 0 < c.count → TakesTwo c range → Takes c range 0 → ⊥
none_first c range more two t = by_first (c.count == 1) refl
  where
    by_first : (b : Bool) → (c.count == 1) ≡ b → ⊥
    by_first true e = let one : c.count ≡ 1 = eqb-true c.count 1 e in let first : first_list c ≡ 0 = ap (λ (x : Bool). if x then 0 else 1) e in
        let a = takes_there c range two.one more two.takes_one in let b = takes_there c range two.two more two.takes_two in two.differ (omega arith)
    by_first false e = let first : first_list c ≡ 1 = ap (λ (x : Bool). if x then 0 else 1) e in none_before c range 0 (omega arith) t

-- ---- what counts

-- with several lists nothing counts of a seat that has looked at none
pub free_beside : (lists i : ℕ) → lists ≢ 1 → is_counted lists Free i ≡ false
free_beside lists i many = ap (λ (b : Bool). b || is_here Free i && is_whole Free lists) (ne_eqb lists 1 many)

-- a narrow range counts through its own list alone
pub narrow_beside : (lists at i : ℕ) → lists ≢ 1 → i ≢ at → is_counted lists (Narrow at) i ≡ false
narrow_beside lists at i many differ = ap (λ (b : Bool). b || is_here (Narrow at) i && is_whole (Narrow at) lists) (ne_eqb lists 1 many) ∙ ap
    (λ (b : Bool). b && is_whole (Narrow at) lists) (ne_eqb i at differ)

-- a wide one through list 0 alone
pub wide_beside : (lists p i : ℕ) → lists ≢ 1 → i ≢ 0 → is_counted lists (Wide p) i ≡ false
wide_beside lists p i many differ = ap (λ (b : Bool). b || is_here (Wide p) i && is_whole (Wide p) lists) (ne_eqb lists 1 many) ∙ ap
    (λ (b : Bool). b && is_whole (Wide p) lists) (ne_eqb i 0 differ)

-- and only once it has passed all
pub wide_on_its_way : (lists p : ℕ) → lists ≢ 1 → p ≢ lists → is_counted lists (Wide p) 0 ≡ false
wide_on_its_way lists p many differ = ap (λ (b : Bool). b || is_here (Wide p) 0 && is_whole (Wide p) lists) (ne_eqb lists 1 many) ∙ ne_eqb p lists differ

or_true : (b : Bool) → (b || true) ≡ true
or_true true = refl
or_true false = refl

-- what counts through the list that holds it
pub narrow_counts : (lists at i : ℕ) → i ≡ at → is_counted lists (Narrow at) i ≡ true
narrow_counts lists at i e = ap (λ (b : Bool). lists == 1 || b && is_whole (Narrow at) lists) (eq-eqb i at e) ∙ or_true (lists == 1)

pub wide_counts : (lists i : ℕ) → i ≡ 0 → is_counted lists (Wide lists) i ≡ true
wide_counts lists i e = (λ k. lists == 1 || eq-eqb i 0 e k && eq-eqb lists lists refl k) ∙ or_true (lists == 1)

-- what is given back in another list leaves the standing
pub narrow_back : (at i : ℕ) → i ≢ at → standing_back (Narrow at) i ≡ Narrow at
narrow_back at i differ = ap (λ (b : Bool). if b then Free else Narrow at) (ne_eqb i at differ)

pub wide_back : (p i : ℕ) → i ≢ 0 → standing_back (Wide p) i ≡ Wide p
wide_back p i differ = ap (λ (b : Bool). if b then Free else Wide p) (ne_eqb i 0 differ)

-- the ready nodes after a call that began with those of before
pub ready_from : {before mid after : List ℕ} → mid ≡ before → IsReadyLeft mid after → IsReadyLeft before after
ready_from {before} {mid} {after} same left = subst (λ l. IsReadyLeft l after) same left

-- what is held is something
pub some_held : {o : Option Held} {range : Held} → o ≡ Some range → o ≢ None
some_held {o} {range} is none = absurd (let z : ◌≡◌ {A = Option Held} (Some range) None = sym is ∙ none in cc)

-- a range that its list holds is linked in another list too, and the hand turns back
pub record Crossing {P : Type 0} (home other : ℕ) (asked : Held) (p l t : SeatPart (Beside P)) : Type 0 where
  pub differ : home ≢ other
  pub holds : HoldsIn home asked p
  pub link : IsPiece other p l
  pub standing : l.pass.standing ≡ p.pass.standing
  pub held : held_at l.core.own ≡ Some asked
  pub turn : t ≡ turned l home
  pub stays : (j : ℕ) → shown_core t j ≡ shown_core l j

-- then the look is made, the other node is given back, and the hand turns back once more
pub record Return {P : Type 0} (home other : ℕ) (t : SeatPart (Beside P)) (s : Standing) (h g u : SeatPart (Beside P)) : Type 0 where
  pub look : h ≡ after_look_at other true s t
  pub give : IsFreedIn other (standing_back h.pass.standing other) h g
  pub back : standing_back s other ≡ s
  pub turn : u ≡ turned g home
  pub stays : (j : ℕ) → shown_core u j ≡ shown_core g j
  pub rests : IsResting u.core

module _ {P : Type 0} where
  -- ---- calls one after another

  pub lists_on : {p q r : SeatPart (Beside P)} → IsLaterInLists p q → IsLaterInLists q r → IsLaterInLists p r
  lists_on {p} {q} {r} a b = record {
    number = b.number ∙ a.number;
    seats = b.seats ∙ a.seats;
    lists = b.lists ∙ a.lists;
    pass = b.pass ∙ a.pass;
    client = b.client ∙ a.client;
    occupied = occupied_on p.trace q.trace r.trace a.occupied b.occupied;
    taken = let x = a.taken in let y = b.taken in omega arith;
  }

  -- a turn makes no step
  pub turn_on : (p : SeatPart (Beside P)) {t : SeatPart (Beside P)} {at : ℕ} → t ≡ turned p at → IsLaterInLists p t
  turn_on p is = subst (IsLaterInLists p) (sym is)
      (record { number = refl; seats = refl; lists = refl; pass = refl; client = refl; occupied = ([], refl); taken = omega arith })

  -- a look makes one, and changes the standing alone; it may find its list not empty
  pub seen_on : (p : SeatPart (Beside P)) {q : SeatPart (Beside P)} (at : ℕ) (b : Bool) (s : Standing) → q ≡ after_look_at at b s p → IsLaterInLists p q
  seen_on p {q} at b s is = subst (IsLaterInLists p) (sym is) (record {
    number = refl;
    seats = refl;
    lists = refl;
    pass = refl;
    client = refl;
    occupied = seen_keeps p.trace at b;
    taken = omega arith;
  })

  -- a turn asks for no range
  pub turn_asks : (p : SeatPart (Beside P)) {t : SeatPart (Beside P)} {at : ℕ} → t ≡ turned p at → t.trace.asked ≡ p.trace.asked
  turn_asks p {t} {at} is = ap (λ (x : SeatPart (Beside P)). x.trace.asked) is

  pub seen_shows : (p : SeatPart (Beside P)) {q : SeatPart (Beside P)} (at : ℕ) (b : Bool) (s : Standing) → q ≡ after_look_at at b s p
      → (j : ℕ) → shown_core q j ≡ shown_core p j
  seen_shows p at b s is j = ap (λ (x : SeatPart (Beside P)). shown_core x j) is

  -- what a hand holds in one list alone, it holds there however it is turned
  pub holds_in : {at : ℕ} {asked : Held} {p : SeatPart (Beside P)} → HoldsAlone at asked p → HoldsIn at asked p
  holds_in {at} {asked} {p} h = record { rests = h.rests; held = ap (λ (v : View). held_at v.own) (own_at p at h.turned) ∙ h.held; others = h.others }

  -- a piece of work in another list, which leaves nothing there, leaves what this list holds
  pub holds_on : {home other : ℕ} {asked : Held} {p q : SeatPart (Beside P)} → home ≢ other → HoldsIn home asked p → IsPiece other p q
      → q.core.own ≡ Nothing → HoldsIn home asked q
  holds_on {home} {other} {asked} {p} {q} differ h piece free = record {
    rests = piece.rests;
    held = ap (λ (v : View). held_at v.own) (piece.only home differ) ∙ h.held;
    others = λ j away. dite (ℕ_discrete j other)
        (λ e. ap (λ (v : View). v.own) (ap (shown_core q) e ∙ own_at q other piece.turned) ∙ free)
        (λ elsewhere. ap (λ (v : View). v.own) (piece.only j elsewhere) ∙ h.others j away);
  }

  -- and turned to that list it holds it there alone
  pub holds_turned : {home : ℕ} {asked : Held} {p t : SeatPart (Beside P)} → t ≡ turned p home → ((j : ℕ) → shown_core t j ≡ shown_core p j)
      → IsResting t.core → HoldsIn home asked p → HoldsAlone home asked t
  holds_turned {home} {asked} {p} {t} is stays rests h = record {
    rests = rests;
    turned = ap (λ (x : SeatPart (Beside P)). x.pass.list) is;
    held = ap (λ (x : SeatPart (Beside P)). held_at x.core.own) is ∙ h.held;
    others = λ j away. ap (λ (v : View). v.own) (stays j) ∙ h.others j away;
  }

  pub holds_seen : {home : ℕ} (at : ℕ) (b : Bool) {asked : Held} {t h : SeatPart (Beside P)} (s : Standing) → h ≡ after_look_at at b s t
      → HoldsAlone home asked t
      → HoldsAlone home asked h
  holds_seen {home} at b {asked} {t} {h} s is a = record {
    rests = subst IsResting (sym (ap (λ (x : SeatPart (Beside P)). x.core) is)) a.rests;
    turned = ap (λ (x : SeatPart (Beside P)). x.pass.list) is ∙ a.turned;
    held = ap (λ (x : SeatPart (Beside P)). held_at x.core.own) is ∙ a.held;
    others = λ j away. ap (λ (v : View). v.own) (seen_shows t at b s is j) ∙ a.others j away;
  }

  -- a piece of work after which a list holds the range, where the seat held nothing
  pub piece_alone : {at : ℕ} {asked : Held} {p l : SeatPart (Beside P)} → IsFreeSeat p → IsPiece at p l → held_at l.core.own ≡ Some asked
      → HoldsAlone at asked l
  piece_alone {at} {asked} {p} {l} free piece held =
      record { rests = piece.rests; turned = piece.turned; held = held; others = λ j away. ap (λ (v : View). v.own) (piece.only j away) ∙ free.free j }

  -- one after which that list has no node of the seat, where the others hold nothing
  pub piece_free : {at : ℕ} {p q : SeatPart (Beside P)} → IsPiece at p q → q.core.own ≡ Nothing → q.pass.standing ≡ Free
      → ((j : ℕ) → j ≢ at → (shown_core p j).own ≡ Nothing) → IsFreeSeat q
  piece_free {at} {p} {q} piece free standing others = record {
    rests = piece.rests;
    free = own_each at q piece.turned free (λ j away. ap (λ (v : View). v.own) (piece.only j away) ∙ others j away);
    standing = standing;
  }

  -- the ready nodes of each list, where one list's went on and the others stayed
  pub ready_each : (at : ℕ) (p q : SeatPart (Beside P)) → IsReadyLeft (shown_core p at).ready (shown_core q at).ready
      → ((j : ℕ) → j ≢ at → shown_core q j ≡ shown_core p j) → (j : ℕ) → IsReadyLeft (shown_core p j).ready (shown_core q j).ready
  ready_each at p q left only j = dite (ℕ_discrete j at)
      (λ e. subst (λ n. IsReadyLeft (shown_core p n).ready (shown_core q n).ready) (sym e) left)
      (λ away. inr (inl (ap (λ (v : View). v.ready) (only j away))))

  -- where one list's went on behind that, which it left so far
  pub ready_next : (at : ℕ) (p m q : SeatPart (Beside P)) → (shown_core m at).ready ≡ (shown_core p at).ready
      → IsReadyLeft (shown_core m at).ready (shown_core q at).ready → ((j : ℕ) → j ≢ at → shown_core q j ≡ shown_core m j)
      → ((j : ℕ) → IsReadyLeft (shown_core p j).ready (shown_core m j).ready) → (j : ℕ) → IsReadyLeft (shown_core p j).ready (shown_core q j).ready
  ready_next at p m q same left only before j = dite (ℕ_discrete j at)
      (λ e. subst (λ n. IsReadyLeft (shown_core p n).ready (shown_core q n).ready) (sym e) (ready_from same left))
      (λ away. subst (λ (v : View). IsReadyLeft (shown_core p j).ready v.ready) (sym (only j away)) (before j))

  -- where one list went on first, and then each other list while that one stayed
  pub ready_all : (at : ℕ) (p l q : SeatPart (Beside P)) → IsReadyLeft (shown_core p at).ready (shown_core l at).ready
      → ((j : ℕ) → j ≢ at → shown_core l j ≡ shown_core p j) → ((j : ℕ) → IsReadyLeft (shown_core l j).ready (shown_core q j).ready)
      → shown_core q at ≡ shown_core l at → (j : ℕ) → IsReadyLeft (shown_core p j).ready (shown_core q j).ready
  ready_all at p l q left only later home j = dite (ℕ_discrete j at)
      (λ e. subst (λ n. IsReadyLeft (shown_core p n).ready (shown_core q n).ready) (sym e)
      (subst (λ (v : View). IsReadyLeft (shown_core p at).ready v.ready) (sym home) left))
      (λ away. ready_from (ap (λ (v : View). v.ready) (only j away)) (later j))

  -- a last piece that leaves the ready nodes of its list
  pub ready_kept : (at : ℕ) (p n q : SeatPart (Beside P)) → ((j : ℕ) → IsReadyLeft (shown_core p j).ready (shown_core n j).ready) → (shown_core q at).ready ≡
      (shown_core n at).ready → ((j : ℕ) → j ≢ at → shown_core q j ≡ shown_core n j) → (j : ℕ) → IsReadyLeft (shown_core p j).ready (shown_core q j).ready
  ready_kept at p n q left same only j = dite (ℕ_discrete j at)
      (λ e. subst (λ k. IsReadyLeft (shown_core p k).ready (shown_core q k).ready) (sym e)
      (subst (IsReadyLeft (shown_core p at).ready) (sym same) (left at)))
      (λ away. subst (λ (v : View). IsReadyLeft (shown_core p j).ready v.ready) (sym (only j away)) (left j))

  -- Long still comes exactly where the last walk is spent, once the range is given back
  pub spent_kept : {Long : Type 0} (n q : SeatPart (Beside P)) → nodes_in q.trace.looked ≡ nodes_in n.trace.looked → q.seats ≡ n.seats
      → q.core.own ≡ Nothing → (Long ↔ HasSpent n) → (Long ↔ IsSpent q)
  spent_kept n q look seats free long =
      (λ l. (look ∙ (long.0 l ∙ ap (λ k. 16 * k + 1) (sym seats)), ap held_at free), λ s. long.1 (sym look ∙ (s.0 ∙ ap (λ k. 16 * k + 1) seats)))

  -- the cause of a refusal by what follows is one of the whole, where the list's ready nodes were left so far
  pub cause_on : {first next : TableId} (at : ℕ) {p m : SeatPart (Beside P)} (q : SeatPart (Beside P)) → next ≡ first → IsLaterInLists p m
      → (shown_core m at).ready ≡ (shown_core p at).ready → (asked : Held) (why : NotHeld) → IsCauseAt next at m q asked why → IsCauseAt first at p q asked why
  cause_on {first} {next} at {p} {m} q same later ready asked why cause = subst (λ (t : TableId). IsCauseAt t at p q asked why) same
      (cause_within (list_state next p at) (list_state next m at) (list_state next q at) (list_state next q at) later.taken later.number
      (λ none. sym ready ∙ none) refl refl refl refl refl refl refl (omega arith) at asked why cause)

  -- and so it is behind the link of a range in another list, also once that is given back
  pub linked_cause : {first next last : TableId} {at : ℕ} {p l : SeatPart (Beside P)} → next ≡ first → last ≡ next → IsPiece at p l
      → (i : ℕ) → i ≢ at → (s u : SeatPart (Beside P)) → KeepsCauses last at s u → (asked : Held) (why : NotHeld) → IsCauseAt next i l s asked why
      → IsCauseAt first i p u asked why
  linked_cause {first} {next} {last} {at} {p} {l} same there piece i away s u keeps asked why cause = subst (λ (t : TableId). IsCauseAt t i p u asked why)
      (there ∙ same) (keeps p i asked why away (subst (λ (t : TableId). IsCauseAt t i p s asked why) (sym (there ∙ same)) (cause_on i s same piece.later
      (ap (λ (v : View). v.ready) (piece.only i away)) asked why cause)))

  -- where the standing stays, what was passed stays passed
  pub passed_on : (c : Regions) (at : ℕ) (range : Interval) (p q : SeatPart (Beside P)) → q.pass.standing ≡ p.pass.standing
      → HasPassed c range at p → HasPassed c range at q
  passed_on c at range p q same x = subst (λ (s : Standing). ((s ≡ Free) × TakesNone c range 0 at) ⊎ (s ≡ Wide at)) (sym same) x

  -- once there is no list left, a range that takes some has passed all
  pub all_passed : (c : Regions) (at : ℕ) (range : Interval) (p : SeatPart (Beside P)) → 0 < c.count → at ≡ list_count c → TakesTwo c range
      → HasPassed c range at p → p.pass.standing ≡ Wide at
  all_passed c at range p some end two passed = ⊎_elim
      (λ (x : (p.pass.standing ≡ Free) × TakesNone c range 0 at).
      let less = takes_there c range two.one some two.takes_one in absurd (x.1 two.one (omega arith) (omega arith) two.takes_one))
      (λ e. e)
      passed

  -- before the last list is passed the range doesn't count, and nothing stands for it once it is given back
  pub passed_beside : (c : Regions) (at : ℕ) (range : Interval) (p : SeatPart (Beside P)) → at < p.pass.lists → 1 ≤ at → HasPassed c range at p
      → is_counted p.pass.lists p.pass.standing 0 ≡ false
  passed_beside c at range p there low passed = ⊎_elim
      (λ (x : (p.pass.standing ≡ Free) × TakesNone c range 0 at).
      ap (λ (s : Standing). is_counted p.pass.lists s 0) x.0 ∙ free_beside p.pass.lists 0 (λ e. omega arith))
      (λ (e : p.pass.standing ≡ Wide at).
      ap (λ (s : Standing). is_counted p.pass.lists s 0) e ∙ wide_on_its_way p.pass.lists at (λ e. omega arith) (λ e. omega arith))
      passed

  pub passed_back : (c : Regions) (at : ℕ) (range : Interval) (p : SeatPart (Beside P)) → HasPassed c range at p → standing_back p.pass.standing 0 ≡ Free
  passed_back c at range p passed = ⊎_elim
      (λ (x : (p.pass.standing ≡ Free) × TakesNone c range 0 at). ap (λ (s : Standing). standing_back s 0) x.0)
      (λ (e : p.pass.standing ≡ Wide at). ap (λ (s : Standing). standing_back s 0) e)
      passed

  -- ---- the range is linked in another list too, the look is made, and that node is given back

  -- what the link in the other list and the turn back leave
  module _ {home other : ℕ} {asked : Held} {p l t : SeatPart (Beside P)} (over : Crossing home other asked p l t) where
    pub both_own : t.core ≡ shown_core p home
    both_own = ap (λ (x : SeatPart (Beside P)). x.core) over.turn ∙ over.link.only home over.differ

    pub both_held : held_at t.core.own ≡ Some asked
    both_held = ap (λ (v : View). held_at v.own) both_own ∙ over.holds.held

    pub both_list : t.pass.list ≡ home
    both_list = ap (λ (x : SeatPart (Beside P)). x.pass.list) over.turn

    pub both_lists : t.pass.lists ≡ p.pass.lists
    both_lists = ap (λ (x : SeatPart (Beside P)). x.pass.lists) over.turn ∙ over.link.later.lists

    pub both_standing : t.pass.standing ≡ p.pass.standing
    both_standing = ap (λ (x : SeatPart (Beside P)). x.pass.standing) over.turn ∙ over.standing

    pub both_other : held_at (shown_core t other).own ≡ Some asked
    both_other = ap (λ (v : View). held_at v.own) (over.stays other ∙ own_at l other over.link.turned) ∙ over.held

    -- the seat holds the range in the other list too
    pub both_too : HoldsToo t other
    both_too = record { range = asked; own = both_held; too = both_other }

    -- and what is so once the look is made and that node is given back
    module _ {s : Standing} {h g u : SeatPart (Beside P)} (after : Return home other t s h g u) where
      both_later : IsLaterInLists p u
      both_later = lists_on (lists_on (lists_on (lists_on over.link.later (turn_on l over.turn)) (seen_on t other true s after.look)) after.give.piece.later)
          (turn_on g after.turn)

      -- that the link in the other list asked for this range is all
      both_asks : AsksOnly asked p.trace.asked l.trace.asked → AsksOnly asked p.trace.asked u.trace.asked
      both_asks asks = asks_kept asks (turn_asks g after.turn ∙ (after.give.asked ∙
          (ap (λ (x : SeatPart (Beside P)). x.trace.asked) after.look ∙ turn_asks l over.turn)))

      -- each list but the other one is as it was
      both_only : (j : ℕ) → j ≢ other → shown_core u j ≡ shown_core p j
      both_only j away = after.stays j ∙ (after.give.piece.only j away ∙ (seen_shows t other true s after.look j ∙ (over.stays j ∙ over.link.only j away)))

      both_free : (shown_core u other).own ≡ Nothing
      both_free = ap (λ (v : View). v.own) (after.stays other ∙ own_at g other after.give.piece.turned) ∙ after.give.free

      both_alone : HoldsAlone home asked u
      both_alone = record {
        rests = after.rests;
        turned = ap (λ (x : SeatPart (Beside P)). x.pass.list) after.turn;
        held = ap (λ (v : View). held_at v.own)
            (sym (own_at u home (ap (λ (x : SeatPart (Beside P)). x.pass.list) after.turn)) ∙ both_only home over.differ) ∙ over.holds.held;
        others = λ j away. dite (ℕ_discrete j other)
            (λ e. ap (λ (v : View). v.own) (ap (shown_core u) e) ∙ both_free)
            (λ elsewhere. ap (λ (v : View). v.own) (both_only j elsewhere) ∙ over.holds.others j away);
      }

      both_counts : u.pass.standing ≡ s
      both_counts = ap (λ (x : SeatPart (Beside P)). x.pass.standing) after.turn
          ∙ (after.give.standing ∙ (ap (λ (x : SeatPart (Beside P)). standing_back x.pass.standing other) after.look ∙ after.back))

      -- the ready nodes of the other list are those that the link left there
      both_ready : IsReadyLeft (shown_core p other).ready (shown_core l other).ready → IsReadyLeft (shown_core p other).ready (shown_core u other).ready
      both_ready left = subst (IsReadyLeft (shown_core p other).ready) (sym (ap (λ (v : View). v.ready) (after.stays other) ∙ (after.give.ready ∙ ap
          (λ (v : View). v.ready) (seen_shows t other true s after.look other ∙ over.stays other)))) left

      -- so the range counts at that list
      pub both_looked : {A : Type 0} {x : A} {table : TableId} → AsksOnly asked p.trace.asked l.trace.asked
          → IsReadyLeft (shown_core p other).ready (shown_core l other).ready → LooksAt table home other asked s (Ok x) p u
      both_looked {A} {x} {table} asks left = record {
        later = both_later;
        asks = both_asks asks;
        ready = both_ready left;
        only = both_only;
        done = (both_alone, both_counts);
        kept = tt;
        cause = tt;
        long = tt;
      }
