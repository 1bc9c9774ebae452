-- A try in a table of any number of lists. With one list it is today's try, in the list to which the hand is turned;
-- what that leaves of the list is what it leaves of the seat.
use Rattle.std.proofs.Common.{◌≡◌, ◌≢◌, ◌⊎◌, ◌↔◌, ℕ, zero, suc, ◌+◌, ◌-◌, ◌*◌, ◌<◌, ◌≤◌, ◌%◌, Bool, true, false, inr, inl, refl}
use Rattle.std.proofs.Common.{sym, ap, ◌∙◌, subst, arith, eq-eqb, eqb-true, ne_eqb, ⊎_elim, []}
use Rattle.std.proofs.lemmas.Bool.{eqb-false}
use Rattle.std.specs.Prelude.{map, get_or, is_some, Option, Result, Ok, Err, Some, None, OnOk, OnErr, ◌&&◌, ◌||◌, ◌==◌, if◌then◌else◌}
use mathlib.Core.Logic.{dite}
use native.Mathlib.Decide.{ℕ_discrete}
use Rattle.atomic_table.specs.Seated.{TableId}
use Rattle.lock_core.specs.Range.{Interval}
use Rattle.lock_core.specs.declared.range.Held.{Held}
use Rattle.list_cuts.specs.Cut.{Regions, list_count, TakesOne, TakesTwo}
use Rattle.list_cuts.proofs.Cutting.{takes_there}
use Rattle.lock_core.specs.declared.views.View.{View}
use Rattle.lock_core.specs.declared.views.Own.TheVariants.{Nothing}
use Rattle.lock_core.specs.Views.{next_epoch}
use Rattle.lock_core.specs.Machine.{held_at, numbers_from}
use Rattle.epoch_pools.specs.declared.views.SeatPart.{SeatPart}
use Rattle.epoch_pools.specs.declared.views.Beside.{Beside}
use Rattle.epoch_pools.specs.declared.views.Standing.{Standing}
use Rattle.epoch_pools.specs.declared.views.Standing.TheVariants.{Free, Narrow, Wide}
use Rattle.epoch_pools.specs.Standings.{is_here, is_whole, is_counted}
use Rattle.epoch_pools.specs.Beside.{shown_core, shown_grant}
use Rattle.epoch_pools.specs.Hands.{IsResting}
use Rattle.epoch_pools.specs.Record.{KeepsOccupied}
use Rattle.marked_list.specs.Order.{MaySweep}
use Rattle.marked_list.specs.Causes.{nodes_in, IsSpent}
use Rattle.range_rw.specs.declared.refusals.NotHeld.{NotHeld}
use Rattle.range_rw.specs.declared.refusals.NotHeld.TheVariants.{Busy, Again, Long as TooLong, NoNode}
use Rattle.range_rw.specs.Contract.{SeatState, Pools, IsLongRefusal, IsReadyLeft, IsWalkOf, IsSpentIn, IsCause, IsListCause, IsLockCall}
use Rattle.range_rw.specs.Contract.{TableShape, AsksOnly, OpenScan, WorksIn, TellsList, KeepsOthers, ClosesOthers, KeepsClear, StandsIn, TakesMany}
use Rattle.range_rw.specs.Contract.{MakesFew, Meets, closed_pools, closed_at, pools_at, in_list, try_steps}
use Rattle.range_rw.specs.Attempts.{IsAttempt}
use Rattle.range_rw.specs.Seats.{counted_in, pools_of, walk_of, placed_in, is_fast, seat_state_in, seat_of, seat_state_of}
use Rattle.range_rw.specs.Trying.{IsLaterInTry, IsLaterOutside}
use Rattle.range_rw.specs.Several.{list_state, HasLeft, IsLaterInLists, IsFreeSeat, HoldsAlone, IsCauseIn, IsHoldCall, IsOnce, IsTryCall, ShowsOthers}
use Rattle.range_rw.proofs.Pieces.{err_free, ok_on, own_at, own_each, only_stays, ready_stays, ready_at_home, here_state, rests_free}
use Rattle.range_rw.proofs.Taking.{cause_within}
use Rattle.range_rw.proofs.Asking.{asks_from, for_from}
use Rattle.range_rw.proofs.Moves.{lists_on, narrow_counts, ready_from, wide_counts}
use Rattle.range_rw.proofs.Seated.{count_numbers, pools_shown, try_lists, lists_call, granted_list, alone_grant, free_grant, none_here, rests_closed}
use Rattle.range_rw.proofs.Meeting.{found_before, met_before, met_still, no_fewer}
use Rattle.range_rw.proofs.TakenLists.{alone_steps, some_many, wide_steps}

-- a call of a try in the list to which the hand is turned, of a seat that held nothing
pub record Here {P : Type 0} (p q : SeatPart (Beside P)) : Type 0 where
  pub free : IsFreeSeat p
  pub later : IsLaterOutside p q

-- where a range stands, by how it counts: with one list in that, with several in the one that it takes, or in list 0
pub stands_first : {c : Regions} {range : Interval} {s : Standing} → TakesOne c range 0 → s ≡ Free → StandsIn c range (counted_in s)
stands_first {c} {range} {s} one is = subst (λ t. StandsIn c range (counted_in t)) (sym is) (inl one)

pub stands_narrow : {c : Regions} {range : Interval} {at : ℕ} {s : Standing} → TakesOne c range at → s ≡ Narrow at → StandsIn c range (counted_in s)
stands_narrow {c} {range} {at} {s} one is = subst (λ t. StandsIn c range (counted_in t)) (sym is) (inl one)

pub stands_wide : {c : Regions} {range : Interval} {n : ℕ} {s : Standing} → TakesTwo c range → s ≡ Wide n → StandsIn c range (counted_in s)
stands_wide {c} {range} {n} {s} two is = subst (λ t. StandsIn c range (counted_in t)) (sym is) (inr (two, refl))

module _ {P : Type 0} where
  -- a seat that holds nothing may sweep the list to which it is turned
  pub free_sweeps : (p : SeatPart (Beside P)) → IsFreeSeat p → MaySweep p.core
  free_sweeps p f = rests_free p.core f.rests (ap (λ (v : View). v.own) (sym (own_at p p.pass.list (λ i. p.pass.list))) ∙ f.free p.pass.list)

  -- what is held in the list to which the hand is turned is held there
  pub alone_there : {at : ℕ} {asked : Held} {q : SeatPart (Beside P)} → HoldsAlone at asked q → HoldsAlone q.pass.list asked q
  alone_there {at} {asked} {q} h = record { rests = h.rests; turned = refl; held = h.held; others = λ j away. h.others j (λ e. away (e ∙ sym h.turned)) }

  -- a narrow range counts through its list, and a wide one that has passed all through list 0
  pub alone_narrow : {at : ℕ} {asked : Held} {q : SeatPart (Beside P)} → HoldsAlone at asked q → q.pass.standing ≡ Narrow at
      → is_counted q.pass.lists q.pass.standing q.pass.list ≡ true
  alone_narrow {at} {asked} {q} h s = ap (λ t. is_counted q.pass.lists t q.pass.list) s ∙ narrow_counts q.pass.lists at q.pass.list h.turned

  pub alone_wide : {at : ℕ} {asked : Held} {q : SeatPart (Beside P)} → at ≡ 0 → HoldsAlone at asked q → q.pass.standing ≡ Wide q.pass.lists
      → is_counted q.pass.lists q.pass.standing q.pass.list ≡ true
  alone_wide {at} {asked} {q} e h s = ap (λ t. is_counted q.pass.lists t q.pass.list) s ∙ wide_counts q.pass.lists q.pass.list (h.turned ∙ e)

  -- with one list all that is held counts
  pub one_counts : (b : Beside P) → b.lists ≡ 1 → is_counted b.lists b.standing b.list ≡ true
  one_counts b one = ap (λ (c : Bool). c || is_here b.standing b.list && is_whole b.standing b.lists) (eq-eqb b.lists 1 one)

  module _ {p q : SeatPart (Beside P)} (h : Here p q) where
    here_list : q.pass.list ≡ p.pass.list
    here_list = ap (λ (b : Beside P). b.list) h.later.later.pass

    pub here_only : (j : ℕ) → j ≢ p.pass.list → shown_core q j ≡ shown_core p j
    here_only = only_stays p q here_list (ap (λ (b : Beside P). b.others) h.later.later.pass)

    -- the ready nodes of the list to which the hand is turned afterwards are those of its own
    pub ready_here : (shown_core p q.pass.list).ready ≢ [] → p.core.ready ≢ []
    ready_here = ready_at_home p (sym here_list)

    here_rests : IsResting q.core
    here_rests = record { outside = h.later.outside.even; cursor = h.later.cursor; hand = h.later.outside.hand }

    -- what a call of a try leaves of the list it leaves of the seat
    here_later : IsLaterInLists p q
    here_later = try_lists p q h.later.later

    -- nothing that counted before counts by another list
    here_standing : q.pass.standing ≡ Free
    here_standing = ap (λ (b : Beside P). b.standing) h.later.later.pass ∙ h.free.standing

    pub here_ready : IsReadyLeft p.core.ready q.core.ready → (j : ℕ) → IsReadyLeft (shown_core p j).ready (shown_core q j).ready
    here_ready left j = dite (ℕ_discrete j p.pass.list)
        (λ e. subst (λ (z : View × View). IsReadyLeft z.0.ready z.1.ready)
        (λ i. (sym (own_at p j (sym e)) i, sym (own_at q j (here_list ∙ sym e)) i)) left)
        (λ away. inr (inl (ap (λ (v : View). v.ready) (here_only j away))))

    pub here_cause : (table other : TableId) (c : Regions) → other ≡ table → p.pass.list < p.pass.lists → (asked : Held) → WorksIn c asked.range p.pass.list
        → (why : NotHeld) → IsListCause p.pass.list (seat_state_in other p) (seat_state_in other q) asked why → IsCauseIn table c p q asked why
    here_cause table other c same there asked works why cause = (
      p.pass.list,
      there,
      works,
      subst (λ (z : SeatState P × SeatState P). IsListCause p.pass.list z.0 z.1 asked why)
          (λ i. (sym (here_state table p p.pass.list (λ k. p.pass.list)) i, sym (here_state table q p.pass.list here_list) i))
          (subst (λ (n : TableId). IsListCause p.pass.list (seat_state_in n p) (seat_state_in n q) asked why) same cause),
    )

    -- with one list there is no other
    here_others : (c : Regions) (range : Interval) → p.pass.list ≡ 0 → ShowsOthers c range p q
    here_others c range first j none = here_only j (λ e. none (inl (e ∙ first)))

    here_alone : {asked : Held} → held_at q.core.own ≡ Some asked → HoldsAlone q.pass.list asked q
    here_alone {asked} held = record {
      rests = here_rests;
      turned = λ i. q.pass.list;
      held = held;
      others = λ j away. ap (λ (v : View). v.own) (here_only j (λ e. away (e ∙ sym here_list))) ∙ h.free.free j;
    }

    here_free : q.core.own ≡ Nothing → IsFreeSeat q
    here_free own = record {
      rests = here_rests;
      free = own_each p.pass.list q here_list own (λ j away. ap (λ (v : View). v.own) (here_only j away) ∙ h.free.free j);
      standing = here_standing;
    }

    -- so with one list, which each range takes alone, what is held there is granted, and what is refused leaves nothing
    pub here_call : {A E : Type 0} {r : Result A E} (c : Regions) (asked : Held) → p.pass.list < p.pass.lists → p.pass.lists ≡ 1 → TakesOne c asked.range 0
        → AsksOnly asked p.trace.asked q.trace.asked → OnOk r (held_at q.core.own ≡ Some asked) → OnErr r (q.core.own ≡ Nothing)
        → IsHoldCall c asked r p q
    here_call {A} {E} {r} c asked there one takes asks held free = record {
      work = record { later = here_later; asks = asks; only = here_others c asked.range (omega arith) };
      held = ok_on r (λ own. record {
        held = here_alone own;
        counts = one_counts q.pass (let l = here_later.lists in omega arith);
        one = λ e. here_standing;
        stands = stands_first takes here_standing;
      }) held;
      free = err_free r here_free free;
    }

-- the list that holds a range is one of the lists
pub stands_there : (c : Regions) {range : Interval} → 0 < c.count → {own : ℕ} → StandsIn c range own → own < list_count c
stands_there c {range} some {own} stands = ⊎_elim
    (λ (one : TakesOne c range own). takes_there c range own some one.takes)
    (λ (two : TakesTwo c range × (own ≡ 0)). let e = two.1 in omega arith) stands

-- with one list that holds each range
pub one_home : (c : Regions) (range : Interval) → 0 < c.count → list_count c ≡ 1 → {own at : ℕ} → at ≡ 0 → StandsIn c range own → at ≡ own
one_home c range some one {own} {at} first stands = ⊎_elim
    (λ (t : TakesOne c range own). let there = takes_there c range own some t.takes in omega arith)
    (λ (t : TakesTwo c range × (own ≡ 0)). first ∙ sym t.1) stands

-- leaving an epoch leaves the ready nodes of every list
pub left_ready : {P : Type 0} (p m : SeatPart (Beside P)) → IsLaterInTry p m → m.core.ready ≡ p.core.ready
    → (j : ℕ) → (shown_core m j).ready ≡ (shown_core p j).ready
left_ready p m l ready = ready_stays p m (ap (λ (b : Beside _). b.list) l.pass) (ap (λ (b : Beside _). b.others) l.pass) ready

-- a seat leaves the epoch in which it was, and goes on
module _ {P : Type 0} (was at now : TableId) {p m : SeatPart (Beside P)} (q : SeatPart (Beside P)) (later : IsLaterInTry p m)
    (same : m.core.ready ≡ p.core.ready)
    (lists : q.pass.lists ≡ m.pass.lists) where
  walk_on : {b s : SeatState P} (c d : SeatState P) → b.trace.taken ≡ m.trace.taken → (s.trace.looked ≡ q.trace.looked) × (s.trace.taken ≡ q.trace.taken) →
      c.trace.taken ≡ p.trace.taken → (d.trace.looked ≡ q.trace.looked) × (d.trace.taken ≡ q.trace.taken) → IsWalkOf b s → IsWalkOf c d
  walk_on c d before after first last w = record {
    walk = w.walk;
    is = last.0 ∙ (sym after.0 ∙ w.is);
    from = let n = w.from in let t = later.taken in omega arith;
    below = let n = w.below in let a = after.1 in let b = last.1 in omega arith;
  }

  -- the cause of a try in one of the lists is one of the seat
  pub seat_cause_in : (fast : Bool) (c : Regions) (asked : Held) (why : NotHeld) → IsCauseIn at c m q asked why
      → IsCause (seat_state_of (record { table = was; part = p })) (seat_of fast (record { table = now; part = q })) asked why
  seat_cause_in fast c asked why x =
      let i = x.0 in
      let there : i < p.pass.lists = let a = x.1 in let e = ap (λ (b : Beside P). b.lists) later.pass in omega arith in
      let here : i < q.pass.lists = let e = ap (λ (b : Beside P). b.lists) later.pass in let f = lists in omega arith in
      let before = in_list i (seat_state_of (record { table = was; part = p })) in
      let after = in_list i (seat_of fast (record { table = now; part = q })) in
      let pools = pools_shown false was p i there in
      let pools_now = pools_shown fast now q i here in
      let n = count_numbers (λ j. pools_of (shown_core p j)) 1 (p.pass.lists - 1) in (
        i,
        omega arith,
        cause_within before (list_state at m i) (list_state at q i) after later.taken later.number
            (λ e. ap (λ (x : Pools). x.ready) pools ∙ (sym (left_ready p m later same i) ∙ e)) refl pools_now refl refl refl refl refl (omega arith) i
            asked why x.3,
      )

  -- and the list that it tells is one in which the try works
  pub seat_told_in : (c : Regions) (asked : Held) (why : NotHeld) → IsCauseIn at c m q asked why → TellsList c asked.range why
  seat_told_in c asked (Busy owner range mode) x = tt
  seat_told_in c asked (Again told place expected found) x = subst (WorksIn c asked.range) (sym x.3.10) x.2
  seat_told_in c asked (TooLong visits) x = tt
  seat_told_in c asked (NoNode told stuck) x = subst (WorksIn c asked.range) (sym x.3.3) x.2

  -- Long comes exactly where a walk of the call is spent, in the words of the seat
  pub seat_long_in : (fast : Bool) (c : Regions) (seats : ℕ) → q.seats ≡ seats → (asked : Held) (why : NotHeld) → IsCauseIn at c m q asked why
      → shown_grant q ≡ None → held_at q.core.own ≡ None → (IsLongRefusal why ↔ IsSpent q)
      → (IsLongRefusal why ↔ IsSpentIn seats (seat_state_of (record { table = was; part = p })) (seat_of fast (record { table = now; part = q })))
  seat_long_in fast c seats many asked why cause free none long = (
    λ l. spent why cause l (long.0 l),
    λ s. long.1 (ap nodes_in s.0.is ∙ (s.1 ∙ ap (λ n. 16 * n + 1) (sym many)), none),
  )
    where
      spent : (w : NotHeld) → IsCauseIn at c m q asked w → IsLongRefusal w → IsSpent q
          → IsSpentIn seats (seat_state_of (record { table = was; part = p })) (seat_of fast (record { table = now; part = q }))
      spent (TooLong visits) x l s = let w = walk_on (seat_state_of (record { table = was; part = p })) (seat_of fast (record { table = now; part = q })) refl
          (refl, refl) refl (refl, refl) x.3.0 in (w, sym (ap nodes_in w.is) ∙ (s.0 ∙ ap (λ n. 16 * n + 1) many), free)
      spent _ x l s = absurd l

-- the ready nodes of each list, as the seats show them
further_ready : (f g : ℕ → Pools) (a b : Pools) → ((j : ℕ) → IsReadyLeft (f j).ready (g j).ready) → IsReadyLeft a.ready b.ready → (from many j : ℕ)
    → IsReadyLeft (get_or (map f (numbers_from from many)) j a).ready (get_or (map g (numbers_from from many)) j b).ready
further_ready f g a b each first from zero zero = first
further_ready f g a b each first from zero (suc j) = first
further_ready f g a b each first from (suc many) zero = each from
further_ready f g a b each first from (suc many) (suc j) = further_ready f g a b each first (from + 1) many j

pub ready_at : {P : Type 0} (was now : TableId) (fast : Bool) (p q : SeatPart (Beside P)) → q.pass.lists ≡ p.pass.lists
    → ((j : ℕ) → IsReadyLeft (shown_core p j).ready (shown_core q j).ready)
    → (j : ℕ) → IsReadyLeft (pools_at (seat_state_of (record { table = was; part = p })) j).ready
    (pools_at (seat_of fast (record { table = now; part = q })) j).ready
ready_at was now fast p q lists each zero = each 0
ready_at was now fast p q lists each (suc j) = subst (λ n. IsReadyLeft (get_or (map (λ i. pools_of (shown_core p i)) (numbers_from 1 (p.pass.lists - 1))) j
    (pools_of (shown_core p 0))).ready (get_or (map (λ i. pools_of (shown_core q i)) (numbers_from 1 (n - 1))) j (pools_of (shown_core q 0))).ready) (sym lists)
    (further_ready (λ i. pools_of (shown_core p i)) (λ i. pools_of (shown_core q i)) (pools_of (shown_core p 0)) (pools_of (shown_core q 0)) each (each 0) 1
    (p.pass.lists - 1) j)

-- what a seat has in each list once it is outside its epoch, as it shows it: an epoch that a scan left open is left
pub closed_shown : {P : Type 0} (was : TableId) {p m : SeatPart (Beside P)} {c : Regions} {lists : ℕ} → HasLeft c lists p m → (j : ℕ) → j < p.pass.lists
    → pools_of (shown_core m j) ≡ closed_at (seat_state_of (record { table = was; part = p })) j
closed_shown {P} was {p} {m} left j less = by (p.core.epoch % 2 == 0) refl
  where
    pools : Pools
    pools = pools_at (seat_state_of (record { table = was; part = p })) j

    is : pools ≡ pools_of (shown_core p j)
    is = pools_shown false was p j less

    same : m.pass ≡ p.pass
    same = left.left.later.pass

    turned : m.pass.list ≡ p.pass.list
    turned = ap (λ (b : Beside P). b.list) same

    scan_by : Bool → Option OpenScan
    scan_by b = placed_in p.pass.lists p.pass.list (if b then None else Some (walk_of (16 * p.seats + 1) p.core.cursor p.trace.looked))

    by : (b : Bool) → (p.core.epoch % 2 == 0) ≡ b → pools_of (shown_core m j) ≡ closed_pools (scan_by b) j pools
    by true e = ap (λ (x : SeatPart (Beside P)). pools_of (shown_core x j)) (left.left.same (eqb-true (p.core.epoch % 2) 0 e)) ∙ sym is
    by false e = let far = eqb-false (p.core.epoch % 2) 0 e in let odd : p.core.epoch % 2 ≡ 1 = omega arith in dite (ℕ_discrete p.pass.list j)
        (λ here. ap pools_of (own_at m j (turned ∙ here)) ∙ (left.left.closed odd
        ∙ (ap (λ (x : Pools). record x { epoch = next_epoch x.epoch }) (ap pools_of (sym (own_at p j here)) ∙ sym is)
        ∙ sym (ap (λ (b : Bool). if b then record pools { epoch = next_epoch pools.epoch } else pools) (eq-eqb p.pass.list j here)))))
        (λ away. ap pools_of (only_stays p m turned (ap (λ (b : Beside P). b.others) same) j (λ z. away (sym z))) ∙ (sym is
        ∙ sym (ap (λ (b : Bool). if b then record pools { epoch = next_epoch pools.epoch } else pools) (ne_eqb p.pass.list j away))))

module _ {P : Type 0} (was now : TableId) (fast : Bool) (p m q : SeatPart (Beside P)) {c : Regions} {lists : ℕ} (left : HasLeft c lists p m)
    (many : p.pass.lists ≡ list_count c) (same : q.pass.lists ≡ p.pass.lists) where
  abbrev first : SeatState P
  first = seat_state_of (record { table = was; part = p })

  abbrev last : SeatState P
  last = seat_of fast (record { table = now; part = q })

  -- a list that stays as it was once the seat is outside
  pub list_closed : (j : ℕ) → j < list_count c → shown_core q j ≡ shown_core m j → pools_at last j ≡ closed_at first j
  list_closed j less stays = pools_shown fast now q j (omega arith) ∙ (ap pools_of stays ∙ closed_shown was left j (omega arith))

  -- a node that is ready in a list is ready there once the epoch is left
  some_left : (i : ℕ) → i < p.pass.lists → (pools_at first i).ready ≢ [] → (shown_core m i).ready ≢ []
  some_left i less some none = some (ap (λ (x : Pools). x.ready) (pools_shown false was p i less)
      ∙ (sym (left_ready p m left.left.later left.left.ready i) ∙ none))

-- what an attempt has come to with the hand, once that was outside its epoch, it has come to with the seat
module _ {P : Type 0} {was at now : TableId} {p m q : SeatPart (Beside P)} {lists : ℕ} (t : TableShape) (patient : Bool) (looks : ℕ) (asked : Held)
    (left : HasLeft t.cut lists p m) (same : at ≡ was) (again : now ≡ at) (there : q.pass.list < q.pass.lists) where
  module _ {r : Result Bool NotHeld} (fast : Bool) (x : IsTryCall at t.cut t.seats looks patient asked r m q) where
    abbrev before : SeatState P
    before = seat_state_of (record { table = was; part = p })

    abbrev after : SeatState P
    after = seat_of fast (record { table = now; part = q })

    first_lists : IsLaterInLists p m
    first_lists = try_lists p m left.left.later

    all_lists : IsLaterInLists p q
    all_lists = lists_on first_lists x.call.work.later

    so_many : p.pass.lists ≡ list_count t.cut
    so_many = sym first_lists.lists ∙ (sym left.lists.shown ∙ left.lists.many)

    as_closed : (j : ℕ) → j < list_count t.cut → shown_core q j ≡ shown_core m j → pools_at after j ≡ closed_at before j
    as_closed = list_closed was now fast p m q left so_many all_lists.lists

    -- what it leaves, however it ends
    pub left_call : IsLockCall before after
    left_call = lists_call was now fast p q (again ∙ same) all_lists

    pub left_asks : AsksOnly asked before.trace.asked after.trace.asked
    left_asks = asks_from left.left.asked x.call.work.asks

    pub left_closes : ClosesOthers t.cut asked.range before after
    left_closes j less none = as_closed j less (x.call.work.only j none)

    pub left_clear : (own : ℕ) → StandsIn t.cut asked.range own → KeepsClear t.cut own before after
    left_clear own stands j less away = ⊎_elim (λ e. inl (as_closed j less e)) (λ f. inr (found_before j q.trace left.left.later.taken f))
        (x.apart own stands j away)

    pub left_further : looks ≡ 0 → (j : ℕ) → IsReadyLeft (pools_at before j).ready (pools_at after j).ready
    left_further none = ready_at was now fast p q all_lists.lists (λ i. ready_from (left_ready p m left.left.later left.left.ready i) (x.ready none i))

    pub left_each : ((k : ℕ) → TakesMany t.cut asked.range k → q.trace.taken + 1 ≤ m.trace.taken + try_steps m.seats k)
        → (k : ℕ) → TakesMany t.cut asked.range k → after.trace.taken ≤ before.trace.taken + try_steps t.seats k
    left_each each k many = let b = each k many in let e = ap (λ n. try_steps n k) x.seats in let l = left.left.few in omega arith

  -- the range is held, and by the fast path where that linked its node
  pub attempt_held : {A : Type 0} {quick : Bool} {a : A} (x : IsTryCall at t.cut t.seats looks patient asked (Ok quick) m q)
      → (IsOnce patient looks → (k : ℕ) → TakesMany t.cut asked.range k → q.trace.taken + 1 ≤ m.trace.taken + try_steps m.seats k)
      → IsAttempt t patient looks asked (Ok a) (seat_state_of (record { table = was; part = p }))
      (seat_of (is_fast quick (record { table = now; part = q })) (record { table = now; part = q }))
  attempt_held {A} {quick} x each =
      let fast = is_fast quick (record { table = now; part = q }) in let grant = x.call.held in
      let home = granted_list there grant in record {
        call = left_call fast x;
        keeps = (all_lists fast x).occupied;
        asks = left_asks fast x;
        gets = for_from left.left.asked x.gets;
        outside = rests_closed q grant.held.rests;
        held = alone_grant there grant;
        stands = grant.stands;
        free = tt;
        closes = left_closes fast x;
        clear = left_clear fast x;
        fast = λ k many some. ⊎_elim
            (λ few. inl (
              (let n = few.0 in let f = left.left.few in omega arith),
              ap (λ (o : Option Held). is_some o && quick) (alone_grant there grant) ∙ few.1,
            ))
            (λ met. inr (met_before q.trace left.left.later.taken met))
            (x.fast k many (some_left was now fast p m q left (so_many fast x) (all_lists fast x).lists q.pass.list
            (let l = (all_lists fast x).lists in let h = there in omega arith)
            (subst (λ i. (pools_at (seat_state_of (record { table = was; part = p })) i).ready ≢ []) home some)));
        met = tt;
        kept = tt;
        ready = λ none. left_further fast x none 0;
        further = left_further fast x;
        cause = λ _. tt;
        told = λ _. tt;
        long = λ _. tt;
        bound = λ once alone. let k = alone_steps t.cut asked.range t.seats alone in let b = left_each fast x (each once) k.0 k.1 in let e = k.2 in omega arith;
        wide = λ once. wide_steps t.cut asked.range t.seats q.trace.taken p.trace.taken left.lists.regions (left_each fast x (each once));
        each = λ once. left_each fast x (each once);
      }

  -- the range is refused
  pub attempt_refused : {A : Type 0} {why : NotHeld} (fast : Bool) (x : IsTryCall at t.cut t.seats looks patient asked (Err why) m q)
      → (IsOnce patient looks → (k : ℕ) → TakesMany t.cut asked.range k → q.trace.taken + 1 ≤ m.trace.taken + try_steps m.seats k)
      → IsAttempt {A = A} t patient looks asked (Err why) (seat_state_of (record { table = was; part = p }))
      (seat_of fast (record { table = now; part = q }))
  attempt_refused {A} {why} fast x each =
      let free = x.call.free in let none = free_grant there free in record {
        call = left_call fast x;
        keeps = (all_lists fast x).occupied;
        asks = left_asks fast x;
        gets = tt;
        outside = rests_closed q free.rests;
        held = tt;
        stands = tt;
        free = none;
        closes = left_closes fast x;
        clear = left_clear fast x;
        fast = tt;
        met = λ own stands some. met_before q.trace left.left.later.taken (x.met own stands (some_left was now fast p m q left (so_many fast x)
            (all_lists fast x).lists own (let l = so_many fast x in let s = stands_there t.cut left.lists.regions stands in omega arith) some));
        kept = λ two. ⊎_elim (λ stays. inl (λ j behind less. as_closed fast x j less (stays j (λ e. omega arith))))
            (λ more. inr (let n = no_fewer p.trace m.trace left.left.later.occupied in omega arith)) (x.kept two);
        ready = λ none. left_further fast x none 0;
        further = left_further fast x;
        cause = λ once. seat_cause_in was at now q left.left.later left.left.ready x.call.work.later.lists fast t.cut asked why (x.cause once);
        told = λ once. seat_told_in was at now q left.left.later left.left.ready x.call.work.later.lists t.cut asked why (x.cause once);
        long = λ once. seat_long_in was at now q left.left.later left.left.ready x.call.work.later.lists fast t.cut t.seats
            (x.call.work.later.seats ∙ x.seats) asked why (x.cause once) none
            (none_here q free) (x.long once);
        bound = λ once alone. let k = alone_steps t.cut asked.range t.seats alone in let b = left_each fast x (each once) k.0 k.1 in let e = k.2 in omega arith;
        wide = λ once. wide_steps t.cut asked.range t.seats q.trace.taken p.trace.taken left.lists.regions (left_each fast x (each once));
        each = λ once. left_each fast x (each once);
      }

-- what a call leaves that ends an open scan first it leaves of a seat that has none
pub only_closed : {P : Type 0} {c : Regions} {range : Interval} (a b : SeatState P) → ClosesOthers c range a b → a.scan ≡ None → KeepsOthers c range a b
only_closed a b closes none j less away = closes j less away ∙ ap (λ (o : Option OpenScan). closed_pools o j (pools_at a j)) none

-- what a seat met in a round of `acquire`, or in one before it, of which the first may be still to come
pub met_on : {P : Type 0} {c : Regions} {range : Interval} (a b d : SeatState P) → (b ≡ a) ⊎ ((own : ℕ) → StandsIn c range own
    → (pools_at a own).ready ≢ [] → Meets a.trace.taken b.trace) → KeepsOccupied b.trace d.trace
    → ((own : ℕ) → StandsIn c range own → (pools_at b own).ready ≢ [] → Meets b.trace.taken d.trace)
    → (own : ℕ) → StandsIn c range own → (pools_at a own).ready ≢ [] → Meets a.trace.taken d.trace
met_on {P} a b d was kept more own stands some = ⊎_elim
    (λ e. subst (λ (s : SeatState P). (pools_at s own).ready ≢ [] → Meets s.trace.taken d.trace) e (more own stands) some)
    (λ x. met_still a.trace.taken b.trace d.trace kept (x own stands some)) was

-- the last round holds the range by the fast path, or the seat met another
pub fast_on : {P : Type 0} {c : Regions} {range : Interval} (a b d : SeatState P) → (b ≡ a) ⊎ ((own : ℕ) → StandsIn c range own
    → (pools_at a own).ready ≢ [] → Meets a.trace.taken b.trace) → KeepsOccupied b.trace d.trace → StandsIn c range d.list
    → ((k : ℕ) → TakesMany c range k → (pools_at b d.list).ready ≢ [] → MakesFew (6 + k) b d)
    → (pools_at a d.list).ready ≢ [] → (d.fast ≡ true) ⊎ Meets a.trace.taken d.trace
fast_on {P} {c} {range} a b d was kept stands last some = let many = some_many c range (list_count c) in ⊎_elim
    (λ e. subst (λ (s : SeatState P). (pools_at s d.list).ready ≢ [] → (d.fast ≡ true) ⊎ Meets s.trace.taken d.trace) e
    (λ here. ⊎_elim (λ few. inl few.1) (λ m. inr m) (last many.0 many.1 here)) some)
    (λ x. inr (met_still a.trace.taken b.trace d.trace kept (x d.list stands some))) was

-- a further round leaves the lists so as the rounds before it did, of which the first may have left an open scan
pub closes_on : {P : Type 0} {c : Regions} {range : Interval} {a b : SeatState P} (d : SeatState P) → (b ≡ a) ⊎ ((b.scan ≡ None) × ClosesOthers c range a b)
    → ClosesOthers c range b d → ClosesOthers c range a d
closes_on {P} {c} {range} {a} {b} d was more = ⊎_elim (λ e. subst (λ (s : SeatState P). ClosesOthers c range s d) e more)
    (λ x j less none. more j less none ∙ (ap (λ (o : Option OpenScan). closed_pools o j (pools_at b j)) x.0 ∙ x.1 j less none)) was
