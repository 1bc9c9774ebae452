-- A scan through a seat at a table of any number of lists: it is in the list to which the hand is turned, and the seat
-- holds nothing in any list. What it leaves of that list is what it leaves of the seat; at the end of one list the hand
-- leaves its epoch, turns to the next list and enters an epoch there.
use Rattle.std.proofs.Common.{◌≡◌, ℕ, zero, suc, ◌+◌, ◌-◌, ◌*◌, ◌%◌, ◌<◌, ◌≤◌, Bool, true, false, inl, refl, sym, ap, ◌∙◌, subst, arith, eqb-true}
use Rattle.std.proofs.Common.{append_assoc}
use Rattle.std.specs.Prelude.{List, [], ◌∷◌, ◌++◌, IsSome, Option, Some, None, ◌==◌, map, length}
use Rattle.std.proofs.lemmas.List.{length-map}
use Rattle.atomic_table.specs.Seated.{TableId}
use Rattle.list_cuts.specs.Cut.{list_count}
use Rattle.lock_core.specs.declared.views.View.{View}
use Rattle.lock_core.specs.declared.views.Own.{Own}
use Rattle.lock_core.specs.declared.views.Own.TheVariants.{Nothing}
use Rattle.lock_core.specs.declared.steps.Step.TheVariants.{Enter, Leave}
use Rattle.lock_core.specs.Views.{entered, left, kept_own, ready_left}
use Rattle.lock_core.specs.Machine.{held_at, numbers_from}
use Rattle.epoch_pools.specs.declared.record.Looked.{Looked}
use Rattle.epoch_pools.specs.declared.views.SeatPart.{SeatPart}
use Rattle.epoch_pools.specs.declared.views.Beside.{Beside}
use Rattle.epoch_pools.specs.Beside.{shown_core, shown_grant}
use Rattle.epoch_pools.specs.Hands.{HandState, IsHandView, IsResting as IsAtRest, quiet_after, turned}
use Rattle.marked_list.specs.declared.answers.Passed.{Passed}
use Rattle.marked_list.specs.declared.answers.Passed.TheVariants.{End as ListEnd, Long as TooLong}
use Rattle.marked_list.specs.Order.{IsInside, MaySweep}
use Rattle.marked_list.specs.Leaves.{IsLaterInWalk}
use Rattle.marked_list.specs.Answers.{IsAtEnd}
use Rattle.marked_list.specs.Walking.{seen_of}
use Rattle.marked_list.specs.Scanning.{IsResting, Passes}
use Rattle.range_rw.specs.declared.scan.Scanned.{Scanned}
use Rattle.range_rw.specs.Calls.{Leaves}
use Rattle.range_rw.specs.Contract.{SeatState, TableShape, OpenScan, fresh_in, scan_steps, ready_in}
use Rattle.range_rw.specs.Seats.{IsBetween, IsSeated, walk_of, scan_of, placed_scan, placed_in, pools_of, is_fast, seat_of, seat_state_of}
use Rattle.range_rw.specs.Trying.{IsLaterInTry}
use Rattle.range_rw.specs.Scan.{scanned_as, WalkedFrom, IsScanCall, IsNextIn, IsListEnd, IsPassed, IsNext}
use Rattle.range_rw.specs.Scan.{IsScanSeat, IsScanLater, StaysInScan, OpensEpoch, ClosesEpoch, ListGives, IsNoEnd}
use Rattle.range_rw.proofs.Calls.{counted_on}
use Rattle.range_rw.proofs.Pieces.{own_at, own_each, only_stays}
use Rattle.range_rw.proofs.Moves.{lists_on, turn_on, turn_asks}
use Rattle.range_rw.proofs.Scans.{bare_settled, scan_none, scan_some, scan_inside, walk_most, walk_nodes, walk_ended, opened_is}
use Rattle.range_rw.proofs.Seated.{both_true, count_numbers, free_is, free_shown, seated_grant, seated_none, seated_own, try_lists, ready_shown}
use Rattle.range_rw.proofs.Choosing.{left_ready}

bare_between : (v : View) → v.own ≡ Nothing → v.hand ≡ None → IsResting v → IsBetween v
bare_between v own hand rests = record { own = bare_settled v.own own; hand = hand; cursor = rests }

-- a scan that is shown in a list is one of the hand there
pub placed_some : (lists list : ℕ) (o : Option OpenScan) → IsSome (placed_in lists list o) → IsSome o
placed_some lists list None s = s
placed_some lists list (Some w) s = refl

-- the walk of a list, and those of the lists behind it
more_walked : (first n : ℕ) (walked : List Looked) (walk : Looked) → WalkedFrom (first + 1) n walked → walk.list ≡ first → walk.ended ≡ true
    → WalkedFrom first (suc n) (walked ++ walk ∷ [])
more_walked first zero walked walk e list ended =
    (walk, [], ap (λ l. l ++ walk ∷ []) e, (let a = list in let z : walk.list ≡ first + 0 = omega arith in z), ended, refl)
more_walked first (suc n) walked walk x list ended = (
  x.0,
  x.1 ++ walk ∷ [],
  ap (λ l. l ++ walk ∷ []) x.2,
  (let a = x.3 in let z : x.0.list ≡ first + suc n = omega arith in z),
  x.4,
  more_walked first n x.1 walk x.5 list ended,
)

module _ {P : Type 0} where
  -- ---- what is behind a seat that holds nothing

  -- a seat between two calls that holds nothing has no node of its own in any list
  pub scan_seat : (p : SeatPart (Beside P)) → IsSeated p → shown_grant p ≡ None → IsScanSeat p
  scan_seat p s none = record {
    within = s.there;
    between = s.current;
    free = own_each p.pass.list p refl (seated_own p s none) s.others;
    standing = s.free (seated_none p s none);
  }

  pub own_free : (p : SeatPart (Beside P)) → IsScanSeat p → p.core.own ≡ Nothing
  own_free p s = ap (λ (v : View). v.own) (sym (own_at p p.pass.list refl)) ∙ s.free p.pass.list

  -- and is a seat between two calls
  pub scan_seated : (p : SeatPart (Beside P)) → IsScanSeat p → IsSeated p
  scan_seated p s = record {
    there = s.within;
    current = s.between;
    others = λ j away. s.free j;
    counts = λ some. absurd (some (ap held_at (own_free p s)));
    free = λ _. s.standing;
    one = λ _. s.standing;
  }

  -- ---- what each part of a call leaves of it

  pub scan_same : (p : SeatPart (Beside P)) → IsScanSeat p → IsScanLater p p
  scan_same p s = record {
    later = record { number = refl; seats = refl; lists = refl; pass = refl; client = refl; occupied = ([], refl); taken = omega arith };
    asked = refl;
    seat = s;
    ready = λ j. refl;
  }

  pub scan_on : (p q r : SeatPart (Beside P)) → IsScanLater p q → IsScanLater q r → IsScanLater p r
  scan_on p q r a b = record { later = lists_on a.later b.later; asked = b.asked ∙ a.asked; seat = b.seat; ready = λ j. b.ready j ∙ a.ready j }

  -- and inside one
  pub stays_on : {h m k : HandState (Beside P)} {a b c : ℕ} → Leaves StaysInScan h m a b → Leaves StaysInScan m k b c → Leaves StaysInScan h k a c
  stays_on {h} {m} {k} x y = record {
    counted = counted_on x.counted y.counted;
    is = record { later = scan_on h.part m.part k.part x.is.later y.is.later; inside = y.is.inside };
  }

  -- a call in the list to which the hand is turned leaves the others
  pub here_later : (p q : SeatPart (Beside P)) → IsScanSeat p → IsLaterInTry p q → q.trace.asked ≡ p.trace.asked → q.core.own ≡ Nothing
      → q.core.ready ≡ p.core.ready → IsBetween q.core → IsScanLater p q
  here_later p q s l asked own ready between =
      let list : q.pass.list ≡ p.pass.list = ap (λ (b : Beside P). b.list) l.pass in
      record {
        later = try_lists p q l;
        asked = asked;
        seat = record {
          within = subst (λ (b : Beside P). b.list < b.lists) (sym l.pass) s.within;
          between = between;
          free = own_each p.pass.list q list own
              (λ j away. ap (λ (v : View). v.own) (only_stays p q list (ap (λ (b : Beside P). b.others) l.pass) j away) ∙ s.free j);
          standing = ap (λ (b : Beside P). b.standing) l.pass ∙ s.standing;
        };
        ready = left_ready p q l ready;
      }

  -- what a walk leaves is what a call of a try does
  walk_later : (p q : SeatPart (Beside P)) → IsLaterInWalk p q → IsLaterInTry p q
  walk_later p q on = record { number = on.number; seats = on.seats; pass = on.pass; client = on.client; occupied = ([], on.occupied); taken = on.taken }

  pub walked_later : (p q : SeatPart (Beside P)) → IsScanSeat p → IsLaterInWalk p q → q.core.own ≡ Nothing → IsResting q.core → IsScanLater p q
  walked_later p q s on own rests = here_later p q s (walk_later p q on) on.asked own on.pools.ready (bare_between q.core own on.hand rests)

  -- a turn leaves every list
  pub turn_later : (p t : SeatPart (Beside P)) (at : ℕ) → IsScanSeat p → t ≡ turned p at → ((j : ℕ) → shown_core t j ≡ shown_core p j)
      → IsAtRest t.core → at < p.pass.lists → IsScanLater p t
  turn_later p t at s is stays rests less =
      let list : t.pass.list ≡ at = ap (λ (x : SeatPart (Beside P)). x.pass.list) is in
      let lists : t.pass.lists ≡ p.pass.lists = ap (λ (x : SeatPart (Beside P)). x.pass.lists) is in
      let free : (j : ℕ) → (shown_core t j).own ≡ Nothing = λ j. ap (λ (v : View). v.own) (stays j) ∙ s.free j in
      record {
        later = turn_on p is;
        asked = turn_asks p is;
        seat = record {
          within = omega arith;
          between = bare_between t.core (ap (λ (v : View). v.own) (sym (own_at t t.pass.list refl)) ∙ free t.pass.list) rests.hand (inl rests.cursor);
          free = free;
          standing = ap (λ (x : SeatPart (Beside P)). x.pass.standing) is ∙ s.standing;
        };
        ready = λ j. ap (λ (v : View). v.ready) (stays j);
      }

  -- a hand that is turned to that list and outside enters its epoch there
  pub enters : (p t q : SeatPart (Beside P)) (at : ℕ) → IsScanLater p t → t.pass.list ≡ at → t.core.epoch % 2 ≡ 0
      → q ≡ quiet_after t Enter (entered t.core) → OpensEpoch at p q
  enters p t q at m there even made =
      let own : q.core.own ≡ Nothing = ap (λ (x : SeatPart (Beside P)). x.core.own) made ∙ own_free t m.seat in
      let hand : q.core.hand ≡ None = ap (λ (x : SeatPart (Beside P)). x.core.hand) made ∙ m.seat.between.hand in
      let cursor : q.core.cursor ≡ None = ap (λ (x : SeatPart (Beside P)). x.core.cursor) made in
      let l = subst (IsLaterInTry t) (sym made)
      (record { number = refl; seats = refl; pass = refl; client = refl; occupied = ([], refl); taken = omega arith }) in
      record {
        later = scan_on p t q m (here_later t q m.seat l (ap (λ (x : SeatPart (Beside P)). x.trace.asked) made) own
            (ap (λ (x : SeatPart (Beside P)). x.core.ready) made) (bare_between q.core own hand (inl cursor)));
        odd = let n = ap (λ (x : SeatPart (Beside P)). x.core.epoch) made in let z = even in omega arith;
        cursor = cursor;
        list = ap (λ (x : SeatPart (Beside P)). x.pass.list) made ∙ there;
      }

  -- a hand that is inside leaves its epoch
  pub leaves : (p q : SeatPart (Beside P)) → IsScanSeat p → IsInside p.core → q ≡ quiet_after p Leave (left p.core) → ClosesEpoch p q
  leaves p q s inside made =
      let none = own_free p s in
      let own : q.core.own ≡ Nothing = ap (λ (x : SeatPart (Beside P)). x.core.own) made ∙ ap kept_own none in
      let hand : q.core.hand ≡ None = ap (λ (x : SeatPart (Beside P)). x.core.hand) made ∙ s.between.hand in
      let cursor : q.core.cursor ≡ None = ap (λ (x : SeatPart (Beside P)). x.core.cursor) made in
      let l = subst (IsLaterInTry p) (sym made)
      (record { number = refl; seats = refl; pass = refl; client = refl; occupied = ([], refl); taken = omega arith }) in
      record {
        later = here_later p q s l (ap (λ (x : SeatPart (Beside P)). x.trace.asked) made) own
            (ap (λ (x : SeatPart (Beside P)). x.core.ready) made ∙ ap (λ (o : Own). ready_left o p.core.ready) none)
            (bare_between q.core own hand (inl cursor));
        even = let n = ap (λ (x : SeatPart (Beside P)). x.core.epoch) made in let z = inside.odd in omega arith;
        cursor = cursor;
      }

  -- one that has left its epoch, or was outside, has no cursor
  pub is_left : (p q : SeatPart (Beside P)) → IsScanSeat p → IsLaterInTry p q → q.trace.asked ≡ p.trace.asked → MaySweep q.core
      → q.core.ready ≡ p.core.ready → IsHandView q → ClosesEpoch p q
  is_left p q s l asked may ready view =
      let cursor : q.core.cursor ≡ None = view.sound.outside may.outside.even in
      record {
        later = here_later p q s l asked may.own ready (bare_between q.core may.own may.outside.hand (inl cursor));
        even = may.outside.even;
        cursor = cursor;
      }

  -- and rests
  pub left_rests : (p q : SeatPart (Beside P)) → ClosesEpoch p q → IsAtRest q.core
  left_rests p q g = record { outside = g.even; cursor = g.cursor; hand = g.later.seat.between.hand }

  pub opened_inside : (at : ℕ) (p q : SeatPart (Beside P)) → OpensEpoch at p q → IsInside q.core
  opened_inside at p q g = record { odd = g.odd; hand = g.later.seat.between.hand }

  -- ---- what the seat shows of it

  -- such a call is one of a scan on the seat
  pub scan_call : (was now : TableId) (p q : SeatPart (Beside P)) → now ≡ was → IsScanLater p q
      → IsScanCall (seat_state_of (record { table = was; part = p })) (seat_state_of (record { table = now; part = q }))
  scan_call was now p q same l = record {
    table = same;
    number = l.later.number;
    held = seated_grant q (scan_seated q l.seat) ∙ ap held_at (own_free q l.seat);
    ready = l.ready 0;
    further = (λ i. map ready_in (map (λ j. pools_of (shown_core q j)) (numbers_from 1 (l.later.lists i - 1))))
        ∙ ready_shown p q l.ready (numbers_from 1 (p.pass.lists - 1));
    pass = l.later.pass;
    asked = l.asked;
    client = l.later.client;
    taken = l.later.taken;
  }

  -- also as the seats of these hands show it, which hold nothing
  pub scan_shown : (h k : HandState (Beside P)) (quick : Bool) {s : SeatState P} → seat_of (is_fast quick h) h ≡ s → s.held ≡ None → k.table ≡ h.table
      → IsScanLater h.part k.part → IsScanCall s (seat_of (is_fast quick k) k)
  scan_shown h k quick is none same l = let call = scan_call h.table k.table h.part k.part same l in
      subst (λ (z : SeatState P × SeatState P). IsScanCall z.0 z.1) (λ i. (free_is h quick is none i, sym (free_shown k quick call.held) i)) call

  -- after entering the open scan is a fresh one in that list
  pub opens_fresh : (at : ℕ) (p q : SeatPart (Beside P)) (seats : ℕ) → q.seats ≡ seats → OpensEpoch at p q
      → placed_in q.pass.lists q.pass.list (scan_of q) ≡ Some (fresh_in at (16 * seats + 1))
  opens_fresh at p q seats e g = ap (placed_in q.pass.lists q.pass.list) (scan_some q g.odd) ∙ ((λ i. Some (placed_scan q.pass.lists (g.list i) (walk_of
      (16 * q.seats + 1) (g.cursor i) q.trace.looked))) ∙ ap (λ (n : ℕ). Some (fresh_in at (16 * n + 1))) e)

  -- after leaving there is none
  pub closes_none : (p q : SeatPart (Beside P)) → ClosesEpoch p q → placed_in q.pass.lists q.pass.list (scan_of q) ≡ None
  closes_none p q g = ap (placed_in q.pass.lists q.pass.list) (scan_none q g.even)

  -- a seat whose scan is open has its hand inside its epoch
  pub opened_in : (p : SeatPart (Beside P)) → IsScanSeat p → IsSome (placed_in p.pass.lists p.pass.list (scan_of p)) → IsInside p.core
  opened_in p s some = scan_inside p (placed_some p.pass.lists p.pass.list (scan_of p) some) s.between.hand

  module _ (p : SeatPart (Beside P)) (was : OpenScan) (inside : IsInside p.core) (opened : placed_in p.pass.lists p.pass.list (scan_of p) ≡ Some was) where
    is : placed_scan p.pass.lists p.pass.list (walk_of (16 * p.seats + 1) p.core.cursor p.trace.looked) ≡ was
    is = opened_is p was inside opened

    -- it says the list to which the hand is turned, and how many nodes a walk may look at
    pub opened_list : was.list ≡ p.pass.list
    opened_list = ap (λ (w : OpenScan). w.list) (sym is)

    pub opened_most : was.most ≡ 16 * p.seats + 1
    opened_most = ap (λ (w : OpenScan). w.most) (sym is) ∙ walk_most (16 * p.seats + 1) p.core.cursor p.trace.looked

    -- one that is ended is at the end of the last list
    pub opened_ended : was.ended ≡ true → IsAtEnd p.core.cursor × (p.pass.list + 1 ≡ p.pass.lists)
    opened_ended ended = let both = both_true (walk_of (16 * p.seats + 1) p.core.cursor p.trace.looked).ended (p.pass.list + 1 == p.pass.lists)
        (ap (λ (w : OpenScan). w.ended) is ∙ ended) in
        (walk_ended (16 * p.seats + 1) p.core.cursor p.trace.looked both.0, eqb-true (p.pass.list + 1) p.pass.lists both.1)

    -- and one that has looked at as many nodes as it may has a cursor that has seen so many
    pub opened_spent : was.nodes ≡ was.most → seen_of p.core.cursor ≡ 16 * p.seats + 1
    opened_spent spent = sym (walk_nodes (16 * p.seats + 1) p.core.cursor p.trace.looked) ∙ (ap (λ (w : OpenScan). w.nodes) is ∙ (spent ∙ opened_most))

    -- so it is while the hand is as it was
    pub spent_still : {q : SeatPart (Beside P)} → q ≡ p → was.nodes ≡ was.most → seen_of q.core.cursor ≡ 16 * q.seats + 1
    spent_still same spent = subst (λ (x : SeatPart (Beside P)). seen_of x.core.cursor ≡ 16 * x.seats + 1) (sym same) (opened_spent spent)

    pub most_still : {q : SeatPart (Beside P)} → q ≡ p → TooLong (16 * q.seats + 1) ≡ TooLong was.most
    most_still same = ap (λ (x : SeatPart (Beside P)). TooLong (16 * x.seats + 1)) same ∙ ap (λ n. TooLong n) (sym opened_most)

  -- at the answer that the end was read the cursor stands there
  pub end_at : (p q : SeatPart (Beside P)) (a : Passed) → Passes p q a → a ≡ ListEnd → IsAtEnd q.core.cursor
  end_at p q a x e = (subst (λ (y : Passed). Passes p q y) e x).0.end

  -- ---- and in several

  -- an answer that isn't the end of a list is that of the call
  pub no_end : (last : Type 0) (b a : SeatState P) (was : OpenScan) (x : Passed) → IsNoEnd x → ListGives last b a was x → IsNextIn b a was (scanned_as x)
  no_end last b a was ListEnd not g = absurd not
  no_end last b a was _ not g = g

  -- so is each answer of the last list
  pub last_gives : (last : Type 0) (b a : SeatState P) (was : OpenScan) (x : Passed) → last → ListGives last b a was x → IsNextIn b a was (scanned_as x)
  last_gives last b a was ListEnd here g = g.1 here
  last_gives last b a was _ here g = g

  -- a call that is over in its list passes none
  pub next_none : (tables : TableId) (p : SeatPart (Beside P)) (after : SeatState P) (was : OpenScan) (answer : Scanned) → IsScanSeat p → IsInside p.core
      → placed_in p.pass.lists p.pass.list (scan_of p) ≡ Some was → IsNextIn (seat_state_of (record { table = tables; part = p })) after was answer
      → IsNext (seat_state_of (record { table = tables; part = p })) after was answer
  next_none tables p after was answer s inside opened n = record {
    now = n.now;
    is = n.is;
    same = n.same;
    lists = 0;
    list = let l = n.list in omega arith;
    within =
        let l = opened_list p was inside opened in let w = s.within in
        let c = count_numbers (λ j. pools_of (shown_core p j)) 1 (p.pass.lists - 1) in
        omega arith;
    walked = [];
    walks = n.walks;
    each = refl;
    goes = n;
  }

  -- the list was passed, and the hand is in the next one
  pub passes_list : (first mid now : TableId) (p e q : SeatPart (Beside P)) (was : OpenScan) → mid ≡ first → now ≡ mid → IsInside p.core
      → placed_in p.pass.lists p.pass.list (scan_of p) ≡ Some was → IsScanLater p e → e.pass.list ≡ p.pass.list
      → IsListEnd (seat_state_of (record { table = first; part = p })) (seat_state_of (record { table = mid; part = e })) was
      → OpensEpoch (e.pass.list + 1) e q → q.trace.taken ≡ e.trace.taken + 2 → q.trace.looked ≡ e.trace.looked
      → ((walk : Looked) → e.trace.looked ≡ Some walk → q.trace.walks ≡ walk ∷ e.trace.walks)
      → IsPassed (seat_state_of (record { table = first; part = p })) (seat_state_of (record { table = now; part = q })) was
  passes_list first mid now p e q was same on inside opened l there reads g taken last left =
      let list : e.pass.list + 1 ≡ was.list + 1 = let a = opened_list p was inside opened in omega arith in
      let most : 16 * p.seats + 1 ≡ was.most = sym (opened_most p was inside opened) in
      record {
        end = seat_state_of (record { table = mid; part = e });
        call = scan_call first mid p e same l;
        reads = reads;
        moves = scan_call mid now e q on g.later;
        taken = taken;
        last = last;
        left = left reads.walk reads.is;
        begun = opens_fresh (e.pass.list + 1) e q p.seats (g.later.later.seats ∙ l.later.seats) g ∙ (λ i. Some (fresh_in (list i) (most i)));
      }

  -- what a call comes to behind a list that it passed is what it comes to
  pub next_more : (before mid after : SeatState P) (was : OpenScan) (answer : Scanned) → IsPassed before mid was
      → IsNext mid after (fresh_in (was.list + 1) was.most) answer → IsNext before after was answer
  next_more before mid after was answer passed n = record {
    now = n.now;
    is = n.is;
    same = n.same;
    lists = suc n.lists;
    list = let l = n.list in omega arith;
    within =
        let w = n.within in
        let a = ap (λ l. length l) passed.call.further in let b = ap (λ l. length l) passed.moves.further in
        let c = length-map before.further ready_in in let d = length-map passed.end.further ready_in in let e = length-map mid.further ready_in in
        omega arith;
    walked = n.walked ++ passed.reads.walk ∷ [];
    walks = n.walks ∙ (ap (λ l. n.walked ++ l) (passed.left ∙ ap (λ l. passed.reads.walk ∷ l) passed.reads.stay)
        ∙ sym (append_assoc n.walked (passed.reads.walk ∷ []) before.trace.walks));
    each = more_walked was.list n.lists n.walked passed.reads.walk n.each passed.reads.listed passed.reads.ended;
    goes = (mid, passed, n.goes);
  }

-- a call of an open scan leaves it open
pub next_open : {P : Type 0} (before after : SeatState P) (answer : Scanned)
    → ((was : OpenScan) → before.scan ≡ Some was → IsNext before after was answer) → IsSome before.scan → IsSome after.scan
next_open before after answer next some = by_scan before.scan refl some
  where
    by_scan : (o : Option OpenScan) → before.scan ≡ o → IsSome o → IsSome after.scan
    by_scan None e s = absurd (let z : ◌≡◌ {A = Bool} false true = s in cc)
    by_scan (Some was) e s = let n = next was e in subst (λ (o : Option OpenScan). IsSome o) (sym n.is) refl

-- where nothing of the hand changes, nothing of the seat does
pub seat_stays : {P : Type 0} (was now : TableId) (p q : SeatPart (Beside P)) → now ≡ was → q ≡ p
    → seat_state_of (record { table = now; part = q }) ≡ seat_state_of (record { table = was; part = p })
seat_stays was now p q same part = λ i. seat_state_of (record { table = same i; part = part i })

-- the steps of a call, in the words of the table and of the open scan
pub scan_bound : (lists : ℕ) (t : TableShape) (was : OpenScan) (list most before after first : ℕ) → lists ≡ list_count t.cut → was.list ≡ list
    → was.most ≡ most → before ≡ first → after ≤ before + 2 + 3 * most + (4 + 3 * most) * (lists - 1 - list) → after ≤ first + scan_steps t was
scan_bound lists t was list most before after first cut there same begins le = let e : 2 + 3 * most + (4 + 3 * most) * (lists - 1 - list) ≡ scan_steps t was = λ
    i. 2 + 3 * sym same i + (4 + 3 * sym same i) * (cut i - 1 - sym there i) in
    let f : after ≤ before + (2 + 3 * most + (4 + 3 * most) * (lists - 1 - list)) = omega arith in
    subst (λ (z : ℕ × ℕ). after ≤ z.0 + z.1) (λ i. (begins i, e i)) f
