-- A seat at a table of any number of lists: what it holds is what its hand holds in the list to which it is turned, and
-- that counts. So what a call leaves of that list is what it leaves of the seat.
use Rattle.std.proofs.Common.{◌≡◌, ◌≢◌, ℕ, zero, suc, ◌+◌, ◌-◌, ◌*◌, ◌%◌, ◌<◌, ◌≤◌, Bool, true, false, Result, Ok, Err, MatchResult, inl, ⊎_elim, refl, sym, ap}
use Rattle.std.proofs.Common.{◌∙◌, subst, arith, eq-eqb, ne_eqb, eqb-true}
use Rattle.std.specs.Prelude.{Option, Some, None, is_some, IsSome, ◌==◌, ◌&&◌, ◌||◌, if◌then◌else◌, List, [], ◌∷◌, length, map, get_or}
use mathlib.Core.Logic.{dite}
use native.Mathlib.Decide.{ℕ_discrete}
use Rattle.atomic_table.specs.Seated.{TableId}
use Rattle.list_cuts.specs.Cut.{Regions}
use Rattle.lock_core.specs.Grants.{Grants}
use Rattle.lock_core.specs.Client.{ClientStep, IsAllowed, IsMade}
use Rattle.lock_core.specs.declared.range.Held.{Held}
use Rattle.lock_core.specs.declared.views.View.{View}
use Rattle.lock_core.specs.declared.views.Own.{Own}
use Rattle.lock_core.specs.declared.views.Own.TheVariants.{Nothing, Filling, Linked}
use Rattle.lock_core.specs.Machine.{held_at, numbers_from}
use Rattle.epoch_pools.specs.declared.views.SeatPart.{SeatPart}
use Rattle.epoch_pools.specs.declared.views.Beside.{Beside}
use Rattle.epoch_pools.specs.declared.views.Standing.{Standing}
use Rattle.epoch_pools.specs.declared.views.Standing.TheVariants.{Free, Narrow, Wide}
use Rattle.epoch_pools.specs.Standings.{is_here, is_whole, is_counted, standing_back, counted_of_many}
use Rattle.epoch_pools.specs.Beside.{shown_core, shown_grant, inner_pass, given_back}
use Rattle.epoch_pools.specs.Hands.{HandState, IsResting}
use Rattle.epoch_pools.specs.Running.{client_part}
use Rattle.epoch_pools.proofs.Counting.{counts_one, counts_many}
use Rattle.marked_list.specs.Scanning.{IsScanning}
use Rattle.range_rw.specs.Contract.{SeatState, IsLockCall, IsRelease, GivesFast, ready_in, pools_at}
use Rattle.range_rw.specs.Seats.{IsSettled, IsSeated, counted_in, pools_of, walk_of, scan_of, placed_in, is_fast, seat_of, seat_state_of}
use Rattle.range_rw.specs.Trying.{IsLaterInTry}
use Rattle.range_rw.specs.Releasing.{GivesBack}
use Rattle.range_rw.specs.Several.{HasLeft, IsLaterInLists, IsFreeSeat, IsGranted}
use Rattle.range_rw.proofs.Pieces.{own_at, own_each, only_stays, ready_stays, settled_by}

-- a settled own node of a seat that holds nothing is none
pub free_own : (own : Own) → IsSettled own → held_at own ≡ None → own ≡ Nothing
free_own Nothing s free = refl
free_own (Filling node lo hi mode aimed) s free = absurd s
free_own (Linked node range mode todo) s free = let held : ◌≡◌ {A = Option Held} (Some (record { range = range; mode = mode })) None = sym
    (ap (λ t. held_at (Linked node range mode t)) s) ∙ free in absurd (cc)

-- what stands at a place of a list that is made number by number
further_at : {A : Type 0} (f : ℕ → A) (from many j : ℕ) (none : A) → j < many → get_or (map f (numbers_from from many)) j none ≡ f (from + j)
further_at f from zero j none less = absurd (omega arith)
further_at f from (suc many) zero none less = ap f (let e : from ≡ from + 0 = omega arith in e)
further_at f from (suc many) (suc j) none less = further_at f (from + 1) many j none (omega arith)
    ∙ ap f (let e : (from + 1) + j ≡ from + suc j = omega arith in e)

-- how many numbers there are
pub count_numbers : {A : Type 0} (f : ℕ → A) (from many : ℕ) → length (map f (numbers_from from many)) ≡ many
count_numbers f from zero = refl
count_numbers f from (suc many) = ap suc (count_numbers f (from + 1) many)

pub both_true : (a b : Bool) → (a && b) ≡ true → (a ≡ true) × (b ≡ true)
both_true true b e = (refl, e)
both_true false b e = absurd (let z : ◌≡◌ {A = Bool} false true = e in cc)

-- the list whose range stands there is the one that it says
here_in : (s : Standing) (i : ℕ) → is_here s i ≡ true → counted_in s ≡ i
here_in Free i e = absurd (let z : ◌≡◌ {A = Bool} false true = e in cc)
here_in (Narrow j) i e = sym (eqb-true i j e)
here_in (Wide p) i e = sym (eqb-true i 0 e)

-- where a list's range counts, it is what counts
here_counts : (s : Standing) (lists i : ℕ) (held : ℕ → Option Held) → (is_here s i && is_whole s lists) ≡ true → counted_of_many lists s held ≡ held i
here_counts Free lists i held e = absurd (let z : ◌≡◌ {A = Bool} false true = e in cc)
here_counts (Narrow j) lists i held e = ap held (sym (eqb-true i j (both_true (i == j) true e).0))
here_counts (Wide p) lists i held e = let t = both_true (i == 0) (p == lists) e in
    ap (λ (b : Bool). if b then held 0 else None) t.1 ∙ ap held (sym (eqb-true i 0 t.0))

module _ {P : Type 0} where
  -- ---- what counts is what the hand holds

  nothing_shown : (p : SeatPart (Beside P)) → IsSeated p → held_at p.core.own ≡ None → (j : ℕ) → held_at (shown_core p j).own ≡ None
  nothing_shown p s none j = dite (ℕ_discrete j p.pass.list)
      (λ e. ap (λ (v : View). held_at v.own) (own_at p j (sym e)) ∙ none)
      (λ away. ap held_at (s.others j away))

  -- with several lists it stands for this one where it counts there
  stands_here : (p : SeatPart (Beside P)) → p.pass.lists ≢ 1 → is_counted p.pass.lists p.pass.standing p.pass.list ≡ true
      → (is_here p.pass.standing p.pass.list && is_whole p.pass.standing p.pass.lists) ≡ true
  stands_here p many counts =
      sym (ap (λ (b : Bool). b || is_here p.pass.standing p.pass.list && is_whole p.pass.standing p.pass.lists) (ne_eqb p.pass.lists 1 many)) ∙ counts

  -- so that is the list that counts
  counted_here : (p : SeatPart (Beside P)) → p.pass.list < p.pass.lists → (p.pass.lists ≡ 1 → p.pass.standing ≡ Free)
      → is_counted p.pass.lists p.pass.standing p.pass.list ≡ true → counted_in p.pass.standing ≡ p.pass.list
  counted_here p there first counts = dite (ℕ_discrete p.pass.lists 1)
      (λ one. let zero_is : 0 ≡ p.pass.list = (let t = there in omega arith) in ap counted_in (first one) ∙ zero_is)
      (λ many. here_in p.pass.standing p.pass.list
      (both_true (is_here p.pass.standing p.pass.list) (is_whole p.pass.standing p.pass.lists) (stands_here p many counts)).0)

  by_held : (p : SeatPart (Beside P)) → IsSeated p → (o : Option Held) → held_at p.core.own ≡ o → shown_grant p ≡ o
  by_held p s None none = dite (ℕ_discrete p.pass.lists 1)
      (λ one. counts_one p.pass.lists p.pass.standing (λ i. held_at (shown_core p i).own) one ∙ nothing_shown p s none 0)
      (λ many. counts_many p.pass.lists p.pass.standing (λ i. held_at (shown_core p i).own) many
      ∙ ap (λ (t : Standing). counted_of_many p.pass.lists t (λ i. held_at (shown_core p i).own)) (s.free none))
  by_held p s (Some h) some = dite (ℕ_discrete p.pass.lists 1)
      (λ one.
      let first : p.pass.list ≡ 0 = (let t = s.there in omega arith) in
      counts_one p.pass.lists p.pass.standing (λ i. held_at (shown_core p i).own) one
      ∙ (ap (λ (v : View). held_at v.own) (own_at p 0 first) ∙ some))
      (λ many.
      let here = stands_here p many (s.counts (λ none. absurd (let z : ◌≡◌ {A = Option Held} (Some h) None = sym some ∙ none in cc))) in
      counts_many p.pass.lists p.pass.standing (λ i. held_at (shown_core p i).own) many
      ∙ (here_counts p.pass.standing p.pass.lists p.pass.list (λ i. held_at (shown_core p i).own) here
      ∙ (ap (λ (v : View). held_at v.own) (own_at p p.pass.list refl) ∙ some)))

  pub seated_grant : (p : SeatPart (Beside P)) → IsSeated p → shown_grant p ≡ held_at p.core.own
  seated_grant p s = by_held p s (held_at p.core.own) refl

  -- a seat that holds nothing in any list holds nothing in this one
  pub none_here : (p : SeatPart (Beside P)) → IsFreeSeat p → held_at p.core.own ≡ None
  none_here p f = ap (λ (v : View). held_at v.own) (sym (own_at p p.pass.list refl)) ∙ ap held_at (f.free p.pass.list)

  -- a call of a try is one in several lists
  pub try_lists : (p q : SeatPart (Beside P)) → IsLaterInTry p q → IsLaterInLists p q
  try_lists p q l = record {
    number = l.number;
    seats = l.seats;
    lists = ap (λ (b : Beside P). b.lists) l.pass;
    pass = ap (λ (b : Beside P). b.pass) l.pass;
    client = l.client;
    occupied = l.occupied;
    taken = l.taken;
  }

  -- so a seat that holds something holds it in that list
  pub held_some : (p : SeatPart (Beside P)) → IsSeated p → IsSome (shown_grant p) → held_at p.core.own ≢ None
  held_some p s some none = absurd (let z : ◌≡◌ {A = Bool} false true = subst IsSome (seated_grant p s ∙ none) some in cc)

  pub seat_holds : (h : HandState (Beside P)) {b : Bool} {s : SeatState P} → seat_of b h ≡ s → IsSeated h.part → IsSome s.held → held_at h.part.core.own ≢ None
  seat_holds h is seated some = held_some h.part seated (subst (λ (x : SeatState P). IsSome x.held) (sym is) some)

  -- one that holds nothing doesn't hold by the fast path
  pub free_shown : (h : HandState (Beside P)) (quick : Bool) → shown_grant h.part ≡ None → seat_of (is_fast quick h) h ≡ seat_state_of h
  free_shown h quick free = ap (λ (o : Option Held). seat_of (is_some o && quick) h) free

  pub free_is : (h : HandState (Beside P)) (quick : Bool) {s : SeatState P} → seat_of (is_fast quick h) h ≡ s → s.held ≡ None → seat_state_of h ≡ s
  free_is h quick is none = sym (free_shown h quick (ap (λ (x : SeatState P). x.held) is ∙ none)) ∙ is

  -- what its own node holds it shows
  pub seat_shows : (h : HandState (Beside P)) {b : Bool} {s : SeatState P} {v : View} → seat_of b h ≡ s → IsSeated h.part
      → v ≡ h.part.core → s.held ≡ held_at v.own
  seat_shows h is seated view =
      sym (ap (λ (x : SeatState P). x.held) is) ∙ (seated_grant h.part seated ∙ ap (λ (x : View). held_at x.own) (sym view))

  -- and one that holds nothing has no node of its own there
  pub seated_none : (p : SeatPart (Beside P)) → IsSeated p → shown_grant p ≡ None → held_at p.core.own ≡ None
  seated_none p s none = sym (seated_grant p s) ∙ none

  pub seated_own : (p : SeatPart (Beside P)) → IsSeated p → shown_grant p ≡ None → p.core.own ≡ Nothing
  seated_own p s none = free_own p.core.own s.current.own (seated_none p s none)

  -- a hand that is outside its epoch has no open scan
  pub rests_closed : (q : SeatPart (Beside P)) → IsResting q.core → placed_in q.pass.lists q.pass.list (scan_of q) ≡ None
  rests_closed q rests = ap (placed_in q.pass.lists q.pass.list)
      (ap (λ (b : Bool). if b then None else Some (walk_of (16 * q.seats + 1) q.core.cursor q.trace.looked)) (eq-eqb (q.core.epoch % 2) 0 rests.outside))

  -- the pools of a list, as the seat shows them
  pub pools_shown : (fast : Bool) (table : TableId) (p : SeatPart (Beside P)) (j : ℕ) → j < p.pass.lists
      → pools_at (seat_of fast (record { table = table; part = p })) j ≡ pools_of (shown_core p j)
  pools_shown fast table p zero less = refl
  pools_shown fast table p (suc j) less = further_at (λ n. pools_of (shown_core p n)) 1 (p.pass.lists - 1) j (pools_of (shown_core p 0)) (omega arith)
      ∙ ap (λ n. pools_of (shown_core p n)) (let e : 1 + j ≡ suc j = omega arith in e)

  -- ---- what a seat is after a call

  -- a seat that holds nothing in any list is between two calls
  pub free_seated : (p : SeatPart (Beside P)) → p.pass.list < p.pass.lists → IsFreeSeat p → IsSeated p
  free_seated p there f =
      let own : p.core.own ≡ Nothing = ap (λ (v : View). v.own) (sym (own_at p p.pass.list refl)) ∙ f.free p.pass.list in
      record {
        there = there;
        current = record { own = subst IsSettled (sym own) tt; hand = f.rests.hand; cursor = inl f.rests.cursor };
        others = λ j away. f.free j;
        counts = λ some. absurd (some (ap held_at own));
        free = λ none. f.standing;
        one = λ e. f.standing;
      }

  -- and so is one that holds a range which counts
  pub alone_seated : {c : Regions} {range : Held} {p : SeatPart (Beside P)} → p.pass.list < p.pass.lists → IsGranted c range p → IsSeated p
  alone_seated {c} {range} {p} there grant =
      let a = grant.held in
      let some : held_at p.core.own ≢ None = λ none. absurd (let z : ◌≡◌ {A = Option Held} (Some range) None = sym a.held ∙ none in cc) in
      record {
        there = there;
        current = record { own = settled_by p.core.own some; hand = a.rests.hand; cursor = inl a.rests.cursor };
        others = a.others;
        counts = λ _. grant.counts;
        free = λ none. absurd (some none);
        one = grant.one;
      }

  -- the list that holds it is the one to which its hand is turned
  pub granted_list : {c : Regions} {range : Held} {p : SeatPart (Beside P)} → p.pass.list < p.pass.lists → IsGranted c range p
      → counted_in p.pass.standing ≡ p.pass.list
  granted_list {c} {range} {p} there grant = counted_here p there grant.one grant.counts

  -- what such a seat holds is that range, and what one holds that has none in any list is nothing
  pub alone_grant : {c : Regions} {range : Held} {p : SeatPart (Beside P)} → p.pass.list < p.pass.lists → IsGranted c range p → shown_grant p ≡ Some range
  alone_grant {c} {range} {p} there grant = seated_grant p (alone_seated there grant) ∙ grant.held.held

  pub free_grant : {p : SeatPart (Beside P)} → p.pass.list < p.pass.lists → IsFreeSeat p → shown_grant p ≡ None
  free_grant {p} there f = seated_grant p (free_seated p there f) ∙ none_here p f

  -- a seat that holds nothing, outside its epoch, holds nothing in any list
  pub seated_free : (p q : SeatPart (Beside P)) → IsSeated p → held_at p.core.own ≡ None → q.pass ≡ p.pass → q.core.own ≡ Nothing → IsResting q.core
      → IsFreeSeat q
  seated_free p q s none same own rests = record {
    rests = rests;
    free = own_each p.pass.list q (ap (λ (b : Beside P). b.list) same) own (λ j away. ap (λ (v : View). v.own)
        (only_stays p q (ap (λ (b : Beside P). b.list) same) (ap (λ (b : Beside P). b.others) same) j away) ∙ s.others j away);
    standing = ap (λ (b : Beside P). b.standing) same ∙ s.free none;
  }

  -- as it does once it has left its epoch
  pub seat_left : (h : HandState (Beside P)) {b : Bool} {s : SeatState P} {c : Regions} {lists : ℕ} {m : SeatPart (Beside P)} → seat_of b h ≡ s
      → IsSeated h.part
      → s.held ≡ None → HasLeft c lists h.part m → IsFreeSeat m
  seat_left h {b} {s} {c} {lists} {m} is seated none left = seated_free h.part m seated
      (seated_none h.part seated (ap (λ (x : SeatState P). x.held) is ∙ none)) left.left.later.pass left.left.free.own left.rests

  -- a step on a client word leaves all of it
  pub client_seated : (p q : SeatPart (Beside P)) (i : ℕ) (pass : P) → q ≡ client_part p i pass → IsSeated p → IsSeated q
  client_seated p q i pass is s = subst (λ (x : SeatPart (Beside P)). IsSeated x) (sym is)
      (record { there = s.there; current = s.current; others = s.others; counts = s.counts; free = s.free; one = s.one })

  -- what a call in several lists leaves is a call on the seat
  pub lists_call : (was now : TableId) (fast : Bool) (p q : SeatPart (Beside P)) → now ≡ was → IsLaterInLists p q
      → IsLockCall (seat_state_of (record { table = was; part = p })) (seat_of fast (record { table = now; part = q }))
  lists_call was now fast p q same l = record { table = same; number = l.number; pass = l.pass; client = l.client; taken = l.taken }

  -- the ready nodes of each of some lists, as the seats show them
  pub ready_shown : (p q : SeatPart (Beside P)) → ((j : ℕ) → (shown_core q j).ready ≡ (shown_core p j).ready) → (l : List ℕ)
      → map ready_in (map (λ j. pools_of (shown_core q j)) l) ≡ map ready_in (map (λ j. pools_of (shown_core p j)) l)
  ready_shown p q same [] = refl
  ready_shown p q same (j ∷ l) = λ i. same j i ∷ ready_shown p q same l i

  -- ---- a release

  module _ (rested : P → P) (p q : SeatPart (Beside P)) (s : IsSeated p) (some : held_at p.core.own ≢ None) (g : GivesBack (given_back rested) p q) where
    same_list : q.pass.list ≡ p.pass.list
    same_list = ap (λ (b : Beside P). b.list) g.pass

    same_lists : q.pass.lists ≡ p.pass.lists
    same_lists = ap (λ (b : Beside P). b.lists) g.pass

    given_others : (j : ℕ) → j ≢ p.pass.list → shown_core q j ≡ shown_core p j
    given_others = only_stays p q same_list (ap (λ (b : Beside P). b.others) g.pass)

    given_ready : (j : ℕ) → (shown_core q j).ready ≡ (shown_core p j).ready
    given_ready = ready_stays p q same_list (ap (λ (b : Beside P). b.others) g.pass) g.ready

    -- nothing stands for it any more
    back_free : q.pass.standing ≡ Free
    back_free = ap (λ (b : Beside P). b.standing) g.pass ∙ dite (ℕ_discrete p.pass.lists 1)
        (λ one. ap (λ (t : Standing). standing_back t p.pass.list) (s.one one))
        (λ many. ap (λ (b : Bool). if b then Free else p.pass.standing)
        (both_true (is_here p.pass.standing p.pass.list) (is_whole p.pass.standing p.pass.lists) (stands_here p many (s.counts some))).0)

    -- it stood in the list to which the hand is turned
    stood_here : counted_in p.pass.standing ≡ p.pass.list
    stood_here = counted_here p s.there s.one (s.counts some)

    -- and every other list of the seat is as it was
    given_only : (fast : Bool) (was now : TableId) (j : ℕ) → j ≤ length (seat_of fast (record { table = was; part = p })).further
        → j ≢ counted_in p.pass.standing
        → pools_at (seat_state_of (record { table = now; part = q })) j ≡ pools_at (seat_of fast (record { table = was; part = p })) j
    given_only fast was now j le away = let n = count_numbers (λ i. pools_of (shown_core p i)) 1 (p.pass.lists - 1) in let there = s.there in
        let less : j < p.pass.lists = omega arith in pools_shown false now q j (let e = same_lists in omega arith) ∙ (ap pools_of (given_others j
        (λ e. away (e ∙ sym stood_here))) ∙ sym (pools_shown fast was p j less))

    -- so the seat is between two calls again
    pub given_seated : IsSeated q
    given_seated = record {
      there = let t = s.there in let a = same_list in let b = same_lists in omega arith;
      current = record {
        own = subst IsSettled (sym g.own) tt;
        hand = g.hand;
        cursor = inl (g.cursor ∙ ⊎_elim (λ n. n) (λ (x : IsScanning p.core). absurd (some (ap held_at x.own))) s.current.cursor);
      };
      others = λ j away. ap (λ (v : View). v.own) (given_others j (λ e. away (e ∙ sym same_list))) ∙ s.others j (λ e. away (e ∙ sym same_list));
      counts = λ still. absurd (still (ap held_at g.own));
      free = λ none. back_free;
      one = λ e. back_free;
    }

    -- what the hand gave back its seat released
    pub seated_release : (fast : Bool) (was now : TableId) → now ≡ was → (fast ≡ true → GivesFast p.trace q.trace)
        → IsRelease rested (seat_of fast (record { table = was; part = p })) (seat_state_of (record { table = now; part = q }))
    seated_release fast was now same gives = record {
      table = same;
      number = g.number;
      held = seated_grant q given_seated ∙ ap held_at g.own;
      list = ap counted_in back_free;
      pass = ap (λ (b : Beside P). b.pass) g.pass ∙ ap (λ (b : Bool). if b then rested p.pass.pass else p.pass.pass) (s.counts some);
      ready = given_ready 0;
      further = (λ i. map ready_in (map (λ j. pools_of (shown_core q j)) (numbers_from 1 (same_lists i - 1))))
          ∙ ready_shown p q given_ready (numbers_from 1 (p.pass.lists - 1));
      only = given_only fast was now;
      scan = λ i. placed_in (same_lists i) (same_list i) (g.scan i);
      client = g.client;
      asked = g.asked;
      met = g.met;
      least = g.least;
      most = g.most;
      fast = gives;
    }

module _ {P N : Type 0} (holds : Grants → List ℕ → List P → Type 0) (allows : Grants → List ℕ → List P → ℕ → ClientStep → N → P → Type 0) (note : N)
    (h : HandState (Beside P)) {b : Bool} {s : SeatState P} (is : seat_of b h ≡ s) where
  -- a step on a client word that the seat may take its hand may take
  pub seat_allowed : (step : ClientStep) → IsAllowed holds allows note s.number s.held s.pass step
      → IsAllowed holds allows note h.part.number (shown_grant h.part) (inner_pass h.part) step
  seat_allowed step allowed = subst (λ (x : SeatState P). IsAllowed holds allows note x.number x.held x.pass step) (sym is) allowed

  -- and is made of the seat at the same moment
  pub seat_made : (step : ClientStep) (found : ℕ) (after : P) → IsMade holds allows note h.part.number (shown_grant h.part) (inner_pass h.part) step found after
      → IsMade holds allows note s.number s.held s.pass step found after
  seat_made step found after made = subst (λ (x : SeatState P). IsMade holds allows note x.number x.held x.pass step found after) is made

  -- the same of an exchange, whichever way it ended
  pub seat_exchanged : (step : ClientStep) (expected : ℕ) (after : P) (r : Result (Unit {0}) ℕ) → MatchResult r (λ _. IsMade holds allows note h.part.number
      (shown_grant h.part) (inner_pass h.part) step expected after) (λ found. (found ≢ expected) × IsMade holds allows note h.part.number (shown_grant h.part)
      (inner_pass h.part) step found after) → MatchResult r (λ _. IsMade holds allows note s.number s.held s.pass step expected after) (λ found.
      (found ≢ expected) × IsMade holds allows note s.number s.held s.pass step found after)
  seat_exchanged step expected after (Ok u) m = seat_made step expected after m
  seat_exchanged step expected after (Err found) m = (m.0, seat_made step found after m.1)
