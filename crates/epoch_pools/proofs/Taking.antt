-- What the steps of take leave: the first ready node is the own node, a home word was read, or an epoch was. What is
-- known of one node or of one seat stays known while others are looked at.
use Rattle.std.proofs.Common.{◌≡◌, ◌≢◌, ◌⊎◌, ℕ, zero, suc, ◌+◌, ◌/◌, ◌%◌, ◌<◌, ◌≤◌, Bool, true, false, List, [], ◌∷◌, ◌++◌, take, drop, length, cond, Some}
use Rattle.std.proofs.Common.{None, inl, inr, ⊎_elim, refl, sym, ap, ◌∙◌, subst, arith, eqb-true, eq-eqb, ne_eqb, add-one}
use Rattle.std.specs.Prelude.{Option, slice_get, slice_set, unwrap_or, is_some, ◌==◌, ◌&&◌, ◌||◌, not, if◌then◌else◌, find}
use Rattle.std.specs.List.{list_all}
use Rattle.std.proofs.lemmas.Bool.{cases_eq, eqb-false}
use Rattle.std.proofs.lemmas.Option.{unwrap_or-slice_get}
use Rattle.std.proofs.lemmas.List.{get_or-set_same, get_or-set_other}
use Rattle.view_lists.specs.Counted.{times, without, is_empty, are_others_passed}
use Rattle.lock_core.specs.declared.range.Held.{Held}
use Rattle.lock_core.specs.declared.views.View.{View}
use Rattle.lock_core.specs.declared.views.Cursor.{Cursor}
use Rattle.lock_core.specs.declared.views.Own.{Own}
use Rattle.lock_core.specs.declared.views.Own.TheVariants.{Nothing}
use Rattle.lock_core.specs.declared.steps.Step.{Step}
use Rattle.lock_core.specs.declared.steps.Step.TheVariants.{ReadEpoch, ReadHome}
use Rattle.lock_core.specs.Nodes.{own_times}
use Rattle.lock_core.specs.Views.{is_passed, note_of, passes, noted, looked_at, released, epoch_read, came_home, home_read}
use Rattle.lock_core.specs.StepTable.{Plan, IsLine, read_epoch, read_home}
use Rattle.lock_core.specs.Machine.{held_at}
use Rattle.lock_core.specs.Sizes.{IsViewSized}
use Rattle.lock_core.specs.Operations.{planned, IsEnabled}
use Rattle.lock_core.proofs.Counts.{times_joined, times_itself, without_none, without_some}
use Rattle.lock_core.proofs.Enabled.{line_of}
use Rattle.lock_core.proofs.Table.{plan_of_line, both, together}
use Rattle.epoch_pools.specs.declared.record.Away.{Away}
use Rattle.epoch_pools.specs.declared.record.Noted.{Noted}
use Rattle.epoch_pools.specs.declared.record.Record.{Record}
use Rattle.epoch_pools.specs.declared.views.SeatPart.{SeatPart}
use Rattle.epoch_pools.specs.Record.{KeepsOccupied, asked_after, noted_after, looked_with, is_judging, gained_by}
use Rattle.epoch_pools.specs.Running.{pass_kept, Enables, part_after, core_after}
use Rattle.epoch_pools.specs.declared.stuck.Stuck.{Stuck}
use Rattle.epoch_pools.specs.declared.stuck.Stuck.TheVariants.{Inside, Away as IsAway}
use Rattle.epoch_pools.specs.Pools.{IsWhole, IsPooled}
use Rattle.epoch_pools.specs.Taking.{IsFree, IsPoolCall, IsLooking, IsReadAway, IsReadInside, IsHomeLook, IsHomeKnown, IsSeatKnown, IsEpochLook, IsBarred}
use Rattle.epoch_pools.specs.Taking.{IsFirstInside, IsInside, IsHeldUp, IsStuck, TakesFirst, TakesFilled}
use Rattle.epoch_pools.proofs.Stepping.{occupied_kept, occupied_on}

-- ---- the last entry with a key

find_skip : {A : Type 0} (key : A → ℕ) (a : A) (l : List A) (x : ℕ) → key a ≢ x → find (λ b. key b == x) (a ∷ l) ≡ find (λ b. key b == x) l
find_skip key a l x d = ap (λ (t : Bool). cond t (Some a) (find (λ b. key b == x) l)) (ne_eqb (key a) x d)

find_here : {A : Type 0} (key : A → ℕ) (a : A) (l : List A) → find (λ b. key b == key a) (a ∷ l) ≡ Some a
find_here key a l = ap (λ (t : Bool). cond t (Some a) (find (λ b. key b == key a) l)) (eq-eqb (key a) (key a) refl)

-- ---- a step of a hand that holds nothing

pass_none : {P : Type 0} (rested : P → P) (own : Own) (now : Option Held) (pass : P) → own ≡ Nothing → pass_kept rested (held_at own) now pass ≡ pass
pass_none rested own now pass e = ap (λ (o : Own). pass_kept rested (held_at o) now pass) e

-- without a cursor before and after, what the last one looked at stays
none_looked : (t : Record) (before now : Option Cursor) (judging gained : Bool) → before ≡ None → now ≡ before
    → looked_with t before now judging gained ≡ t.looked
none_looked t before now judging gained none same = ap (λ (o : Option Cursor). looked_with t before o judging gained) (same ∙ none) ∙ gone before
  where
    gone : (b : Option Cursor) → looked_with t b None judging gained ≡ t.looked
    gone None = refl
    gone (Some c) = refl

-- a step of a seat that holds nothing, and which leaves epoch, cursor and hand and fills no node, is one of a pool call
pub pool_call : {P : Type 0} (rested : P → P) (p q : SeatPart P) (step : Step) (w : ℕ) (u : View) → q ≡ part_after rested p step w
    → p.core.own ≡ Nothing → q.core ≡ u
    → u.epoch ≡ p.core.epoch → u.cursor ≡ p.core.cursor → u.hand ≡ p.core.hand → asked_after p.trace p.core step ≡ p.trace.asked → IsPoolCall p q
pool_call {P} rested p q step w u made own core epoch cursor hand asks = let now = ap (λ (x : SeatPart P). x.core) (sym made) ∙ core in
    let pass = pass_none rested p.core.own (held_at (core_after p step w).own) p.pass own in let later : p.trace.taken ≤ p.trace.taken + 1 = omega arith in
    let looked = λ (none : p.core.cursor ≡ None). none_looked p.trace p.core.cursor (core_after p step w).cursor (is_judging step)
    (gained_by p.core (core_after p step w)) none (ap (λ (v : View). v.cursor) now ∙ cursor) in
    let epochs = ap (λ (v : View). v.epoch) now ∙ epoch in let cursors = ap (λ (v : View). v.cursor) now ∙ cursor in
    let hands = ap (λ (v : View). v.hand) now ∙ hand in let occupied = occupied_kept p.trace step w in
    subst (λ (x : SeatPart P). IsPoolCall p x) (sym made) assumption

-- a call without a step is a pool call
pub no_call : {P : Type 0} (p : SeatPart P) → IsPoolCall p p
no_call p = let taken : p.trace.taken ≤ p.trace.taken = omega arith in let occupied : KeepsOccupied p.trace p.trace = ([], refl) in assumption

-- two pool calls, one after the other, are one
pub both_calls : {P : Type 0} (p q r : SeatPart P) → IsPoolCall p q → IsPoolCall q r → IsPoolCall p r
both_calls p q r a b = let taken : p.trace.taken ≤ r.trace.taken = (let x = a.taken in let y = b.taken in omega arith) in
    let looked = λ (none : p.core.cursor ≡ None). b.looked (a.cursor ∙ none) ∙ a.looked none in
    let epoch = b.epoch ∙ a.epoch in let cursor = b.cursor ∙ a.cursor in let hand = b.hand ∙ a.hand in let pass = b.pass ∙ a.pass in
    let occupied = occupied_on p.trace q.trace r.trace a.occupied b.occupied in
    assumption (b.number ∙ a.number, b.seats ∙ a.seats, b.client ∙ a.client, b.list ∙ a.list, b.asked ∙ a.asked)

-- a call without a step is a look
pub no_look : {P : Type 0} (p : SeatPart P) → IsLooking p p
no_look p = record { call = no_call p; own = refl }

-- two looks, one after the other, are one
pub both_looks : {P : Type 0} (p q r : SeatPart P) → IsLooking p q → IsLooking q r → IsLooking p r
both_looks p q r a b = record { call = both_calls p q r a.call b.call; own = b.own ∙ a.own }

-- ---- a look at a home word

read_home_on : (seats s : ℕ) (v : View) (n w : ℕ) → IsEnabled seats s v (ReadHome n) → (planned seats s v (ReadHome n)).view w ≡ home_read seats v n w
read_home_on seats s v n w may = by_line _ (line_of seats s v (ReadHome n) may)
  where
    by_line : (p : Plan) → IsLine seats s v (ReadHome n) p → p.view w ≡ home_read seats v n w
    by_line p (read_home m even used new) = refl

module _ {P : Type 0} (rested : P → P) (p q : SeatPart P) (n w : ℕ) (free : IsFree p.core) (may : Enables p (ReadHome n))
    (made : q ≡ part_after rested p (ReadHome n) w) where
  abbrev entry : Away
  entry = record { node = n; list = p.trace.list; step = p.trace.taken }

  abbrev came : View
  came = came_home p.seats p.core n

  core : q.core ≡ (if w == 1 then (if p.seats == 1 then released came else came) else p.core)
  core = ap (λ (x : SeatPart P). x.core) made ∙ read_home_on p.seats p.number p.core n w may

  away : q.trace.away ≡ (if w == 1 then p.trace.away else entry ∷ p.trace.away)
  away = ap (λ (x : SeatPart P). x.trace.away) made

  later : q.trace.taken ≡ p.trace.taken + 1
  later = ap (λ (x : SeatPart P). x.trace.taken) made

  joined : (x : ℕ) → times x (p.core.homes ++ n ∷ []) ≡ times x p.core.homes + times x (n ∷ [])
  joined x = times_joined x p.core.homes (n ∷ [])

  -- the used nodes without those that are ready now
  left_out : (x : ℕ) → times x (without (p.core.homes ++ n ∷ []) p.core.used) ≤ times x p.core.used
  left_out x = ⊎_elim (λ (z : times x (p.core.homes ++ n ∷ []) ≡ 0). let a = without_none x (p.core.homes ++ n ∷ []) p.core.used z in omega arith)
      (λ (d : times x (p.core.homes ++ n ∷ []) ≢ 0). let a = without_some x (p.core.homes ++ n ∷ []) p.core.used (omega arith) in omega arith)
      (cases_eq (times x (p.core.homes ++ n ∷ [])) 0)

  -- and tells whether its node came home
  pub home_look : IsHomeLook p q n
  home_look = split (w == 1) (p.seats == 1) core away
    where
      split : (b c : Bool) → q.core ≡ (if b then (if c then released came else came) else p.core)
          → q.trace.away ≡ (if b then p.trace.away else entry ∷ p.trace.away) → IsHomeLook p q n
      split true true e e' = record {
        used = λ x. let u = ap (λ (v : View). times x v.used) e in let l = left_out x in omega arith;
        homes = λ x h u. absurd (let k = ap (λ (v : View). times x v.used) e in let j = joined x in
            let z = without_some x (p.core.homes ++ n ∷ []) p.core.used (omega arith) in omega arith);
        away = λ x d. ap (λ (l : List Away). find (λ a. a.node == x) l) e';
        this = λ u. absurd (let k = ap (λ (v : View). times n v.used) e in let j = joined n in let o = times_itself n in
            let z = without_some n (p.core.homes ++ n ∷ []) p.core.used (omega arith) in omega arith);
      }
      split true false e e' = record {
        used = λ x. let u = ap (λ (v : View). times x v.used) e in omega arith;
        homes = λ x h u. let k = ap (λ (v : View). times x v.homes) e in let j = joined x in omega arith;
        away = λ x d. ap (λ (l : List Away). find (λ a. a.node == x) l) e';
        this = λ u. inl (let k = ap (λ (v : View). times n v.homes) e in let j = joined n in let o = times_itself n in omega arith);
      }
      split false c e e' = record {
        used = λ x. let u = ap (λ (v : View). times x v.used) e in omega arith;
        homes = λ x h u. let k = ap (λ (v : View). times x v.homes) e in omega arith;
        away = λ x d. ap (λ (l : List Away). find (λ a. a.node == x) l) e' ∙ find_skip (λ (a : Away). a.node) entry p.trace.away x (λ s. d (sym s));
        this = λ u. let last = ap (λ (l : List Away). find (λ a. a.node == n) l) e' ∙ find_here (λ (a : Away). a.node) entry p.trace.away in
            let from : p.trace.taken ≤ p.trace.taken = omega arith in let before : p.trace.taken < q.trace.taken = (let t = later in omega arith) in
            inr (record { entry = entry; last = last; listed = refl; from = from; before = before });
      }

-- what is known of the nodes that were looked at stays known, and this node is known
pub home_known : {P : Type 0} (p q r : SeatPart P) (n x : ℕ) → q.trace.list ≡ p.trace.list → p.trace.taken ≤ q.trace.taken
    → q.trace.taken ≤ r.trace.taken → IsHomeLook q r n → (x ≢ n → IsHomeKnown p q x) → IsHomeKnown p r x
home_known p q r n x same from on look known used = ⊎_elim
    (λ (e : x ≡ n). subst (λ y. (1 ≤ times y r.core.homes) ⊎ IsReadAway p.trace.list p.trace.taken r.trace.taken r.trace.away y) (sym e) (⊎_elim
    (λ (h : 1 ≤ times n r.core.homes). inl h)
    (λ (a : IsReadAway q.trace.list q.trace.taken r.trace.taken r.trace.away n). inr
    (record { entry = a.entry; last = a.last; listed = a.listed ∙ same; from = let f = a.from in omega arith; before = a.before }))
    (look.this (subst (λ y. 1 ≤ times y r.core.used) e used))))
    (λ (d : x ≢ n). ⊎_elim (λ (h : 1 ≤ times x q.core.homes). inl (look.homes x h used))
    (λ (a : IsReadAway p.trace.list p.trace.taken q.trace.taken q.trace.away x). inr
    (record { entry = a.entry; last = look.away x d ∙ a.last; listed = a.listed; from = a.from; before = let b = a.before in omega arith }))
    (known d (let u = look.used x in omega arith))) (cases_eq x n)

-- ---- a look at an epoch

read_epoch_on : (seats s : ℕ) (v : View) (j w : ℕ) → IsEnabled seats s v (ReadEpoch j) → (planned seats s v (ReadEpoch j)).view w ≡ epoch_read s v j w
read_epoch_on seats s v j w may = by_line _ (line_of seats s v (ReadEpoch j) may)
  where
    by_line : (p : Plan) → IsLine seats s v (ReadEpoch j) p → p.view w ≡ epoch_read s v j w
    by_line p (read_epoch k even some less other) = refl

-- a free hand whose nodes wait may read the epoch of each other seat
pub may_read_epoch : (seats s : ℕ) (v : View) (j : ℕ) → IsFree v → v.homes ≢ [] → j < seats → j ≢ s → IsEnabled seats s v (ReadEpoch j)
may_read_epoch seats s v j free some less other = ap is_some (plan_of_line seats s v (ReadEpoch j) _ (read_epoch j free.outside some less other))

set_else : {A : Type 0} (l : List A) (j k : ℕ) (a d : A) → k ≢ j → unwrap_or (slice_get (slice_set l j a) k) d ≡ unwrap_or (slice_get l k) d
set_else l j k a d ne = unwrap_or-slice_get (slice_set l j a) k d ∙ (get_or-set_other l j k a d ne ∙ sym (unwrap_or-slice_get l k d))

set_here : {A : Type 0} (l : List A) (j : ℕ) (a d : A) → j < length l → unwrap_or (slice_get (slice_set l j a) j) d ≡ a
set_here l j a d less = unwrap_or-slice_get (slice_set l j a) j d ∙ get_or-set_same l j a d less

-- what noting the epoch of seat j leaves of the view
record IsLooked (v : View) (j w : ℕ) (u : View) : Type 0 where
  -- all but the flags and the notes stays
  pub rest : u ≡ record v { passed = u.passed; notes = u.notes }
  -- other seats are passed as before
  pub passed : (k : ℕ) → k ≢ j → is_passed u k ≡ is_passed v k
  -- the notes of other seats stay
  pub notes : (k : ℕ) → k ≢ j → note_of u k ≡ note_of v k
  -- seat j is passed, or it isn't and this odd epoch is noted of it
  pub this : (is_passed u j ≡ true) ⊎ ((w % 2 ≡ 1) × (is_passed u j ≡ false) × (note_of u j ≡ Some w))

module _ (v : View) (j w : ℕ) (flags : j < length v.passed) (noting : j < length v.notes) where
  passing : IsLooked v j w (passes v j)
  passing = record { rest = refl; passed = λ k d. set_else v.passed j k true false d; notes = λ k d. refl; this = inl (set_here v.passed j true false flags) }

  staying : (is_passed v j ≡ true) ⊎ ((w % 2 ≡ 1) × (is_passed v j ≡ false) × (note_of v j ≡ Some w)) → IsLooked v j w v
  staying this = record { rest = refl; passed = λ k d. refl; notes = λ k d. refl; this = this }

  noting_it : w % 2 ≡ 1 → is_passed v j ≡ false → IsLooked v j w (noted v j w None)
  noting_it odd unpassed = record {
    rest = refl;
    passed = λ k d. refl;
    notes = λ k d. set_else v.notes j k (Some w) None d;
    this = inr (odd, unpassed, set_here v.notes j (Some w) None noting);
  }

  looked : IsLooked v j w (looked_at v j w)
  looked = by_passed (is_passed v j) refl
    where
      by_same : (n : ℕ) (b : Bool) → note_of v j ≡ Some n → is_passed v j ≡ false → w % 2 ≡ 1 → (n == w) ≡ b → IsLooked v j w (if b then v else passes v j)
      by_same n true note unpassed odd e = staying (inr (odd, unpassed, note ∙ ap (λ m. Some m) (eqb-true n w e)))
      by_same n false note unpassed odd e = passing

      by_note : (o : Option ℕ) → note_of v j ≡ o → is_passed v j ≡ false → w % 2 ≡ 1 → IsLooked v j w (noted v j w o)
      by_note None note unpassed odd = noting_it odd unpassed
      by_note (Some n) note unpassed odd = by_same n (n == w) note unpassed odd refl

      by_even : (b : Bool) → (w % 2 == 0) ≡ b → is_passed v j ≡ false → IsLooked v j w (if b then passes v j else noted v j w (note_of v j))
      by_even true e unpassed = passing
      by_even false e unpassed = let d = eqb-false _ _ e in by_note (note_of v j) refl unpassed (omega arith)

      by_passed : (b : Bool) → is_passed v j ≡ b → IsLooked v j w (if b then v else if w % 2 == 0 then passes v j else noted v j w (note_of v j))
      by_passed true e = staying (inl e)
      by_passed false e = by_even (w % 2 == 0) refl e

none_after : (a b : List ℕ) → a ++ b ≡ [] → b ≡ []
none_after [] b e = e
none_after (x ∷ a) b e = absurd (cc)

module _ {P : Type 0} (rested : P → P) (p q : SeatPart P) (j w : ℕ) (free : IsFree p.core) (may : Enables p (ReadEpoch j))
    (made : q ≡ part_after rested p (ReadEpoch j) w) (flags : j < length p.core.passed) (noting : j < length p.core.notes) where
  abbrev u : View
  u = looked_at p.core j w

  l : IsLooked p.core j w u
  l = looked p.core j w flags noting

  epoch_core : q.core ≡ (if are_others_passed p.number u.passed then released u else u)
  epoch_core = ap (λ (x : SeatPart P). x.core) made ∙ read_epoch_on p.seats p.number p.core j w may

  abbrev heard : Noted
  heard = record { seat = j; epoch = w; list = p.trace.list; step = p.trace.taken }

  noted_now : q.trace.noted ≡ (if w % 2 == 0 || is_passed q.core j then p.trace.noted else heard ∷ p.trace.noted)
  noted_now = ap (λ (x : SeatPart P). x.trace.noted) made
      ∙ ap (λ (v : View). noted_after p.trace v (ReadEpoch j) w) (sym (ap (λ (x : SeatPart P). x.core) made))

  epoch_later : q.trace.taken ≡ p.trace.taken + 1
  epoch_later = ap (λ (x : SeatPart P). x.trace.taken) made

  -- a ReadEpoch is a look
  pub epoch_looking : IsLooking p q
  epoch_looking = split (are_others_passed p.number u.passed) epoch_core
    where
      by : (x : View) → x ≡ record u { ready = x.ready; used = x.used; homes = x.homes } → q.core ≡ x → IsLooking p q
      by x same e = let all = same ∙ ap (λ (v : View). record v { ready = x.ready; used = x.used; homes = x.homes }) l.rest in record {
        call = pool_call rested p q (ReadEpoch j) w x made free.own e (ap (λ (v : View). v.epoch) all) (ap (λ (v : View). v.cursor) all)
            (ap (λ (v : View). v.hand) all) refl;
        own = ap (λ (v : View). v.own) (e ∙ all);
      }

      split : (b : Bool) → q.core ≡ (if b then released u else u) → IsLooking p q
      split true e = by (released u) refl e
      split false e = by u refl e

  noted_else : (k : ℕ) → k ≢ j → find (λ n. n.seat == k) q.trace.noted ≡ find (λ n. n.seat == k) p.trace.noted
  noted_else k d = split (w % 2 == 0 || is_passed q.core j) noted_now
    where
      split : (b : Bool) → q.trace.noted ≡ (if b then p.trace.noted else heard ∷ p.trace.noted)
          → find (λ n. n.seat == k) q.trace.noted ≡ find (λ n. n.seat == k) p.trace.noted
      split true e = ap (λ (ns : List Noted). find (λ n. n.seat == k) ns) e
      split false e = ap (λ (ns : List Noted). find (λ n. n.seat == k) ns) e ∙ find_skip (λ (n : Noted). n.seat) heard p.trace.noted k (λ s. d (sym s))

  seat_this : q.core ≡ u → IsSeatKnown p q j
  seat_this e = ⊎_elim (λ (t : is_passed u j ≡ true). inl (ap (λ (v : View). is_passed v j) e ∙ t))
      (λ (t : (w % 2 ≡ 1) × (is_passed u j ≡ false) × (note_of u j ≡ Some w)).
      let unpassed : is_passed q.core j ≡ false = ap (λ (v : View). is_passed v j) e ∙ t.1 in
      let odd : (w % 2 == 0) ≡ false = let o = t.0 in ne_eqb _ _ (λ z. omega arith) in
      let test : (w % 2 == 0 || is_passed q.core j) ≡ false = λ i. odd i || unpassed i in
      let is : q.trace.noted ≡ heard ∷ p.trace.noted = noted_now ∙ ap (λ (b : Bool). if b then p.trace.noted else heard ∷ p.trace.noted) test in
      let last = ap (λ (ns : List Noted). find (λ n. n.seat == j) ns) is ∙ find_here (λ (n : Noted). n.seat) heard p.trace.noted in
      let from : p.trace.taken ≤ p.trace.taken = omega arith in let before : p.trace.taken < q.trace.taken = (let n = epoch_later in omega arith) in
      let only = ap (λ (v : View). note_of v j) e ∙ t.2 in
      inr (record { entry = heard; last = last; listed = refl; from = from; before = before; odd = t.0; only = only; inside = unpassed })) l.this

  -- after it the candidates are ready, or they wait on and it is known of that seat whether it is inside
  pub epoch_look : p.core.homes ≢ [] → IsEpochLook p q j
  epoch_look some = split (are_others_passed p.number u.passed) refl epoch_core
    where
      split : (b : Bool) → are_others_passed p.number u.passed ≡ b → q.core ≡ (if b then released u else u) → IsEpochLook p q j
      split true all e = inl (λ none. some (sym (ap (λ (v : View). v.homes) l.rest) ∙ none_after u.ready u.homes (sym (ap (λ (v : View). v.ready) e) ∙ none)))
      split false all e = inr (record {
        waiting = record {
          ready = ap (λ (v : View). v.ready) (e ∙ l.rest);
          used = ap (λ (v : View). v.used) (e ∙ l.rest);
          homes = ap (λ (v : View). v.homes) (e ∙ l.rest);
          barred = ap (λ (x : SeatPart P). are_others_passed x.number q.core.passed) made ∙ (ap (λ (v : View). are_others_passed p.number v.passed) e ∙ all);
        };
        passed = λ k d. ap (λ (v : View). is_passed v k) e ∙ l.passed k d;
        notes = λ k d. ap (λ (v : View). note_of v k) e ∙ l.notes k d;
        noted = noted_else;
        this = seat_this e;
      })

-- what this call knows of a seat is known since an earlier moment of it
pub seat_known_since : {P : Type 0} (p q r : SeatPart P) (k : ℕ) → q.trace.list ≡ p.trace.list → p.trace.taken ≤ q.trace.taken → IsSeatKnown q r k
    → IsSeatKnown p r k
seat_known_since p q r k same from known = ⊎_elim (λ (t : is_passed r.core k ≡ true). inl t)
    (λ (a : IsReadInside q.trace.list q.trace.taken r.trace.taken r.trace.noted r.core k).
    let from : p.trace.taken ≤ a.entry.step = (let f = a.from in omega arith) in let same_list = a.listed ∙ same in
    inr (record { entry = a.entry; last = a.last; listed = same_list; from = from; before = a.before; odd = a.odd; only = a.only; inside = a.inside })) known

-- a seat that is known and isn't passed has a note
pub known_note : {P : Type 0} (p q : SeatPart P) (k : ℕ) → IsSeatKnown p q k → is_passed q.core k ≡ false
    → IsReadInside p.trace.list p.trace.taken q.trace.taken q.trace.noted q.core k
known_note p q k known unpassed = ⊎_elim (λ (t : is_passed q.core k ≡ true). absurd (let e = sym unpassed ∙ t in cc))
    (λ (a : IsReadInside p.trace.list p.trace.taken q.trace.taken q.trace.noted q.core k). a) known

-- ---- where each other seat is passed all others are

all_set : (l : List Bool) → ((k : ℕ) → k < length l → unwrap_or (slice_get l k) false ≡ true) → list_all (λ b. b) l ≡ true
all_set [] h = refl
all_set (x ∷ xs) h = together x (list_all (λ b. b) xs) (h 0 (omega arith)) (all_set xs (λ k less. h (suc k) (omega arith)))

others_set : (s : ℕ) (l : List Bool) → ((k : ℕ) → k < length l → k ≢ s → unwrap_or (slice_get l k) false ≡ true)
    → (list_all (λ b. b) (take s l) && list_all (λ b. b) (drop (suc s) l)) ≡ true
others_set zero [] h = refl
others_set (suc s) [] h = refl
others_set zero (x ∷ l) h = all_set l (λ k less. h (suc k) (omega arith) (λ z. omega arith))
others_set (suc s) (x ∷ l) h = let t = both _ _ (others_set s l (λ k less d. h (suc k) (omega arith) (λ z. d (omega arith)))) in
    together _ _ (together x _ (h 0 (omega arith) (λ z. omega arith)) t.0) t.1

-- where each other seat is passed, the flags of all others are set
pub all_passed : (s : ℕ) (v : View) → ((k : ℕ) → k < length v.passed → k ≢ s → is_passed v k ≡ true) → are_others_passed s v.passed ≡ true
all_passed s v h = (λ z. list_all (λ b. b) (take s v.passed) && list_all (λ b. b) (drop (add-one s z) v.passed)) ∙ others_set s v.passed h

-- ---- what the answers say

-- a hand with a node that waits isn't alone
pub not_alone : (seats i : ℕ) (v : View) → IsPooled seats i v → v.homes ≢ [] → i < seats → 1 < seats
not_alone seats i v pooled some less = ⊎_elim (λ (one : seats ≡ 1). absurd (some (pooled.alone one))) (λ (d : seats ≢ 1). omega arith) (cases_eq seats 1)

-- a list that isn't found empty has a node
pub some_left : (l : List ℕ) → not (is_empty l) ≡ true → l ≢ []
some_left [] e = absurd (cc)
some_left (n ∷ l) e = λ q. cc

some_home : (l : List ℕ) → l ≢ [] → (x : ℕ) × (1 ≤ times x l)
some_home [] d = absurd (d refl)
some_home (x ∷ xs) d = (x, let one : ◌≡◌ {A = ℕ} (if x == x then 1 else 0) 1 = ap (λ (b : Bool). if b then 1 else 0) (eq-eqb x x refl) in omega arith)

-- the first seat that isn't passed holds the nodes up that wait
pub held_up_by : {P : Type 0} (p q r : SeatPart P) (seat epoch : ℕ)
    → q.trace.list ≡ p.trace.list → p.trace.taken ≤ q.trace.taken → IsBarred q r → q.core.homes ≢ []
    → IsViewSized r.seats r.number r.core → IsFirstInside r.core r.seats r.number seat epoch → IsHeldUp p r seat epoch
held_up_by p q r seat epoch same from barred some sized first = let h = some_home r.core.homes (λ none. some (sym barred.waiting.homes ∙ none)) in
    let read = known_note p r seat (seat_known_since p q r seat same from (barred.known seat first.there first.other)) first.inside in
    let used : 1 ≤ times h.0 r.core.used = (let u = sized.nodes.homes_used h.0 in let o = h.1 in omega arith) in
    let epoch_is : read.entry.epoch ≡ epoch = (let only = sym read.only ∙ first.note in cc) in
    record { node = h.0; home = h.1; used = used; there = first.there; other = first.other; read = read; epoch_is = epoch_is; lowest = first.lowest }

-- the seat that the hand finds in its own view is a cause why the call gives no node
pub stuck_on : {P : Type 0} (p q r : SeatPart P) (s : Stuck) → q.trace.list ≡ p.trace.list → p.trace.taken ≤ q.trace.taken → IsBarred q r → q.core.homes ≢ []
    → IsViewSized r.seats r.number r.core → IsInside r s → IsStuck p r s
stuck_on p q r (Inside seat epoch) same from barred some sized first = held_up_by p q r seat epoch same from barred some sized first
stuck_on p q r (IsAway node) same from barred some sized first = absurd first

-- a node that is taken after looks was made ready by them
pub takes_filled : {P : Type 0} (p q r : SeatPart P) (n : ℕ) → IsLooking p q → p.core.ready ≡ [] → p.core.own ≡ Nothing
    → IsWhole p.number p.core → IsWhole q.number q.core → TakesFirst q r n → TakesFilled p r n
takes_filled {P} p q r n look empty own was is first = record {
  empty = empty;
  nodes = λ x. let none = ap (times x) empty in let before = was x in let after = is x in let own_p = ap (own_times x) own in
      let own_q = ap (own_times x) (look.own ∙ own) in let ready = ap (times x) first.ready in
      let left = ap (λ (v : View). times x v.ready) first.core in let used = ap (λ (v : View). times x v.used) first.core in
      let seat : ◌≡◌ {A = ℕ} (if x / 16 == q.number then 1 else 0) (if x / 16 == p.number then 1 else 0) =
      ap (λ (m : ℕ). if x / 16 == m then 1 else 0) look.call.number in omega arith;
}
