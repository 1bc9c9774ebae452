-- A cursor that came to another word: the walk goes on there, or it has come to its end.
use Rattle.std.proofs.Common.{◌≡◌, ◌≢◌, ℕ, suc, ◌+◌, ◌-◌, ◌*◌, ◌/◌, ◌%◌, ◌^◌, ◌<◌, ◌≤◌, true, false, Bool, inl, inr, refl}
use Rattle.std.proofs.Common.{sym, ap, ◌∙◌, subst, arith, eqb-true, eq-eqb, ne_eqb}
use Rattle.std.proofs.lemmas.Bool.{eqb-false}
use Rattle.std.specs.Prelude.{Option, Some, None, is_some, ◌==◌, ◌||◌, if◌then◌else◌, min}
use Rattle.lock_core.specs.declared.range.Held.{Held}
use Rattle.lock_core.specs.declared.range.Mode.{Mode}
use Rattle.lock_core.specs.declared.range.Mode.TheVariants.{Reader, Writer}
use Rattle.lock_core.specs.declared.views.View.{View}
use Rattle.lock_core.specs.declared.views.Cursor.{Cursor}
use Rattle.lock_core.specs.declared.views.Own.{Own}
use Rattle.lock_core.specs.declared.views.Own.TheVariants.{Nothing, Filling, Linked}
use Rattle.lock_core.specs.declared.views.Todo.TheVariants.{Forward, FromHead, Done}
use Rattle.lock_core.specs.Words.{plain_node_of, node_of}
use Rattle.lock_core.specs.Nodes.{Filled, filling}
use Rattle.lock_core.specs.Views.{own_at, seen_after, todo_of}
use Rattle.lock_core.specs.Machine.{held_at}
use Rattle.lock_core.specs.Sizes.{IsViewSound}
use Rattle.epoch_pools.specs.declared.views.SeatPart.{SeatPart}
use Rattle.epoch_pools.specs.Hands.{IsHandView}
use Rattle.marked_list.specs.declared.answers.Walked.TheVariants.{Place}
use Rattle.marked_list.specs.Order.{HasEnds, OwnMayWalk, IsAhead, IsInside, StandsAt}
use Rattle.marked_list.specs.Causes.{nodes_in, IsBoundedWalk}
use Rattle.marked_list.specs.Answers.{Arrives}
use Rattle.marked_list.specs.Walking.{seen_of, has_arrived, arrival_at, GoesOn, CursorCame, IsNotSpent, HasRoom, Outcome}

-- an own node that may be compared isn't held
pub may_walk_free : (own : Own) → OwnMayWalk own → held_at own ≡ None
may_walk_free Nothing g = refl
may_walk_free (Filling node lo hi mode aimed) g = refl
may_walk_free (Linked node range Reader todo) g = ap (λ t. held_at (Linked node range Reader t)) g
may_walk_free (Linked node range Writer todo) g = ap (λ t. held_at (Linked node range Writer t)) g

-- and one that is being filled has its ends
pub may_walk_ends : (own : Own) → OwnMayWalk own → (f : Filled) → own ≡ filling f → (f.lo ≢ None) × (f.hi ≢ None)
may_walk_ends Nothing g f is = absurd (cc)
may_walk_ends (Filling node lo hi mode aimed) g f is =
    let l : f.lo ≡ Some g.lo = let e = g.is in let k = g.low in cc in let h : f.hi ≡ Some g.hi = let e = g.is in let k = g.high in cc in
    ((λ z. let q : ◌≡◌ {A = Option ℕ} (Some g.lo) None = sym l ∙ z in cc), (λ z. let q : ◌≡◌ {A = Option ℕ} (Some g.hi) None = sym h ∙ z in cc))
may_walk_ends (Linked node range mode todo) g f is = absurd (cc)

-- a node that is filled, and one that has still to be validated, may go
pub filled_may_walk : (own : Own) → HasEnds own → OwnMayWalk own
filled_may_walk own e = subst OwnMayWalk (sym e.is) (record { node = e.node; is = refl; lo = e.lo; hi = e.hi; low = e.low; high = e.high })

or_true : (b : Bool) → (b || false) ≡ true → b ≡ true
or_true true e = refl
or_true false e = e

or_false : (a b : Bool) → (a || b) ≡ false → (a ≡ false) × (b ≡ false)
or_false true b e = absurd (cc)
or_false false b e = (refl, e)

none_of : {A : Type 0} (o : Option A) → is_some o ≡ false → o ≡ None
none_of None e = refl
none_of (Some a) e = absurd (cc)

-- a cursor that isn't before a node, of a seat that holds nothing, has come to its end at the end of the list alone
at_zero : (own : Own) (c : Cursor) → c.lo ≡ None → held_at own ≡ None → has_arrived own c ≡ true → c.cur ≡ 0
at_zero own c lo free e = eqb-true _ _ (or_true (c.cur == 0)
    (ap (λ (l : Option ℕ). c.cur == 0 || is_some l) (sym lo) ∙ (ap (λ (h : Option Held). is_some h || (c.cur == 0 || is_some c.lo)) (sym free) ∙ e)))

not_there : (own : Own) (c : Cursor) → has_arrived own c ≡ false → (held_at own ≡ None) × (c.cur ≢ 0)
not_there own c e = let a = or_false _ _ e in let b = or_false _ _ a.1 in (none_of (held_at own) a.0, eqb-false _ _ b.0)

-- no validation begins as done
pub done_not : (mode : Mode) → Done ≢ todo_of mode
done_not Reader e = cc
done_not Writer e = cc

-- where nothing is held the own node stays, and a writer hasn't come to it
own_stays : (own : Own) (n : ℕ) → OwnMayWalk own → n % 2 ≡ 0 → n ≢ 0 → held_at (own_at own n) ≡ None → (own_at own n ≡ own) × IsAhead own (n / 2 - 1)
own_stays Nothing n g even d free = (refl, tt)
own_stays (Filling node lo hi mode aimed) n g even d free = (refl, tt)
own_stays (Linked node range mode Forward) n g even d free = (by_end (n == 0) free, tt)
  where
    by_end : (b : Bool) → held_at (if b then Linked node range mode Done else Linked node range mode Forward) ≡ None
        → (if b then Linked node range mode Done else Linked node range mode Forward) ≡ Linked node range mode Forward
    by_end true e = absurd (cc)
    by_end false e = refl
own_stays (Linked node range mode FromHead) n g even d free = by_own (n == 2 * suc node) refl free
  where
    by_own : (b : Bool) → (n == 2 * suc node) ≡ b → held_at (if b then Linked node range mode Done else Linked node range mode FromHead) ≡ None
        → ((if b then Linked node range mode Done else Linked node range mode FromHead) ≡ Linked node range mode FromHead) × (node ≢ n / 2 - 1)
    by_own true e f = absurd (cc)
    by_own false e f = (refl, λ same. let far = eqb-false _ _ e in far (omega arith))
own_stays (Linked node range mode Done) n g even d free = absurd (done_not mode g)

-- at its end a validation holds its range
arrives_came : (seats i : ℕ) (own : Own) (w : View) (c : Cursor) → OwnMayWalk own → w.cursor ≡ Some c → w.own ≡ own_at own c.cur
    → c.cur % 2 ≡ 0 → c.lo ≡ None → has_arrived w.own c ≡ true → IsViewSound seats i w → Arrives own w
arrives_came seats i Nothing w c g is own even lo e sound = (own, (c, is, at_zero w.own c lo (ap held_at own) e))
arrives_came seats i (Filling node low hi mode aimed) w c g is own even lo e sound =
    (own, record { cursor = c; is = is; even = even; place = inl (at_zero w.own c lo (ap held_at own) e) })
arrives_came seats i (Linked node range mode Forward) w c g is own even lo e sound = by_end (c.cur == 0) refl own
  where
    by_end : (b : Bool) → (c.cur == 0) ≡ b → w.own ≡ (if b then Linked node range mode Done else Linked node range mode Forward)
        → w.own ≡ Linked node range mode Done
    by_end true z o = o
    by_end false z o = absurd (eqb-false _ _ z (at_zero w.own c lo (ap held_at o) e))
arrives_came seats i (Linked node range mode FromHead) w c g is own even lo e sound = by_own (c.cur == 2 * suc node) own
  where
    by_own : (b : Bool) → w.own ≡ (if b then Linked node range mode Done else Linked node range mode FromHead) → w.own ≡ Linked node range mode Done
    by_own true o = o
    by_own false o = absurd (sound.not_at_end (record { node = node; range = range; mode = mode; todo = FromHead }) c o refl is
        (let z = at_zero w.own c lo (ap held_at o) e in omega arith))
arrives_came seats i (Linked node range mode Done) w c g is own even lo e sound = absurd (done_not mode g)

-- a word without the low bit that isn't the end names a node
names : (w : ℕ) → w % 2 ≡ 0 → w / 2 ≢ 0 → plain_node_of w ≡ Some (w / 2 - 1)
names w e d = ap (λ (b : Bool). if b then node_of w else None) (eq-eqb _ _ e) ∙ ap (λ (b : Bool). if b then None else Some (w / 2 - 1)) (ne_eqb _ _ d)

one_more : (a w : ℕ) → a < 2 ^ 32 - 1 → w / 2 ≢ 0 → seen_after a w ≡ a + 1
one_more a w less d = ap (λ (b : Bool). if b then a else min (a + 1) (2 ^ 32 - 1)) (ne_eqb _ _ d) ∙ (omega arith)

no_more : (a w : ℕ) → w ≡ 0 → seen_after a w ≡ a
no_more a w z = let h : w / 2 ≡ 0 = omega arith in ap (λ (b : Bool). if b then a else min (a + 1) (2 ^ 32 - 1)) (eq-eqb _ _ h)

at_most_one : (a w : ℕ) → seen_after a w ≤ a + 1
at_most_one a w = by_end (w / 2 == 0)
  where
    by_end : (b : Bool) → (if b then a else min (a + 1) (2 ^ 32 - 1)) ≤ a + 1
    by_end true = omega arith
    by_end false = omega arith

-- how many nodes the record says that the cursor has looked at
pub nodes_seen : {P : Type 0} (q : SeatPart P) → IsHandView q → (c : Cursor) → q.core.cursor ≡ Some c → nodes_in q.trace.looked ≡ c.seen
nodes_seen q view c is = let l = view.looked c is in ap nodes_in l.1 ∙ l.2

-- where the cursor came to another word, the walk goes on there, or has come to its end
pub came_outcome : {P : Type 0} (first : ℕ) (p q : SeatPart P) → CursorCame p.core q.core → OwnMayWalk p.core.own → IsInside q.core
    → IsHandView q → q.seats ≡ p.seats → HasRoom p → Outcome first p.core q (arrival_at q.core.own q.core.cursor)
came_outcome {P} first p q came go inside view seats room =
    subst (λ (o : Option Cursor). Outcome first p.core q (arrival_at q.core.own o)) (sym came.is) (by_arrival (has_arrived q.core.own came.cursor) refl)
  where
    room_left : seen_of p.core.cursor < 2 ^ 32 - 1
    room_left = let a = room.seen in let b = room.seats in omega arith

    bounded : IsBoundedWalk q
    bounded = let s = nodes_seen q view came.cursor came.is in let m = came.seen in
        let o = at_most_one (seen_of p.core.cursor) came.cursor.cur in let r = room.seen in omega arith

    within : has_arrived q.core.own came.cursor ≡ true → IsNotSpent q
    within e = by_held (held_at q.core.own) refl
      where
        by_held : (h : Option Held) → held_at q.core.own ≡ h → IsNotSpent q
        by_held None f = inl (let z = at_zero q.core.own came.cursor came.lo f e in let s = nodes_seen q view came.cursor came.is in
            let m = came.seen ∙ no_more (seen_of p.core.cursor) came.cursor.cur z in let r = room.seen in omega arith)
        by_held (Some h) f = inr ((λ z. let c : ◌≡◌ {A = Option Held} (Some h) None = sym f ∙ z in cc), bounded)

    goes : has_arrived q.core.own came.cursor ≡ false → GoesOn p.core q.core
    goes e = let t = not_there q.core.own came.cursor e in let far = t.1 in let even = came.even in
        let half : came.cursor.cur / 2 ≢ 0 = λ z. far (omega arith) in
        let stays = own_stays p.core.own came.cursor.cur go came.even t.1 (ap held_at (sym came.own) ∙ t.0) in
        let own : q.core.own ≡ p.core.own = came.own ∙ stays.0 in
        let may : OwnMayWalk q.core.own = subst OwnMayWalk (sym own) go in
        let ahead = subst (λ (o : Own). IsAhead o (came.cursor.cur / 2 - 1)) (sym own) stays.1 in
        let at = names came.cursor.cur came.even half in let node = came.cursor.cur / 2 - 1 in let stands : StandsAt q.core =
        record { inside = inside; own = may; cursor = came.cursor; is = came.is; node = node; at = at; ahead = ahead } in
        assumption (stands, ap seen_of came.is ∙ (came.seen ∙ one_more (seen_of p.core.cursor) came.cursor.cur room_left half))

    by_arrival : (b : Bool) → has_arrived q.core.own came.cursor ≡ b → Outcome first p.core q (if b then Some Place else None)
    by_arrival true e = (arrives_came q.seats q.number p.core.own q.core came.cursor go came.is came.own came.even came.lo e view.sound, within e)
    by_arrival false e = goes e
