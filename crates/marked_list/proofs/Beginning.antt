-- How a walk begins: the cursor is made, and a head with the low bit is settled.
use Rattle.std.proofs.Common.{◌≡◌, ◌≢◌, ℕ, ◌+◌, ◌-◌, ◌*◌, ◌/◌, ◌%◌, ◌^◌, ◌≤◌, ◌<◌, true, false, Bool, refl, sym, ap, ◌∙◌, subst, arith, eq-eqb, ne_eqb}
use Rattle.std.specs.Prelude.{Option, Some, None, is_some, min, ◌==◌, if◌then◌else◌}
use Rattle.lock_core.specs.declared.views.View.{View}
use Rattle.lock_core.specs.declared.views.Cursor.{Cursor}
use Rattle.lock_core.specs.declared.views.Own.{Own}
use Rattle.lock_core.specs.declared.views.Own.TheVariants.{Nothing, Filling, Linked}
use Rattle.lock_core.specs.declared.views.Todo.TheVariants.{Forward, FromHead, Done}
use Rattle.lock_core.specs.declared.steps.Step.TheVariants.{Walk, Settle}
use Rattle.lock_core.specs.Words.{cell_place, cell_of}
use Rattle.lock_core.specs.Nodes.{listed_of}
use Rattle.lock_core.specs.Views.{walk_cell, walked, came_to, start_of, own_at, seen_after, settled, dropped}
use Rattle.lock_core.specs.StepTable.{Plan, IsLine, loads, exchanges, walk, settle}
use Rattle.lock_core.specs.Machine.{held_at}
use Rattle.lock_core.specs.Sizes.{IsViewSound}
use Rattle.epoch_pools.specs.declared.views.SeatPart.{SeatPart}
use Rattle.epoch_pools.specs.Record.{looked_with, is_judging, gained_by}
use Rattle.epoch_pools.specs.Running.{Enables, part_after, Told}
use Rattle.epoch_pools.specs.Hands.{IsHandView}
use Rattle.marked_list.specs.declared.answers.Lost.{Lost}
use Rattle.marked_list.specs.Order.{OwnMayWalk, IsInside}
use Rattle.marked_list.specs.Leaves.{IsSamePools, IsNewWalk}
use Rattle.marked_list.specs.Walking.{seen_of, arrival_at, HasRoom, MayBeginWalk, IsAtOddHead, IsCursorMade, IsSettled, IsFailed, Outcome}
use Rattle.marked_list.specs.Causes.{judged_in}
use Rattle.marked_list.proofs.Lines.{enables, line_is, Made, made_by, IsStepFrom, made_of, same_walk, same_judged, on_made}
use Rattle.marked_list.proofs.Arriving.{may_walk_free, done_not, came_outcome}
use Rattle.marked_list.proofs.Moments.{seat_count, found_even}
use Rattle.marked_list.proofs.Unlinking.{failed}

module _ {P : Type 0} (p : SeatPart P) (may : MayBeginWalk p.core) where
  abbrev out_plan : Plan
  out_plan = loads (cell_place p.seats (cell_of (start_of p.core.own))) (walked p.core p.core.cursor)

  out_line : IsLine p.seats p.number p.core Walk out_plan
  out_line = walk (cell_of (start_of p.core.own)) may.inside.odd may.inside.hand (ap (walk_cell p.core.own) may.cursor)

  -- where a walk may begin, the cursor may be made
  pub may_make_cursor : Enables p Walk
  may_make_cursor = enables p Walk out_plan out_line

  module _ (rested : P → P) (q : SeatPart P) (w : ℕ) (made : q ≡ part_after rested p Walk w) (seats : ℕ) (told : Told seats p Walk w) where
    abbrev first_cursor : Cursor
    first_cursor = record { prev = start_of p.core.own; cur = w; next = None; lo = None; seen = seen_after 0 w }

    m : Made rested p q Walk out_plan w
    m = made_by rested p q Walk out_plan w out_line made

    view_is : out_plan.view w ≡ came_to p.core (start_of p.core.own) w 0
    view_is = ap (λ (o : Option Cursor). walked p.core o w) may.cursor

    core : q.core ≡ came_to p.core (start_of p.core.own) w 0
    core = m.core ∙ view_is

    sound : IsViewSound p.seats p.number q.core
    sound = subst (IsViewSound p.seats p.number) (sym (ap (λ (x : SeatPart P). x.core) made)) told.sound

    -- a linked node's seat doesn't find the low bit
    unlinked : w % 2 ≡ 1 → listed_of p.core.own ≡ None
    unlinked odd = by_own p.core.own may.own refl
      where
        by_own : (own : Own) → OwnMayWalk own → p.core.own ≡ own → listed_of own ≡ None
        by_own Nothing g e = refl
        by_own (Filling node lo hi mode aimed) g e = refl
        by_own (Linked node range mode Forward) g e = let head = sound.at_head first_cursor (ap (λ (v : View). v.cursor) core) odd in
            absurd (let h : ◌≡◌ {A = Option ℕ} (Some node) None = sym (ap start_of e) ∙ head.0 in cc)
        by_own (Linked node range mode FromHead) g e =
            absurd (found_even p w (record { node = node; range = range; mode = mode; todo = FromHead }) (told.moment (λ x. x))
            (ap (λ (x : Plan). x.place) (line_is p Walk out_plan out_line) ∙ ap (λ (o : Own). cell_place p.seats (cell_of (start_of o))) e) e (λ z. cc) odd)
        by_own (Linked node range mode Done) g e = absurd (done_not mode g)

    -- the step leaves the cursor at the word that it found, in a walk that this call began
    pub cursor_made : IsCursorMade p q w
    cursor_made = let pools : IsSamePools p.core (came_to p.core (start_of p.core.own) w 0) = assumption in
        let later = on_made m refl refl refl (may_walk_free p.core.own may.own) (ap (λ (v : View). v.epoch) view_is)
        (subst (IsSamePools p.core) (sym view_is) pools) (ap (λ (v : View). v.hand) view_is ∙ may.inside.hand) in
        let gained = gained_by p.core (out_plan.view w) in
        let looked = m.looked ∙ (ap (λ (b : Option Cursor). looked_with p.trace b (out_plan.view w).cursor (is_judging Walk) gained) may.cursor
        ∙ ap (λ (b : Option Cursor). looked_with p.trace None b (is_judging Walk) gained) (ap (λ (v : View). v.cursor) view_is)) in
        let walk : IsNewWalk p.trace.taken q = (_, looked, omega arith, (let t = m.taken in omega arith), sym m.list) in
        let seats : (0 < q.seats) × (q.seats ≤ 16) = (let c = seat_count p Walk w (told.moment (λ x. x)) in
        let a = c.0 in let b = c.1 in let s = m.seats in (omega arith, omega arith)) in
        let cursor = ap (λ (v : View). v.cursor) core in let own = ap (λ (v : View). v.own) core in assumption (unlinked, ap judged_in looked, m)

-- what a seat without a linked node has stays, whatever the cursor comes to
own_at_any : (own : Own) (w : ℕ) → listed_of own ≡ None → own_at own w ≡ own
own_at_any Nothing w e = refl
own_at_any (Filling node lo hi mode aimed) w e = refl
own_at_any (Linked node range mode todo) w e = absurd (cc)

free_unlinked : (own : Own) → listed_of own ≡ None → held_at own ≡ None
free_unlinked Nothing e = refl
free_unlinked (Filling node lo hi mode aimed) e = refl
free_unlinked (Linked node range mode todo) e = absurd (cc)

module _ {P : Type 0} (p : SeatPart P) (head : IsAtOddHead p.core) where
  abbrev settle_plan : Plan
  settle_plan = exchanges 0 head.cursor.cur (head.cursor.cur - 1) (settled p.core head.cursor) (dropped p.core)

  settle_line : IsLine p.seats p.number p.core Settle settle_plan
  settle_line = settle head.cursor head.is head.prev head.odd

  -- a cursor that found the head with the low bit may take the bit away
  pub may_settle : Enables p Settle
  may_settle = enables p Settle settle_plan settle_line

  module _ {rested : P → P} {q : SeatPart P} {w : ℕ} (made : IsStepFrom rested p q Settle w) where
    m' : Made rested p q Settle settle_plan w
    m' = made_of settle_line made

    abbrev settled_by : Bool → View
    settled_by b = if b then settled p.core head.cursor else dropped p.core

    settle_won : w ≡ head.cursor.cur → IsSettled p q
    settle_won e = let view : settle_plan.view w ≡ settled p.core head.cursor = ap settled_by (eq-eqb _ _ e) in
        let core : q.core ≡ settled p.core head.cursor = m'.core ∙ view in
        let pools : IsSamePools p.core (settled p.core head.cursor) = assumption in
        let later = on_made m' refl refl refl (free_unlinked p.core.own head.unlinked) (ap (λ (v : View). v.epoch) view)
        (subst (IsSamePools p.core) (sym view) pools) (ap (λ (v : View). v.hand) view ∙ head.inside.hand) in
        let cursor : (c : Cursor) → p.core.cursor ≡ Some c → q.core.cursor ≡ Some (record c { cur = c.cur - 1 }) = λ c is.
        let same : head.cursor ≡ c = let h = sym head.is ∙ is in cc in
        ap (λ (v : View). v.cursor) core ∙ ap (λ (x : Cursor). Some (record x { cur = x.cur - 1 })) same in
        let walk = same_walk m' (ap is_some head.is) in
        let judged = same_judged m' refl (ap is_some head.is) in assumption (m', ap (λ (v : View). v.own) core)

    settle_fails : w ≢ head.cursor.cur → IsHandView p → HasRoom p → (l : Lost)
        → l.place ≡ cell_place p.seats (cell_of head.cursor.prev) → l.expected ≡ head.cursor.cur → l.found ≡ w → IsFailed p q l
    settle_fails d view room l placed wanted had = failed m' head.is tt refl refl (ap settled_by (ne_eqb _ _ d)) (ne_eqb _ _ d)
        (free_unlinked p.core.own head.unlinked) head.inside.hand view room l
        (placed ∙ ap (λ (o : Option ℕ). cell_place p.seats (cell_of o)) head.prev) wanted had

    -- the same, in the words of the cursor that was read before the step
    module _ {d : Cursor} (is : p.core.cursor ≡ Some d) where
      same : d ≡ head.cursor
      same = let e : ◌≡◌ {A = Option Cursor} (Some d) (Some head.cursor) = sym is ∙ head.is in cc

      -- where the head was still the same, the cursor is at its node
      pub settle_is : w ≡ d.cur → IsSettled p q
      settle_is e = settle_won (e ∙ ap (λ (x : Cursor). x.cur) same)

      -- where it was another, that is the walk's answer
      pub settle_lost : w ≢ d.cur → IsHandView p → HasRoom p → (s : ℕ) → s ≡ q.seats → (l : Lost)
          → l.place ≡ cell_place s (cell_of d.prev) → l.expected ≡ d.cur → l.found ≡ w → IsFailed p q l
      settle_lost far view room s seats l placed wanted had = let many : s ≡ p.seats = seats ∙ m'.seats in
          settle_fails (λ e. far (e ∙ ap (λ (x : Cursor). x.cur) (sym same))) view room l
          (placed ∙ (λ i. cell_place (many i) (cell_of (same i).prev))) (wanted ∙ ap (λ (x : Cursor). x.cur) same) had

-- the first node: at once, or once the head is settled
module _ {P : Type 0} {p q : SeatPart P} {w : ℕ} (may : MayBeginWalk p.core) (out : IsCursorMade p q w) where
  abbrev begun_cursor : Cursor
  begun_cursor = record { prev = start_of p.core.own; cur = w; next = None; lo = None; seen = seen_after 0 w }

  room_out : HasRoom p
  room_out = record { seats = let s = out.seats.1 in let e = out.later.seats in omega arith; seen = let z = ap seen_of may.cursor in omega arith }

  -- a cursor that was just made may look at a node
  pub made_room : HasRoom q
  made_room = record { seats = out.seats.1; seen = let z = ap seen_of out.cursor in let a = out.seats.0 in one_at_most w z }
    where
      one_at_most : (w : ℕ) → seen_of q.core.cursor ≡ seen_after 0 w → seen_of q.core.cursor ≤ 16 * q.seats
      one_at_most w z = let a = out.seats.0 in let b = at_most_one (w / 2 == 0) in let c = z in omega arith
        where
          at_most_one : (b : Bool) → (if b then 0 else min (0 + 1) (2 ^ 32 - 1)) ≤ 1
          at_most_one true = omega arith
          at_most_one false = omega arith

  inside_out : IsInside q.core
  inside_out = record { odd = ap (λ n. n % 2) out.later.epoch ∙ may.inside.odd; hand = out.later.hand }

  -- where its word has no low bit, the walk goes on there, or has come to its end
  pub made_even : w % 2 ≡ 0 → IsHandView q → Outcome p.trace.taken p.core q (arrival_at q.core.own q.core.cursor)
  made_even even view = let seen = ap (λ (a : ℕ). seen_after a w) (sym (ap seen_of may.cursor)) in came_outcome p.trace.taken p q
      (record { cursor = begun_cursor; is = out.cursor; even = even; next = refl; lo = refl; seen = seen; own = out.own })
      may.own inside_out view out.later.seats room_out

  -- where it has, the cursor is at the head, and no node of this seat is linked
  pub made_odd : w % 2 ≡ 1 → IsAtOddHead q.core
  made_odd odd = let prev = by_own p.core.own (out.unlinked odd) in
      let unlinked = ap listed_of (out.own ∙ own_at_any p.core.own w (out.unlinked odd)) ∙ out.unlinked odd in
      record { inside = inside_out; cursor = begun_cursor; is = out.cursor; prev = prev; odd = odd; unlinked = unlinked }
    where
      by_own : (own : Own) → listed_of own ≡ None → start_of own ≡ None
      by_own Nothing e = refl
      by_own (Filling node lo hi mode aimed) e = refl
      by_own (Linked node range mode todo) e = absurd (cc)

  module _ (r : SeatPart P) (odd : w % 2 ≡ 1) where
    own_out : q.core.own ≡ p.core.own
    own_out = out.own ∙ own_at_any p.core.own w (out.unlinked odd)

    -- once the head is settled, the walk goes on at its node, or has come to its end
    pub settled_outcome : IsSettled q r → IsHandView r → Outcome p.trace.taken p.core r (arrival_at r.core.own r.core.cursor)
    settled_outcome s view = let c : Cursor = record begun_cursor { cur = w - 1 } in let even : (w - 1) % 2 ≡ 0 = omega arith in
        let half : w / 2 ≡ (w - 1) / 2 = omega arith in let is = s.cursor begun_cursor out.cursor in
        let seen = ap (λ (n : ℕ). if n == 0 then 0 else min (0 + 1) (2 ^ 32 - 1)) half ∙ ap (λ (a : ℕ). seen_after a (w - 1)) (sym (ap seen_of may.cursor)) in
        let own = s.own ∙ (own_out ∙ sym (own_at_any p.core.own (w - 1) (out.unlinked odd))) in
        let odd = ap (λ (n : ℕ). n % 2) s.later.epoch ∙ inside_out.odd in
        came_outcome p.trace.taken p r (record { cursor = c; is = is; even = even; next = refl; lo = refl; seen = seen; own = own })
        may.own (assumption s) view (s.later.seats ∙ out.later.seats) room_out
