-- A step of a hand by the line that its view enables, and what every step leaves of the part and of the record.
use Rattle.std.proofs.Common.{◌≡◌, ◌≤◌, ℕ, ◌+◌, true, false, Bool, refl, sym, ap, ◌∙◌, subst, arith}
use Rattle.std.specs.Prelude.{Option, Some, None, is_some, unwrap_or, if◌then◌else◌}
use Rattle.lock_core.specs.declared.range.Held.{Held}
use Rattle.lock_core.specs.declared.views.View.{View}
use Rattle.lock_core.specs.declared.views.Cursor.{Cursor}
use Rattle.lock_core.specs.declared.steps.Step.{Step}
use Rattle.lock_core.specs.StepTable.{Plan, IsLine, loads}
use Rattle.lock_core.specs.Machine.{held_at}
use Rattle.lock_core.proofs.Table.{plan_of_line}
use Rattle.epoch_pools.specs.declared.record.Looked.{Looked}
use Rattle.epoch_pools.specs.declared.record.Record.{Record}
use Rattle.epoch_pools.specs.declared.views.SeatPart.{SeatPart}
use Rattle.epoch_pools.specs.Record.{asked_after, occupied_after, walks_after, KeepsOccupied, met_after, lost_by, expected_by}
use Rattle.epoch_pools.specs.Record.{looked_with, looked_on, walked_at, is_judging, gained_by}
use Rattle.epoch_pools.specs.Running.{Enables, line_for, part_after, pass_kept}
use Rattle.epoch_pools.proofs.Stepping.{occupied_kept}
use Rattle.marked_list.specs.Leaves.{IsSamePools, IsLaterInWalk, IsCall, IsSameWalk, HasJudged}

-- a step that has a line in the step table is enabled
pub enables : {P : Type 0} (p : SeatPart P) (step : Step) (plan : Plan) → IsLine p.seats p.number p.core step plan → Enables p step
enables p step plan line = ap is_some (plan_of_line p.seats p.number p.core step plan line)

-- and the plan by which it is made is that of the line
pub line_is : {P : Type 0} (p : SeatPart P) (step : Step) (plan : Plan) → IsLine p.seats p.number p.core step plan → line_for p step ≡ plan
line_is p step plan line = ap (λ (o : Option Plan). unwrap_or o (loads 0 (λ _. p.core))) (plan_of_line p.seats p.number p.core step plan line)

-- a cursor that was read of a view is the view's
pub cursor_read : {v w : View} {c : Cursor} → w ≡ v → w.cursor ≡ Some c → v.cursor ≡ Some c
cursor_read same is = ap (λ (v : View). v.cursor) (sym same) ∙ is

-- what a step with that plan, which found that value, leaves
pub record Made {P : Type 0} (rested : P → P) (p q : SeatPart P) (step : Step) (plan : Plan) (found : ℕ) : Type 0 where
  -- the hand is of the same seat
  pub number : q.number ≡ p.number
  -- of as many seats
  pub seats : q.seats ≡ p.seats
  -- the view is the plan's, for the value that was found
  pub core : q.core ≡ plan.view found
  -- the pass is rested where the step gives back what was held
  pub pass : q.pass ≡ pass_kept rested (held_at p.core.own) (held_at (plan.view found).own) p.pass
  -- the last client step stays
  pub client : q.trace.client ≡ p.trace.client
  -- a range that the step completes is asked for
  pub asked : q.trace.asked ≡ asked_after p.trace p.core step
  -- a list that the fast path found not empty is noted
  pub occupied : q.trace.occupied ≡ occupied_after p.trace step found
  -- a walk that is left is noted
  pub walks : q.trace.walks ≡ walks_after p.trace p.core step
  -- the hand is turned to the same list
  pub list : q.trace.list ≡ p.trace.list
  -- one step more was made
  pub taken : q.trace.taken ≡ p.trace.taken + 1
  -- a Walk is noted by its number
  pub walked : q.trace.walked ≡ walked_at p.trace step
  -- a node that the step judged is noted
  pub met : q.trace.met ≡ met_after p.trace p.core step found
  -- an exchange that found another value is noted
  pub lost : q.trace.lost ≡ lost_by p.trace step plan.place (expected_by p.core step) found
  -- what the walk has looked at is noted
  pub looked : q.trace.looked ≡ looked_with p.trace p.core.cursor (plan.view found).cursor (is_judging step) (gained_by p.core (plan.view found))

-- a step that has a line leaves what the plan of the line says
pub made_by : {P : Type 0} (rested : P → P) (p q : SeatPart P) (step : Step) (plan : Plan) (found : ℕ)
    → IsLine p.seats p.number p.core step plan → q ≡ part_after rested p step found → Made rested p q step plan found
made_by {P} rested p q step plan found line made = subst (λ (x : Plan). Made rested p q step x found) (line_is p step plan line)
    (subst (λ (x : SeatPart P). Made rested p x step (line_for p step) found) (sym made) assumption)

-- the step found that value, and q is what it leaves of p
pub record IsStepFrom {P : Type 0} (rested : P → P) (p q : SeatPart P) (step : Step) (found : ℕ) : Type 0 where
  pub made : q ≡ part_after rested p step found

-- so it leaves what the plan of its line says
pub made_of : {P : Type 0} {rested : P → P} {p q : SeatPart P} {step : Step} {plan : Plan} {found : ℕ} → IsLine p.seats p.number p.core step plan
    → IsStepFrom rested p q step found → Made rested p q step plan found
made_of {P} {rested} {p} {q} {step} {plan} {found} line s = made_by rested p q step plan found line s.made

-- where nothing was held the pass stays
pub pass_stays : {P : Type 0} (rested : P → P) (before now : Option Held) (pass : P) → before ≡ None → pass_kept rested before now pass ≡ pass
pass_stays rested before now pass e = ap (λ (o : Option Held). pass_kept rested o now pass) e

-- what a cursor has looked at stays with it
pub same_looked : (t : Record) (b now : Option Cursor) (j g : Bool) → is_some b ≡ true → (l : Looked) → t.looked ≡ Some l
    → (m : Looked) × (looked_with t b now j g ≡ Some m) × (m.step ≡ l.step) × (m.list ≡ l.list)
same_looked t None now j g e l is = absurd (cc)
same_looked t (Some b) None j g e l is = (l, is, refl, refl)
same_looked t (Some b) (Some c) j g e l is = by_looked t.looked is
  where
    by_looked : (o : Option Looked) → o ≡ Some l → (m : Looked) × (looked_on o c j g ≡ Some m) × (m.step ≡ l.step) × (m.list ≡ l.list)
    by_looked None e' = absurd (cc)
    by_looked (Some k) e' = let same : k ≡ l = cc in (_, refl, ap (λ (x : Looked). x.step) same, ap (λ (x : Looked). x.list) same)

-- a step with a cursor judges one node or none
judged_on : (t : Record) (b now : Option Cursor) (j g : Bool) → is_some b ≡ true → (l : Looked) → t.looked ≡ Some l
    → is_some now ≡ true → (m : Looked) × (looked_with t b now j g ≡ Some m) × (m.step ≡ l.step) × (m.judged ≡ (if j then l.judged + 1 else l.judged))
judged_on t None now j g e l is there = absurd (cc)
judged_on t (Some b) None j g e l is there = absurd (cc)
judged_on t (Some b) (Some c) j g e l is there = by_looked t.looked is
  where
    by_looked : (o : Option Looked) → o ≡ Some l → (m : Looked) × (looked_on o c j g ≡ Some m) × (m.step ≡ l.step)
        × (m.judged ≡ (if j then l.judged + 1 else l.judged))
    by_looked None e' = absurd (cc)
    by_looked (Some k) e' = let same : k ≡ l = cc in (_, refl, ap (λ (x : Looked). x.step) same, ap (λ (x : Looked). if j then x.judged + 1 else x.judged) same)

-- a step that judges no node leaves the count of judgements
pub judges_none : (t : Record) (b now : Option Cursor) (g : Bool) → is_some b ≡ true → (l : Looked) → t.looked ≡ Some l
    → (m : Looked) × (looked_with t b now false g ≡ Some m) × (m.step ≡ l.step) × (m.judged ≡ l.judged + 0)
judges_none t None now g e l is = absurd (cc)
judges_none t (Some b) None g e l is = (l, is, refl, (let z : l.judged ≡ l.judged + 0 = omega arith in z))
judges_none t (Some b) (Some c) g e l is = let r = judged_on t (Some b) (Some c) false g refl l is refl in
    (r.0, r.1, r.2, (let z : l.judged ≡ l.judged + 0 = omega arith in r.3 ∙ z))

module _ {P : Type 0} {rested : P → P} {p q : SeatPart P} {step : Step} {plan : Plan} {found : ℕ} (m : Made rested p q step plan found) where
  -- the same of a step with its plan
  pub same_judged : is_judging step ≡ false → is_some p.core.cursor ≡ true → HasJudged 0 p q
  same_judged none there l is = let r = judges_none p.trace p.core.cursor (plan.view found).cursor (gained_by p.core (plan.view found)) there l is in (
    r.0,
    m.looked ∙ (ap (λ (b : Bool). looked_with p.trace p.core.cursor (plan.view found).cursor b (gained_by p.core (plan.view found))) none ∙ r.1),
    r.2,
    r.3,
  )

  -- a step that judges a node, and leaves a cursor, adds one to the count of judgements
  pub more_judged : is_judging step ≡ true → is_some p.core.cursor ≡ true → is_some (plan.view found).cursor ≡ true → HasJudged 1 p q
  more_judged one there now l is =
      let r = judged_on p.trace p.core.cursor (plan.view found).cursor true (gained_by p.core (plan.view found)) there l is now in (
        r.0,
        m.looked ∙ (ap (λ (b : Bool). looked_with p.trace p.core.cursor (plan.view found).cursor b (gained_by p.core (plan.view found))) one ∙ r.1),
        r.2,
        r.3,
      )

  -- a step with a cursor is a step of the walk that made the cursor
  pub same_walk : is_some p.core.cursor ≡ true → IsSameWalk p q
  same_walk there l is = let r = same_looked p.trace p.core.cursor (plan.view found).cursor (is_judging step)
      (gained_by p.core (plan.view found)) there l is in (r.0, m.looked ∙ r.1, r.2, r.3)

  -- a step of a seat that holds nothing, which asks for nothing and whose plan keeps epoch and pools, leaves what a
  -- call that walks leaves
  pub on_made : asked_after p.trace p.core step ≡ p.trace.asked → occupied_after p.trace step found ≡ p.trace.occupied
      → walks_after p.trace p.core step ≡ p.trace.walks → held_at p.core.own ≡ None
      → (plan.view found).epoch ≡ p.core.epoch
      → IsSamePools p.core (plan.view found) → (plan.view found).hand ≡ None → IsLaterInWalk p q
  on_made none clear stays free epoch pools hand = let taken : p.trace.taken ≤ q.trace.taken = omega arith in
      let pass = m.pass ∙ pass_stays rested (held_at p.core.own) (held_at (plan.view found).own) p.pass free in
      let stay = subst (IsSamePools p.core) (sym m.core) pools in
      assumption (m.asked ∙ none, m.occupied ∙ clear, m.walks ∙ stays, ap (λ (v : View). v.epoch) m.core ∙ epoch, ap (λ (v : View). v.hand) m.core ∙ hand)

  -- a step of a seat that holds nothing leaves what a call of one step leaves
  pub call_made : held_at p.core.own ≡ None → IsCall 1 p q
  call_made free = let taken : q.trace.taken ≡ 1 + p.trace.taken = omega arith in let kept = occupied_kept p.trace step found in
      let occupied : KeepsOccupied p.trace q.trace = (kept.0, m.occupied ∙ kept.1) in
      assumption (m.pass ∙ pass_stays rested (held_at p.core.own) (held_at (plan.view found).own) p.pass free)

-- two calls of one walk after each other are of one walk
pub walk_on_walk : {P : Type 0} (p q r : SeatPart P) → IsSameWalk p q → IsSameWalk q r → IsSameWalk p r
walk_on_walk p q r a b l is = let s = a l is in let t = b s.0 s.1 in (t.0, t.1, t.2 ∙ s.2, t.3 ∙ s.3)
