-- The unlinking of a cursor's node that was found marked, and its giving home; and any exchange of the cursor's word
-- that found another value.
use Rattle.std.proofs.Common.{◌≡◌, ◌≢◌, ◌≤◌, ◌<◌, ℕ, ◌-◌, ◌+◌, ◌%◌, true, false, Bool, inl, refl, sym, ap, ◌∙◌, subst, arith}
use Rattle.std.proofs.lemmas.Bool.{eqb-false}
use Rattle.std.specs.Prelude.{Option, Some, None, is_some, ◌==◌, if◌then◌else◌}
use Rattle.lock_core.specs.declared.views.View.{View}
use Rattle.lock_core.specs.declared.views.Cursor.{Cursor}
use Rattle.lock_core.specs.declared.steps.Step.{Step}
use Rattle.lock_core.specs.declared.steps.Step.TheVariants.{GiveHome, Unlink, Settle}
use Rattle.lock_core.specs.Words.{cell_place, cell_of}
use Rattle.lock_core.specs.Views.{gave_home, unlinked, dropped, seen_after}
use Rattle.lock_core.specs.StepTable.{Plan, IsLine, exchanges, unlink}
use Rattle.lock_core.specs.Machine.{held_at}
use Rattle.epoch_pools.specs.declared.record.Lost.{Lost as LostStep}
use Rattle.epoch_pools.specs.declared.record.Record.{Record}
use Rattle.epoch_pools.specs.declared.views.SeatPart.{SeatPart}
use Rattle.epoch_pools.specs.Record.{asked_after, occupied_after, walks_after, expected_by, lost_by, cursor_word, looked_with, is_judging, gained_by}
use Rattle.epoch_pools.specs.Running.{Enables}
use Rattle.epoch_pools.specs.Hands.{IsHandView, quiet_after}
use Rattle.marked_list.specs.declared.answers.Lost.{Lost}
use Rattle.marked_list.specs.Order.{StandsAt, KnowsNext}
use Rattle.marked_list.specs.Leaves.{IsSamePools, IsLaterInWalk, IsSameWalk, HasJudged}
use Rattle.marked_list.specs.Causes.{IsLost, IsWalkLoss, nodes_in}
use Rattle.marked_list.specs.Walking.{seen_of, arrival_at, HasRoom, CursorCame, Outcome, IsFailed, IsUnlinked}
use Rattle.marked_list.proofs.Lines.{enables, Made, IsStepFrom, made_of, same_looked, judges_none, same_walk, same_judged, on_made, call_made}
use Rattle.marked_list.proofs.Arriving.{may_walk_free, nodes_seen, came_outcome}

-- an exchange that found another value is in the record
pub lost_made : {P : Type 0} {rested : P → P} {p q : SeatPart P} {step : Step} {plan : Plan} {w e : ℕ} → Made rested p q step plan w
    → (Kind : Step → Type 0) → Kind step → expected_by p.core step ≡ Some e → (w == e) ≡ false
    → (place expected found : ℕ) → place ≡ plan.place → expected ≡ e → found ≡ w → IsLost p.trace.taken q Kind place expected found
lost_made {P} {rested} {p} {q} {step} {plan} {w} {e} m Kind kind expects far place expected found placed wanted had =
    let l : LostStep = record { kind = step; list = p.trace.list; place = plan.place; expected = e; found = w; step = p.trace.taken } in
    let from : p.trace.taken ≤ l.step = omega arith in let below : l.step < q.trace.taken = omega arith in
    let differ : found ≢ expected = (let d = eqb-false _ _ far in λ z. d (sym had ∙ (z ∙ wanted))) in
    let is = ap (λ (o : Option ℕ). lost_by p.trace step plan.place o w) expects ∙ ap (λ (b : Bool). if b then p.trace.lost else Some l) far in
    let list = sym m.list in let at = sym placed in let old = sym wanted in
    record { lost = l; is = m.lost ∙ is; kind = kind; from = from; below = below; listed = list; placed = at; wanted = old; had = sym had; differ = differ }

not_judging : (s : Step) → IsWalkLoss s → is_judging s ≡ false
not_judging Unlink k = refl
not_judging Settle k = refl
not_judging _ k = absurd k

-- and is none of the fast path
not_quick : (t : Record) (s : Step) (w : ℕ) → IsWalkLoss s → occupied_after t s w ≡ t.occupied
not_quick t Unlink w k = refl
not_quick t Settle w k = refl
not_quick t _ w k = absurd k

-- nor leaves it an epoch
not_leaving : (t : Record) (v : View) (s : Step) → IsWalkLoss s → walks_after t v s ≡ t.walks
not_leaving t v Unlink k = refl
not_leaving t v Settle k = refl
not_leaving t v _ k = absurd k

-- a step that takes the cursor away leaves what the record has of the walk
pub gone_looked : (t : Record) (b : Option Cursor) (j g : Bool) → looked_with t b None j g ≡ t.looked
gone_looked t None j g = refl
gone_looked t (Some c) j g = refl

module _ {P : Type 0} {rested : P → P} {p q : SeatPart P} {step : Step} {plan : Plan} {w : ℕ} (m : Made rested p q step plan w)
    {c : Cursor} (is : p.core.cursor ≡ Some c) where
  -- an exchange of a walk that found another value is the walk's answer, and takes the cursor away
  pub failed : IsWalkLoss step → expected_by p.core step ≡ Some (cursor_word p.core.cursor) → asked_after p.trace p.core step ≡ p.trace.asked
      → plan.view w ≡ dropped p.core → (w == c.cur) ≡ false → held_at p.core.own ≡ None → p.core.hand ≡ None → IsHandView p → HasRoom p
      → (l : Lost) → l.place ≡ plan.place → l.expected ≡ c.cur → l.found ≡ w → IsFailed p q l
  failed kind expects none gone far free hand view room l placed wanted had = record {
    later = on_made m none (not_quick p.trace step w kind) (not_leaving p.trace p.core step kind) free (ap (λ (v : View). v.epoch) gone)
        (subst (IsSamePools p.core) (sym gone) assumption) (ap (λ (v : View). v.hand) gone ∙ hand);
    outcome = (
      (
        lost_made m IsWalkLoss kind (expects ∙ ap (λ (o : Option Cursor). Some (cursor_word o)) is) far l.place l.expected l.found placed wanted had,
        ap (λ (v : View). v.own) core,
        ap (λ (v : View). v.cursor) core,
      ),
      inl (let n = nodes in let r = room.seen in let s = ap seen_of is in let e = m.seats in omega arith),
    );
    walk = same_walk m (ap is_some is);
    judged = same_judged m (not_judging step kind) (ap is_some is);
    taken = m.taken;
  }
    where
      core : q.core ≡ dropped p.core
      core = m.core ∙ gone

      nodes : nodes_in q.trace.looked ≡ c.seen
      nodes = ap nodes_in (m.looked ∙ (ap (λ (o : Option Cursor). looked_with p.trace p.core.cursor o (is_judging step)
          (gained_by p.core (plan.view w))) (ap (λ (v : View). v.cursor) gone)
          ∙ gone_looked p.trace p.core.cursor (is_judging step) (gained_by p.core (plan.view w)))) ∙ nodes_seen p view c is

module _ {P : Type 0} (p : SeatPart P) {n : ℕ} (k : KnowsNext p.core n) (odd : n % 2 ≡ 1) where
  abbrev st : StandsAt p.core
  st = k.stands

  abbrev unlink_plan : Plan
  unlink_plan = exchanges (cell_place p.seats (cell_of st.cursor.prev)) st.cursor.cur (n - 1) (unlinked p.core st.cursor st.node (n - 1)) (dropped p.core)

  unlink_line : IsLine p.seats p.number p.core Unlink unlink_plan
  unlink_line = unlink st.cursor st.node n st.is st.at k.next odd st.inside.hand

  -- a cursor at a node that was found marked may unlink it
  pub may_unlink : Enables p Unlink
  may_unlink = enables p Unlink unlink_plan unlink_line

  module _ {rested : P → P} {q : SeatPart P} {w : ℕ} (made : IsStepFrom rested p q Unlink w) where
    m : Made rested p q Unlink unlink_plan w
    m = made_of unlink_line made

    abbrev view_by : Bool → View
    view_by b = if b then unlinked p.core st.cursor st.node (n - 1) else dropped p.core

    won : (w == st.cursor.cur) ≡ true → IsUnlinked p q st.node
    won e = let core : q.core ≡ unlinked p.core st.cursor st.node (n - 1) = m.core ∙ ap view_by e in
        let c : Cursor = record { prev = st.cursor.prev; cur = n - 1; next = None; lo = None; seen = seen_after st.cursor.seen (n - 1) } in
        let even : (n - 1) % 2 ≡ 0 = omega arith in let pools : IsSamePools p.core (unlinked p.core st.cursor st.node (n - 1)) = assumption in
        let call = call_made m (may_walk_free p.core.own st.own) in let walk = same_walk m (ap is_some st.is) in
        let judged = same_judged m refl (ap is_some st.is) in
        let epoch = ap (λ (v : View). v.epoch) core in let hand = ap (λ (v : View). v.hand) core in let is = ap (λ (v : View). v.cursor) core in
        let own = ap (λ (v : View). v.own) core in let seen = ap (λ (a : ℕ). seen_after a (n - 1)) (sym (ap seen_of st.is)) in
        let came : CursorCame p.core q.core = record { cursor = c; is = is; even = even; next = refl; lo = refl; seen = seen; own = own } in
        assumption (m.asked, m.occupied, m.walks, subst (IsSamePools p.core) (sym core) pools)

    -- where none is, the exchange was lost
    pub unlink_none : q.core.hand ≡ None → IsHandView p → HasRoom p → (l : Lost)
        → l.place ≡ cell_place p.seats (cell_of st.cursor.prev) → l.expected ≡ st.cursor.cur → l.found ≡ w → IsFailed p q l
    unlink_none hand view room l placed wanted had = by_value (w == st.cursor.cur) refl
      where
        by_value : (b : Bool) → (w == st.cursor.cur) ≡ b → IsFailed p q l
        by_value true e = absurd (let h : ◌≡◌ {A = Option ℕ} (Some st.node) None = sym (won e).hand ∙ hand in cc)
        by_value false e = failed m st.is tt refl refl (ap view_by e) e (may_walk_free p.core.own st.own) st.inside.hand view room l placed wanted had

    -- the same, in the words of the cursor that was read before the step
    pub unlink_lost : q.core.hand ≡ None → IsHandView p → HasRoom p → {d : Cursor} → p.core.cursor ≡ Some d → (s : ℕ)
        → s ≡ q.seats → (l : Lost) → l.place ≡ cell_place s (cell_of d.prev) → l.expected ≡ d.cur → l.found ≡ w → IsFailed p q l
    unlink_lost hand view room {d} is s seats l placed wanted had =
        let same : d ≡ st.cursor = let e : ◌≡◌ {A = Option Cursor} (Some d) (Some st.cursor) = sym is ∙ st.is in cc in
        let many : s ≡ p.seats = seats ∙ m.seats in
        unlink_none hand view room l (placed ∙ (λ i. cell_place (many i) (cell_of (same i).prev))) (wanted ∙ ap (λ (x : Cursor). x.cur) same) had

-- the node is given home
module _ {P : Type 0} {p q r : SeatPart P} {x : ℕ} (u : IsUnlinked p q x) (made : r ≡ quiet_after q GiveHome (gave_home q.core)) where
  core_home : r.core ≡ gave_home q.core
  core_home = ap (λ (z : SeatPart P). z.core) made

  -- unlinking a node and giving it home leaves what a call that walks leaves
  pub home_on : IsLaterInWalk p r
  home_on = let taken : p.trace.taken ≤ q.trace.taken + 1 = (let b = u.call.taken in omega arith) in
      subst (λ (z : SeatPart P). IsLaterInWalk p z) (sym made) assumption

  -- of the same walk
  pub home_walk : IsSameWalk p r
  home_walk l is = let s = u.walk l is in
      let t = same_looked q.trace q.core.cursor (gave_home q.core).cursor (is_judging GiveHome)
      (gained_by q.core (gave_home q.core)) (ap is_some u.came.is) s.0 s.1 in
      (t.0, ap (λ (z : SeatPart P). z.trace.looked) made ∙ t.1, t.2 ∙ s.2, t.3 ∙ s.3)

  -- which judge no node
  pub home_judged : HasJudged 0 p r
  home_judged l is = let s = u.judged l is in
      let t = judges_none q.trace q.core.cursor (gave_home q.core).cursor (gained_by q.core (gave_home q.core)) (ap is_some u.came.is) s.0 s.1 in
      (t.0, ap (λ (z : SeatPart P). z.trace.looked) made ∙ t.1, t.2 ∙ s.2, (let a = t.3 in let b = s.3 in omega arith))

  -- behind the node the walk goes on, or has come to its end
  pub home_outcome : StandsAt p.core → IsHandView r → HasRoom p → Outcome p.trace.taken p.core r (arrival_at r.core.own r.core.cursor)
  home_outcome st view room = let u' = u.came in
      let is = ap (λ (v : View). v.cursor) core_home ∙ u'.is in let own = ap (λ (v : View). v.own) core_home ∙ u'.own in
      let odd = ap (λ (n : ℕ). n % 2) home_on.epoch ∙ st.inside.odd in came_outcome p.trace.taken p r
      (record { cursor = u'.cursor; is = is; even = u'.even; next = u'.next; lo = u'.lo; seen = u'.seen; own = own }) st.own
      (assumption home_on) view home_on.seats room
