-- The loads at a cursor's node, and what the judgement of the node comes to.
use Rattle.std.proofs.Common.{◌≡◌, ◌≢◌, ℕ, suc, ◌+◌, ◌-◌, ◌/◌, ◌%◌, ◌≤◌, ◌<◌, true, false, Bool, inl, inr, ⊎_elim, refl, sym, ap, ◌∙◌, subst, arith, ne_eqb}
use Rattle.std.specs.Prelude.{Option, Some, None, is_some, unwrap_or, option_map, nat_le, nat_lt, ◌&&◌, ◌==◌, ◌||◌, if◌then◌else◌}
use Rattle.lock_core.specs.Range.{IsRange}
use Rattle.lock_core.specs.Grants.{Conflicts}
use Rattle.lock_core.specs.declared.range.Held.{Held}
use Rattle.lock_core.specs.declared.range.Mode.{Mode}
use Rattle.lock_core.specs.declared.range.Mode.TheVariants.{Reader, Writer}
use Rattle.lock_core.specs.declared.views.View.{View}
use Rattle.lock_core.specs.declared.views.Cursor.{Cursor}
use Rattle.lock_core.specs.declared.views.Own.{Own}
use Rattle.lock_core.specs.declared.views.Own.TheVariants.{Nothing, Filling, Linked}
use Rattle.lock_core.specs.declared.views.Todo.TheVariants.{Forward, FromHead, Done}
use Rattle.lock_core.specs.declared.compare.Verdict.{Verdict}
use Rattle.lock_core.specs.declared.compare.Verdict.TheVariants.{Past, Stop, Conflict}
use Rattle.lock_core.specs.declared.steps.Step.TheVariants.{Walk, ReadLo, ReadHi}
use Rattle.lock_core.specs.Words.{plain_node_of, cell_place, lo_place, hi_place, hi_word, mode_of}
use Rattle.lock_core.specs.Nodes.{Listed, listed}
use Rattle.lock_core.specs.Views.{walk_cell, walked, lo_read, hi_read, hi_judged, own_stopped, seen_after, todo_of}
use Rattle.lock_core.specs.Compare.{verdict_of, is_reader}
use Rattle.lock_core.specs.StepTable.{Plan, IsLine, loads, walk, read_lo, read_hi}
use Rattle.lock_core.specs.Machine.{held_at}
use Rattle.lock_core.specs.Laws.{node_held}
use Rattle.lock_core.specs.Sizes.{IsViewSound}
use Rattle.lock_core.proofs.SizedSteps.{plain_is}
use Rattle.lock_core.proofs.Verdicts.{judges_by_conflict_law}
use Rattle.epoch_pools.specs.declared.record.Met.{Met}
use Rattle.epoch_pools.specs.declared.views.SeatPart.{SeatPart}
use Rattle.epoch_pools.specs.Record.{met_at}
use Rattle.epoch_pools.specs.Running.{Enables, line_for, Told}
use Rattle.epoch_pools.specs.Hands.{IsHandView}
use Rattle.marked_list.specs.declared.answers.Walked.TheVariants.{Place}
use Rattle.marked_list.specs.Order.{OwnMayWalk, IsAhead, IsInside, StandsAt, KnowsNext, StandsInConflict}
use Rattle.marked_list.specs.Leaves.{IsSamePools, IsLaterInWalk, IsSameWalk, HasJudged}
use Rattle.marked_list.specs.Causes.{IsMet, asked_of, judged_in}
use Rattle.marked_list.specs.Answers.{Arrives}
use Rattle.marked_list.specs.Walking.{seen_of, has_arrived, arrival_at, judgement_at, conflict_with, KnowsLo, CursorCame}
use Rattle.marked_list.specs.Walking.{IsOthers, IsAtOthers, IsNotSpent, HasRoom, Outcome, IsLoad}
use Rattle.marked_list.specs.Scanning.{IsSeen, PassesFrom, found_with}
use Rattle.marked_list.proofs.Lines.{enables, line_is, Made, IsStepFrom, made_of, same_walk, same_judged, more_judged, on_made}
use Rattle.marked_list.proofs.Arriving.{may_walk_free, may_walk_ends, nodes_seen, came_outcome}
use Rattle.marked_list.proofs.Passing.{judged_on_from, scanning_at}
use Rattle.marked_list.proofs.Moments.{found_other, found_range, found_own}

-- a load that changes the cursor alone
same_pools : (v : View) (o : Option Cursor) → IsSamePools v (record v { cursor = o })
same_pools v o = record { ready = refl; used = refl; homes = refl; notes = refl; passed = refl }

module _ {P : Type 0} (p : SeatPart P) (st : StandsAt p.core) where
  abbrev walk_plan : Plan
  walk_plan = loads (cell_place p.seats (suc st.node)) (walked p.core p.core.cursor)

  walk_line : IsLine p.seats p.number p.core Walk walk_plan
  walk_line = walk (suc st.node) st.inside.odd st.inside.hand (ap (walk_cell p.core.own) st.is ∙ ap (λ (o : Option ℕ). option_map suc o) st.at)

  -- a cursor at a node may load that node's next word
  pub may_walk : Enables p Walk
  may_walk = enables p Walk walk_plan walk_line

  module _ {rested : P → P} {q : SeatPart P} {w : ℕ} (made : IsStepFrom rested p q Walk w) where
    abbrev next_cursor : Cursor
    next_cursor = record st.cursor { next = Some w; lo = None }

    m : Made rested p q Walk walk_plan w
    m = made_of walk_line made

    core_next : q.core ≡ record p.core { cursor = Some next_cursor }
    core_next = m.core ∙ ap (λ (o : Option Cursor). walked p.core o w) st.is

    -- after it the cursor knows that word
    pub next_known : KnowsNext q.core w
    next_known = let stands : StandsAt (record p.core { cursor = Some next_cursor }) =
        record { inside = assumption; own = st.own; cursor = next_cursor; is = refl; node = st.node; at = st.at; ahead = st.ahead } in
        subst (λ (v : View). KnowsNext v w) (sym core_next) (record { stands = stands; next = refl })

    -- the load leaves the cursor at its node, and all else as it was
    pub next_loaded : IsLoad p q
    next_loaded = let walk = same_walk m (ap is_some st.is) in let judged = same_judged m refl (ap is_some st.is) in
        let seen = ap (λ (v : View). seen_of v.cursor) core_next ∙ sym (ap seen_of st.is) in
        assumption (on_load, m, ap (λ (v : View). v.own) core_next)
      where
        plan_is : walked p.core p.core.cursor w ≡ record p.core { cursor = Some next_cursor }
        plan_is = ap (λ (o : Option Cursor). walked p.core o w) st.is

        on_load : IsLaterInWalk p q
        on_load = on_made m refl refl refl (may_walk_free p.core.own st.own) (ap (λ (v : View). v.epoch) plan_is)
            (subst (IsSamePools p.core) (sym plan_is) (same_pools p.core (Some next_cursor))) (ap (λ (v : View). v.hand) plan_is ∙ st.inside.hand)

    -- the record takes the load as the one at which the cursor's node was found
    pub next_walked : q.trace.walked ≡ p.trace.taken
    next_walked = m.walked

    -- where the word that was loaded has no mark, the node is another seat's, or the own linked one
    pub next_others : {seats : ℕ} → Told seats p Walk w → w % 2 ≡ 0 → IsAtOthers q
    next_others told even c y is node = let same : next_cursor ≡ c = let e = sym (ap (λ (v : View). v.cursor) core_next) ∙ is in cc in
        let y_is : st.node ≡ y = let e = sym st.at ∙ (ap (λ (x : Cursor). plain_node_of x.cur) same ∙ node) in cc in
        let o = found_other p w st.cursor st.node (told.moment (λ x. x)) (ap (λ (x : Plan). x.place) (line_is p Walk walk_plan walk_line)) st.is st.at even in
        subst (IsOthers q.number q.core.own) y_is (subst (λ (own : Own). IsOthers q.number own st.node) (sym (ap (λ (v : View). v.own) core_next))
        (subst (λ a. IsOthers a p.core.own st.node) (sym m.number) o))

-- the lower end
module _ {P : Type 0} (p : SeatPart P) {n : ℕ} (k : KnowsNext p.core n) (even : n % 2 ≡ 0) where
  abbrev lo_plan : Plan
  lo_plan = loads (lo_place p.seats k.stands.node) (lo_read p.core k.stands.cursor)

  lo_line : IsLine p.seats p.number p.core ReadLo lo_plan
  lo_line = read_lo k.stands.cursor k.stands.node n k.stands.is k.stands.at k.next even

  -- a cursor that knows an unmarked next word may load its node's lower end
  pub may_read_lo : Enables p ReadLo
  may_read_lo = enables p ReadLo lo_plan lo_line

  module _ {rested : P → P} {q : SeatPart P} {w : ℕ} (made : IsStepFrom rested p q ReadLo w) where
    abbrev lo_cursor : Cursor
    lo_cursor = record k.stands.cursor { lo = Some w }

    lo_made : Made rested p q ReadLo lo_plan w
    lo_made = made_of lo_line made

    core_lo : q.core ≡ record p.core { cursor = Some lo_cursor }
    core_lo = lo_made.core

    -- after it the cursor knows that end
    pub lo_known : KnowsLo q.core n w
    lo_known = let s = k.stands in let stands : StandsAt (record p.core { cursor = Some lo_cursor }) =
        record { inside = assumption; own = s.own; cursor = lo_cursor; is = refl; node = s.node; at = s.at; ahead = s.ahead } in
        subst (λ (v : View). KnowsLo v n w) (sym core_lo) (record { knows = record { stands = stands; next = k.next }; lo = refl })

    -- the load leaves the cursor at its node, and all else as it was
    pub lo_loaded : IsLoad p q
    lo_loaded = let later = on_made lo_made refl refl refl (may_walk_free p.core.own k.stands.own) refl
        (same_pools p.core (Some lo_cursor)) k.stands.inside.hand in
        let walk = same_walk lo_made (ap is_some k.stands.is) in let judged = same_judged lo_made refl (ap is_some k.stands.is) in
        let seen = ap (λ (v : View). seen_of v.cursor) core_lo ∙ sym (ap seen_of k.stands.is) in
        assumption (lo_made, ap (λ (v : View). v.own) core_lo)

    -- the step at which the cursor's node was found stays
    pub lo_walked : q.trace.walked ≡ p.trace.walked
    lo_walked = lo_made.walked

    -- and that the node is another seat's, or the own linked one
    pub lo_others : IsAtOthers p → IsAtOthers q
    lo_others others c y is node = let same : lo_cursor ≡ c = let e = sym (ap (λ (v : View). v.cursor) core_lo) ∙ is in cc in
        let o = others k.stands.cursor y k.stands.is (ap (λ (x : Cursor). plain_node_of x.cur) same ∙ node) in
        subst (λ (own : Own). IsOthers q.number own y) (sym (ap (λ (v : View). v.own) core_lo)) (subst (λ a. IsOthers a p.core.own y) (sym lo_made.number) o)

-- a node that is judged to be in conflict is so with what the seat asks for
swapped : (a b : Held) → Conflicts a b → Conflicts b a
swapped a b c = ((c.0.1, c.0.0), ⊎_elim (λ e. inr e) (λ e. inl e) c.1)

forward_only : (mode : Mode) → Forward ≡ todo_of mode → mode ≡ Reader
forward_only Reader e = refl
forward_only Writer e = absurd (cc)

from_head_only : (mode : Mode) → FromHead ≡ todo_of mode → mode ≡ Writer
from_head_only Reader e = absurd (cc)
from_head_only Writer e = refl

done_never : {A : Type 0} (mode : Mode) → Done ≡ todo_of mode → A
done_never Reader e = absurd (cc)
done_never Writer e = absurd (cc)

asked_conflict : (own : Own) (lo w : ℕ) → OwnMayWalk own → verdict_of own lo w ≡ Conflict → (a : Held) × (asked_of own ≡ Some a) × Conflicts a (node_held lo w)
asked_conflict Nothing lo w g e = absurd (cc)
asked_conflict (Filling node low high mode aimed) lo w g e = let l : low ≡ Some g.lo = let i = g.is in let k = g.low in cc in
    let h : high ≡ Some g.hi = let i = g.is in let k = g.high in cc in
    let v : verdict_of (Filling node low high mode aimed) lo w ≡ verdict_of (Filling node (Some g.lo) (Some g.hi) mode aimed) lo
    w = λ i. verdict_of (Filling node (l i) (h i) mode aimed) lo w in
    let a : asked_of (Filling node low high mode aimed) ≡ asked_of (Filling node (Some g.lo) (Some g.hi) mode aimed) =
    λ i. asked_of (Filling node (l i) (h i) mode aimed) in
    (record { range = record { lo = g.lo; hi = g.hi }; mode = mode }, a, (judges_by_conflict_law.filling node g.lo g.hi mode aimed lo w).0 (sym v ∙ e))
asked_conflict (Linked node range mode Forward) lo w g e = (
  record { range = range; mode = mode },
  refl,
  subst (λ m. Conflicts (record { range = range; mode = m }) (node_held lo w)) (sym (forward_only mode g))
      ((judges_by_conflict_law.reader node range mode lo w).0 e),
)
asked_conflict (Linked node range mode FromHead) lo w g e = (
  record { range = range; mode = mode },
  refl,
  subst (λ m. Conflicts (record { range = range; mode = m }) (node_held lo w)) (sym (from_head_only mode g))
      ((judges_by_conflict_law.writer node range mode lo w).0 e),
)
asked_conflict (Linked node range mode Done) lo w g e = done_never mode g

-- and is never the own one: a reader's own node says Reader, and a writer hasn't come to its own
own_never : (own : Own) (lo w : ℕ) (k : Listed) → OwnMayWalk own → own ≡ listed k → IsAhead own k.node → w ≡ hi_word k.range.hi k.mode
    → verdict_of own lo w ≡ Conflict → ⊥
own_never Nothing lo w k g is ahead word e = cc
own_never (Filling node low high mode aimed) lo w k g is ahead word e = cc
own_never (Linked node range mode Forward) lo w k g is ahead word e =
    by_end (nat_le range.hi lo) (ap (λ m. if nat_le range.hi lo then Stop else if is_reader m then Past
    else if nat_lt range.lo (w / 2) then Conflict else Past) (sym reads) ∙ e)
  where
    reader : k.mode ≡ Reader
    reader = let same : mode ≡ k.mode = cc in sym same ∙ forward_only mode g

    plain : w % 2 ≡ 0
    plain = let h = word ∙ ap (λ m. hi_word k.range.hi m) reader in omega arith

    reads : mode_of w ≡ Reader
    reads = ap (λ (b : Bool). if b then Writer else Reader) (ne_eqb (w % 2) 1 (λ z. let q = plain in omega arith))

    by_end : (b : Bool) → (if b then Stop else Past) ≡ Conflict → ⊥
    by_end true q = cc
    by_end false q = cc
own_never (Linked node range mode FromHead) lo w k g is ahead word e = ahead (let same : node ≡ k.node = cc in same)
own_never (Linked node range mode Done) lo w k g is ahead word e = done_never mode g

-- a seat that stops before a node has come to its place, or holds its range
stop_arrives : (own : Own) (lo w : ℕ) (v : View) (c : Cursor) → OwnMayWalk own → verdict_of own lo w ≡ Stop → v.own ≡ own_stopped own
    → v.cursor ≡ Some c → c.cur % 2 ≡ 0 → c.next ≡ None → c.lo ≢ None → Arrives own v
stop_arrives Nothing lo w v c g e own is even next low = absurd (cc)
stop_arrives (Filling node a b mode aimed) lo w v c g e own is even next low = (own, record { cursor = c; is = is; even = even; place = inr (next, low) })
stop_arrives (Linked node range mode Forward) lo w v c g e own is even next low = own
stop_arrives (Linked node range mode FromHead) lo w v c g e own is even next low = absurd (by_overlap (nat_lt range.lo (w / 2) && nat_lt lo range.hi) e)
  where
    by_overlap : (b : Bool) → (if b then Conflict else Past) ≡ Stop → ⊥
    by_overlap true q = cc
    by_overlap false q = cc
stop_arrives (Linked node range mode Done) lo w v c g e own is even next low = done_never mode g

or_last : (a b : Bool) → (a || (b || true)) ≡ true
or_last true b = refl
or_last false true = refl
or_last false false = refl

lo_arrives : (own : Own) (c : Cursor) (lo : ℕ) → c.lo ≡ Some lo → has_arrived own c ≡ true
lo_arrives own c lo low = ap (λ (l : Option ℕ). is_some (held_at own) || (c.cur == 0 || is_some l)) low ∙ or_last (is_some (held_at own)) (c.cur == 0)

-- a judgement leaves epoch, pools and hand
judged_epoch : (v : View) (c : Cursor) (y n : ℕ) (d : Verdict) → (hi_judged v c y n d).epoch ≡ v.epoch
judged_epoch v c y n Past = refl
judged_epoch v c y n _ = refl

judged_hand : (v : View) (c : Cursor) (y n : ℕ) (d : Verdict) → (hi_judged v c y n d).hand ≡ v.hand
judged_hand v c y n Past = refl
judged_hand v c y n _ = refl

judged_pools : (v : View) (c : Cursor) (y n : ℕ) (d : Verdict) → IsSamePools v (hi_judged v c y n d)
judged_pools v c y n Past = record { ready = refl; used = refl; homes = refl; notes = refl; passed = refl }
judged_pools v c y n _ = record { ready = refl; used = refl; homes = refl; notes = refl; passed = refl }

-- a cursor that knows its node's next word is at a node
pub names_node : (seats i : ℕ) (v : View) → IsViewSound seats i v → seats ≤ 16 → (c : Cursor) → v.cursor ≡ Some c
    → is_some c.next ≡ true → (2 ≤ c.cur) × (c.cur / 2 ≤ 256)
names_node seats i v sound few c is knows = by_next c.next refl knows
  where
    by_next : (o : Option ℕ) → c.next ≡ o → is_some o ≡ true → (2 ≤ c.cur) × (c.cur / 2 ≤ 256)
    by_next None e k = absurd (cc)
    by_next (Some n) e k = let far = sound.next_node c n is e in let there = (sound.sized.cursor c is).cur in (omega arith, omega arith)

-- the higher end, and the judgement
module _ {P : Type 0} (p : SeatPart P) {n lo : ℕ} (k : KnowsLo p.core n lo) (even : n % 2 ≡ 0) where
  abbrev st : StandsAt p.core
  st = k.knows.stands

  abbrev hi_plan : Plan
  hi_plan = loads (hi_place p.seats st.node) (hi_read p.core st.cursor st.node n lo)

  hi_line : IsLine p.seats p.number p.core ReadHi hi_plan
  hi_line = read_hi st.cursor st.node n lo st.is st.at k.knows.next even k.lo (may_walk_ends p.core.own st.own)

  -- a cursor that knows its node's lower end may load the higher one
  pub may_read_hi : Enables p ReadHi
  may_read_hi = enables p ReadHi hi_plan hi_line

  module _ {rested : P → P} {q : SeatPart P} {w : ℕ} (made : IsStepFrom rested p q ReadHi w) where
    hi_made : Made rested p q ReadHi hi_plan w
    hi_made = made_of hi_line made

    abbrev verdict : Verdict
    verdict = verdict_of p.core.own lo w

    -- the judgement leaves what a call that walks leaves
    pub judged_on : IsLaterInWalk p q
    judged_on = on_made hi_made refl refl refl (may_walk_free p.core.own st.own) (judged_epoch p.core st.cursor st.node n verdict)
        (judged_pools p.core st.cursor st.node n verdict) (judged_hand p.core st.cursor st.node n verdict ∙ st.inside.hand)

    -- it is a step of the same walk
    pub judged_walk : IsSameWalk p q
    judged_walk = same_walk hi_made (ap is_some st.is)

    -- it is one step
    pub judged_taken : q.trace.taken ≡ p.trace.taken + 1
    judged_taken = hi_made.taken

    -- past its node the cursor came to the next word
    past_came : q.core ≡ hi_judged p.core st.cursor st.node n Past → CursorCame p.core q.core
    past_came core = let c : Cursor = record { prev = Some st.node; cur = n; next = None; lo = None; seen = seen_after st.cursor.seen n } in
        let is = ap (λ (v : View). v.cursor) core in let own = ap (λ (v : View). v.own) core in
        let seen = ap (λ (a : ℕ). seen_after a n) (sym (ap seen_of st.is)) in
        record { cursor = c; is = is; even = even; next = refl; lo = refl; seen = seen; own = own }

    past_inside : q.core ≡ hi_judged p.core st.cursor st.node n Past → IsInside q.core
    past_inside core = record { odd = ap (λ (v : View). v.epoch % 2) core ∙ st.inside.odd; hand = judged_on.hand }

    -- the node that was judged is in the record, with its owner, its range and its mode
    abbrev met_with : ℕ → Met
    met_with low = record {
      owner = (st.cursor.cur / 2 - 1) / 16;
      held = record { range = record { lo = low; hi = w / 2 }; mode = mode_of w };
      list = p.trace.list;
      step = p.trace.walked;
    }

    met_now : q.trace.met ≡ Some (met_with lo)
    met_now = hi_made.met ∙ (ap (λ (o : Option Cursor). met_at p.trace o w) st.is ∙ ap (λ (l : Option ℕ). Some (met_with (unwrap_or l 0))) k.lo)

    module _ {seats : ℕ} (told : Told seats p ReadHi w) where
      hi_at : (line_for p ReadHi).place ≡ hi_place p.seats st.node
      hi_at = ap (λ (x : Plan). x.place) (line_is p ReadHi hi_plan hi_line)

      -- the two ends that were loaded are those of a range
      pub judged_range : IsRange lo (w / 2)
      judged_range = found_range p w st.cursor st.node lo (told.moment (λ x. x)) hi_at st.is st.at k.lo

      module _ (view : IsHandView q) (room : HasRoom p) (others : IsAtOthers p) (walked : p.trace.walked < p.trace.taken) where
        abbrev Judged : Option Cursor → Type 0
        Judged x = Outcome p.trace.walked p.core q (judgement_at q.core.own x lo w)

        core_by : (d : Verdict) → verdict ≡ d → q.core ≡ hi_judged p.core st.cursor st.node n d
        core_by d e = hi_made.core ∙ ap (hi_judged p.core st.cursor st.node n) e

        few : (c : Cursor) → q.core.cursor ≡ Some c → c.seen ≡ st.cursor.seen → IsNotSpent q
        few c is seen = inl (let a = nodes_seen q view c is in let b = room.seen in let e = ap seen_of st.is in let s = hi_made.seats in omega arith)

        past : verdict ≡ Past → Judged q.core.cursor
        unfolding past_came
        past e = let core = core_by Past e in let came = past_came core in let inside = past_inside core in
            let o = came_outcome p.trace.walked p q came st.own inside view hi_made.seats room in
            subst Judged (sym came.is) (subst (λ (x : Option Cursor). Outcome p.trace.walked p.core q (arrival_at q.core.own x)) came.is o)

        stop : verdict ≡ Stop → Judged q.core.cursor
        stop e = let core = core_by Stop e in let c : Cursor = record st.cursor { next = None } in
            let is : q.core.cursor ≡ Some c = ap (λ (v : View). v.cursor) core in
            let plain = plain_is st.cursor.cur st.node st.at in let arrived = lo_arrives q.core.own c lo k.lo in
            let a : Arrives p.core.own q.core = stop_arrives p.core.own lo w q.core c st.own e (ap (λ (v : View). v.own) core) is
            (omega arith) refl (λ z. let q : ◌≡◌ {A = Option ℕ} (Some lo) None = sym k.lo ∙ z in cc) in
            subst Judged (sym is) (subst (λ (b : Bool). Outcome p.trace.walked p.core q (if b then Some Place else None)) (sym arrived) (a, few c is refl))

        elsewhere : verdict ≡ Conflict → st.node / 16 ≢ p.number
        elsewhere e = ⊎_elim (λ d. d)
            (λ (t : (l : Listed) × (p.core.own ≡ listed l) × (l.node ≡ st.node)).
            absurd (own_never p.core.own lo w t.0 st.own t.1 (subst (IsAhead p.core.own) (sym t.2) st.ahead)
            (found_own p w t.0 (told.moment (λ x. x)) (hi_at ∙ ap (hi_place p.seats) (sym t.2)) t.1) e)) (others st.cursor st.node st.is st.at)

        met : verdict ≡ Conflict → IsMet p.trace.walked q ((st.cursor.cur / 2 - 1) / 16) (record { range = record { lo = lo; hi = w / 2 }; mode = mode_of w })
        met e = let core = core_by Conflict e in let a = asked_conflict p.core.own lo w st.own e in
            let from : p.trace.walked ≤ p.trace.walked = omega arith in let below : p.trace.walked < q.trace.taken = (let t = hi_made.taken in omega arith) in
            let other : (st.cursor.cur / 2 - 1) / 16 ≢ q.number = λ z. elsewhere e
            (let plain = plain_is st.cursor.cur st.node st.at in let num = hi_made.number in omega arith) in
            let asks = ap (λ (v : View). asked_of v.own) core ∙ a.1 in let conflicts = swapped a.0 (node_held lo w) a.2 in
            search (met_now, asks, conflicts, sym hi_made.list)

        conflict : verdict ≡ Conflict → Judged q.core.cursor
        conflict e = let core = core_by Conflict e in
            let is : q.core.cursor ≡ Some st.cursor = ap (λ (v : View). v.cursor) core ∙ st.is in
            let stands : StandsInConflict q.seats q.core = subst (StandsInConflict q.seats) (sym core) (record {
              word = n;
              knows = k.knows;
              few = let b = room.seen in let s = ap seen_of st.is in let m = hi_made.seats in omega arith;
            }) in
            subst Judged (sym is) (subst (λ (o : Option ℕ). Outcome p.trace.walked p.core q (if is_some o then Some (conflict_with st.cursor.cur lo w)
            else if has_arrived q.core.own st.cursor then Some Place else None)) (sym k.knows.next)
            ((met e, ap (λ (v : View). v.own) core, stands), few st.cursor is refl))

        by_verdict : (d : Verdict) → verdict ≡ d → Judged q.core.cursor
        by_verdict Past e = past e
        by_verdict Stop e = stop e
        by_verdict Conflict e = conflict e

        -- what the judgement left of the cursor is what one look comes to
        pub judged_outcome : Outcome p.trace.walked p.core q (judgement_at q.core.own q.core.cursor lo w)
        judged_outcome = by_verdict verdict refl

    -- a scan has no own node, and goes past every node
    module _ (bare : p.core.own ≡ Nothing) (walked : p.trace.walked < p.trace.taken) where
      core_past : q.core ≡ hi_judged p.core st.cursor st.node n Past
      core_past = hi_made.core ∙ ap (λ (o : Own). hi_judged p.core st.cursor st.node n (verdict_of o lo w)) bare

      -- the node that a scan goes past is in the record, with its owner, its range and its mode
      pub scan_seen : IsSeen p.trace.walked q (met_with lo).owner (met_with lo).held
      scan_seen = let from : p.trace.walked ≤ p.trace.walked = omega arith in
          let below : p.trace.walked < q.trace.taken = (let t = hi_made.taken in omega arith) in
          record { met = met_with lo; is = met_now; from = from; below = below; listed = sym hi_made.list; owned = refl; holds = refl }

      scan_judged : HasJudged 1 p q
      scan_judged = more_judged hi_made refl (ap is_some st.is)
          (ap (λ (o : Own). is_some (hi_judged p.core st.cursor st.node n (verdict_of o lo w)).cursor) bare)

      module _ (before : IsHandView p) (view : IsHandView q) (room : HasRoom p) where
        past_found : PassesFrom p.trace.walked (judged_in p.trace.looked) q (found_with st.cursor.cur lo w)
        past_found = (
          scan_seen,
          judged_on_from 1 p q st.cursor st.is before scan_judged,
          scanning_at p.trace.walked p q bare view room hi_made.seats (past_inside core_past)
              (came_outcome p.trace.walked p q (past_came core_past) st.own (past_inside core_past) view hi_made.seats room),
        )

        -- the same, in the words of the cursor that was read before the step
        pub past_passes : {d : Cursor} → p.core.cursor ≡ Some d → PassesFrom p.trace.walked (judged_in p.trace.looked) q (found_with d.cur lo w)
        past_passes {d} is = let same : st.cursor ≡ d = let e : ◌≡◌ {A = Option Cursor} (Some st.cursor) (Some d) = sym st.is ∙ is in cc in
            subst (λ (c : Cursor). PassesFrom p.trace.walked (judged_in p.trace.looked) q (found_with c.cur lo w)) same past_found
