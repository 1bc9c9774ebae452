-- The own node on its way: filled, aimed, linked, marked, and by the fast path.
use Rattle.std.proofs.Common.{◌≡◌, ◌≢◌, ◌⊎◌, ℕ, suc, ◌+◌, ◌*◌, ◌%◌, ◌^◌, ◌≤◌, ◌<◌, Bool, true, false, ◌∷◌, inl, inr, ⊎_elim}
use Rattle.std.proofs.Common.{refl, sym, ap, ◌∙◌, subst, arith, eq-eqb, ne_eqb}
use Rattle.std.specs.Prelude.{Option, Some, None, unwrap_or, if◌then◌else◌, ◌==◌}
use Rattle.lock_core.specs.declared.range.Held.{Held}
use Rattle.lock_core.specs.declared.range.Mode.{Mode}
use Rattle.lock_core.specs.declared.views.View.{View}
use Rattle.lock_core.specs.declared.views.Cursor.{Cursor}
use Rattle.lock_core.specs.declared.views.Own.{Own}
use Rattle.lock_core.specs.declared.views.Own.TheVariants.{Linked}
use Rattle.lock_core.specs.declared.views.Todo.{Todo}
use Rattle.lock_core.specs.declared.views.Todo.TheVariants.{Done}
use Rattle.lock_core.specs.declared.steps.Step.{Step}
use Rattle.lock_core.specs.declared.steps.Step.TheVariants.{FillLo, FillHi, Aim, Link, Mark, QuickLink, QuickUnlink}
use Rattle.lock_core.specs.Words.{cell_place, lo_place, hi_place, hi_word, cell_of}
use Rattle.lock_core.specs.Nodes.{Filled, Listed, filling, listed, listed_of}
use Rattle.lock_core.specs.Views.{lo_filled, hi_filled, aimed_at, linked, dropped, todo_of, marked, quick_linked, quick_unlinked}
use Rattle.lock_core.specs.StepTable.{Plan, IsLine, Aims, stores, adds_one, exchanges, fill_lo, fill_hi, aim, link, mark, quick_link, quick_unlink}
use Rattle.lock_core.specs.Machine.{held_at}
use Rattle.epoch_pools.specs.declared.record.Looked.{Looked}
use Rattle.epoch_pools.specs.declared.record.Record.{Record}
use Rattle.epoch_pools.specs.declared.views.SeatPart.{SeatPart}
use Rattle.epoch_pools.specs.Hands.{IsHandView}
use Rattle.epoch_pools.specs.Record.{low_end, cursor_word, own_word, looked_on, looked_with, is_judging, gained_by}
use Rattle.epoch_pools.specs.Running.{Enables, part_after, pass_kept}
use Rattle.epoch_pools.proofs.Stepping.{occupied_on}
use Rattle.marked_list.specs.declared.answers.Lost.{Lost}
use Rattle.marked_list.specs.Order.{HasEnds, StandsAtPlace, MayFill, MayAim, MayLink, MayQuickLink, MayMark, MayQuickUnlink}
use Rattle.marked_list.specs.Leaves.{IsCall, IsSameLook}
use Rattle.marked_list.specs.Causes.{IsLost, nodes_in}
use Rattle.marked_list.specs.Walking.{seen_of}
use Rattle.marked_list.specs.Answers.{aimed_own, linked_own, IsAimed, IsMarkCall, IsQuickCall}
use Rattle.marked_list.proofs.Lines.{enables, Made, made_by, IsStepFrom, made_of, pass_stays, same_looked, call_made, walk_on_walk}
use Rattle.marked_list.proofs.Following.{lost_from}
use Rattle.marked_list.proofs.Unlinking.{gone_looked, lost_made}

-- two calls of one step each are a call of two steps
pub call_on : {P : Type 0} (p q r : SeatPart P) → IsCall 1 p q → IsCall 1 q r → IsCall 2 p r
call_on p q r a b = let taken : r.trace.taken ≡ 2 + p.trace.taken = (let x = a.taken in let y = b.taken in omega arith) in
    let occupied = occupied_on p.trace q.trace r.trace a.occupied b.occupied in
    assumption (b.number ∙ a.number, b.seats ∙ a.seats, b.pass ∙ a.pass, b.client ∙ a.client, b.list ∙ a.list)

-- two calls that look at no more nodes, after each other, look at no more nodes
pub look_on_look : {P : Type 0} (p q r : SeatPart P) → IsSameLook p q → IsSameLook q r → IsSameLook p r
look_on_look p q r a b = (b.0 ∙ a.0, walk_on_walk p q r a.1 b.1)

-- a step that lets the cursor be or takes it away leaves the count of its nodes and the step that made it
look_stays : (t : Record) (b now : Option Cursor) (j g : Bool)
    → ((c : Cursor) → b ≡ Some c → (l : Looked) × (t.looked ≡ Some l) × (l.nodes ≡ c.seen)) → (now ≡ None) ⊎ (now ≡ b)
    → (nodes_in (looked_with t b now j g) ≡ nodes_in t.looked)
    × ((l : Looked) → t.looked ≡ Some l → (m : Looked) × (looked_with t b now j g ≡ Some m) × (m.step ≡ l.step) × (m.list ≡ l.list))
look_stays t b None j g on way = (ap nodes_in (gone_looked t b j g), λ l is. (l, gone_looked t b j g ∙ is, refl, refl))
look_stays t None (Some d) j g on way = absurd (⊎_elim (λ e. some_none d e) (λ e. some_none d e) way)
  where
    some_none : (x : Cursor) → ◌≡◌ {A = Option Cursor} (Some x) None → ⊥
    some_none x e = cc
look_stays t (Some c) (Some d) j g on way = let l = on c refl in
    let same : d.seen ≡ l.0.nodes = ⊎_elim (λ e. absurd (some_none d e)) (λ e. ap seen_of e ∙ sym l.2) way in
    (ap (λ (o : Option Looked). nodes_in (looked_on o d j g)) l.1 ∙ (same ∙ ap nodes_in (sym l.1)), same_looked t (Some c) (Some d) j g refl)
  where
    some_none : (x : Cursor) → ◌≡◌ {A = Option Cursor} (Some x) None → ⊥
    some_none x e = cc

module _ {P : Type 0} {rested : P → P} {p q : SeatPart P} {step : Step} {plan : Plan} {found : ℕ} (m : Made rested p q step plan found)
    (view : IsHandView p) where
  same_look : ((plan.view found).cursor ≡ None) ⊎ ((plan.view found).cursor ≡ p.core.cursor) → IsSameLook p q
  same_look way = let r = look_stays p.trace p.core.cursor (plan.view found).cursor (is_judging step) (gained_by p.core (plan.view found))
      (λ c is. let l = view.looked c is in (l.0, l.1, l.2)) way in
      (ap nodes_in m.looked ∙ r.0, λ l is. let s = r.1 l is in (s.0, m.looked ∙ s.1, s.2, s.3))

module _ {P : Type 0} (p : SeatPart P) (n lo : ℕ) (may : MayFill p.core n) where
  abbrev lo_plan : Plan
  lo_plan = stores (lo_place p.seats may.own.node) lo (lo_filled p.core may.own lo)

  lo_line : IsLine p.seats p.number p.core (FillLo lo) lo_plan
  lo_line = fill_lo may.own lo may.is may.aimed may.cursor

  -- a node that was just taken may be given its lower end
  pub may_fill_lo : Enables p (FillLo lo)
  may_fill_lo = enables p (FillLo lo) lo_plan lo_line

  module _ (rested : P → P) (q : SeatPart P) (w hi : ℕ) (mode : Mode) (made : q ≡ part_after rested p (FillLo lo) w) (less : lo < hi) (most : hi ≤ 2 ^ 62) where
    lo_made : Made rested p q (FillLo lo) lo_plan w
    lo_made = made_by rested p q (FillLo lo) lo_plan w lo_line made

    abbrev half : Filled
    half = record { node = may.own.node; lo = Some lo; hi = None; mode = may.own.mode; aimed = may.own.aimed }

    core_lo : q.core ≡ record p.core { own = filling half }
    core_lo = lo_made.core

    abbrev hi_plan : Plan
    hi_plan = stores (hi_place q.seats half.node) (hi_word hi mode) (hi_filled q.core half hi mode)

    hi_line : IsLine q.seats q.number q.core (FillHi hi mode) hi_plan
    hi_line = fill_hi half lo hi mode (ap (λ (v : View). v.own) core_lo) refl less most may.aimed (ap (λ (v : View). v.cursor) core_lo ∙ may.cursor)

    module _ (r : SeatPart P) (u : ℕ) (last : r ≡ part_after rested q (FillHi hi mode) u) where
      hi_made : Made rested q r (FillHi hi mode) hi_plan u
      hi_made = made_by rested q r (FillHi hi mode) hi_plan u hi_line last

      -- after both fills the range is asked for
      pub filled_asks : r.trace.asked ≡ record { range = record { lo = lo; hi = hi }; mode = mode } ∷ p.trace.asked
      filled_asks = let own = ap (λ (v : View). v.own) core_lo in
          hi_made.asked ∙ (λ i. record { range = record { lo = low_end (own i); hi = hi }; mode = mode } ∷ lo_made.asked i)

aims : (o : Option Cursor) → (o ≡ None) ⊎ StandsAtPlace o → Aims o (cursor_word o)
aims o place = ⊎_elim (λ e. subst (λ (x : Option Cursor). Aims x (cursor_word x)) (sym e) refl)
    (λ (s : StandsAtPlace o). subst (λ (x : Option Cursor). Aims x (cursor_word x)) (sym s.is) (refl, s.even, s.place)) place

module _ {P : Type 0} (p : SeatPart P) (may : MayAim p.core) where
  abbrev aim_plan : Plan
  aim_plan = stores (cell_place p.seats (suc may.own.node.node)) (cursor_word p.core.cursor) (aimed_at p.core may.own.node (cursor_word p.core.cursor))

  aim_line : IsLine p.seats p.number p.core Aim aim_plan
  aim_line = aim may.own.node may.own.lo may.own.hi (cursor_word p.core.cursor) may.own.is may.own.low may.own.high (aims p.core.cursor may.place)

  -- a node with both ends may be aimed at the cursor's word, or at the end where there is no cursor
  pub may_aim : Enables p Aim
  may_aim = enables p Aim aim_plan aim_line

  -- after that it is aimed there, and all else of the view stays
  pub aimed_is : (rested : P → P) (q : SeatPart P) (w : ℕ) → q ≡ part_after rested p Aim w → IsHandView p → IsAimed p q
  aimed_is rested q w made view = let m = made_by rested p q Aim aim_plan w aim_line made in
      let call = call_made m (ap held_at may.own.is) in let look = same_look m view (inr refl) in
      assumption (m.core ∙ ap (λ (o : Own). record p.core { own = aimed_own (cursor_word p.core.cursor) o }) (sym may.own.is), m.asked)

-- the own node that was linked
linked_is : (todo : Mode → Todo) (own : Own) (e : HasEnds own)
    → Linked e.node.node (record { lo = e.lo; hi = e.hi }) e.node.mode (todo e.node.mode) ≡ linked_own todo own
linked_is todo own e =
    (λ i. Linked e.node.node (record { lo = unwrap_or (sym e.low i) 0; hi = unwrap_or (sym e.high i) 0 }) e.node.mode
    (todo e.node.mode)) ∙ ap (linked_own todo) (sym e.is)

module _ {P : Type 0} {p q : SeatPart P} (a : IsAimed p q) where
  module _ (may : MayLink p.core) where
    abbrev full : Filled
    full = record may.own.node { aimed = Some may.place.cursor.cur }

    own_link : q.core.own ≡ filling full
    own_link = ap (λ (v : View). v.own) a.core ∙ (λ i. aimed_own (cursor_word (may.place.is i)) (may.own.is i))

    cursor_link : q.core.cursor ≡ Some may.place.cursor
    cursor_link = ap (λ (v : View). v.cursor) a.core ∙ may.place.is

    abbrev link_plan : Plan
    link_plan = exchanges (cell_place q.seats (cell_of may.place.cursor.prev)) may.place.cursor.cur (2 * suc full.node)
        (linked q.core full.node may.own.lo may.own.hi full.mode (todo_of full.mode)) (dropped q.core)

    link_line : IsLine q.seats q.number q.core Link link_plan
    link_line = link full may.place.cursor may.own.lo may.own.hi own_link cursor_link may.own.low may.own.high refl may.place.even may.place.place

    -- a node that was aimed at the word of a cursor at its place may be linked there
    pub may_link : Enables q Link
    may_link = enables q Link link_plan link_line

    module _ {rested : P → P} {r : SeatPart P} {w : ℕ} (made : IsStepFrom rested q r Link w) where
      link_made : Made rested q r Link link_plan w
      link_made = made_of link_line made

      abbrev linked_by : Bool → View
      linked_by b = if b then linked q.core full.node may.own.lo may.own.hi full.mode (todo_of full.mode) else dropped q.core

      gone_by : (b : Bool) → (linked_by b).cursor ≡ None
      gone_by true = refl
      gone_by false = refl

      -- aim and link leave the count of nodes that the walk looked at
      pub link_look : IsHandView q → IsSameLook p r
      link_look view = look_on_look p q r a.look (same_look link_made view (inl (gone_by (w == may.place.cursor.cur))))

      -- they ask for nothing
      pub link_asks : r.trace.asked ≡ p.trace.asked
      link_asks = link_made.asked ∙ a.asked

      -- they are a call of two steps
      pub link_call : IsCall 2 p r
      link_call = call_on p q r a.call (call_made link_made (ap held_at own_link))

      module _ {d : Cursor} (is : q.core.cursor ≡ Some d) where
        same_place : d ≡ may.place.cursor
        same_place = let e : ◌≡◌ {A = Option Cursor} (Some d) (Some may.place.cursor) = sym is ∙ cursor_link in cc

        -- where the exchange found the cursor's word, the node is linked with the validation of its mode to do
        pub link_done : w ≡ d.cur → r.core ≡ record p.core { own = linked_own todo_of p.core.own; cursor = None }
        link_done e = link_made.core ∙ (ap linked_by (eq-eqb _ _ (e ∙ ap (λ (x : Cursor). x.cur) same_place)) ∙ (ap (λ (v : View). record v {
          own = Linked full.node (record { lo = may.own.lo; hi = may.own.hi }) full.mode (todo_of full.mode);
          cursor = None;
        }) a.core ∙ ap (λ (o : Own). record p.core { own = o; cursor = None }) (linked_is todo_of p.core.own may.own)))

        -- where it found another, that is in the record, and the node is aimed and not linked
        pub link_lost : w ≢ d.cur → (s : ℕ) → s ≡ r.seats → (l : Lost) → l.place ≡ cell_place s (cell_of d.prev) → l.expected ≡ d.cur → l.found ≡ w
            → IsLost p.trace.taken r (λ kind. kind ≡ Link) l.place l.expected l.found
            × (r.core ≡ record p.core { own = aimed_own (cursor_word p.core.cursor) p.core.own; cursor = None })
        link_lost far s seats l placed wanted had = let apart = ne_eqb w may.place.cursor.cur (λ z. far (z ∙ ap (λ (x : Cursor). x.cur) (sym same_place))) in
            let many : s ≡ q.seats = seats ∙ link_made.seats in (
              lost_from p.trace.taken q.trace.taken r (λ kind. kind ≡ Link) l.place l.expected l.found (let t = a.call.taken in omega arith)
                  (lost_made link_made (λ kind. kind ≡ Link) refl (ap (λ (o : Option Cursor). Some (cursor_word o)) cursor_link) apart
                  l.place l.expected l.found (placed ∙ (λ i. cell_place (many i) (cell_of (same_place i).prev)))
                  (wanted ∙ ap (λ (x : Cursor). x.cur) same_place) had),
              link_made.core ∙ (ap linked_by apart ∙ ap (λ (v : View). record v { cursor = None }) a.core),
            )

  module _ (order : MayQuickLink p.core) (view : IsHandView p) where
    abbrev own : HasEnds p.core.own
    own = order.own

    none : p.core.cursor ≡ None
    none = view.sound.outside order.even

    abbrev ended : Filled
    ended = record own.node { aimed = Some 0 }

    own_quick : q.core.own ≡ filling ended
    own_quick = ap (λ (v : View). v.own) a.core ∙ (λ i. aimed_own (cursor_word (none i)) (own.is i))

    abbrev quick_plan : Plan
    quick_plan = exchanges 0 0 (2 * suc ended.node + 1) (quick_linked q.core ended.node own.lo own.hi ended.mode) q.core

    quick_line : IsLine q.seats q.number q.core QuickLink quick_plan
    quick_line = quick_link ended own.lo own.hi own_quick own.low own.high refl (ap (λ (v : View). v.epoch % 2) a.core ∙ order.even)

    -- a node that was aimed at the end, outside the epoch, may be linked by the fast path
    pub may_quick_link : Enables q QuickLink
    may_quick_link = enables q QuickLink quick_plan quick_line

    module _ {rested : P → P} {r : SeatPart P} {w : ℕ} (made : IsStepFrom rested q r QuickLink w) where
      quick_made : Made rested q r QuickLink quick_plan w
      quick_made = made_of quick_line made

      abbrev quick_by : Bool → View
      quick_by b = if b then quick_linked q.core ended.node own.lo own.hi ended.mode else q.core

      -- aim and quick link ask for nothing
      pub quick_asks : r.trace.asked ≡ p.trace.asked
      quick_asks = quick_made.asked ∙ a.asked

      -- they are a call of two steps
      pub quick_call : IsCall 2 p r
      quick_call = call_on p q r a.call (call_made quick_made (ap held_at own_quick))

      -- where the head was empty the range is held
      pub quick_done : w ≡ 0 → r.core ≡ record p.core { own = linked_own (λ _. Done) p.core.own }
      quick_done e = quick_made.core ∙ (ap quick_by (eq-eqb _ _ e)
          ∙ (ap (λ (v : View). record v { own = Linked ended.node (record { lo = own.lo; hi = own.hi }) ended.mode Done }) a.core
          ∙ ap (λ (o : Own). record p.core { own = o }) (linked_is (λ _. Done) p.core.own own)))

      -- where the head was another, that is in the record, and the node is aimed and not linked
      pub quick_lost : w ≢ 0 → (l : Lost) → l.place ≡ 0 → l.expected ≡ 0 → l.found ≡ w
          → IsLost p.trace.taken r (λ kind. kind ≡ QuickLink) l.place l.expected l.found × (r.core ≡ record p.core { own = aimed_own 0 p.core.own })
      quick_lost far l placed wanted had = (
        lost_from p.trace.taken q.trace.taken r (λ kind. kind ≡ QuickLink) l.place l.expected l.found (let t = a.call.taken in omega arith)
            (lost_made quick_made (λ kind. kind ≡ QuickLink) refl refl (ne_eqb _ _ far) l.place l.expected l.found placed wanted had),
        quick_made.core ∙ (ap quick_by (ne_eqb _ _ far)
            ∙ (a.core ∙ ap (λ (o : Option Cursor). record p.core { own = aimed_own (cursor_word o) p.core.own }) none)),
      )

-- the pass stays where the same is held
kept_same : {P : Type 0} (rested : P → P) (o : Option Held) (pass : P) → pass_kept rested o o pass ≡ pass
kept_same rested None pass = refl
kept_same rested (Some h) pass = refl

-- the own node is marked
module _ {P : Type 0} (is_at_rest : P → Type 0) (p : SeatPart P) (may : MayMark is_at_rest p) where
  abbrev mark_plan : Plan
  mark_plan = adds_one (cell_place p.seats (suc may.node.node)) (marked p.core may.node.node)

  mark_line : IsLine p.seats p.number p.core Mark mark_plan
  mark_line = mark may.node may.is

  -- marking the own node gives its range back where it is held, and leaves the record's other parts
  pub mark_call : (rested : P → P) (q : SeatPart P) (w : ℕ) → q ≡ part_after rested p Mark w → IsHandView p → IsMarkCall rested p q
  mark_call rested q w made view = let m = made_by rested p q Mark mark_plan w mark_line made in
      let gained = gained_by p.core (mark_plan.view w) in
      let core : (k : Listed) → p.core.own ≡ listed k → q.core ≡ marked p.core k.node = λ k is. let same : listed may.node ≡ listed k = sym may.is ∙ is in
      let node : may.node.node ≡ k.node = cc in m.core ∙ ap (marked p.core) node in
      let held : (h : Held) → held_at p.core.own ≡ Some h → q.pass ≡ rested p.pass = λ h is.
      m.pass ∙ ap (λ (o : Option Held). pass_kept rested o None p.pass) is in
      let free : held_at p.core.own ≡ None → q.pass ≡ p.pass = λ none. m.pass ∙ pass_stays rested (held_at p.core.own) None p.pass none in
      let looked : p.core.cursor ≡ None → q.trace.looked ≡ p.trace.looked = λ none.
      m.looked ∙ (ap (λ (o : Option Cursor). looked_with p.trace p.core.cursor o (is_judging Mark) gained) none
      ∙ gone_looked p.trace p.core.cursor (is_judging Mark) gained) in let look = same_look m view (inr refl) in
      let away = ap (λ (x : SeatPart P). x.trace.away) made in let noted = ap (λ (x : SeatPart P). x.trace.noted) made in assumption m

module _ {P : Type 0} (is_at_rest : P → Type 0) (p : SeatPart P) (may : MayQuickUnlink is_at_rest p) where
  abbrev back_plan : Plan
  back_plan = exchanges 0 (2 * suc may.node.node + 1) 0 (quick_unlinked p.core may.node.node) p.core

  back_line : IsLine p.seats p.number p.core QuickUnlink back_plan
  back_line = quick_unlink may.node may.is may.held may.hand

  -- a held node of a seat that owes no node its home may be unlinked by the fast path
  pub may_quick_unlink : Enables p QuickUnlink
  may_quick_unlink = enables p QuickUnlink back_plan back_line

  module _ (rested : P → P) (q : SeatPart P) (w : ℕ) (made : q ≡ part_after rested p QuickUnlink w) where
    back_made : Made rested p q QuickUnlink back_plan w
    back_made = made_by rested p q QuickUnlink back_plan w back_line made

    abbrev back_by : Bool → View
    back_by b = if b then quick_unlinked p.core may.node.node else p.core

    back_call : IsQuickCall p q
    back_call = assumption back_made

    module _ (n : ℕ) (is_node : n ≡ may.node.node) where
      -- where the head was another, that is in the record, and the range is still held
      pub back_lost : w ≢ 2 * suc n + 1 → (l : Lost) → l.place ≡ 0 → l.expected ≡ 2 * suc n + 1 → l.found ≡ w
          → IsQuickCall p q × IsLost p.trace.taken q (λ kind. kind ≡ QuickUnlink) l.place l.expected l.found × (q.core ≡ p.core) × (q.pass ≡ p.pass)
      back_lost far l placed wanted had = let apart = ne_eqb w (2 * suc may.node.node + 1) (λ z. far (z ∙ ap (λ a. 2 * suc a + 1) (sym is_node))) in
          let still : back_plan.view w ≡ p.core = ap back_by apart in (
            back_call,
            lost_made back_made (λ kind. kind ≡ QuickUnlink) refl
                (ap (λ (o : Own). Some (own_word (listed_of o))) may.is) apart l.place l.expected l.found placed (wanted ∙ ap (λ a. 2 * suc a + 1) is_node) had,
            back_made.core ∙ still,
            back_made.pass ∙ (ap (λ (v : View). pass_kept rested (held_at p.core.own) (held_at v.own) p.pass) still
                ∙ kept_same rested (held_at p.core.own) p.pass),
          )
