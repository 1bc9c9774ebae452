-- A scan through a seat: how its hand enters its epoch and leaves it, and what a call on the list is to the seat.
use Rattle.std.proofs.Common.{◌≡◌, ◌≢◌, ℕ, ◌+◌, ◌*◌, ◌%◌, ◌<◌, ◌≤◌, ◌⊎◌, Bool, true, false, inl, inr}
use Rattle.std.proofs.Common.{◌-◌, ⊎_elim, refl, sym, ap, ◌∙◌, subst, arith, eqb-true, eq-eqb, ne_eqb}
use Rattle.std.specs.Prelude.{IsSome, Option, Some, None, ◌==◌, ◌&&◌, if◌then◌else◌}
use Rattle.atomic_table.specs.Seated.{TableId}
use Rattle.lock_core.specs.declared.views.Cursor.{Cursor}
use Rattle.lock_core.specs.declared.views.Own.{Own}
use Rattle.lock_core.specs.declared.views.Own.TheVariants.{Nothing}
use Rattle.lock_core.proofs.SizedSteps.{plain_is}
use Rattle.epoch_pools.specs.declared.record.Looked.{Looked}
use Rattle.epoch_pools.specs.declared.views.SeatPart.{SeatPart}
use Rattle.epoch_pools.specs.declared.views.Beside.{Beside}
use Rattle.epoch_pools.specs.Beside.{shown_core}
use Rattle.epoch_pools.specs.Hands.{IsHandView}
use Rattle.marked_list.specs.declared.answers.Passed.{Passed}
use Rattle.marked_list.specs.declared.answers.Passed.TheVariants.{Found as NodeFound, End as ListEnd, Lost as NotWon, Long as TooLong}
use Rattle.marked_list.specs.Order.{IsInside}
use Rattle.marked_list.specs.Leaves.{IsLaterInWalk}
use Rattle.marked_list.specs.Causes.{nodes_in, judged_in}
use Rattle.marked_list.specs.Answers.{IsAtEnd}
use Rattle.marked_list.specs.Walking.{seen_of}
use Rattle.marked_list.specs.Scanning.{IsScanAtNode, IsScanAtEnd, IsScanning, IsResting, IsScanWalk, passed_at, passed_by, Passes}
use Rattle.marked_list.proofs.Arriving.{nodes_seen}
use Rattle.marked_list.proofs.Passing.{notes_are}
use Rattle.range_rw.specs.Contract.{SeatState, OpenScan, fresh_in}
use Rattle.range_rw.specs.Seats.{IsSettled, begun_in, walk_of, scan_of, placed_scan, placed_in, pools_of, seat_state_of}
use Rattle.range_rw.specs.Scan.{scanned_as, Gives, WalksOn, KeepsWalk, IsNextIn, IsListEnd, IsNoEnd, ListGives}
use Rattle.range_rw.proofs.Seated.{both_true, count_numbers}

-- no own node is settled
pub bare_settled : (own : Own) → own ≡ Nothing → IsSettled own
bare_settled own e = subst IsSettled (sym e) tt

module _ {P : Type 0} (p : SeatPart (Beside P)) where
  -- where no scan is open, and where one is
  pub scan_none : p.core.epoch % 2 ≡ 0 → scan_of p ≡ None
  scan_none even = ap (λ (b : Bool). if b then None else Some (walk_of (16 * p.seats + 1) p.core.cursor p.trace.looked)) (eq-eqb _ _ even)

  -- inside the epoch the open scan is the walk of the hand
  pub scan_some : p.core.epoch % 2 ≡ 1 → scan_of p ≡ Some (walk_of (16 * p.seats + 1) p.core.cursor p.trace.looked)
  scan_some odd = ap (λ (b : Bool). if b then None else Some (walk_of (16 * p.seats + 1) p.core.cursor p.trace.looked))
      (ne_eqb (p.core.epoch % 2) 0 (λ z. let o = odd in omega arith))

  -- a seat with an open scan has its hand inside its epoch
  pub scan_inside : IsSome (scan_of p) → p.core.hand ≡ None → IsInside p.core
  scan_inside some hand = record { odd = by_even (p.core.epoch % 2 == 0) refl some; hand = hand }
    where
      by_even : (b : Bool) → (p.core.epoch % 2 == 0) ≡ b
          → IsSome (if b then None else Some (walk_of (16 * p.seats + 1) p.core.cursor p.trace.looked)) → p.core.epoch % 2 ≡ 1
      by_even true e s = absurd (cc)
      by_even false e s = let far : p.core.epoch % 2 ≢ 0 = λ z. let t = eq-eqb _ _ z in let f : ◌≡◌ {A = Bool} true false = sym t ∙ e in cc in omega arith

-- as many nodes as its bound says
pub walk_most : (m : ℕ) (o : Option Cursor) (l : Option Looked) → (walk_of m o l).most ≡ m
walk_most m None l = refl
walk_most m (Some c) l = refl

-- it has looked at what its cursor has seen
pub walk_nodes : (m : ℕ) (o : Option Cursor) (l : Option Looked) → (walk_of m o l).nodes ≡ seen_of o
walk_nodes m None l = refl
walk_nodes m (Some c) l = refl

-- it went past what its cursor went past
pub walk_passed : (m : ℕ) (o : Option Cursor) (l : Option Looked) → (walk_of m o l).passed ≡ passed_at o l
walk_passed m None l = refl
walk_passed m (Some c) l = refl

-- the number of the walk of a cursor
abbrev pub walk_at : Option Cursor → Option Looked → Option ℕ
walk_at None l = None
walk_at (Some c) l = begun_in l

-- it is that of its cursor
pub walk_begun : (m : ℕ) (o : Option Cursor) (l : Option Looked) → (walk_of m o l).walk ≡ walk_at o l
walk_begun m None l = refl
walk_begun m (Some c) l = refl

-- at its end the cursor is at the end
pub walk_ended : (m : ℕ) (o : Option Cursor) (l : Option Looked) → (walk_of m o l).ended ≡ true → IsAtEnd o
walk_ended m None l e = absurd (cc)
walk_ended m (Some c) l e = (c, refl, eqb-true _ _ e)

-- inside the epoch the open scan is the walk of the hand, in its list
pub opened_is : {P : Type 0} (p : SeatPart (Beside P)) (was : OpenScan) → IsInside p.core → placed_in p.pass.lists p.pass.list (scan_of p) ≡ Some was
    → placed_scan p.pass.lists p.pass.list (walk_of (16 * p.seats + 1) p.core.cursor p.trace.looked) ≡ was
opened_is p was inside opened = let f : ◌≡◌ {A = Option OpenScan} (Some (placed_scan p.pass.lists p.pass.list (walk_of (16 * p.seats + 1) p.core.cursor
    p.trace.looked))) (Some was) = sym (ap (placed_in p.pass.lists p.pass.list) (scan_some p inside.odd)) ∙ opened in cc

-- a call on the list to which the hand is turned, as the seat shows it
module _ {P : Type 0} (was_table now_table : TableId) (p q : SeatPart (Beside P)) (inside : IsInside p.core) (on : IsLaterInWalk p q)
    (view : IsHandView q) where
  abbrev before : SeatState P
  before = seat_state_of (record { table = was_table; part = p })

  abbrev after : SeatState P
  after = seat_state_of (record { table = now_table; part = q })

  abbrev was : OpenScan
  was = walk_of (16 * p.seats + 1) p.core.cursor p.trace.looked

  abbrev now : OpenScan
  now = walk_of (16 * q.seats + 1) q.core.cursor q.trace.looked

  abbrev was_placed : OpenScan
  was_placed = placed_scan p.pass.lists p.pass.list was

  abbrev now_placed : OpenScan
  now_placed = placed_scan q.pass.lists q.pass.list now

  same_list : q.pass.list ≡ p.pass.list
  same_list = ap (λ (b : Beside P). b.list) on.pass

  was_most : 16 * p.seats + 1 ≡ was.most
  was_most = sym (walk_most (16 * p.seats + 1) p.core.cursor p.trace.looked)

  now_most : now.most ≡ 16 * q.seats + 1
  now_most = walk_most (16 * q.seats + 1) q.core.cursor q.trace.looked

  same_most : now.most ≡ was.most
  same_most = let e = now_most in let s = on.seats in let w = was_most in omega arith

  was_passed : passed_by p ≡ was.passed
  was_passed = sym (walk_passed (16 * p.seats + 1) p.core.cursor p.trace.looked)

  module _ (c : Cursor) (is : q.core.cursor ≡ Some c) where
    now_passed : now.passed ≡ judged_in q.trace.looked
    now_passed = ap (λ (o : Option Cursor). (walk_of (16 * q.seats + 1) o q.trace.looked).passed) is

    now_ended : now.ended ≡ (c.cur == 0)
    now_ended = ap (λ (o : Option Cursor). (walk_of (16 * q.seats + 1) o q.trace.looked).ended) is

    now_nodes : now.nodes ≡ nodes_in q.trace.looked
    now_nodes = ap (λ (o : Option Cursor). (walk_of (16 * q.seats + 1) o q.trace.looked).nodes) is ∙ sym (nodes_seen q view c is)

    now_walk : now.walk ≡ begun_in q.trace.looked
    now_walk = ap (λ (o : Option Cursor). (walk_of (16 * q.seats + 1) o q.trace.looked).walk) is

  cursor_of : IsScanning q.core → (c : Cursor) × (q.core.cursor ≡ Some c)
  cursor_of s = ⊎_elim (λ (n : IsScanAtNode q.core). (n.stands.cursor, n.stands.is)) (λ (l : IsScanAtEnd q.core). (l.end.0, l.end.1)) s.at

  -- the end of a list is given where it is the last one
  gives_by : (a : Passed) → ((IsNoEnd a → ⊥) → q.pass.list + 1 ≡ q.pass.lists) → Passes p q a → Gives before after was_placed now_placed (scanned_as a)
  gives_by (NodeFound owner range mode) last x =
      let s = x.0 in let c = cursor_of x.2 in (
        record { met = s.met; is = s.is; from = s.from; below = s.below; owned = s.owned; holds = s.holds },
        now_passed c.0 c.1 ∙ (x.1 ∙ ap (λ n. n + 1) was_passed),
      )
  gives_by ListEnd last x =
      let e = x.0.end in (
        (λ i. (now_ended e.0 e.1 ∙ eq-eqb _ _ e.2) i && eq-eqb (q.pass.list + 1) q.pass.lists (last (λ never. never)) i),
        now_passed e.0 e.1 ∙ (x.1 ∙ was_passed),
        (let n = now_nodes e.0 e.1 in let m = now_most in let le = x.2 in omega arith),
      )
  gives_by (NotWon l) last x =
      let s = x.0 in (
        record {
          lost = s.lost;
          is = s.is;
          kind = s.kind;
          from = s.from;
          below = s.below;
          placed = s.placed;
          wanted = s.wanted;
          had = s.had;
          differ = s.differ;
        },
        x.1 ∙ was_passed,
        (let n = x.2 in let e = on.seats in let w = was_most in omega arith),
        ap (λ (o : Option Cursor). placed_scan q.pass.lists q.pass.list (walk_of (16 * q.seats + 1) o q.trace.looked)) x.3
            ∙ (λ i. fresh_in (same_list i) ((sym now_most ∙ same_most) i)),
      )
  gives_by (TooLong visits) last x =
      let st = x.3.stands in let plain = plain_is st.cursor.cur st.node st.at in (
        x.0 ∙ sym now_most,
        now_nodes st.cursor st.is ∙ (x.2 ∙ sym now_most),
        now_passed st.cursor st.is ∙ (x.1 ∙ was_passed),
        ap (λ (b : Bool). b && q.pass.list + 1 == q.pass.lists)
            (now_ended st.cursor st.is ∙ ne_eqb st.cursor.cur 0 (λ z. let q = plain in omega arith)),
      )

  -- a cursor that rests has looked at no more nodes than a walk may
  rests_few : IsResting q.core → now.nodes ≤ now.most
  rests_few rests =
      let n = walk_nodes (16 * q.seats + 1) q.core.cursor q.trace.looked in let m = now_most in let t = notes_are q view in
      ⊎_elim (λ (none : q.core.cursor ≡ None). let z = ap seen_of none in let e : now.nodes ≤ now.most = omega arith in e)
      (λ (s : IsScanning q.core). ⊎_elim
      (λ (at : IsScanAtNode q.core). let b = at.seen in let e : now.nodes ≤ now.most = omega arith in e)
      (λ (at : IsScanAtEnd q.core). let b = at.seen in let e : now.nodes ≤ now.most = omega arith in e) s.at) rests

  module _ (first : IsHandView p) (goes : IsScanWalk p.core.cursor p q) where
    -- the walk stays, or was begun by a step of the call
    walks_by : (o : Option Cursor) → p.core.cursor ≡ o → IsScanWalk o p q → WalksOn before after (walk_at o p.trace.looked) (begun_in q.trace.looked)
    walks_by None e new = (new.0.step, ap begun_in new.1, new.2, new.3)
    walks_by (Some c) e same = let l = first.looked c e in let m = same l.0 l.1 in
        subst (λ (o : Option Looked). WalksOn before after (begun_in o) (begun_in q.trace.looked)) (sym l.1) (ap begun_in m.1 ∙ ap (λ n. Some n) m.2)

    walks_kept : WalksOn before after was.walk (begun_in q.trace.looked)
    walks_kept = subst (λ (o : Option ℕ). WalksOn before after o (begun_in q.trace.looked))
        (sym (walk_begun (16 * p.seats + 1) p.core.cursor p.trace.looked)) (walks_by p.core.cursor refl goes)

    walks_now : (c : Cursor) → q.core.cursor ≡ Some c → WalksOn before after was.walk now.walk
    walks_now c is = subst (λ (o : Option ℕ). WalksOn before after was.walk o) (sym (now_walk c is)) walks_kept

    keeps_by : (a : Passed) → Passes p q a → KeepsWalk before after was_placed now_placed (scanned_as a)
    keeps_by (NodeFound owner range mode) x = let c = cursor_of x.2 in walks_now c.0 c.1
    keeps_by ListEnd x = walks_now x.0.end.0 x.0.end.1
    keeps_by (NotWon l) x = (ap (λ (o : Option Cursor). (walk_of (16 * q.seats + 1) o q.trace.looked).walk) x.3, walks_kept)
    keeps_by (TooLong visits) x = walks_now x.3.stands.cursor x.3.stands.is

    -- the answer of the list is what the scan gives, with its cause
    next_is : (a : Passed) → ((IsNoEnd a → ⊥) → q.pass.list + 1 ≡ q.pass.lists) → IsResting q.core → Passes p q a
        → IsNextIn before after was_placed (scanned_as a)
    next_is a last rests x = record {
      now = now_placed;
      is = ap (placed_in q.pass.lists q.pass.list) (scan_some q (ap (λ n. n % 2) on.epoch ∙ inside.odd));
      list = same_list;
      same = same_most;
      bounded = rests_few rests;
      gives = gives_by a last x;
      keeps = keeps_by a x;
      walks = on.walks;
      last = λ ended.
          let both = both_true now.ended (q.pass.list + 1 == q.pass.lists) ended in let e = eqb-true (q.pass.list + 1) q.pass.lists both.1 in
          let c = count_numbers (λ j. pools_of (shown_core q j)) 1 (q.pass.lists - 1) in omega arith;
    }

    -- the last walk is one of this list
    looked_here : p.trace.list ≡ p.pass.list → (l : Looked) → q.trace.looked ≡ Some l → l.list ≡ p.pass.list
    looked_here noted l last = by p.core.cursor refl goes
      where
        same : (m : Looked) → q.trace.looked ≡ Some m → m.list ≡ l.list
        same m at = let e : ◌≡◌ {A = Option Looked} (Some m) (Some l) = sym at ∙ last in let z : m ≡ l = cc in ap (λ (x : Looked). x.list) z

        by : (o : Option Cursor) → p.core.cursor ≡ o → IsScanWalk o p q → l.list ≡ p.pass.list
        by None e new = sym (same new.0 new.1) ∙ (new.4 ∙ (on.list ∙ noted))
        by (Some c) e walk = let k = first.looked c e in let m = walk k.0 k.1 in sym (same m.0 m.1) ∙ (m.3 ∙ (k.4 ∙ noted))

    -- the end of the list was read, and no node of it passed
    end_here : p.trace.list ≡ p.pass.list → (q ≡ p) ⊎ (p.trace.taken < q.trace.taken) → Passes p q ListEnd → IsListEnd before after was_placed
    end_here noted moved x =
        let e = x.0.end in let l = view.looked e.0 e.1 in record {
          walk = l.0;
          is = l.1;
          listed = looked_here noted l.0 l.1;
          ended = l.3 e.2;
          none = sym (ap judged_in l.1) ∙ (x.1 ∙ was_passed);
          few = let n : nodes_in q.trace.looked ≡ l.0.nodes = ap nodes_in l.1 in let m = was_most in let b = x.2 in let s = on.seats in omega arith;
          keeps = subst (λ (o : Option ℕ). WalksOn before after was.walk o) (ap begun_in l.1) walks_kept;
          read = ⊎_elim (λ (same : q ≡ p). inl (ap (λ (y : SeatPart (Beside P)). y.trace.looked) same))
              (λ (more : p.trace.taken < q.trace.taken). inr more) moved;
          stay = on.walks;
        }

    -- what a call comes to in one list, by the answer of the list
    gives_here : p.trace.list ≡ p.pass.list → (a : Passed) → (q ≡ p) ⊎ (p.trace.taken < q.trace.taken) → IsResting q.core → Passes p q a
        → ListGives (q.pass.list + 1 ≡ q.pass.lists) before after was_placed a
    gives_here noted (NodeFound owner range mode) moved rests x = next_is (NodeFound owner range mode) (λ no. absurd (no tt)) rests x
    gives_here noted ListEnd moved rests x = (end_here noted moved x, λ last. next_is ListEnd (λ _. last) rests x)
    gives_here noted (NotWon l) moved rests x = next_is (NotWon l) (λ no. absurd (no tt)) rests x
    gives_here noted (TooLong visits) moved rests x = next_is (TooLong visits) (λ no. absurd (no tt)) rests x

    pub list_gives : p.trace.list ≡ p.pass.list → (was : OpenScan) → placed_in p.pass.lists p.pass.list (scan_of p) ≡ Some was → (a : Passed)
        → (q ≡ p) ⊎ (p.trace.taken < q.trace.taken) → IsResting q.core → Passes p q a → ListGives (q.pass.list + 1 ≡ q.pass.lists) before after was a
    list_gives noted was opened a moved rests x = subst (λ (w : OpenScan). ListGives (q.pass.list + 1 ≡ q.pass.lists) before after w a)
        (opened_is p was inside opened) (gives_here noted a moved rests x)
