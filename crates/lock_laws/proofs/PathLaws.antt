-- The steps that change paths, whole: from a lock, each where it is enabled, to a lock, whether or not its exchange
-- succeeds.
use Rattle.std.proofs.Common.{◌≡◌, ℕ, suc, ◌+◌, ◌-◌, ◌*◌, ◌<◌, ◌≤◌, Bool, true, false, List, length, set, Some, None, refl, sym, subst, arith, eqb-true}
use Rattle.std.specs.Prelude.{slice_index, Option, ◌==◌, if◌then◌else◌}
use Rattle.std.proofs.lemmas.List.{set-get_or}
use Rattle.std.proofs.lemmas.Option.{slice_get_within}
use Rattle.lock_core.specs.Counted.{times}
use Rattle.lock_core.specs.declared.views.View.{View}
use Rattle.lock_core.specs.declared.views.Cursor.{Cursor}
use Rattle.lock_core.specs.declared.steps.Step.TheVariants.{Link, Unlink, Mark, QuickLink, QuickUnlink}
use Rattle.lock_core.specs.Words.{Heap, cell_of, cell_place}
use Rattle.lock_core.specs.Nodes.{Listed, listed, own_times}
use Rattle.lock_core.specs.Views.{dropped, linked, todo_of, unlinked, quick_linked, quick_unlinked}
use Rattle.lock_core.specs.StepTable.{Plan, IsLine, exchanges, link, unlink, mark, quick_link, quick_unlink}
use Rattle.lock_core.specs.Machine.{Machine, heap, carried_out}
use Rattle.lock_core.specs.Sizes.{IsNode, IsSized}
use Rattle.lock_laws.specs.Invariant.{IsViewOf, LockInvariant}
use Rattle.lock_laws.specs.Laws.{IsLock}
use Rattle.lock_core.proofs.ByView.{set_there}
use Rattle.lock_core.proofs.Counts.{own_linked}
use Rattle.lock_laws.proofs.Seats.{seat_is}
use Rattle.lock_core.proofs.Words.{wrote_cell}
use Rattle.lock_laws.proofs.PathSteps.{invariant_now}
use Rattle.lock_laws.proofs.Exchanges.Putting.{Exchange}
use Rattle.lock_laws.proofs.Frames.Parts.{parts_of, invariant_of}
use Rattle.lock_laws.proofs.Exchanges.Dropping.{drops}
use Rattle.lock_laws.proofs.Exchanges.Linking as L
use Rattle.lock_laws.proofs.Exchanges.Unlinking as U
use Rattle.lock_laws.proofs.Exchanges.Marking as M
use Rattle.lock_laws.proofs.Exchanges.QuickLinking as QL
use Rattle.lock_laws.proofs.Exchanges.QuickUnlinking as QU

-- the state with these words after a step of seat s to this view
abbrev pub state_after : Machine → List ℕ → ℕ → View → Machine
state_after m words s w = record { seats = m.seats; words = words; views = set m.views s w }

-- the invariant of a state
abbrev pub Holds : Machine → Type 0
Holds m = LockInvariant (heap m) m.views

-- an exchange keeps the invariant where it does so if it succeeds and if it fails
pub exchanged : (m : Machine) (s place old new : ℕ) (won lost : View)
    → (slice_index m.words place ≡ old → Holds (state_after m (set m.words place new) s won))
    → Holds (state_after m m.words s lost) → Holds (carried_out m s (exchanges place old new won lost))
exchanged m s place old new won lost succeeds fails = split (slice_index m.words place == old) refl
  where
    split : (b : Bool) → (slice_index m.words place == old) ≡ b
        → Holds (state_after m (set m.words place (if b then new else slice_index m.words place)) s (if b then won else lost))
    split true e = succeeds (eqb-true _ _ e)
    split false e = subst (λ (ws : List ℕ). Holds (state_after m ws s lost)) (sym (set-get_or m.words place 0)) fails

-- the own view as it was
pub same_holds : (m : Machine) (s : ℕ) (v : View) → IsLock m → IsViewOf m.views s v → Holds (state_after m m.words s v)
same_holds m s v l at = subst (LockInvariant (heap m)) (sym (set_there m.views s v at)) l.invariant

-- the own view without its cursor
pub dropped_holds : (m : Machine) (s : ℕ) (v : View) → IsLock m → IsViewOf m.views s v → Holds (state_after m m.words s (dropped v))
dropped_holds m s v l at =
    invariant_of (heap m) (set m.views s (dropped v)) (drops (heap m) m.views s v (parts_of (heap m) m.views l.invariant) at)

-- a node in a seat's lists is there
pub node_there : (m : Machine) (i x : ℕ) (v : View) → IsLock m → IsViewOf m.views i v
    → 1 ≤ own_times x v.own + times x v.ready + times x v.used → IsNode m.seats x
node_there m i x v l at few = let s = seat_is (heap m) m.views l.invariant.places i x v at few in
    let w = slice_get_within m.views i v at in let z = l.sized.views in omega arith

-- the cell of a node that is there has a place
pub cell_there : (m : Machine) (prev : Option ℕ) → IsSized m → ((n : ℕ) → prev ≡ Some n → IsNode m.seats n) → cell_place m.seats (cell_of prev) < length m.words
cell_there m None z there = let w = z.words in let p = z.some in omega arith
cell_there m (Some q) z there = let w = z.words in let l = there q refl in omega arith

module _ (m : Machine) (s : ℕ) (v : View) (l : IsLock m) (at : IsViewOf m.views s v) where
  -- the heap after the next word of a cell was written
  abbrev wrote_at : ℕ → ℕ → Heap
  wrote_at p w = heap (state_after m (set m.words (cell_place m.seats p) w) s v)

  by : (p w : ℕ) → cell_place m.seats p < length m.words → Exchange m.seats (heap m) (wrote_at p w) m.views s v p w
  by p w there = let wrote = wrote_cell m.seats w m.words p there in record {
    invariant = l.invariant;
    at = at;
    epochs = λ i u e. wrote.epoch i (let a = slice_get_within m.views i u e in let b = l.sized.views in omega arith);
    wrote = wrote;
  }

  prev_there : (c : Cursor) → v.cursor ≡ Some c → cell_place m.seats (cell_of c.prev) < length m.words
  prev_there c e = cell_there m c.prev l.sized ((l.sized.each s v at).cursor c e).prev

  head_there : cell_place m.seats 0 < length m.words
  head_there = cell_there m None l.sized (λ n e. absurd (cc))

  own_there : (g : Listed) → v.own ≡ listed g → cell_place m.seats (suc g.node) < length m.words
  own_there g e = cell_there m (Some g.node) l.sized (λ n q. let same : g.node ≡ n = cc in let o = own_linked v g e in
      subst (IsNode m.seats) same (node_there m s g.node v l at (omega arith)))

  -- an enabled Link of a lock leaves a state that meets the invariant
  pub link_holds : (p : Plan) → IsLine m.seats s v Link p → Holds (carried_out m s p)
  link_holds p (link f c lo hi eo ec el eh ea low place) =
      exchanged m s (cell_place m.seats (cell_of c.prev)) c.cur (2 * suc f.node) (linked v f.node lo hi f.mode (todo_of f.mode)) (dropped v)
      (λ found. invariant_now (heap m) (wrote_at (cell_of c.prev) (2 * suc f.node)) m.views s v _ _ _ _ (L.step (record {
        into = record { by = by (cell_of c.prev) (2 * suc f.node) (prev_there c ec); own = eo; lo_is = el; hi_is = eh };
        cursor = ec;
        aimed = ea;
        low = low;
        place = place;
        found = found;
      })))
      (dropped_holds m s v l at)

  -- an enabled Unlink of a lock leaves a state that meets the invariant
  pub unlink_holds : (p : Plan) → IsLine m.seats s v Unlink p → Holds (carried_out m s p)
  unlink_holds p (unlink c y n ec ey en odd empty) =
      exchanged m s (cell_place m.seats (cell_of c.prev)) c.cur (n - 1) (unlinked v c y (n - 1)) (dropped v)
      (λ found. invariant_now (heap m) (wrote_at (cell_of c.prev) (n - 1)) m.views s v _ _ _ _ (U.step (record {
        by = by (cell_of c.prev) (n - 1) (prev_there c ec);
        cursor = ec;
        node = ey;
        next = en;
        marked = odd;
        empty = empty;
        found = found;
      })))
      (dropped_holds m s v l at)

  -- an enabled Mark of a lock leaves a state that meets the invariant
  pub mark_holds : (p : Plan) → IsLine m.seats s v Mark p → Holds (carried_out m s p)
  mark_holds p (mark g eo) = let w = (heap m).next (suc g.node) + 1 in
      invariant_now (heap m) (wrote_at (suc g.node) w) m.views s v _ _ _ _ (M.step (record { by = by (suc g.node) w (own_there g eo); own = eo }))

  -- an enabled QuickLink of a lock leaves a state that meets the invariant
  pub quick_link_holds : (p : Plan) → IsLine m.seats s v QuickLink p → Holds (carried_out m s p)
  quick_link_holds p (quick_link f lo hi eo el eh ea even) = let w = 2 * suc f.node + 1 in
      exchanged m s 0 0 w (quick_linked v f.node lo hi f.mode) v
      (λ found. invariant_now (heap m) (wrote_at 0 w) m.views s v _ _ _ _ (QL.step (record {
        into = record { by = by 0 w head_there; own = eo; lo_is = el; hi_is = eh };
        aimed = ea;
        outside = even;
        found = found;
      })))
      (same_holds m s v l at)

  -- an enabled QuickUnlink of a lock leaves a state that meets the invariant
  pub quick_unlink_holds : (p : Plan) → IsLine m.seats s v QuickUnlink p → Holds (carried_out m s p)
  quick_unlink_holds p (quick_unlink g eo done empty) =
      exchanged m s 0 (2 * suc g.node + 1) 0 (quick_unlinked v g.node) v
      (λ found. invariant_now (heap m) (wrote_at 0 0) m.views s v _ _ _ _
      (QU.step (record { by = by 0 0 head_there; own = eo; empty = empty; found = found })))
      (same_holds m s v l at)
