-- A scan: where it stands after a node that it went past, after an unlinking and after its first step, and what its
-- answers say of the whole call.
use Rattle.std.proofs.Common.{◌≡◌, ◌≢◌, ℕ, ◌+◌, ◌*◌, ◌≤◌, Bool, true, false, inl, inr, ⊎_elim, sym, ap, ◌∙◌, subst, arith}
use Rattle.std.specs.Prelude.{length, Option, Some, None, if◌then◌else◌}
use Rattle.lock_core.specs.declared.views.Cursor.{Cursor}
use Rattle.lock_core.specs.declared.views.Own.{Own}
use Rattle.lock_core.specs.declared.views.Own.TheVariants.{Nothing}
use Rattle.lock_core.specs.Machine.{held_at}
use Rattle.epoch_pools.specs.declared.record.Looked.{Looked}
use Rattle.epoch_pools.specs.declared.views.SeatPart.{SeatPart}
use Rattle.epoch_pools.specs.Hands.{IsHandView}
use Rattle.marked_list.specs.declared.answers.Passed.{Passed}
use Rattle.marked_list.specs.declared.answers.Walked.{Walked}
use Rattle.marked_list.specs.declared.answers.Walked.TheVariants.{Place, Conflict, Lost, Long}
use Rattle.marked_list.specs.Order.{IsInside}
use Rattle.marked_list.specs.Leaves.{HasJudged, IsSameWalk}
use Rattle.marked_list.specs.Causes.{nodes_in, judged_in, IsBoundedWalk}
use Rattle.marked_list.specs.Answers.{Arrives, IsAtEnd}
use Rattle.marked_list.specs.Walking.{seen_of, has_arrived, arrival_at, GoesOn, HasRoom, Outcome}
use Rattle.marked_list.specs.Scanning.{IsScanAtNode, IsScanAtEnd, IsScanning, IsResting, IsScanWalk, passed_by, passed_at, PassesFrom, Passes}
use Rattle.marked_list.proofs.Arriving.{nodes_seen}

-- a hand's view has one note for each seat
pub notes_are : {P : Type 0} (q : SeatPart P) → IsHandView q → length q.core.notes ≡ q.seats
notes_are q view = view.sound.sized.notes

-- the count of judgements, where there is a cursor
pub judged_on_from : {P : Type 0} (count : ℕ) (p q : SeatPart P) (c : Cursor) → p.core.cursor ≡ Some c → IsHandView p
    → HasJudged count p q → judged_in q.trace.looked ≡ judged_in p.trace.looked + count
judged_on_from count p q c is view j = let l = view.looked c is in let m = j l.0 l.1 in
    ap judged_in m.1 ∙ (m.3 ∙ ap (λ (o : Option Looked). judged_in o + count) (sym l.1))

module _ {P : Type 0} (first : ℕ) (p q : SeatPart P) (bare : p.core.own ≡ Nothing) (view : IsHandView q) (room : HasRoom p) (seats : q.seats ≡ p.seats) where
  -- the walk goes on at a node
  pub at_node : GoesOn p.core q.core → IsScanAtNode q.core
  at_node g = record { stands = g.stands; seen = let n = notes_are q view in let r = room.seen in let s = g.seen in omega arith }

  -- or has come to the end
  pub at_last : Outcome first p.core q (Some Place) → IsInside q.core → IsScanAtEnd q.core
  at_last x inside = let a : Arrives Nothing q.core = subst (λ (o : Own). Arrives o q.core) bare x.0 in
      record {
        inside = inside;
        end = a.1;
        seen = ⊎_elim (λ (le : nodes_in q.trace.looked ≤ 16 * q.seats). counts a.1 le)
            (λ (h : (held_at q.core.own ≢ None) × IsBoundedWalk q). absurd (h.0 (ap held_at a.0))) x.1;
      }
    where
      counts : IsAtEnd q.core.cursor → nodes_in q.trace.looked ≤ 16 * q.seats → seen_of q.core.cursor ≤ 16 * length q.core.notes
      counts e le = let n = notes_are q view in let s = nodes_seen q view e.0 e.1 in let z = ap seen_of e.1 in omega arith

  -- a walk without an own node has none at its end
  pub own_at_last : Outcome first p.core q (Some Place) → q.core.own ≡ Nothing
  own_at_last x = let a : Arrives Nothing q.core = subst (λ (o : Own). Arrives o q.core) bare x.0 in a.0

  -- a cursor that came to another word
  pub scanning_at : IsInside q.core → Outcome first p.core q (arrival_at q.core.own q.core.cursor) → IsScanning q.core
  scanning_at inside x = by_cursor q.core.cursor x
    where
      by_bool : (b : Bool) → Outcome first p.core q (if b then Some Place else None) → IsScanning q.core
      by_bool true y = record { own = own_at_last y; at = inr (at_last y inside) }
      by_bool false y = record { own = y.own ∙ bare; at = inl (at_node y) }

      by_cursor : (o : Option Cursor) → Outcome first p.core q (arrival_at q.core.own o) → IsScanning q.core
      by_cursor None y = record { own = y.own ∙ bare; at = inl (at_node y) }
      by_cursor (Some c) y = by_bool (has_arrived q.core.own c) y

  -- nor has it one after any other answer
  pub own_out : (a : Walked) → Outcome first p.core q (Some a) → q.core.own ≡ Nothing
  own_out Place x = own_at_last x
  own_out (Conflict owner range mode) x = x.0.1 ∙ bare
  own_out (Lost l) x = x.0.1 ∙ bare
  own_out (Long visits) x = x.0.1 ∙ bare

-- the cursor of a scan that rests
module _ {P : Type 0} (p : SeatPart P) (view : IsHandView p) (rests : IsResting p.core) (c : Cursor) (is : p.core.cursor ≡ Some c) where
  passed_is : judged_in p.trace.looked ≡ passed_by p
  passed_is = ap (λ (o : Option Cursor). passed_at o p.trace.looked) (sym is)

  -- and that of the loop
  pub passes_on : (q : SeatPart P) (a : Passed) → PassesFrom p.trace.taken (judged_in p.trace.looked) q a → Passes p q a
  passes_on q a x = subst (λ (n : ℕ). PassesFrom p.trace.taken n q a) passed_is x

-- what a call of a scan with a cursor does is of the same walk
pub walks_same : {P : Type 0} (p q : SeatPart P) (c : Cursor) → p.core.cursor ≡ Some c → IsSameWalk p q → IsScanWalk p.core.cursor p q
walks_same p q c is same = subst (λ (o : Option Cursor). IsScanWalk o p q) (sym is) same
