-- Calls on a hand one after another: each is counted, so all are, and what the first leaves the next may ask for.
use Rattle.std.proofs.Common.{◌≡◌, ℕ, ◌+◌, Bool, ap, ◌∙◌, arith}
use Rattle.epoch_pools.specs.declared.views.SeatPart.{SeatPart}
use Rattle.epoch_pools.specs.declared.views.Beside.{Beside}
use Rattle.epoch_pools.specs.declared.views.Standing.{Standing}
use Rattle.epoch_pools.specs.Passing.{after_look_at}
use Rattle.epoch_pools.specs.Hands.{HandState, turned}
use Rattle.marked_list.specs.declared.cursor.Cursor.{Cursor as Traversal}
use Rattle.range_rw.specs.Calls.{IsCounted, Leaves}
use Rattle.range_rw.specs.Trying.{IsLaterInTraversal, IsLaterOutside}
use Rattle.range_rw.specs.Looks.{IsLookAt}
use Rattle.range_rw.proofs.Later.{later_on, still_on}

module _ {P : Type 0} where
  -- calls one after another are counted where each is
  pub counted_on : {h m k : HandState (Beside P)} {a b c : ℕ} → IsCounted h m a b → IsCounted m k b c → IsCounted h k a c
  counted_on x y = record { table = y.table ∙ x.table; steps = let u = x.steps in let v = y.steps in omega arith }

  -- a turn, which is no step, and a look, which is one
  pub counted_turn : {h k : HandState (Beside P)} {a at : ℕ} → k.table ≡ h.table → k.part ≡ turned h.part at → IsCounted h k a a
  counted_turn same is = record { table = same; steps = let e = ap (λ (x : SeatPart (Beside P)). x.trace.taken) is in omega arith }

  pub counted_look_at : (at : ℕ) (clear : Bool) (s : Standing) {h k : HandState (Beside P)} {a b : ℕ} → k.table ≡ h.table
      → k.part ≡ after_look_at at clear s h.part → b ≡ a + 1 → Leaves (IsLookAt at clear s) h k a b
  counted_look_at at clear s same is one =
      record { counted = record { table = same; steps = let e = ap (λ (x : SeatPart (Beside P)). x.trace.taken) is in omega arith }; is = is }

  -- calls in one epoch
  pub traversal_on : {h m k : HandState (Beside P)} {a b c : ℕ} {i j l : Traversal} → Leaves (IsLaterInTraversal i j) h m a b
      → Leaves (IsLaterInTraversal j l) m k b c → Leaves (IsLaterInTraversal i l) h k a c
  traversal_on {h} {m} {k} x y = record {
    counted = counted_on x.counted y.counted;
    is = record { later = still_on h.part m.part k.part x.is.later y.is.later; cursor = y.is.cursor ∙ x.is.cursor };
  }

  -- and calls of a try that end outside one
  pub outside_on : {h m k : HandState (Beside P)} {a b c : ℕ} → Leaves IsLaterOutside h m a b → Leaves IsLaterOutside m k b c
      → Leaves IsLaterOutside h k a c
  outside_on {h} {m} {k} x y = record {
    counted = counted_on x.counted y.counted;
    is = record { later = later_on h.part m.part k.part x.is.later y.is.later; outside = y.is.outside; cursor = y.is.cursor };
  }
