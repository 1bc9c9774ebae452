-- One step or call after another: what an answer says of the second is so of both.
use Rattle.std.proofs.Common.{◌≡◌, ℕ, ◌+◌, ◌*◌, ◌≤◌, sym, ◌∙◌, arith}
use Rattle.lock_core.specs.declared.steps.Step.{Step}
use Rattle.epoch_pools.specs.declared.views.SeatPart.{SeatPart}
use Rattle.marked_list.specs.Order.{StandsAt}
use Rattle.marked_list.specs.Leaves.{IsLaterInWalk, IsSameWalk, IsNewWalk}
use Rattle.marked_list.specs.Causes.{IsLost}
use Rattle.marked_list.specs.Walking.{seen_of}

-- a loop over nodes that began at p and may look at so many has come to q, at a node, with at most three steps a look
pub record HasComeTo {P : Type 0} (p q : SeatPart P) (most : ℕ) : Type 0 where
  pub few : q.seats ≤ 16
  pub bound : most ≡ 16 * q.seats + 1
  pub stands : StandsAt q.core
  pub seen : seen_of q.core.cursor ≤ most
  pub later : IsLaterInWalk p q
  pub walk : IsSameWalk p q
  pub taken : q.trace.taken + 3 * seen_of p.core.cursor ≤ p.trace.taken + 3 * seen_of q.core.cursor

-- an exchange that was lost in a later part of the call was lost in the call
pub lost_from : {P : Type 0} (first later : ℕ) (q : SeatPart P) (Kind : Step → Type 0) (place expected found : ℕ) → first ≤ later
    → IsLost later q Kind place expected found → IsLost first q Kind place expected found
lost_from first later q Kind place expected found le l = let from : first ≤ l.lost.step = omega arith in search l

-- a walk that was begun in the call is still one that was, after more steps of the same walk
pub new_on : {P : Type 0} (first : ℕ) (q r : SeatPart P) → IsNewWalk first q → IsSameWalk q r → r.trace.list ≡ q.trace.list
    → q.trace.taken ≤ r.trace.taken → IsNewWalk first r
new_on first q r new same list le = let s = same new.0 new.1 in let f = new.2 in let b = new.3 in let e = s.2 in
    (s.0, s.1, omega arith, omega arith, s.3 ∙ (new.4 ∙ sym list))
