-- What the calls on a hand ask of it and leave of it, said once for all of them: a call takes a hand of its own list
-- and leaves one of the same table, and the caller's count of steps rises as the hand's record does. What a call asks
-- of the hand's part, and what it comes to, is its own. This project's own profile.
use Rattle.std.specs.Prelude.{◌≡◌, ℕ, ◌+◌}
use Rattle.epoch_pools.specs.declared.views.SeatPart.{SeatPart}
use Rattle.epoch_pools.specs.declared.views.Beside.{Beside}
use Rattle.epoch_pools.specs.Hands.{HandState, ListShape}

module _ {P : Type 0} where
  -- a hand of that list, whose part is such a one
  pub record IsHandOf (Is : SeatPart (Beside P) → Type 0) (list : ListShape) (h : HandState (Beside P)) : Type 0 where
    pub table : h.table ≡ list.table
    pub is : Is h.part

  -- calls on a hand: it is of the same table, and the caller's count of steps rises as its record's does
  pub record IsCounted (h k : HandState (Beside P)) (before after : ℕ) : Type 0 where
    pub table : k.table ≡ h.table
    pub steps : after + h.part.trace.taken ≡ before + k.part.trace.taken

  -- calls that are counted so, and come to this
  pub record Leaves (ComesTo : SeatPart (Beside P) → SeatPart (Beside P) → Type 0) (h k : HandState (Beside P)) (before after : ℕ) : Type 0 where
    pub counted : IsCounted h k before after
    pub is : ComesTo h.part k.part
