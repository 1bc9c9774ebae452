-- What a step that reads tells of the moment at which it is made: that there is one, with a history that goes on with
-- what the caller has seen. So what its range has shown (`Shows` of `Callers`) was so of a state. This project's own.
use Rattle.std.specs.Prelude.{ℕ, List}
use Rattle.space_model.specs.declared.areas.Area.{Area}
use Rattle.space_model.specs.declared.entries.Entry.{Entry}
use Rattle.range_rw.specs.Contract.{SeatState}
use Rattle.area_guard.specs.declared.guard.Pass.{Pass}
use Rattle.area_guard.specs.History.{StartsWith}
use Rattle.area_rows.specs.Callers.{IsMoment}

-- a moment of the running space, at which the caller of this seat holds its range and has read what it has read
pub record HasMoment (seat : SeatState Pass) : Type 0 where
  pub history : List Entry
  pub state : List Area
  pub words : List ℕ
  pub moment : IsMoment seat seat.pass.start history state words
  pub more : StartsWith history seat.pass.seen
