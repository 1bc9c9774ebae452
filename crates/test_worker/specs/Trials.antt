-- What a trial says of a history. This is the trials' own.
use Rattle.std.specs.Prelude.{ℕ, ◌≡◌, None, List, [], length, map}
use Rattle.atomic_table.specs.Seated.{TableId}
use Rattle.space_model.specs.declared.areas.Area.{Area}
use Rattle.space_model.specs.declared.entries.Entry.{Entry}
use Rattle.area_rows.specs.Callers.{CallerView}
use Rattle.trace_threads.specs.declared.worker.Line.{Line}
use Rattle.trace_threads.specs.Collected.{IsPlayed}

-- lists of so many lines were played
abbrev pub HasPlayedCounts : List Area → List ℕ → List Entry → List Area → Type 0
HasPlayedCounts start counts entries areas = (lists : List (List Line)) × (map length lists ≡ counts) × IsPlayed start lists entries areas

-- a caller that held a range has given it back, and has made no call
pub record IsBack (before after : CallerView) : Type 0 where
  pub table : after.seat.table ≡ before.seat.table
  pub number : after.seat.number ≡ before.seat.number
  pub held : after.seat.held ≡ None
  pub mine : after.seat.pass.mine ≡ before.seat.pass.mine

-- the third caller of a new space: it holds nothing and has no entry
pub record IsThird (table : TableId) (c : CallerView) : Type 0 where
  pub table_is : c.seat.table ≡ table
  pub number : c.seat.number ≡ 2
  pub held : c.seat.held ≡ None
  pub mine : c.seat.pass.mine ≡ []
