-- What a caller of a call under everything has to write, and what its steps leave as it was while it writes that. Its
-- callers see that nothing is left to be written.
use Rattle.std.specs.Prelude.{ℕ, ◌≡◌, ◌<◌, ◌≤◌, ◌+◌, ◌*◌, Some, List, []}
use Rattle.range_rw.specs.Contract.{SeatState, TableShape}
use Rattle.area_guard.specs.declared.guard.Pass.{Pass}
use Rattle.area_guard.specs.declared.guard.Pending.{Pending}
use Rattle.area_guard.specs.declared.guard.Pending.TheVariants.{AtRest, Planned, OneRow}
use Rattle.area_guard.specs.declared.guard.Splice.{Splice}
use Rattle.area_guard.specs.History.{IsAtRest}
use Rattle.area_guard.specs.Reads.{everything, HasRead, KnowsWords}

-- a splice of no rows
abbrev pub no_splice : Splice
no_splice = record { old = []; first = 0; end = 0; more = [] }

-- the splice that is to be written, or one of no rows where none is
abbrev pub splice_in : Pending → Splice
splice_in AtRest = no_splice
splice_in (Planned plan) = plan
splice_in (OneRow change) = no_splice

-- the splice that a seat has to write
abbrev pub plan_at : SeatState Pass → Splice
plan_at seat = splice_in seat.pass.pending

-- a seat of this table, which has room for the blocks, holds everything and knows all words of the blocks
pub record HoldsWords (table : TableShape) (seat : SeatState Pass) : Type 0 where
  pub wide : 21 + 129 * seat.pass.blocks ≤ table.client
  pub few : seat.pass.blocks ≤ 2048
  pub table_is : seat.table ≡ table.table
  pub held : seat.held ≡ Some everything
  pub knows : KnowsWords seat.pass

-- it has a splice to write as well
pub record WritesPlan (table : TableShape) (seat : SeatState Pass) : Type 0 where
  pub holds : HoldsWords table seat
  pub pending : seat.pass.pending ≡ Planned (plan_at seat)

-- a pass still has what another has read: the layout, the rows and the sequence word; and it has as much to write, over
-- as many blocks
pub record KeepsRead (old new : Pass) : Type 0 where
  pub laid : (layout : List ℕ) → old.laid ≡ Some layout → new.laid ≡ Some layout
  pub rows : (index word : ℕ) → HasRead old.rows index word → HasRead new.rows index word
  pub sequence : (n : ℕ) → old.sequence ≡ Some n → new.sequence ≡ Some n
  pub pending : new.pending ≡ old.pending
  pub blocks : new.blocks ≡ old.blocks

-- all steps between are counted among those since the caller's last draw
abbrev pub IsCountedOn : SeatState Pass → SeatState Pass → Type 0
IsCountedOn before after = after.pass.since + before.trace.taken ≡ before.pass.since + after.trace.taken

-- steps of writing: the caller holds what it held, and has seen, numbered and to write what it had, and its pools stay
pub record IsWriting (before after : SeatState Pass) : Type 0 where
  pub table : after.table ≡ before.table
  pub number : after.number ≡ before.number
  pub held : after.held ≡ before.held
  pub pools : after.pools ≡ before.pools
  pub further : after.further ≡ before.further
  pub start : after.pass.start ≡ before.pass.start
  pub blocks : after.pass.blocks ≡ before.pass.blocks
  pub keeps : after.pass.keeps ≡ before.pass.keeps
  pub most : after.pass.most ≡ before.pass.most
  pub seen : after.pass.seen ≡ before.pass.seen
  pub mine : after.pass.mine ≡ before.pass.mine
  pub drew : after.pass.drew ≡ before.pass.drew
  pub looks : after.pass.looks ≡ before.pass.looks
  pub took : after.pass.took ≡ before.pass.took
  pub pending : after.pass.pending ≡ before.pass.pending
  pub taken : before.trace.taken ≤ after.trace.taken
  pub counted : IsCountedOn before after
  pub asked : after.trace.asked ≡ before.trace.asked

-- all that a call under everything left is written, and the last step on a client word raised the sequence word, in
-- this call; what the caller holds, has seen and has numbered is as before, and its pools are
pub record IsWritten (before after : SeatState Pass) : Type 0 where
  pub rest : IsAtRest after.pass
  pub step : ℕ
  pub client : after.trace.client ≡ Some (record { place = 1; step = step })
  pub since : before.trace.taken ≤ step
  pub until : step < after.trace.taken
  pub last : after.trace.taken ≡ step + 1
  pub counted : IsCountedOn before after
  pub asked : after.trace.asked ≡ before.trace.asked
  pub start : after.pass.start ≡ before.pass.start
  pub blocks : after.pass.blocks ≡ before.pass.blocks
  pub keeps : after.pass.keeps ≡ before.pass.keeps
  pub most : after.pass.most ≡ before.pass.most
  pub seen : after.pass.seen ≡ before.pass.seen
  pub mine : after.pass.mine ≡ before.pass.mine
  pub drew : after.pass.drew ≡ before.pass.drew
  pub looks : after.pass.looks ≡ before.pass.looks
  pub took : after.pass.took ≡ before.pass.took
  pub table : after.table ≡ before.table
  pub number : after.number ≡ before.number
  pub held : after.held ≡ before.held
  pub pools : after.pools ≡ before.pools
  pub further : after.further ≡ before.further
