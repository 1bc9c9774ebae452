-- What a load of a word of the layout tells: which words are rows, and in which order. The layout is exact while a
-- range is held, since only a call under everything stores it. The definitions are this project's own.
use Rattle.std.specs.Prelude.{ℕ, zero, suc, ◌≡◌, ◌<◌, ◌≤◌, ◌+◌, ◌*◌, ◌/◌, ◌%◌, Some, List, length, slice_index}
use Rattle.page_types.specs.declared.TheConstants.{ROWS}
use Rattle.range_rw.specs.Contract.{SeatState}
use Rattle.row_plans.specs.Plans.{IsRowList}
use Rattle.area_guard.specs.Rows.{layout_in, slots_in, rows_in, blocks_by, room_of}
use Rattle.area_guard.specs.Reads.{everything, known_rows, KnowsRows}
use Rattle.area_guard.specs.History.{after_seen}
use Rattle.area_guard.specs.declared.guard.Pass.{Pass}
use Rattle.area_rows.specs.Callers.{AreInReach, IsClientStep}

-- a layout over so many blocks: one block is free, each body word names a body, and block 0 has at most 64 rows
pub record IsLayout (nb : ℕ) (layout : List ℕ) : Type 0 where
  pub long : length layout ≡ nb + 2
  pub some : 0 < slice_index layout 1
  pub free : slice_index layout 1 < nb
  pub bodies : (i : ℕ) → i < nb → slice_index layout (2 + i) / 128 % 2048 < nb
  pub short : slice_index layout (2 + 0) % 128 < 64

-- where the words of a layout over so many blocks stand among the client words: the row count, and the others one
-- behind the other
abbrev pub layout_place : ℕ → ℕ → ℕ
layout_place nb zero = 2
layout_place nb (suc k) = 3 + 128 * nb + k

-- a load of a word of the layout: one step, with which the caller notes the layout and the words of all slots of the
-- moment. There is a row, and there are at most ROWS. The layout is the one that it has read before, and its slots are
-- in reach. Where it holds everything it knows all rows then, which are a list of rows for which there is room
pub record IsSeen (before : SeatState Pass) (index found : ℕ) (after : SeatState Pass) : Type 0 where
  pub words : List ℕ
  pub layout : IsLayout (blocks_by before.table) (layout_in words)
  pub word : slice_index (layout_in words) index ≡ found
  pub some : 0 < slice_index (layout_in words) 0
  pub few : slice_index (layout_in words) 0 ≤ ROWS
  pub rows : length (rows_in words) ≡ slice_index (layout_in words) 0
  pub slots : length (slots_in words) ≡ slice_index (layout_in words) 0
  pub reach : AreInReach before.table (slots_in words)
  pub blocks : before.pass.blocks ≡ blocks_by before.table
  pub step : IsClientStep before (layout_place (blocks_by before.table) index) (after_seen words before.pass) after
  pub again : (old : List ℕ) → before.pass.laid ≡ Some old → layout_in words ≡ old
  pub all : before.held ≡ Some everything → KnowsRows after.pass × (known_rows after.pass ≡ rows_in words) × IsRowList (rows_in words)
      × (length (rows_in words) ≤ room_of (blocks_by before.table))
