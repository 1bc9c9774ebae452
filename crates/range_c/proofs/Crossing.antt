-- A seat may be shared by threads, and so may the places for seats that were given back: by a reference to a seat
-- nothing is reached that belongs to one thread. So what is behind a handle may go to another thread.
use denote.Builtin.{unit}
use denote.RattleType.{RattleType}
use denote.Struct.Declared as Declared
use denote.Param.Send.{IsSend, IsSync, struct_sync, recorded_sync, part_keyless, sendable}
use Rattle.std.proofs.Crossing.{crosses}
use Rattle.counted_slot.proofs.Counted.TheSendSync as counted
use Rattle.atomic_table.specs.contracts.shared.Seat as Token
use Rattle.atomic_table.proofs.shared.Seat.TheSendSync.{the_send as token_send}
use Rattle.range_rw.proofs.table.RangeTable.TheSendSync as table
use Rattle.range_rw.proofs.table.Seat.TheSendSync as seat
use Rattle.range_c.specs.contracts.recording.Recorded as Recorded
use Rattle.range_c.specs.contracts.recording.Recording as Recording
use Rattle.range_c.specs.contracts.recording.RecordingGuard.TheImpl as guard
use Rattle.range_c.specs.contracts.shelf.Rest as Rest
use Rattle.range_c.specs.contracts.shelf.Shelf as Shelf
use Rattle.range_c.specs.contracts.state.Lock as Lock
use Rattle.range_c.specs.contracts.state.State as State
use Rattle.range_c.proofs.shelf.Rest.TheSendSync as rest
use Rattle.range_c.proofs.state.Lock.TheSendSync as lock

-- a seat of the table of words may be shared
pub token_sync : (S V : RattleType) → IsSend S → IsSync (Token.the_row S V)
token_sync S V s = record { shared = λ d b o κ q. part_keyless (Token.the_row S V) (token_send S V s) q d b o }

rest_fields : IsSync (Rest.the_field).row
rest_fields = search (sendable, crosses, token_sync) depth 120 fits 200000

-- a seat that was given back may be shared
pub rest_sync : IsSync Rest.the_row
rest_sync = recorded_sync (Rest.the_field).row _ _ (Rest.the_type).to_one rest_fields

shelf_fields : IsSync (Shelf.the_field).row
shelf_fields = search (sendable, crosses, counted.the_sync, rest.the_send, rest_sync) depth 40

lock_fields : IsSync (Lock.the_field).row
lock_fields = struct_sync (Declared.shape Lock.the_type) (table.the_sync Recording.the_row Recorded.the_row unit guard.ghosts, (shelf_fields, tt))

-- so may a table with the places for such seats
pub lock_sync : IsSync Lock.the_row
lock_sync = recorded_sync (Lock.the_field).row _ _ (Lock.the_type).to_one lock_fields

-- what is behind a handle may go to another thread
pub state_send : IsSend State.the_row
state_send = search (sendable, crosses, lock.the_send, lock_sync, seat.the_send) depth 40
