-- What is behind a handle may go to another thread: a space may be shared by threads, and a caller may go to another.
use denote.Param.Send.{IsSend, sendable}
use Rattle.std.proofs.Crossing.{crosses}
use Rattle.area_rows.proofs.space.Caller.TheSendSync as caller
use Rattle.area_rows.proofs.space.Space.TheSendSync as space
use Rattle.space_c.specs.contracts.state.State as State

-- what is behind a handle may go to another thread
pub state_send : IsSend State.the_row
state_send = search (sendable, crosses, space.the_send, space.the_sync, caller.the_send) depth 40
