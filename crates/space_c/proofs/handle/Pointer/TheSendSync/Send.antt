-- A handle may go to another thread: what is behind it may, and a closed one owns nothing.
use denote.Struct.Struct.{exits_of}
use denote.Struct.Owning.{shape, fields, to}
use denote.Param.Send.{IsSend, AllSend, owning_send, struct_send, sendable}
use Rattle.std_alloc.proofs.SendSync.{quiet}
use Rattle.std_heap.proofs.Global.TheSendSync as handle
use Rattle.c_handles.proofs.Crossing.{owned_keyless}
use Rattle.space_c.specs.contracts.state.State as State
use Rattle.space_c.proofs.Crossing.{state_send as state}
use Rattle.space_c.specs.contracts.handle.Pointer.{the_row, the_type}

-- the pointer of a handle may go to another thread
pub send : IsSend the_row
send =
    let all : AllSend (fields the_type) = (search sendable, (handle.the_field_send, tt)) in
    owning_send the_type all (λ d. owned_keyless State.the_row state d.alloc d.at d.behind)
    (λ k. quiet (to the_type) (exits_of k (fields the_type)) ((struct_send (shape the_type) all).leaving k))
