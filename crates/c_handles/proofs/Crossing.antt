-- What the pointer of a handle owns may go to another thread, if what is behind it may: a closed one owns nothing.
use base.Shift.{Keyless}
use mir.Raw.{raw}
use denote.Memory.{lone}
use denote.RattleType.{RattleType}
use denote.RawPtr.{Ptr}
use denote.Param.Send.{IsSend}
use Rattle.std.specs.Prelude.{Option, None, Some}
use Rattle.std.specs.Global.{Global}
use Rattle.std.proofs.Crossing as heap
use Rattle.std_alloc.proofs.SendSync.{lies}
use Rattle.c_handles.specs.Handles.{handle_owns}

pub owned_keyless : (R : RattleType) → IsSend R → (alloc : Global) (p : Ptr) (b : Option R.Denot) → Keyless (handle_owns R alloc p b)
owned_keyless R send alloc p None = tt
owned_keyless R send alloc p (Some s) = (lies R send p s, heap.frees.frees alloc (raw (lone R.mir)) p)
