-- How a line's call is played, and when a reply is what the trace recorded. The words of the results are those of
-- mmap(2) and the calls like it, and the SIGSEGV codes of sigaction(2) for a page fault. That a recorded address is
-- taken as the hint of a Map or of a Remap that may move is this project's own choice, and so is the base of a heap,
-- which Linux knows and brk(2) doesn't say.
use Rattle.std.specs.Prelude.{ℕ, ◌≡◌, ◌+◌, ◌&&◌, not, ◌==◌, Option, Some, None, if◌then◌else◌}
use Rattle.page_types.specs.declared.calls.Call.{Call}
use Rattle.page_types.specs.declared.calls.Call.TheVariants.{Map, Unmap, Protect, Fault, Seal, Brk, Remap}
use Rattle.page_types.specs.declared.calls.Reply.{Reply}
use Rattle.page_types.specs.declared.calls.Reply.TheVariants.{At, Zero, Granted, Refused}
use Rattle.page_types.specs.declared.calls.Why.{Why}
use Rattle.page_types.specs.declared.calls.Why.TheVariants.{Einval, Enomem, Eexist, Eperm, Efault, MapErr, AccErr}
use Rattle.page_types.specs.Pages.{is_aligned}
use Rattle.page_types.specs.Sets.{is_fixed}
use Rattle.strace_reader.specs.declared.item.Errno.{Errno}
use Rattle.strace_reader.specs.declared.item.Errno.TheVariants.{Einval as EinvalName, Enomem as EnomemName, Eexist as EexistName}
use Rattle.strace_reader.specs.declared.item.Errno.TheVariants.{Eperm as EpermName, Efault as EfaultName, MapErr as MapErrName, AccErr as AccErrName}
use Rattle.strace_reader.specs.declared.item.Recorded.{Recorded}
use Rattle.strace_reader.specs.declared.item.Recorded.TheVariants.{Value, Failed}
use Rattle.strace_reader.specs.declared.joiner.Fed.{Fed}
use Rattle.strace_reader.specs.declared.joiner.Fed.TheVariants.{Played, Kept, Skipped, Blank}

-- a recorded address is the hint of a Map whose address doesn't bind, and of a Remap that may move and has none; every
-- other call is as it is
abbrev pub as_played : Call → Option Recorded → Call
as_played (Map addr len prot flags) (Some (Value at)) = if is_fixed flags then Map addr len prot flags else Map at len prot flags
as_played (Map addr len prot flags) (Some (Failed name)) = Map addr len prot flags
as_played (Map addr len prot flags) None = Map addr len prot flags
as_played (Unmap addr len) recorded = Unmap addr len
as_played (Protect addr len prot) recorded = Protect addr len prot
as_played (Fault addr access) recorded = Fault addr access
as_played (Seal addr len flags) recorded = Seal addr len flags
as_played (Brk base addr) recorded = Brk base addr
as_played (Remap addr old new may hint) (Some (Value at)) =
    if may && (hint == 0) then Remap addr old new may at else Remap addr old new may hint
as_played (Remap addr old new may hint) (Some (Failed name)) = Remap addr old new may hint
as_played (Remap addr old new may hint) None = Remap addr old new may hint

-- the base that a recorded value tells, or 0 where it tells none: an address that is that of a page, and not 0
abbrev pub told_base : Option Recorded → ℕ
told_base (Some (Value at)) = if is_aligned at then at else 0
told_base (Some (Failed name)) = 0
told_base None = 0

-- The base of a trace from a call on, 0 as long as there is none: it is that which the first Brk with no address and no
-- base tells, where one does.
abbrev pub base_after : ℕ → Call → Option Recorded → ℕ
base_after base (Brk own addr) recorded = if (base == 0) && (own == 0) && (addr == 0) then told_base recorded else base
base_after base (Map addr len prot flags) recorded = base
base_after base (Unmap addr len) recorded = base
base_after base (Protect addr len prot) recorded = base
base_after base (Fault addr access) recorded = base
base_after base (Seal addr len flags) recorded = base
base_after base (Remap addr old new may hint) recorded = base

-- the call with the trace's base, where it is a Brk that has none; it isn't played where the trace has none either
abbrev pub with_base : ℕ → Call → Option Call
with_base base (Brk own addr) =
    if not (own == 0) then Some (Brk own addr) else if base == 0 then None else Some (Brk base addr)
with_base base (Map addr len prot flags) = Some (Map addr len prot flags)
with_base base (Unmap addr len) = Some (Unmap addr len)
with_base base (Protect addr len prot) = Some (Protect addr len prot)
with_base base (Fault addr access) = Some (Fault addr access)
with_base base (Seal addr len flags) = Some (Seal addr len flags)
with_base base (Remap addr old new may hint) = Some (Remap addr old new may hint)

-- how many lines an answer passes over
abbrev pub skipped_by : Fed → ℕ
skipped_by (Played pid call recorded skipped) = skipped
skipped_by (Kept skipped) = skipped
skipped_by (Skipped skipped) = skipped
skipped_by Blank = 0

-- the base of a trace behind an answer
abbrev pub base_behind : ℕ → Fed → ℕ
base_behind base (Played pid call recorded skipped) = base_after base call recorded
base_behind base (Kept skipped) = base
base_behind base (Skipped skipped) = base
base_behind base Blank = base

-- the answer of a call that is played, or one more line that is passed over
abbrev pub answered : Option Call → ℕ → Option Recorded → ℕ → Fed
answered (Some call) pid recorded skipped = Played pid call recorded skipped
answered None pid recorded skipped = Skipped (skipped + 1)

-- an answer with the trace's base behind it
abbrev pub on_base : ℕ → Fed → Fed
on_base base (Played pid call recorded skipped) = answered (with_base base call) pid recorded skipped
on_base base (Kept skipped) = Kept skipped
on_base base (Skipped skipped) = Skipped skipped
on_base base Blank = Blank

-- the error's name of a refusal
abbrev pub name_of : Why → Errno
name_of (Einval field) = EinvalName
name_of (Enomem short) = EnomemName
name_of (Eexist page) = EexistName
name_of (Eperm page) = EpermName
name_of (Efault page) = EfaultName
name_of (MapErr page) = MapErrName
name_of (AccErr page kind) = AccErrName

-- the reply is what was recorded
abbrev pub Agrees : Reply → Recorded → Type 0
Agrees (At addr) (Value value) = addr ≡ value
Agrees (At addr) (Failed name) = ⊥
Agrees Zero (Value value) = value ≡ 0
Agrees Zero (Failed name) = ⊥
Agrees (Granted kind) (Value value) = value ≡ 0
Agrees (Granted kind) (Failed name) = ⊥
Agrees (Refused why) (Value value) = ⊥
Agrees (Refused why) (Failed name) = name ≡ name_of why

-- something was recorded, and the reply is not that
abbrev pub Differs : Reply → Option Recorded → Type 0
Differs reply None = ⊥
Differs reply (Some recorded) = Agrees reply recorded → ⊥
