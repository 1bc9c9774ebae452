-- A call, its reply and what was recorded of it as text, as strace(1) prints a system call and its result: addresses in
-- hexadecimal, lengths in decimal, sets as words. What a refusal says after the error's name is this project's own
-- profile. A text is a function of what it shows, so equal calls have equal texts.
use Rattle.std.specs.Prelude.{ℕ, ◌==◌, if◌then◌else◌, List, [], ◌++◌, codes, decimal}
use Rattle.page_types.specs.declared.pages.Field.{Field}
use Rattle.page_types.specs.declared.pages.Field.TheVariants.{Addr, Len, Flags, End}
use Rattle.page_types.specs.declared.calls.Call.{Call}
use Rattle.page_types.specs.declared.calls.Call.TheVariants.{Map, Unmap, Protect, Fault, Seal, Brk, Remap}
use Rattle.page_types.specs.declared.calls.Reply.{Reply}
use Rattle.page_types.specs.declared.calls.Reply.TheVariants.{At, Zero, Granted, Refused}
use Rattle.page_types.specs.declared.calls.Why.{Why}
use Rattle.page_types.specs.declared.calls.Why.TheVariants.{Einval, Enomem, Eexist, Eperm, Efault, MapErr, AccErr}
use Rattle.page_types.specs.declared.calls.Short.{Short}
use Rattle.page_types.specs.declared.calls.Short.TheVariants.{Missing, PastEnd, NoGap, Rows}
use Rattle.strace_reader.specs.declared.item.Errno.{Errno}
use Rattle.strace_reader.specs.declared.item.Errno.TheVariants.{Einval as EinvalName, Enomem as EnomemName, Eexist as EexistName}
use Rattle.strace_reader.specs.declared.item.Errno.TheVariants.{Eperm as EpermName, Efault as EfaultName, MapErr as MapErrName}
use Rattle.strace_reader.specs.declared.item.Errno.TheVariants.{AccErr as AccErrName, Other}
use Rattle.strace_reader.specs.declared.item.Recorded.{Recorded}
use Rattle.strace_reader.specs.declared.item.Recorded.TheVariants.{Value, Failed}
use Rattle.maps_printer.specs.Numbers.{address_text, prefixed_hex}
use Rattle.maps_printer.specs.Words.{access_text, flags_text, log_kind, move_text, prot_text}

-- a comma and a hint, where there is one
abbrev pub hint_text : ℕ → List ℕ
hint_text hint = if hint == 0 then [] else codes ", " ++ prefixed_hex hint

-- mmap(2), munmap(2), mprotect(2), mseal(2) and mremap(2) as strace(1) prints them, but for flags in decimal; no file
-- backs the memory. brk(2) has the heap's base behind its address, and a fault is this project's own
abbrev pub call_text : Call → List ℕ
call_text (Map addr len prot flags) = codes "mmap(" ++ address_text addr ++ codes ", " ++ decimal len ++ codes ", "
    ++ prot_text prot ++ codes ", " ++ flags_text flags ++ codes ", -1, 0)"
call_text (Unmap addr len) = codes "munmap(" ++ address_text addr ++ codes ", " ++ decimal len ++ codes ")"
call_text (Protect addr len prot) = codes "mprotect(" ++ address_text addr ++ codes ", " ++ decimal len ++ codes ", " ++ prot_text prot ++ codes ")"
call_text (Fault addr access) = codes "fault(" ++ address_text addr ++ codes ", " ++ access_text access ++ codes ")"
call_text (Seal addr len flags) = codes "mseal(" ++ address_text addr ++ codes ", " ++ decimal len ++ codes ", " ++ decimal flags ++ codes ")"
call_text (Brk base addr) = codes "brk(" ++ address_text addr ++ codes ", " ++ address_text base ++ codes ")"
call_text (Remap addr old new may hint) = codes "mremap(" ++ address_text addr ++ codes ", " ++ decimal old ++ codes ", "
    ++ decimal new ++ codes ", " ++ move_text may ++ hint_text hint ++ codes ")"

-- the argument that an EINVAL is about
abbrev pub field_text : Field → List ℕ
field_text Addr = codes "addr"
field_text Len = codes "len"
field_text Flags = codes "flags"
field_text End = codes "end"

-- what an ENOMEM is short of
abbrev pub short_text : Short → List ℕ
short_text (Missing page) = codes "missing page " ++ prefixed_hex page
short_text (PastEnd page) = codes "end page " ++ prefixed_hex page
short_text (NoGap pages) = codes "no gap of " ++ decimal pages ++ codes " pages"
short_text (Rows rows) = codes "rows " ++ decimal rows

-- -1, the error's name, and what it is about
abbrev pub why_text : Why → List ℕ
why_text (Einval field) = codes "-1 EINVAL " ++ field_text field
why_text (Enomem short) = codes "-1 ENOMEM " ++ short_text short
why_text (Eexist page) = codes "-1 EEXIST page " ++ prefixed_hex page
why_text (Eperm page) = codes "-1 EPERM page " ++ prefixed_hex page
why_text (Efault page) = codes "-1 EFAULT page " ++ prefixed_hex page
why_text (MapErr page) = codes "-1 SEGV_MAPERR page " ++ prefixed_hex page
why_text (AccErr page kind) = codes "-1 SEGV_ACCERR page " ++ prefixed_hex page ++ codes " " ++ log_kind kind

-- the reply of a call
abbrev pub reply_text : Reply → List ℕ
reply_text (At addr) = prefixed_hex addr
reply_text Zero = codes "0"
reply_text (Granted kind) = codes "granted " ++ log_kind kind
reply_text (Refused why) = why_text why

-- a recorded error, by its name where it is one of those that a reply may have
abbrev pub errno_text : Errno → List ℕ
errno_text EinvalName = codes "-1 EINVAL"
errno_text EnomemName = codes "-1 ENOMEM"
errno_text EexistName = codes "-1 EEXIST"
errno_text EpermName = codes "-1 EPERM"
errno_text EfaultName = codes "-1 EFAULT"
errno_text MapErrName = codes "-1 SEGV_MAPERR"
errno_text AccErrName = codes "-1 SEGV_ACCERR"
errno_text Other = codes "-1 other"

-- what a trace recorded as a call's result: an address, 0, or an error
abbrev pub recorded_text : Recorded → List ℕ
recorded_text (Value value) = if value == 0 then codes "0" else prefixed_hex value
recorded_text (Failed name) = errno_text name
