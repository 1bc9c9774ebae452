-- What C says of a call and what it is shown of a reply, as numbers. The bits of a protection and the numbers of errors
-- are those of mmap(2) and errno(3) on Linux; the bits of a Map's flags are those of `page_types`, and kinds of calls,
-- kinds of replies and causes are this project's own.
use Rattle.std.specs.Prelude.{ℕ, Bool, true, false, ◌==◌, ◌&&◌, nat_lt, if◌then◌else◌, Option, Some, None}
use Rattle.page_types.specs.declared.calls.Call.{Call}
use Rattle.page_types.specs.declared.calls.Call.TheVariants.{Map, Unmap, Protect, Fault, Seal, Brk, Remap}
use Rattle.page_types.specs.declared.calls.Kind.{Kind}
use Rattle.page_types.specs.declared.calls.Reply.{Reply}
use Rattle.page_types.specs.declared.calls.Reply.TheVariants.{At, Zero, Granted, Refused}
use Rattle.page_types.specs.declared.calls.Short.{Short}
use Rattle.page_types.specs.declared.calls.Short.TheVariants.{Missing, PastEnd, NoGap, Rows}
use Rattle.page_types.specs.declared.calls.Why.{Why}
use Rattle.page_types.specs.declared.calls.Why.TheVariants.{Einval, Enomem, Eexist, Eperm, Efault, MapErr, AccErr}
use Rattle.page_types.specs.declared.pages.Field.{Field}
use Rattle.page_types.specs.declared.pages.Field.TheVariants.{Addr, Len, Flags, End}
use Rattle.page_types.specs.declared.sets.Access.{Access}
use Rattle.page_types.specs.declared.sets.Access.TheVariants.{Read, Write, Exec}
use Rattle.page_types.specs.Sets.{prot_bits}
use Rattle.lock_core.specs.declared.range.Held.{Held}
use Rattle.lock_core.specs.declared.range.Mode.{Mode}
use Rattle.lock_core.specs.declared.range.Mode.TheVariants.{Reader, Writer}
use Rattle.space_c.specs.declared.asked.GzCall.{GzCall}
use Rattle.space_c.specs.declared.shown.GzReply.{GzReply}
use Rattle.space_c.specs.declared.shown.GzHeld.{GzHeld}

-- the Map that C says, where its bits have names
abbrev pub map_from : GzCall → Option Call
map_from c = if nat_lt c.prot 8 && nat_lt c.flags 16 then Some (Map c.addr c.len (record { 0 = c.prot }) (record { 0 = c.flags })) else None

-- the Protect that C says, where its bits have names
abbrev pub protect_from : GzCall → Option Call
protect_from c = if nat_lt c.prot 8 then Some (Protect c.addr c.len (record { 0 = c.prot })) else None

-- the Remap that C says, whose flag MAYMOVE is 1, and which has no other
abbrev pub remap_from : GzCall → Option Call
remap_from c = if nat_lt c.flags 2 then Some (Remap c.addr c.len c.new_len (c.flags == 1) c.place) else None

-- the call that C says by its kind, where there is such a kind and its bits have names
abbrev pub call_from : GzCall → Option Call
call_from c = if c.kind == 0 then map_from c
    else if c.kind == 1 then Some (Unmap c.addr c.len)
    else if c.kind == 2 then protect_from c
    else if c.kind == 3 then remap_from c
    else if c.kind == 4 then Some (Seal c.addr c.len c.flags)
    else if c.kind == 5 then Some (Brk c.place c.addr)
    else None

-- the access that C says by one bit of a protection
abbrev pub access_from : ℕ → Option Access
access_from access = if access == 1 then Some Read else if access == 2 then Some Write else if access == 4 then Some Exec else None

-- the fault of such an access, if it is one
abbrev pub fault_from : ℕ → Option Access → Option Call
fault_from addr None = None
fault_from addr (Some access) = Some (Fault addr access)

-- the number of a truth
abbrev pub bit_of : Bool → ℕ
bit_of false = 0
bit_of true = 1

-- what C is shown where there is no reply
abbrev pub nothing_shown : GzReply
nothing_shown = record { kind = 0; error = 0; cause = 0; prot = 0; shared = 0; sealed = 0; at = 0 }

-- a reply with an address
abbrev pub address_shown : ℕ → GzReply
address_shown addr = record nothing_shown { kind = 1; at = addr }

-- a reply with the kind of a page, and that page
abbrev pub kind_shown : ℕ → Kind → ℕ → GzReply
kind_shown reply kind page = record nothing_shown {
  kind = reply;
  prot = prot_bits kind.prot;
  shared = bit_of kind.shared;
  sealed = bit_of kind.sealed;
  at = page;
}

-- a refusal with the number of its error, its cause and the page or number that it names
abbrev pub refusal_shown : ℕ → ℕ → ℕ → GzReply
refusal_shown error cause at = record nothing_shown { kind = 4; error = error; cause = cause; at = at }

-- the cause of an EINVAL
abbrev pub field_cause : Field → ℕ
field_cause Addr = 1
field_cause Len = 2
field_cause Flags = 3
field_cause End = 4

-- an ENOMEM
abbrev pub short_shown : Short → GzReply
short_shown (Missing page) = refusal_shown 12 5 page
short_shown (PastEnd page) = refusal_shown 12 6 page
short_shown (NoGap pages) = refusal_shown 12 7 pages
short_shown (Rows rows) = refusal_shown 12 8 rows

-- a refusal: EPERM is 1, ENOMEM 12, EFAULT 14, EEXIST 17 and EINVAL 22; those of a fault are kinds of their own
abbrev pub why_shown : Why → GzReply
why_shown (Einval field) = refusal_shown 22 (field_cause field) 0
why_shown (Enomem short) = short_shown short
why_shown (Eexist page) = refusal_shown 17 9 page
why_shown (Eperm page) = refusal_shown 1 10 page
why_shown (Efault page) = refusal_shown 14 11 page
why_shown (MapErr page) = record nothing_shown { kind = 5; at = page }
why_shown (AccErr page kind) = kind_shown 6 kind page

-- a reply
abbrev pub reply_shown : Reply → GzReply
reply_shown (At addr) = address_shown addr
reply_shown Zero = record nothing_shown { kind = 2 }
reply_shown (Granted kind) = kind_shown 3 kind 0
reply_shown (Refused why) = why_shown why

-- the number of a mode
abbrev pub mode_bit : Mode → ℕ
mode_bit Reader = 0
mode_bit Writer = 1

-- what C is shown of what the caller of a number holds
abbrev pub held_shown : ℕ → Option Held → GzHeld
held_shown number None = record { lo = 0; hi = 0; caller = number; writer = 0 }
held_shown number (Some h) = record { lo = h.range.lo; hi = h.range.hi; caller = number; writer = mode_bit h.mode }
