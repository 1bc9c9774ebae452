-- Calls, kinds and replies whose sets of bits have no bit but the named ones. A set of the crate `bitflags` may hold
-- any bits, so this is a condition of the calls that take such sets; their replies then have named bits alone too.
use Rattle.std.specs.Prelude.{Option, Some, None}
use Rattle.page_types.specs.declared.calls.Kind.{Kind}
use Rattle.page_types.specs.declared.calls.Call.{Call}
use Rattle.page_types.specs.declared.calls.Call.TheVariants.{Map, Unmap, Protect, Fault, Seal, Brk, Remap}
use Rattle.page_types.specs.declared.calls.Reply.{Reply}
use Rattle.page_types.specs.declared.calls.Reply.TheVariants.{At, Zero, Granted, Refused}
use Rattle.page_types.specs.declared.calls.Why.{Why}
use Rattle.page_types.specs.declared.calls.Why.TheVariants.{Einval, Enomem, Eexist, Eperm, Efault, MapErr, AccErr}
use Rattle.page_types.specs.Sets.{IsNamedProt, IsNamedFlags}

-- the protection has no bit but the named ones
abbrev pub IsNamedKind : Kind → Type 0
IsNamedKind k = IsNamedProt k.prot

-- the kind, if there is one, has no bit but the named ones
abbrev pub IsNamedOption : Option Kind → Type 0
IsNamedOption None = Unit {0}
IsNamedOption (Some kind) = IsNamedKind kind

-- the sets of bits that a call takes have no bit but the named ones
abbrev pub IsNamedCall : Call → Type 0
IsNamedCall (Map addr len prot flags) = IsNamedProt prot × IsNamedFlags flags
IsNamedCall (Unmap addr len) = Unit {0}
IsNamedCall (Protect addr len prot) = IsNamedProt prot
IsNamedCall (Fault addr access) = Unit {0}
IsNamedCall (Seal addr len flags) = Unit {0}
IsNamedCall (Brk base addr) = Unit {0}
IsNamedCall (Remap addr old new may hint) = Unit {0}

-- the kind that a refusal names has no bit but the named ones
abbrev pub IsNamedWhy : Why → Type 0
IsNamedWhy (Einval field) = Unit {0}
IsNamedWhy (Enomem short) = Unit {0}
IsNamedWhy (Eexist page) = Unit {0}
IsNamedWhy (Eperm page) = Unit {0}
IsNamedWhy (Efault page) = Unit {0}
IsNamedWhy (MapErr page) = Unit {0}
IsNamedWhy (AccErr page kind) = IsNamedKind kind

-- the kind that a reply names has no bit but the named ones
abbrev pub IsNamedReply : Reply → Type 0
IsNamedReply (At addr) = Unit {0}
IsNamedReply Zero = Unit {0}
IsNamedReply (Granted kind) = IsNamedKind kind
IsNamedReply (Refused why) = IsNamedWhy why
