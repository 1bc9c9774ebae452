-- The calls by what they do to an address space: a fault asks one page, a Protect may keep to one area, and every other
-- call may change any rows. What hangs on that is said by these alone, after mmap(2), munmap(2), mprotect(2),
-- mseal(2), brk(2) and mremap(2).
use Rattle.page_types.specs.declared.calls.Call.{Call}
use Rattle.page_types.specs.declared.calls.Call.TheVariants.{Map, Unmap, Protect, Fault, Seal, Brk, Remap}

-- the call is a fault
abbrev pub IsFault : Call → Type 0
IsFault (Map addr len prot flags) = ⊥
IsFault (Unmap addr len) = ⊥
IsFault (Protect addr len prot) = ⊥
IsFault (Fault addr access) = Unit {0}
IsFault (Seal addr len flags) = ⊥
IsFault (Brk base addr) = ⊥
IsFault (Remap addr old new may hint) = ⊥

-- the call is a Protect
abbrev pub IsProtect : Call → Type 0
IsProtect (Map addr len prot flags) = ⊥
IsProtect (Unmap addr len) = ⊥
IsProtect (Protect addr len prot) = Unit {0}
IsProtect (Fault addr access) = ⊥
IsProtect (Seal addr len flags) = ⊥
IsProtect (Brk base addr) = ⊥
IsProtect (Remap addr old new may hint) = ⊥
