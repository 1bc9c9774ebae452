-- What a call's arguments alone decide, from mmap(2), munmap(2), mprotect(2), mseal(2), brk(2) and mremap(2). Each call
-- has a list of checks, and the first that applies gives the reply. Two choices are this project's own: a Map with both
-- SHARED and PRIVATE is refused, which on Linux is MAP_SHARED_VALIDATE, and so is a Remap of no bytes, by which Linux
-- maps shared pages a second time.
use Rattle.std.specs.Prelude.{ℕ, Bool, ◌&&◌, not, ◌==◌, nat_lt, if◌then◌else◌, Option, Some, None, List, [], ◌∷◌, nat_le}
use Rattle.page_types.specs.declared.TheConstants.{LIMIT}
use Rattle.page_types.specs.declared.sets.MapFlags.{MapFlags}
use Rattle.page_types.specs.declared.calls.Call.{Call}
use Rattle.page_types.specs.declared.calls.Call.TheVariants.{Map, Unmap, Protect, Fault, Seal, Brk, Remap}
use Rattle.page_types.specs.declared.calls.Reply.{Reply}
use Rattle.page_types.specs.declared.calls.Reply.TheVariants.{Zero, Refused}
use Rattle.page_types.specs.declared.calls.Why.TheVariants.{Einval, Enomem, MapErr}
use Rattle.page_types.specs.declared.calls.Short.TheVariants.{PastEnd}
use Rattle.page_types.specs.declared.pages.Field.TheVariants.{Addr, Len, Flags, End}
use Rattle.page_types.specs.Pages.{page_of, is_aligned, end_page}
use Rattle.page_types.specs.Sets.{is_fixed, has_one_sharing}

-- the reply of the first check that applies
abbrev pub first_that_applies : List (Bool × Reply) → Option Reply
first_that_applies [] = None
first_that_applies (check ∷ checks) = if check.0 then Some check.1 else first_that_applies checks

-- mmap(2): only a fixed address has to be aligned and to end at or below LIMIT
abbrev pub map_reply : ℕ → ℕ → MapFlags → Option Reply
map_reply addr len flags =
    first_that_applies
    ((is_fixed flags && not (is_aligned addr), Refused (Einval Addr)) ∷
    (len == 0, Refused (Einval Len)) ∷
    (not (has_one_sharing flags), Refused (Einval Flags)) ∷
    (is_fixed flags && nat_lt LIMIT (end_page addr len), Refused (Enomem (PastEnd (end_page addr len)))) ∷ [])

-- munmap(2)
abbrev pub unmap_reply : ℕ → ℕ → Option Reply
unmap_reply addr len =
    first_that_applies
    ((not (is_aligned addr), Refused (Einval Addr)) ∷
    (len == 0, Refused (Einval Len)) ∷
    (nat_lt LIMIT (end_page addr len), Refused (Einval End)) ∷ [])

-- mprotect(2): a Protect of no bytes is done
abbrev pub protect_reply : ℕ → ℕ → Option Reply
protect_reply addr len =
    first_that_applies
    ((not (is_aligned addr), Refused (Einval Addr)) ∷
    (len == 0, Zero) ∷
    (nat_lt LIMIT (end_page addr len), Refused (Enomem (PastEnd (end_page addr len)))) ∷ [])

-- SEGV_MAPERR of sigaction(2): no page at or above LIMIT is ever mapped
abbrev pub fault_reply : ℕ → Option Reply
fault_reply addr = first_that_applies ((nat_le LIMIT (page_of addr), Refused (MapErr (page_of addr))) ∷ [])

-- mseal(2), which knows no flag; a Seal of no bytes is done, whatever its flags are
abbrev pub seal_reply : ℕ → ℕ → ℕ → Option Reply
seal_reply addr len flags =
    first_that_applies
    ((not (is_aligned addr), Refused (Einval Addr)) ∷
    (len == 0, Zero) ∷
    (not (flags == 0), Refused (Einval Flags)) ∷
    (nat_lt LIMIT (end_page addr len), Refused (Enomem (PastEnd (end_page addr len)))) ∷ [])

-- brk(2): the heap begins at the first byte of a page, which isn't page 0, and below LIMIT; where it is to end isn't
-- asked here
abbrev pub brk_reply : ℕ → Option Reply
brk_reply base =
    first_that_applies
    ((base == 0, Refused (Einval Addr)) ∷
    (not (is_aligned base), Refused (Einval Addr)) ∷
    (nat_le LIMIT (page_of base), Refused (Einval Addr)) ∷ [])

-- mremap(2): of the old pages the end is asked, of the new ones the length alone
abbrev pub remap_reply : ℕ → ℕ → ℕ → Option Reply
remap_reply addr old new =
    first_that_applies
    ((not (is_aligned addr), Refused (Einval Addr)) ∷
    (old == 0, Refused (Einval Len)) ∷
    (new == 0, Refused (Einval Len)) ∷
    (nat_lt LIMIT (end_page addr old), Refused (Einval End)) ∷ [])

-- the reply to a call that its arguments alone decide
abbrev pub plain_reply : Call → Option Reply
plain_reply (Map addr len prot flags) = map_reply addr len flags
plain_reply (Unmap addr len) = unmap_reply addr len
plain_reply (Protect addr len prot) = protect_reply addr len
plain_reply (Fault addr access) = fault_reply addr
plain_reply (Seal addr len flags) = seal_reply addr len flags
plain_reply (Brk base addr) = brk_reply base
plain_reply (Remap addr old new may hint) = remap_reply addr old new
