-- The words of a line and what they stand for: PROT_READ and the others of mmap(2) and mprotect(2), MREMAP_MAYMOVE of
-- mremap(2), and the error names of a result, of errno(3) and sigaction(2). Words that are not listed here are told
-- apart by the forms alone.
use Rattle.std.specs.Prelude.{ℕ, List, codes, Bool, true, Option, Some, None, if◌then◌else◌}
use Rattle.std.specs.Str.{bytes_eq}
use Rattle.page_types.specs.declared.sets.Access.{Access}
use Rattle.page_types.specs.declared.sets.Access.TheVariants.{Read, Write, Exec}
use Rattle.strace_reader.specs.declared.item.Errno.{Errno}
use Rattle.strace_reader.specs.declared.item.Errno.TheVariants.{Einval, Enomem, Eexist, Eperm, Efault, MapErr, AccErr, Other}
use Rattle.strace_reader.specs.declared.item.Name.{Name}
use Rattle.strace_reader.specs.declared.item.Name.TheVariants.{Mmap, Munmap, Mprotect, Fault, Mseal, Brk, Mremap}

-- the bits of a protection word; another word is none
unfoldable pub prot_of : List ℕ → Option ℕ
prot_of word =
    if bytes_eq word (codes "PROT_READ") then Some 1
    else if bytes_eq word (codes "PROT_WRITE") then Some 2
    else if bytes_eq word (codes "PROT_EXEC") then Some 4
    else if bytes_eq word (codes "PROT_NONE") then Some 0
    else None

-- the bits of a flag: other words have none, and MAP_SHARED_VALIDATE is not played
unfoldable pub flag_of : List ℕ → Option ℕ
flag_of word =
    if bytes_eq word (codes "MAP_SHARED") then Some 1
    else if bytes_eq word (codes "MAP_PRIVATE") then Some 2
    else if bytes_eq word (codes "MAP_FIXED") then Some 4
    else if bytes_eq word (codes "MAP_FIXED_NOREPLACE") then Some 8
    else if bytes_eq word (codes "MAP_SHARED_VALIDATE") then None
    else Some 0

-- the access of a page fault
unfoldable pub access_of : List ℕ → Option Access
access_of word =
    if bytes_eq word (codes "PROT_READ") then Some Read
    else if bytes_eq word (codes "PROT_WRITE") then Some Write
    else if bytes_eq word (codes "PROT_EXEC") then Some Exec
    else None

-- what a word of mremap(2) says of whether pages may be put elsewhere; another word isn't played
unfoldable pub may_of : List ℕ → Option Bool
may_of word = if bytes_eq word (codes "MREMAP_MAYMOVE") then Some true else None

-- the error of a name
unfoldable pub errno_of : List ℕ → Errno
errno_of word =
    if bytes_eq word (codes "EINVAL") then Einval
    else if bytes_eq word (codes "ENOMEM") then Enomem
    else if bytes_eq word (codes "EEXIST") then Eexist
    else if bytes_eq word (codes "EPERM") then Eperm
    else if bytes_eq word (codes "EFAULT") then Efault
    else if bytes_eq word (codes "SEGV_MAPERR") then MapErr
    else if bytes_eq word (codes "SEGV_ACCERR") then AccErr
    else Other

-- what a line of a call begins with
abbrev pub call_head : Name → List ℕ
call_head Mmap = codes "mmap("
call_head Munmap = codes "munmap("
call_head Mprotect = codes "mprotect("
call_head Fault = codes "fault("
call_head Mseal = codes "mseal("
call_head Brk = codes "brk("
call_head Mremap = codes "mremap("

-- what the second half of an interrupted line begins with
abbrev pub resumed_head : Name → List ℕ
resumed_head Mmap = codes "<... mmap resumed>"
resumed_head Munmap = codes "<... munmap resumed>"
resumed_head Mprotect = codes "<... mprotect resumed>"
resumed_head Fault = codes "<... fault resumed>"
resumed_head Mseal = codes "<... mseal resumed>"
resumed_head Brk = codes "<... brk resumed>"
resumed_head Mremap = codes "<... mremap resumed>"
