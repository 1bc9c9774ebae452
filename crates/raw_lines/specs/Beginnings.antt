-- How the body of a line begins: as a call, as the second half of one, as the line of a signal or of an exit. strace(1)
-- prints no other line of a process, so another beginning is that of an option that isn't known here, or is no line of
-- strace. The names are those of calls that change an address space.
use Rattle.std.specs.Prelude.{◌⊎◌, ◌≡◌, ℕ, List, Bool, true, false, ◌==◌, ◌&&◌, if◌then◌else◌, nat_lt, codes}
use Rattle.line_parts.specs.Leaves.{is, is_digit}
use Rattle.line_parts.specs.Parts.{starts}
use Rattle.line_parts.specs.Reading.{taken}
use Rattle.strace_reader.specs.Grammar.{BeginsWith}

-- a byte of the name of a call: a small letter, a digit, an underscore, or the mark of a name that isn't known
abbrev pub is_name_byte : ℕ → Bool
is_name_byte b = if nat_lt 96 b && nat_lt b 123 then true else if is_digit b then true else if b == 95 then true else b == 63

-- a name and an opening parenthesis
abbrev pub names_call : List ℕ → Bool
names_call body = if starts (is 40) body then false else starts (is 40) (taken is_name_byte body).1

-- the body begins as one of a line of strace(1)
abbrev pub IsKnown : List ℕ → Type 0
IsKnown body = (names_call body ≡ true) ⊎ (BeginsWith (codes "<... ") body ⊎ (BeginsWith (codes "--- ") body ⊎ (BeginsWith (codes "+++ ") body)))

-- the body begins as a call that maps pages or changes mapped ones
unfoldable pub IsMapHead : List ℕ → Type 0
IsMapHead body = BeginsWith (codes "mmap(") body ⊎ (BeginsWith (codes "munmap(") body ⊎ (BeginsWith (codes "mremap(") body
    ⊎ BeginsWith (codes "mprotect(") body))

-- the body begins as another call of the profile
unfoldable pub IsOtherHead : List ℕ → Type 0
IsOtherHead body = BeginsWith (codes "brk(") body ⊎ (BeginsWith (codes "mseal(") body ⊎ BeginsWith (codes "fault(") body)

-- the body begins as the second half of a call that maps pages or changes mapped ones
unfoldable pub IsMapEnd : List ℕ → Type 0
IsMapEnd body = BeginsWith (codes "<... mmap resumed>") body ⊎ (BeginsWith (codes "<... munmap resumed>") body
    ⊎ (BeginsWith (codes "<... mremap resumed>") body ⊎ BeginsWith (codes "<... mprotect resumed>") body))

-- the body begins as the second half of another call of the profile
unfoldable pub IsOtherEnd : List ℕ → Type 0
IsOtherEnd body = BeginsWith (codes "<... brk resumed>") body ⊎ (BeginsWith (codes "<... mseal resumed>") body
    ⊎ BeginsWith (codes "<... fault resumed>") body)

-- the body is of a call of the profile
abbrev pub IsOfProfile : List ℕ → Type 0
IsOfProfile body = IsMapHead body ⊎ (IsOtherHead body ⊎ (IsMapEnd body ⊎ IsOtherEnd body))

-- the body names a call that changes an address space and isn't of the profile
unfoldable pub IsForeignHead : List ℕ → Type 0
IsForeignHead body = BeginsWith (codes "pkey_mprotect(") body ⊎ (BeginsWith (codes "shmat(") body ⊎ BeginsWith (codes "shmdt(") body)

-- the same, by a name or a number that is seldom printed
unfoldable pub IsRareHead : List ℕ → Type 0
IsRareHead body = BeginsWith (codes "remap_file_pages(") body ⊎ BeginsWith (codes "syscall_0x") body

-- the same: every mapping of a 32-bit program, the ring of io_setup(2), and a shadow stack
unfoldable pub IsMapLikeHead : List ℕ → Type 0
IsMapLikeHead body = BeginsWith (codes "mmap2(") body ⊎ (BeginsWith (codes "io_setup(") body ⊎ BeginsWith (codes "map_shadow_stack(") body)

-- the body names a call that changes an address space; one that the reader of lines passes over has another form than
-- those of the profile
abbrev pub ChangesSpace : List ℕ → Type 0
ChangesSpace body = IsMapHead body ⊎ (IsOtherHead body ⊎ (IsForeignHead body ⊎ (IsRareHead body ⊎ IsMapLikeHead body)))
