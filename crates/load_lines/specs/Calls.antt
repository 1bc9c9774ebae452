-- The lines of a load. Each is made of four draws and belongs to the workers in turn; a worker's pages are its own. The
-- table of calls is this project's own profile; the calls are those of mmap(2), munmap(2) and mprotect(2), and a page's
-- fault.
use Rattle.std.specs.Prelude.{ℕ, zero, suc, ◌+◌, ◌*◌, ◌%◌, ◌==◌, nat_lt, if◌then◌else◌, List, [], ◌∷◌, ◌++◌}
use Rattle.page_types.specs.Named.{IsNamedCall}
use Rattle.page_types.specs.declared.sets.Prot.{Prot}
use Rattle.page_types.specs.declared.sets.MapFlags.{MapFlags}
use Rattle.page_types.specs.declared.sets.Access.{Access}
use Rattle.page_types.specs.declared.sets.Access.TheVariants.{Read, Write, Exec}
use Rattle.page_types.specs.declared.calls.Call.{Call}
use Rattle.page_types.specs.declared.calls.Call.TheVariants.{Map, Unmap, Protect, Fault}
use Rattle.load_lines.specs.declared.calls.MadeLine.{MadeLine}
use Rattle.load_lines.specs.Generator.{state_after, draw}

-- the protection with these bits
abbrev pub prot_from_bits : ℕ → Prot
prot_from_bits bits = record { 0 = bits }

-- PRIVATE, which is 2, and FIXED, which is 4
abbrev pub private_fixed : MapFlags
private_fixed = record { 0 = 6 }

-- what a fault does
abbrev pub drawn_access : ℕ → Access
drawn_access n = if n == 0 then Read else if n == 1 then Write else Exec

-- the address of a worker's page that is drawn
abbrev pub address_of : ℕ → ℕ → ℕ
address_of worker place = (worker * 1048576 + 16 + place % 60) * 4096

-- one to four pages, in bytes
abbrev pub length_of : ℕ → ℕ
length_of size = (1 + size % 4) * 4096

-- the call of a worker that four draws make, by the remainder of the first by 8: 0 and 1 are a Map, 2 is an Unmap, 3
-- and 4 are a Protect, and the others a Fault
abbrev pub call_of : ℕ → ℕ → ℕ → ℕ → ℕ → Call
call_of worker kind place size sets =
    if nat_lt (kind % 8) 2 then Map (address_of worker place) (length_of size) (prot_from_bits (sets % 8)) private_fixed
    else if kind % 8 == 2 then Unmap (address_of worker place) (length_of size)
    else if nat_lt (kind % 8) 5 then Protect (address_of worker place) (length_of size) (prot_from_bits (sets % 8))
    else Fault (address_of worker place) (drawn_access (sets % 3))

-- the line behind `made` others, from the state that they left
abbrev pub line_at : ℕ → ℕ → ℕ → MadeLine
line_at state threads made = record {
  worker = made % threads;
  line = made + 1;
  call = call_of (made % threads) (draw state 1) (draw state 2) (draw state 3) (draw state 4);
}

-- the lines of a load with this seed, for so many threads: so many calls, each from the state that the draws of those
-- before it left
abbrev pub drawn_lines : ℕ → ℕ → ℕ → List MadeLine
drawn_lines seed threads zero = []
drawn_lines seed threads (suc made) = drawn_lines seed threads made ++ line_at (state_after seed (4 * made)) threads made ∷ []

-- the call of a line has no bit but the named ones
abbrev pub IsNamedLine : MadeLine → Type 0
IsNamedLine line = IsNamedCall line.call
