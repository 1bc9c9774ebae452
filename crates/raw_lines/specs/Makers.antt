-- What lines of clone(2), clone3(2), fork(2) and vfork(2) tell: which number a process or thread made, and whether the
-- new one is a thread, which shares the address space for good, or a process that shares it until its execve(2). The
-- flags CLONE_THREAD and CLONE_VM say so; where the flags aren't shown nothing is said. A line of execve(2) that
-- returned tells that the process is another program's from there on, with a new address space. The form of lines is
-- that of strace(1), in this project's own profile.
use Rattle.std.specs.Prelude.{◌≡◌, ◌⊎◌, ℕ, ◌/◌, ◌%◌, List, ◌++◌, codes, Option, Some, None}
use Rattle.line_parts.specs.Reading.{narrow, digits_of}
use Rattle.strace_reader.specs.Grammar.{BeginsWith, EndsWith, unfinished}
use Rattle.raw_lines.specs.declared.makers.MadeAs.{MadeAs}
use Rattle.raw_lines.specs.declared.makers.MadeAs.TheVariants.{Thread, Shared, Process, Untold}
use Rattle.raw_lines.specs.declared.makers.Making.{Making}
use Rattle.raw_lines.specs.declared.makers.Making.TheVariants.{Makes, Begins, Ends, Execs, Nothing}
use Rattle.raw_lines.specs.Numbers.{EndsInNumber}

-- the text holds the word
abbrev pub Holds : List ℕ → List ℕ → Type 0
Holds word text = (front back : List ℕ) × (text ≡ front ++ (word ++ back))

-- the body is a call that makes a process or a thread, or the first half of one
abbrev pub IsMaker : List ℕ → Type 0
IsMaker body = BeginsWith (codes "clone(") body ⊎ (BeginsWith (codes "clone3(") body ⊎ (BeginsWith (codes "fork(") body ⊎ BeginsWith (codes "vfork(") body))

-- the body is the second half of such a call
abbrev pub IsMakerEnd : List ℕ → Type 0
IsMakerEnd body = BeginsWith (codes "<... clone resumed>") body ⊎ (BeginsWith (codes "<... clone3 resumed>") body
    ⊎ (BeginsWith (codes "<... fork resumed>") body ⊎ BeginsWith (codes "<... vfork resumed>") body))

-- the flags are printed as a number that has CLONE_THREAD, 0x10000: clone(0x3d0f00, ..
abbrev pub HasThreadFlag : List ℕ → Type 0
HasThreadFlag body = (rest : List ℕ) × (n : ℕ) × (body ≡ codes "clone(0x" ++ rest) × (narrow (digits_of 16 0 rest).0 ≡ Some n)
    × (n / 65536 % 2 ≡ 1)

-- the line says that a thread is made
abbrev pub IsThread : List ℕ → Type 0
IsThread body = Holds (codes "CLONE_THREAD") body ⊎ HasThreadFlag body

-- the flags are printed as a number that has CLONE_VM, 0x100
abbrev pub HasMemoryFlag : List ℕ → Type 0
HasMemoryFlag body = (rest : List ℕ) × (n : ℕ) × (body ≡ codes "clone(0x" ++ rest) × (narrow (digits_of 16 0 rest).0 ≡ Some n)
    × (n / 256 % 2 ≡ 1)

-- the line says that what is made has the address space of its maker
abbrev pub IsShared : List ℕ → Type 0
IsShared body = BeginsWith (codes "vfork(") body ⊎ (Holds (codes "CLONE_VM") body ⊎ HasMemoryFlag body)

-- the line doesn't show the flags: clone3(0x7ffdef43add0, 0x58), or a structure of numbers
abbrev pub HidesFlags : List ℕ → Type 0
HidesFlags body = BeginsWith (codes "clone3(0x") body ⊎ Holds (codes "flags=0x") body

-- what is made, by the flags
abbrev pub IsMadeAs : List ℕ → MadeAs → Type 0
IsMadeAs body Thread = IsThread body
IsMadeAs body Untold = (¬ IsThread body) × HidesFlags body
IsMadeAs body Shared = (¬ IsThread body) × (¬ HidesFlags body) × IsShared body
IsMadeAs body Process = (¬ IsThread body) × (¬ HidesFlags body) × (¬ IsShared body)

-- the text without this word at its end, where it ends with it
abbrev pub IsWithout : List ℕ → List ℕ → List ℕ → Type 0
IsWithout word text front = (text ≡ front ++ word) ⊎ ((front ≡ text) × (¬ EndsWith word text))

-- the body without what strace adds behind a result that it changed or delayed
abbrev pub IsToResult : List ℕ → List ℕ → Type 0
IsToResult body text = (middle : List ℕ) × IsWithout (codes " (DELAYED)") body middle × IsWithout (codes " (INJECTED)") middle text

-- what stands behind the number of strace's own numbering, where the result is in another:
-- 2 /* 11173 in strace's PID NS */
abbrev pub outer_words : List ℕ
outer_words = codes " in strace's PID NS */"

-- the text ends with this result, in strace's own numbering
abbrev pub HasResult : List ℕ → ℕ → Type 0
HasResult text n = ((front : List ℕ) × (text ≡ front ++ outer_words) × EndsInNumber 10 (codes "/*") 32 front n)
    ⊎ ((¬ EndsWith outer_words text) × (EndsInNumber 10 (codes "=") 32 text n ⊎ EndsInNumber 16 (codes "= 0") 120 text n))

-- the body ends with the number that was made
abbrev pub EndsWithNumber : List ℕ → ℕ → Type 0
EndsWithNumber body n = (text : List ℕ) × IsToResult body text × HasResult text n

-- the number that was made, where the body tells one
abbrev pub IsChild : List ℕ → Option ℕ → Type 0
IsChild body (Some n) = EndsWithNumber body n
IsChild body None = (n : ℕ) → ¬ EndsWithNumber body n

-- the body is a call that makes the process another program's, or the second half of one
abbrev pub IsExec : List ℕ → Type 0
IsExec body = BeginsWith (codes "execve(") body ⊎ (BeginsWith (codes "execveat(") body
    ⊎ (BeginsWith (codes "<... execve resumed>") body ⊎ BeginsWith (codes "<... execveat resumed>") body))

-- what the body of a line tells
abbrev pub IsMaking : List ℕ → Making → Type 0
IsMaking body (Makes kind child) = IsMaker body × (¬ EndsWith unfinished body) × IsMadeAs body kind × IsChild body child
IsMaking body (Begins kind) = IsMaker body × EndsWith unfinished body × IsMadeAs body kind
IsMaking body (Ends child) = (¬ IsMaker body) × IsMakerEnd body × IsChild body child
IsMaking body Execs = (¬ IsMaker body) × (¬ IsMakerEnd body) × IsExec body × EndsWithNumber body 0
IsMaking body Nothing = (¬ IsMaker body) × (¬ IsMakerEnd body) × (IsExec body → ¬ EndsWithNumber body 0)
