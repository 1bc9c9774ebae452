-- Protections, flags and kinds as text: the words of mmap(2) and mprotect(2), in the order of their bits and joined by
-- `|`, as strace(1) prints them, and the four characters of proc_pid_maps(5). Bits without a word add nothing.
use Rattle.std.specs.Prelude.{ℕ, Bool, if◌then◌else◌, List, [], ◌∷◌, ◌++◌, codes}
use Rattle.std.specs.List.{join_with_byte}
use Rattle.page_types.specs.declared.sets.Prot.{Prot}
use Rattle.page_types.specs.declared.sets.MapFlags.{MapFlags}
use Rattle.page_types.specs.declared.sets.Access.{Access}
use Rattle.page_types.specs.declared.sets.Access.TheVariants.{Read, Write, Exec}
use Rattle.page_types.specs.declared.calls.Kind.{Kind}
use Rattle.page_types.specs.Sets.{prot_bits, flag_bits, has_bits}

-- a word where its bit is set
abbrev pub word_if : Bool → List ℕ → List (List ℕ)
word_if is_set word = if is_set then word ∷ [] else []

-- words joined by `|`, or another text where there is none
abbrev pub words_or : List ℕ → List (List ℕ) → List ℕ
words_or none [] = none
words_or none (word ∷ words) = join_with_byte 124 (word ∷ words)

-- mprotect(2): the words of a protection, in the order of their bits
abbrev pub prot_words : Prot → List (List ℕ)
prot_words p = word_if (has_bits (prot_bits p) 1) (codes "PROT_READ")
    ++ word_if (has_bits (prot_bits p) 2) (codes "PROT_WRITE")
    ++ word_if (has_bits (prot_bits p) 4) (codes "PROT_EXEC")

-- a protection, PROT_NONE where no bit is set
abbrev pub prot_text : Prot → List ℕ
prot_text p = words_or (codes "PROT_NONE") (prot_words p)

-- mmap(2): the words of flags, in the order of their bits
abbrev pub flag_words : MapFlags → List (List ℕ)
flag_words f = word_if (has_bits (flag_bits f) 1) (codes "MAP_SHARED")
    ++ word_if (has_bits (flag_bits f) 2) (codes "MAP_PRIVATE")
    ++ word_if (has_bits (flag_bits f) 4) (codes "MAP_FIXED")
    ++ word_if (has_bits (flag_bits f) 8) (codes "MAP_FIXED_NOREPLACE")

-- flags, 0 where no bit is set
abbrev pub flags_text : MapFlags → List ℕ
flags_text f = words_or (codes "0") (flag_words f)

-- the protection that an access needs; this project's own profile
abbrev pub access_text : Access → List ℕ
access_text Read = codes "PROT_READ"
access_text Write = codes "PROT_WRITE"
access_text Exec = codes "PROT_EXEC"

-- mremap(2): the word by which pages may be put elsewhere, or 0
abbrev pub move_text : Bool → List ℕ
move_text may = if may then codes "MREMAP_MAYMOVE" else codes "0"

-- a letter, or `-` where its bit isn't set
abbrev pub letter_if : Bool → ℕ → ℕ
letter_if is_set letter = if is_set then letter else 45

-- proc_pid_maps(5): `r`, `w` and `x` or `-`, and `s` for shared or `p` for private
abbrev pub kind_text : Kind → List ℕ
kind_text k = letter_if (has_bits (prot_bits k.prot) 1) 114
    ∷ letter_if (has_bits (prot_bits k.prot) 2) 119
    ∷ letter_if (has_bits (prot_bits k.prot) 4) 120
    ∷ (if k.shared then 115 else 112) ∷ []

-- a kind in a log: behind the four characters of a sealed one stands ` sealed`; this project's own profile
abbrev pub log_kind : Kind → List ℕ
log_kind k = kind_text k ++ (if k.sealed then codes " sealed" else [])
