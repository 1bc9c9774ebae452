-- The seven calls of a line, from the name to the end, as strace(1) prints them: arguments that commas and spaces part,
-- a closing parenthesis, and a result. This project's own profile; docs/FORMATS.md has it as a table, and each
-- definition here is one row of that table.
use Rattle.std.specs.Prelude.{◌≡◌, ◌⊎◌, ℕ, List, [], Bool, true, false, codes, Option, Some, None, if◌then◌else◌}
use Rattle.line_parts.specs.declared.refusal.What.TheVariants.{Number, Word, Comma, Close, Result as AtResult}
use Rattle.line_parts.specs.Parts.{Part, chain, choice, done, starts}
use Rattle.line_parts.specs.Leaves.{is, byte, letters, IsRun, run, spaces, number, until, end, anything, begun, no_byte}
use Rattle.line_parts.specs.Leaves.{many_digits, is_digit, is_hex, is_capital, is_word_byte}
use Rattle.line_parts.specs.Lists.{listed}
use Rattle.page_types.specs.declared.calls.Call.{Call}
use Rattle.page_types.specs.declared.calls.Call.TheVariants.{Map, Unmap, Protect, Fault, Seal, Brk, Remap}
use Rattle.page_types.specs.declared.sets.Access.{Access}
use Rattle.strace_reader.specs.declared.item.Body.{Body}
use Rattle.strace_reader.specs.declared.item.Body.TheVariants.{Called, Other}
use Rattle.strace_reader.specs.declared.item.Recorded.{Recorded}
use Rattle.strace_reader.specs.declared.item.Recorded.TheVariants.{Value, Failed}
use Rattle.strace_reader.specs.declared.item.Name.{Name}
use Rattle.strace_reader.specs.declared.item.Name.TheVariants.{Mmap, Munmap, Mprotect, Fault as FaultName, Mseal, Brk as BrkName, Mremap}
use Rattle.strace_reader.specs.Words.{prot_of, flag_of, access_of, may_of, errno_of, call_head}

-- ---- parts of arguments

-- a comma and any number of spaces
abbrev pub comma : Part (Unit {0})
comma = chain (byte 44 Comma) (λ u. spaces)

-- NULL, which is 0, or a number
abbrev pub addr : Part ℕ
addr = choice (is 78) (chain (letters (codes "NULL") Number) (λ u. done 0)) (number Number)

-- capitals, digits and underscores, with a capital in front
abbrev pub word : Part (List ℕ)
word = run is_capital is_word_byte Word

-- A word that is known has its bits. With one that is not the line is left as it is, to its end.
abbrev pub known : Option ℕ → Part (Option ℕ)
known None = anything is_word_byte None
known (Some bits) = done (Some bits)

-- protection words joined by bars; with another word, or a number, the line is not played
abbrev pub prot_word : Part (Option ℕ)
prot_word = choice is_digit (anything no_byte None) (chain word (λ w. known (prot_of w)))

-- the protection of a line: the words, from no bit on
abbrev pub prot : Part (Option ℕ)
prot = listed prot_word 0

-- behind a number of the flags: a space, and a comment to its first end
abbrev pub commented : Part (Unit {0})
commented = choice (is 32) (chain (letters (codes " /*") Comma) (λ u. chain (until 42 47 Comma) (λ v. byte 47 Comma))) (done tt)

-- what a number of the flags is shifted by: a number or a word
abbrev pub operand : Part (Unit {0})
operand = choice is_digit (chain (number Number) (λ n. done tt)) (chain word (λ w. done tt))

-- behind a number of the flags: what it is shifted by, and a comment; both may be missing
abbrev pub shifted : Part (Unit {0})
shifted = choice (is 60) (chain (letters (codes "<<") Comma) (λ u. chain operand (λ v. commented))) commented

-- flag words and numbers joined by bars; numbers have no bits
abbrev pub flag_word : Part (Option ℕ)
flag_word = choice is_digit (chain (number Number) (λ n. chain shifted (λ u. done (Some 0)))) (chain word (λ w. known (flag_of w)))

-- the flags of a line
abbrev pub flags : Part (Option ℕ)
flags = listed flag_word 0

-- behind a descriptor: its path in angle brackets, to the first > that a comma follows
abbrev pub path : Part (Unit {0})
path = choice (is 60) (chain (byte 60 Comma) (λ u. until 62 44 Comma)) (done tt)

-- a descriptor: -1 or decimal digits, as many as there are
abbrev pub descriptor : Part (Unit {0})
descriptor = choice (is 45) (chain (letters (codes "-1") Number) (λ u. path)) (chain (many_digits Number) (λ u. path))

-- The access of a page fault, one of three words. Another word is over.
abbrev pub access : Part Access
access = record {
  takes = λ front rest v. IsRun is_capital is_word_byte front × (starts is_word_byte rest ≡ false) × (access_of front ≡ Some v);
  refuses = λ front over rest w. (front ≡ []) × (w ≡ Word) × (
      ((over ≡ []) × (starts is_capital rest ≡ false))
      ⊎ (IsRun is_capital is_word_byte over × (starts is_word_byte rest ≡ false) × (access_of over ≡ None)));
}

-- a comma and an address, or nothing, which is 0
abbrev pub optional : Part ℕ
optional = choice (is 44) (chain comma (λ u. addr)) (done 0)

-- a bar or a digit
abbrev pub is_more : ℕ → Bool
is_more b = if is 124 b then true else is_digit b

-- Whether pages may move, where it is said by what stands here alone: where a byte that passes the test comes, the line
-- is left as it is, to its end.
abbrev pub alone : (ℕ → Bool) → Bool → Part (Option Bool)
alone test may = choice test (anything no_byte None) (done (Some may))

-- behind 0x: a line with a digit there is left as it is, to its end
abbrev pub hex_number : Part (Option Bool)
hex_number = chain (run is_hex is_hex Number) (λ d. anything is_hex None)

-- a number: 0 says that pages may not move; with another one the line is left as it is, to its end
abbrev pub move_number : Part (Option Bool)
move_number = choice (is 48)
    (chain (byte 48 Number) (λ u. choice (is 120) (chain (byte 120 Number) (λ v. hex_number)) (alone is_more false)))
    (anything no_byte None)

-- a word that is known stands alone; with another one the line is left as it is, to its end
abbrev pub moved : Option Bool → Part (Option Bool)
moved None = anything is_word_byte None
moved (Some may) = alone (is 124) may

-- the flags of mremap(2): the one word, or 0
abbrev pub moving : Part (Option Bool)
moving = choice is_digit move_number (chain word (λ w. moved (may_of w)))

-- ---- the result

-- a number, or -1 and an error's name
abbrev pub failed : Part (Option Recorded)
failed = choice (is 45)
    (chain (letters (codes "-1 ") AtResult) (λ u. chain (run is_word_byte is_word_byte AtResult) (λ w. done (Some (Failed (errno_of w))))))
    (chain (number AtResult) (λ n. done (Some (Value n))))

-- ?, or a number or an error
abbrev pub recorded : Part (Option Recorded)
recorded = choice (is 63) (chain (byte 63 AtResult) (λ u. done None)) failed

-- spaces, an equals sign and spaces
abbrev pub equals : Part (Unit {0})
equals = chain (byte 32 AtResult) (λ a. chain spaces (λ b. chain (letters (codes "= ") AtResult) (λ c. spaces)))

-- behind the result: the end, or a space and any bytes
abbrev pub tail : Body → Part Body
tail body = choice (is 32) (anything no_byte body) (end AtResult body)

-- behind the parenthesis: the end, or a result
abbrev pub outcome : Call → Part Body
outcome call = choice (is 32) (chain equals (λ u. chain recorded (λ r. tail (Called call r)))) (end AtResult (Called call None))

-- the body of a call of which nothing is recorded
abbrev pub unrecorded : Call → Body
unrecorded call = Called call None

-- the parenthesis, and what is behind it
abbrev pub closing : Call → Part Body
closing call = chain (byte 41 Close) (λ u. outcome call)

-- ---- the arguments of each call

-- munmap: an address and a length
abbrev pub munmap_arguments : Part Body
munmap_arguments = chain addr (λ a. chain comma (λ u. chain (number Number) (λ n. closing (Unmap a n))))

-- behind the protection: nothing, where it took the line to its end, or the end of the line
abbrev pub protect_behind_prot : ℕ → ℕ → Option ℕ → Part Body
protect_behind_prot a n None = done Other
protect_behind_prot a n (Some p) = closing (Protect a n (record { 0 = p }))

-- mprotect: an address, a length and a protection
abbrev pub mprotect_arguments : Part Body
mprotect_arguments = chain addr (λ a. chain comma (λ u. chain (number Number) (λ n. chain comma (λ v. chain prot (protect_behind_prot a n)))))

-- fault, the page fault: an address and an access
abbrev pub fault_arguments : Part Body
fault_arguments = chain addr (λ a. chain comma (λ u. chain access (λ c. closing (Fault a c))))

-- mseal: an address, a length and a number, the flags
abbrev pub mseal_arguments : Part Body
mseal_arguments = chain addr
    (λ a. chain comma (λ u. chain (number Number) (λ n. chain comma (λ v. chain (number Number) (λ f. closing (Seal a n f))))))

-- brk: an address, and the base, if there is one
abbrev pub brk_arguments : Part Body
brk_arguments = chain addr (λ a. chain optional (λ b. closing (Brk b a)))

-- behind the flags of mremap: nothing, where they took the line to its end, or the hint, if there is one
abbrev pub remap_behind : ℕ → ℕ → ℕ → Option Bool → Part Body
remap_behind a o n None = done Other
remap_behind a o n (Some may) = chain optional (λ h. closing (Remap a o n may h))

-- behind the old length: the new one and the flags
abbrev pub remap_lengths : ℕ → ℕ → Part Body
remap_lengths a o = chain comma (λ u. chain (number Number) (λ n. chain comma (λ v. chain moving (remap_behind a o n))))

-- mremap: an address, two lengths, and flags
abbrev pub mremap_arguments : Part Body
mremap_arguments = chain addr (λ a. chain comma (λ u. chain (number Number) (remap_lengths a)))

-- the descriptor and the offset, which are read and let go, and what is left of the line
abbrev pub map_tail : Call → Part Body
map_tail call = chain comma (λ u. chain descriptor (λ v. chain comma (λ w. chain (number Number) (λ o. closing call))))

-- behind the flags: nothing, where they took the line to its end, or what is left of the line
abbrev pub map_behind_flags : ℕ → ℕ → ℕ → Option ℕ → Part Body
map_behind_flags a n p None = done Other
map_behind_flags a n p (Some f) = map_tail (Map a n (record { 0 = p }) (record { 0 = f }))

-- behind the protection: nothing, where it took the line to its end, or the flags
abbrev pub map_behind_prot : ℕ → ℕ → Option ℕ → Part Body
map_behind_prot a n None = done Other
map_behind_prot a n (Some p) = chain comma (λ u. chain flags (map_behind_flags a n p))

-- mmap: an address, a length, a protection, flags, a descriptor and an offset
abbrev pub mmap_arguments : Part Body
mmap_arguments = chain addr (λ a. chain comma (λ u. chain (number Number) (λ n. chain comma (λ v. chain prot (map_behind_prot a n)))))

-- the arguments of each call
abbrev pub arguments : Name → Part Body
arguments Mmap = mmap_arguments
arguments Munmap = munmap_arguments
arguments Mprotect = mprotect_arguments
arguments FaultName = fault_arguments
arguments Mseal = mseal_arguments
arguments BrkName = brk_arguments
arguments Mremap = mremap_arguments

-- the whole body of a call; its value is Other where a word or number of the arguments leaves it unplayed
unfoldable pub call : Name → Part Body
call name = chain (begun (call_head name)) (λ u. arguments name)
