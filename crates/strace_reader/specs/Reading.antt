-- Reading a line from left to right, up to the first refusal: what the functions of src/ compute, as functions on
-- lists. What is right is not said here but in Calls and Maps; that these functions read those forms is shown in
-- proofs/.
use Rattle.std.specs.Prelude.{ℕ, suc, ◌+◌, ◌-◌, ◌≤◌, ◌^◌, ◌%◌, ◌==◌, nat_lt, List, [], ◌∷◌, length, codes, Bool, true}
use Rattle.std.specs.Prelude.{false, Option, Some, None, Result, Ok, Err, if◌then◌else◌}
use Rattle.line_parts.specs.declared.refusal.Refusal.{Refusal}
use Rattle.line_parts.specs.declared.refusal.What.TheVariants.{Number, Word, Comma, Close, Result as AtResult}
use Rattle.line_parts.specs.Parts.{starts}
use Rattle.line_parts.specs.Leaves.{is, is_digit, is_hex, is_capital, is_word_byte}
use Rattle.line_parts.specs.Reading.{◌>>=◌, refusal_at, byte_at, letters_at, after_spaces, run_at, digits_end, number_at, until_at, end_at, list_at, digits_of}
use Rattle.std.specs.Int.RustNames.{bit_or}
use Rattle.page_types.specs.declared.calls.Kind.{Kind}
use Rattle.page_types.specs.declared.calls.Call.{Call}
use Rattle.page_types.specs.declared.calls.Call.TheVariants.{Map, Unmap, Protect, Fault as FaultCall, Seal, Brk, Remap}
use Rattle.page_types.specs.declared.sets.Access.{Access}
use Rattle.strace_reader.specs.declared.arguments.WordList.{WordList}
use Rattle.strace_reader.specs.declared.arguments.WordList.TheVariants.{Prot, Flags}
use Rattle.strace_reader.specs.declared.item.Body.{Body}
use Rattle.strace_reader.specs.declared.item.Body.TheVariants.{Called, FirstHalf, SecondHalf, Other}
use Rattle.strace_reader.specs.declared.item.Item.{Item}
use Rattle.strace_reader.specs.declared.item.Item.TheVariants.{Played, Unfinished, Resumed, Other as Skipped}
use Rattle.strace_reader.specs.declared.item.Recorded.{Recorded}
use Rattle.strace_reader.specs.declared.item.Recorded.TheVariants.{Value, Failed}
use Rattle.strace_reader.specs.declared.item.Name.{Name}
use Rattle.strace_reader.specs.declared.item.Name.TheVariants.{Mmap, Munmap, Mprotect, Fault as FaultName, Mseal, Brk as BrkName, Mremap}
use Rattle.strace_reader.specs.Words.{prot_of, flag_of, access_of, may_of, errno_of}
use Rattle.strace_reader.specs.Calls.{is_more}

-- a comma and spaces
unfoldable pub comma_at : List ℕ → Result (Unit {0} × List ℕ) Refusal
comma_at text = byte_at 44 Comma text >>= λ u. Ok (tt, after_spaces u.1)

-- an address
unfoldable pub addr_at : List ℕ → Result (ℕ × List ℕ) Refusal
addr_at text = if starts (is 78) text then (letters_at (codes "NULL") Number text >>= λ u. Ok (0, u.1)) else number_at Number text

-- a word
abbrev pub word_at : List ℕ → Result (List ℕ × List ℕ) Refusal
word_at text = run_at is_capital is_word_byte Word text

-- the bits of a word, or all that is left
abbrev pub known_at : Option ℕ → List ℕ → Result (Option ℕ × List ℕ) Refusal
known_at None text = Ok (None, [])
known_at (Some bits) text = Ok (Some bits, text)

-- one word of a protection
unfoldable pub prot_word_at : List ℕ → Result (Option ℕ × List ℕ) Refusal
prot_word_at text = if starts is_digit text then Ok (None, []) else (word_at text >>= λ w. known_at (prot_of w.0) w.1)

-- a comment, where one stands
unfoldable pub commented_at : List ℕ → Result (Unit {0} × List ℕ) Refusal
commented_at text = if starts (is 32) text
    then (letters_at (codes " /*") Comma text >>= λ u. until_at 42 47 Comma u.1 >>= λ v. byte_at 47 Comma v.1)
    else Ok (tt, text)

-- what a number is shifted by
unfoldable pub operand_at : List ℕ → Result (Unit {0} × List ℕ) Refusal
operand_at text = if starts is_digit text then (number_at Number text >>= λ n. Ok (tt, n.1)) else (word_at text >>= λ w. Ok (tt, w.1))

-- a shift and a comment
unfoldable pub shifted_at : List ℕ → Result (Unit {0} × List ℕ) Refusal
shifted_at text = if starts (is 60) text then (letters_at (codes "<<") Comma text >>= λ u. operand_at u.1 >>= λ v. commented_at v.1) else commented_at text

-- one of the flags
unfoldable pub flag_word_at : List ℕ → Result (Option ℕ × List ℕ) Refusal
flag_word_at text = if starts is_digit text
    then (number_at Number text >>= λ n. shifted_at n.1 >>= λ u. Ok (Some 0, u.1))
    else (word_at text >>= λ w. known_at (flag_of w.0) w.1)

-- a word of either list
abbrev pub listed_word_at : WordList → List ℕ → Result (Option ℕ × List ℕ) Refusal
listed_word_at Prot = prot_word_at
listed_word_at Flags = flag_word_at

-- either list, from no bit on
unfoldable pub listed_at : WordList → List ℕ → Result (Option ℕ × List ℕ) Refusal
listed_at list text = list_at (listed_word_at list) (suc (length text)) 0 text

-- a protection
unfoldable pub prot_at : List ℕ → Result (Option ℕ × List ℕ) Refusal
prot_at text = listed_at Prot text

-- the flags
unfoldable pub flags_at : List ℕ → Result (Option ℕ × List ℕ) Refusal
flags_at text = listed_at Flags text

-- a descriptor's path
unfoldable pub path_at : List ℕ → Result (Unit {0} × List ℕ) Refusal
path_at text = if starts (is 60) text then (byte_at 60 Comma text >>= λ u. until_at 62 44 Comma u.1) else Ok (tt, text)

-- a descriptor
unfoldable pub descriptor_at : List ℕ → Result (Unit {0} × List ℕ) Refusal
descriptor_at text = if starts (is 45) text then (letters_at (codes "-1") Number text >>= λ u. path_at u.1) else (digits_end Number text >>= λ u. path_at u.1)

-- an access, or a refusal at the first byte of the word
abbrev pub access_read : List ℕ → List ℕ → Option Access → Result (Access × List ℕ) Refusal
access_read text rest None = Err (refusal_at text Word)
access_read text rest (Some a) = Ok (a, rest)

-- an access
unfoldable pub access_at : List ℕ → Result (Access × List ℕ) Refusal
access_at text = word_at text >>= λ w. access_read text w.1 (access_of w.0)

-- an optional address
unfoldable pub optional_at : List ℕ → Result (ℕ × List ℕ) Refusal
optional_at text = if starts (is 44) text then (comma_at text >>= λ u. addr_at u.1) else Ok (0, text)

-- what stands alone, or all that is left
abbrev pub alone_at : (ℕ → Bool) → Bool → List ℕ → Result (Option Bool × List ℕ) Refusal
alone_at test may text = if starts test text then Ok (None, []) else Ok (Some may, text)

-- behind 0x
unfoldable pub hex_number_at : List ℕ → Result (Option Bool × List ℕ) Refusal
hex_number_at text = run_at is_hex is_hex Number text >>= λ d. Ok (None, [])

-- behind a first 0
unfoldable pub zero_behind_at : List ℕ → Result (Option Bool × List ℕ) Refusal
zero_behind_at text = if starts (is 120) text then (byte_at 120 Number text >>= λ u. hex_number_at u.1) else alone_at is_more false text

-- a number of mremap's flags
unfoldable pub move_number_at : List ℕ → Result (Option Bool × List ℕ) Refusal
move_number_at text = if starts (is 48) text then (byte_at 48 Number text >>= λ u. zero_behind_at u.1) else Ok (None, [])

-- behind a word of mremap's flags
abbrev pub moved_at : Option Bool → List ℕ → Result (Option Bool × List ℕ) Refusal
moved_at None text = Ok (None, [])
moved_at (Some may) text = alone_at (is 124) may text

-- a word of mremap's flags
unfoldable pub move_word_at : List ℕ → Result (Option Bool × List ℕ) Refusal
move_word_at text = word_at text >>= λ w. moved_at (may_of w.0) w.1

-- mremap's flags
unfoldable pub moving_at : List ℕ → Result (Option Bool × List ℕ) Refusal
moving_at text = if starts is_digit text then move_number_at text else move_word_at text

-- an error's name or a number
unfoldable pub failed_at : List ℕ → Result (Option Recorded × List ℕ) Refusal
failed_at text = if starts (is 45) text
    then (letters_at (codes "-1 ") AtResult text >>= λ u. run_at is_word_byte is_word_byte AtResult u.1 >>= λ w. Ok (Some (Failed (errno_of w.0)), w.1))
    else (number_at AtResult text >>= λ n. Ok (Some (Value n.0), n.1))

-- a result
unfoldable pub recorded_at : List ℕ → Result (Option Recorded × List ℕ) Refusal
recorded_at text = if starts (is 63) text then (byte_at 63 AtResult text >>= λ u. Ok (None, u.1)) else failed_at text

-- spaces, an equals sign and spaces
unfoldable pub equals_at : List ℕ → Result (Unit {0} × List ℕ) Refusal
equals_at text = byte_at 32 AtResult text >>= λ a. letters_at (codes "= ") AtResult (after_spaces a.1) >>= λ c. Ok (tt, after_spaces c.1)

-- the end of a line
unfoldable pub tail_at : Body → List ℕ → Result (Body × List ℕ) Refusal
tail_at body text = if starts (is 32) text then Ok (body, []) else end_at AtResult body text

-- what stands behind the parenthesis
unfoldable pub outcome_at : Call → List ℕ → Result (Body × List ℕ) Refusal
outcome_at call text = if starts (is 32) text
    then (equals_at text >>= λ u. recorded_at u.1 >>= λ r. tail_at (Called call r.0) r.1)
    else end_at AtResult (Called call None) text

-- the parenthesis and what is behind it
unfoldable pub closing_at : Call → List ℕ → Result (Body × List ℕ) Refusal
closing_at call text = byte_at 41 Close text >>= λ u. outcome_at call u.1

-- munmap
unfoldable pub munmap_at : List ℕ → Result (Body × List ℕ) Refusal
munmap_at text = addr_at text >>= λ a. comma_at a.1 >>= λ u. number_at Number u.1 >>= λ n. closing_at (Unmap a.0 n.0) n.1

-- mprotect, behind its protection
abbrev pub protect_behind_prot_at : ℕ → ℕ → Option ℕ → List ℕ → Result (Body × List ℕ) Refusal
protect_behind_prot_at a n None text = Ok (Other, text)
protect_behind_prot_at a n (Some p) text = closing_at (Protect a n (record { 0 = p })) text

-- mprotect
unfoldable pub mprotect_at : List ℕ → Result (Body × List ℕ) Refusal
mprotect_at text = addr_at text >>= λ a. comma_at a.1 >>= λ u. number_at Number u.1 >>= λ n. comma_at n.1
    >>= λ v. prot_at v.1 >>= λ p. protect_behind_prot_at a.0 n.0 p.0 p.1

-- the page fault
unfoldable pub fault_call_at : List ℕ → Result (Body × List ℕ) Refusal
fault_call_at text = addr_at text >>= λ a. comma_at a.1 >>= λ u. access_at u.1 >>= λ c. closing_at (FaultCall a.0 c.0) c.1

-- mseal
unfoldable pub mseal_at : List ℕ → Result (Body × List ℕ) Refusal
mseal_at text = addr_at text >>= λ a. comma_at a.1 >>= λ u. number_at Number u.1 >>= λ n. comma_at n.1
    >>= λ v. number_at Number v.1 >>= λ f. closing_at (Seal a.0 n.0 f.0) f.1

-- brk
unfoldable pub brk_at : List ℕ → Result (Body × List ℕ) Refusal
brk_at text = addr_at text >>= λ a. optional_at a.1 >>= λ b. closing_at (Brk b.0 a.0) b.1

-- mremap, behind its flags
abbrev pub remap_behind_at : ℕ → ℕ → ℕ → Option Bool → List ℕ → Result (Body × List ℕ) Refusal
remap_behind_at a o n None text = Ok (Other, text)
remap_behind_at a o n (Some may) text = optional_at text >>= λ h. closing_at (Remap a o n may h.0) h.1

-- mremap, behind its old length
unfoldable pub remap_lengths_at : ℕ → ℕ → List ℕ → Result (Body × List ℕ) Refusal
remap_lengths_at a o text = comma_at text >>= λ u. number_at Number u.1 >>= λ n. comma_at n.1
    >>= λ v. moving_at v.1 >>= λ m. remap_behind_at a o n.0 m.0 m.1

-- mremap
unfoldable pub mremap_at : List ℕ → Result (Body × List ℕ) Refusal
mremap_at text = addr_at text >>= λ a. comma_at a.1 >>= λ u. number_at Number u.1 >>= λ o. remap_lengths_at a.0 o.0 o.1

-- behind the flags: the descriptor and the offset
unfoldable pub map_tail_at : Call → List ℕ → Result (Body × List ℕ) Refusal
map_tail_at call text = comma_at text >>= λ u. descriptor_at u.1 >>= λ v. comma_at v.1 >>= λ w. number_at Number w.1 >>= λ o. closing_at call o.1

-- mmap, behind its flags
abbrev pub map_behind_flags_at : ℕ → ℕ → ℕ → Option ℕ → List ℕ → Result (Body × List ℕ) Refusal
map_behind_flags_at a n p None text = Ok (Other, text)
map_behind_flags_at a n p (Some f) text = map_tail_at (Map a n (record { 0 = p }) (record { 0 = f })) text

-- mmap, behind its protection
abbrev pub map_behind_prot_at : ℕ → ℕ → Option ℕ → List ℕ → Result (Body × List ℕ) Refusal
map_behind_prot_at a n None text = Ok (Other, text)
map_behind_prot_at a n (Some p) text = comma_at text >>= λ u. flags_at u.1 >>= λ f. map_behind_flags_at a n p f.0 f.1

-- mmap
unfoldable pub mmap_at : List ℕ → Result (Body × List ℕ) Refusal
mmap_at text = addr_at text >>= λ a. comma_at a.1 >>= λ u. number_at Number u.1 >>= λ n. comma_at n.1
    >>= λ v. prot_at v.1 >>= λ p. map_behind_prot_at a.0 n.0 p.0 p.1

-- the arguments of each call, and what comes behind them
abbrev pub arguments_at : Name → List ℕ → Result (Body × List ℕ) Refusal
arguments_at Mmap text = mmap_at text
arguments_at Munmap text = munmap_at text
arguments_at Mprotect text = mprotect_at text
arguments_at FaultName text = fault_call_at text
arguments_at Mseal text = mseal_at text
arguments_at BrkName text = brk_at text
arguments_at Mremap text = mremap_at text

-- ---- maps lines

-- a value, and what is made of it
abbrev pub then_some : {A B : Type 0} → Option A → (A → Option B) → Option B
then_some None f = None
then_some (Some x) f = f x

-- the digits of an address that were taken: their number and what is left
abbrev pub address_of : List ℕ → ℕ × List ℕ → Option (ℕ × List ℕ)
address_of text r = if length r.1 == length text then None else if nat_lt r.0 (2 ^ 64) then (if r.0 % 4096 == 0 then Some r else None) else None

-- an address of a maps line
unfoldable pub address_at : List ℕ → Option (ℕ × List ℕ)
address_at text = address_of text (digits_of 16 0 text)

-- what is left behind a byte
unfoldable pub behind_byte : ℕ → List ℕ → Option (List ℕ)
behind_byte b [] = None
behind_byte b (c ∷ rest) = if c == b then Some rest else None

-- one of the first three characters
unfoldable pub mark_at : ℕ → ℕ → List ℕ → Option (ℕ × List ℕ)
mark_at letter bit [] = None
mark_at letter bit (c ∷ rest) = if c == letter then Some (bit, rest) else if c == 45 then Some (0, rest) else None

-- the fourth character
unfoldable pub sharing_at : List ℕ → Option (Bool × List ℕ)
sharing_at [] = None
sharing_at (c ∷ rest) = if c == 115 then Some (true, rest) else if c == 112 then Some (false, rest) else None

-- the kind, where the line ends or goes on with a space
unfoldable pub ended_at : Kind → List ℕ → Option Kind
ended_at kind [] = Some kind
ended_at kind (c ∷ rest) = if c == 32 then Some kind else None

-- the four characters
unfoldable pub kind_at : List ℕ → Option Kind
kind_at text = then_some (mark_at 114 1 text)
    (λ r. then_some (mark_at 119 2 r.1)
    (λ w. then_some (mark_at 120 4 w.1)
    (λ x. then_some (sharing_at x.1)
    (λ s. ended_at (record { prot = record { 0 = bit_or (bit_or r.0 w.0) x.0 }; shared = s.0; sealed = false }) s.1))))

-- a maps line
unfoldable pub maps_at : List ℕ → Option (ℕ × ℕ × Kind)
maps_at text = then_some (address_at text)
    (λ a. then_some (behind_byte 45 a.1)
    (λ u. then_some (address_at u)
    (λ b. then_some (behind_byte 32 b.1)
    (λ v. then_some (kind_at v) (λ k. Some (a.0, b.0, k))))))

-- ---- whole lines

-- the item of a line of n bytes, of a process, whose body has m bytes
abbrev pub item_of : ℕ → ℕ → ℕ → Body → Item
item_of n pid m (Called done recorded) = Played pid done recorded
item_of n pid m (FirstHalf name len) = Unfinished pid name (n - m) (n - m + len)
item_of n pid m (SecondHalf name left) = Resumed pid name (n - left)
item_of n pid m Other = Skipped

-- what is kept of a body is no longer than its m bytes
abbrev pub FitsBody : ℕ → Body → Type 0
FitsBody m (Called done recorded) = Unit {0}
FitsBody m (FirstHalf name len) = len ≤ m
FitsBody m (SecondHalf name left) = left ≤ m
FitsBody m Other = Unit {0}
