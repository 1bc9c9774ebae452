-- Words joined by bars are read as the bits that they stand for.
use Rattle.std.proofs.Common.{rules, ◌≡◌, ℕ, suc, ◌<◌, ◌≤◌, List, [], ◌∷◌, ◌++◌, length, codes}
use Rattle.std.proofs.Common.{true, false, if◌then◌else◌, Option, Some, refl, sym, subst, arith, append-nil}
use Rattle.std.specs.Int.RustNames.{bit_or}
use Rattle.std.specs.List.{join_with_byte}
use Rattle.line_parts.specs.Parts.{Part, chain, starts}
use Rattle.line_parts.specs.Leaves.{is, IsRun, worth, is_capital, is_word_byte}
use Rattle.line_parts.specs.Lists.{listed}
use Rattle.line_parts.proofs.Numerals.{NoNumeral, zero_number}
use Rattle.strace_reader.specs.Words.{prot_of, flag_of}
use Rattle.strace_reader.specs.Calls.{word, known, prot_word, prot, flag_word, flags}
use Rattle.maps_printer.specs.Words.{prot_text, flags_text, words_or}
use Rattle.page_types.specs.Sets.{has_bits}

-- a text ends a word, a list of words and a number
pub record Ends (rest : List ℕ) : Type 0 where
  -- the text goes on with no byte of a word
  pub no_word : starts is_word_byte rest ≡ false
  -- it goes on with no bar
  pub no_bar : starts (is 124) rest ≡ false

-- a word that is read as these bits, whatever ends it
abbrev pub ReadsAs : Part (Option ℕ) → List ℕ × ℕ → Type 0
ReadsAs item w = (rest : List ℕ) → starts is_word_byte rest ≡ false → item.takes w.0 rest (Some w.1)

-- each of these words is read as its bits
abbrev pub EachReads : Part (Option ℕ) → List (List ℕ × ℕ) → Type 0
EachReads item [] = Unit {0}
EachReads item (w ∷ words) = ReadsAs item w × EachReads item words

-- the texts and the bits of words
abbrev pub texts : List (List ℕ × ℕ) → List (List ℕ)
texts [] = []
texts (w ∷ words) = w.0 ∷ texts words

-- the bits of all these words, with those of before
abbrev pub all_bits : ℕ → List (List ℕ × ℕ) → ℕ
all_bits bits [] = bits
all_bits bits (w ∷ words) = all_bits (bit_or bits w.1) words

-- words joined by bars are items with a bar behind each but the last
joined : (item : Part (Option ℕ)) (bits : ℕ) (w : List ℕ × ℕ) (words : List (List ℕ × ℕ)) (rest : List ℕ) → EachReads item (w ∷ words) → Ends rest
    → (listed item bits).takes (join_with_byte 124 (texts (w ∷ words))) rest (Some (all_bits bits (w ∷ words)))
joined item bits w [] rest reads ends = ([], (Some w.1, reads.0 rest ends.no_word, ends.no_bar, refl))
joined item bits w (u ∷ words) rest reads ends = let later = joined item (bit_or bits w.1) u words rest reads.1 ends in
    (w.1 ∷ later.0, (w.0, join_with_byte 124 (texts (u ∷ words)), refl, reads.0 (124 ∷ (join_with_byte 124 (texts (u ∷ words)) ++ rest)) refl, later.1))

-- these words are read as all their bits, or where there is none the other text
abbrev TakesAs : Part (Option ℕ) → List ℕ → List (List ℕ × ℕ) → List ℕ → Type 0
TakesAs item none words rest = (listed item 0).takes (words_or none (texts words)) rest (Some (all_bits 0 words))

words_take : (item : Part (Option ℕ)) (none : List ℕ) (words : List (List ℕ × ℕ)) (rest : List ℕ) → EachReads item words → Ends rest
    → TakesAs item none [] rest → TakesAs item none words rest
words_take item none [] rest reads ends alone = alone
words_take item none (w ∷ words) rest reads ends alone = joined item 0 w words rest reads ends

-- the words whose bits are among these
abbrev chosen : ℕ → List (List ℕ × ℕ) → List (List ℕ × ℕ)
chosen bits [] = []
chosen bits (w ∷ words) = if has_bits bits w.1 then w ∷ chosen bits words else chosen bits words

each_chosen : (item : Part (Option ℕ)) (bits : ℕ) (words : List (List ℕ × ℕ)) → EachReads item words → EachReads item (chosen bits words)
each_chosen item bits [] reads = tt
each_chosen item bits (w ∷ words) reads = let more = each_chosen item bits words reads.1 in
    elim (has_bits bits w.1) as (λ t. EachReads item (if t then w ∷ chosen bits words else chosen bits words)) [ true ↦ (reads.0, more) | false ↦ more ]

-- a known word, whatever item it is
known_reads : (of : List ℕ → Option ℕ) (w : List ℕ) (bits : ℕ) → IsRun is_capital is_word_byte w → of w ≡ Some bits
    → ReadsAs (chain word (λ v. known (of v))) (w, bits)
known_reads of w bits all e rest ends = (w, [], w, sym (append-nil w), (refl, all, ends), subst (λ o. (known o).takes [] rest (Some bits)) (sym e) (refl, refl))

prot_none : ReadsAs prot_word (codes "PROT_NONE", 0)
unfolding prot_of
prot_none = known_reads prot_of (codes "PROT_NONE") 0 (search rules) refl

-- the words of protections, with their bits
abbrev prot_list : List (List ℕ × ℕ)
prot_list = (codes "PROT_READ", 1) ∷ (codes "PROT_WRITE", 2) ∷ (codes "PROT_EXEC", 4) ∷ []

prots_read : EachReads prot_word prot_list
unfolding prot_of
prots_read = (
  known_reads prot_of (codes "PROT_READ") 1 (search rules) refl,
  (known_reads prot_of (codes "PROT_WRITE") 2 (search rules) refl, (known_reads prot_of (codes "PROT_EXEC") 4 (search rules) refl, tt)),
)

prot_of_bits : (bits : ℕ) (rest : List ℕ) → Ends rest → TakesAs prot_word (codes "PROT_NONE") (chosen bits prot_list) rest
prot_of_bits bits rest ends = words_take prot_word (codes "PROT_NONE") (chosen bits prot_list) rest (each_chosen prot_word bits prot_list prots_read)
    ends (joined prot_word 0 (codes "PROT_NONE", 0) [] rest (prot_none, tt) ends)

-- each protection is read as its bits, begins with no space, and has at most 30 bytes
pub prot_takes : (bits : ℕ) (rest : List ℕ) → bits < 8 → Ends rest → prot.takes (prot_text (record { 0 = bits })) rest (Some bits)
    × (starts (is 32) (prot_text (record { 0 = bits }) ++ rest) ≡ false) × (length (prot_text (record { 0 = bits })) ≤ 30)
prot_takes (suc (suc (suc (suc (suc (suc (suc (suc k)))))))) rest small ends = absurd (omega arith)
prot_takes bits rest small ends = (prot_of_bits bits rest ends, refl, omega arith)

-- a comma ends all that it may follow
pub comma_ends : (rest : List ℕ) → Ends (44 ∷ rest)
comma_ends rest = record { no_word = refl; no_bar = refl }

-- a comma may follow a number
pub comma_ends_number : (rest : List ℕ) → NoNumeral (44 ∷ rest)
unfolding worth
comma_ends_number rest = (omega arith, λ e. cc)

-- no flag at all is the number 0
flags_none : (rest : List ℕ) → flags.takes (48 ∷ []) (44 ∷ rest) (Some 0)
flags_none rest = let zero_is = zero_number (44 ∷ rest) (comma_ends_number rest) in
    ([], (Some 0, (48 ∷ [], [], 0, refl, zero_is, ([], [], tt, refl, (refl, refl), (refl, refl))), refl, refl))

-- the words of flags, with their bits
abbrev flag_list : List (List ℕ × ℕ)
flag_list = (codes "MAP_SHARED", 1) ∷ (codes "MAP_PRIVATE", 2) ∷ (codes "MAP_FIXED", 4) ∷ (codes "MAP_FIXED_NOREPLACE", 8) ∷ []

flags_read : EachReads flag_word flag_list
unfolding flag_of
flags_read = (
  known_reads flag_of (codes "MAP_SHARED") 1 (search rules) refl,
  (
    known_reads flag_of (codes "MAP_PRIVATE") 2 (search rules) refl,
    (known_reads flag_of (codes "MAP_FIXED") 4 (search rules) refl, (known_reads flag_of (codes "MAP_FIXED_NOREPLACE") 8 (search rules) refl, tt)),
  ),
)

flags_of_bits : (bits : ℕ) (rest : List ℕ) → TakesAs flag_word (codes "0") (chosen bits flag_list) (44 ∷ rest)
flags_of_bits bits rest = words_take flag_word (codes "0") (chosen bits flag_list) (44 ∷ rest)
    (each_chosen flag_word bits flag_list flags_read) (comma_ends rest) (flags_none rest)

-- all flags are read as their bits, begin with no space, and have at most 52 bytes
pub flags_takes : (bits : ℕ) (rest : List ℕ) → bits < 16 → flags.takes (flags_text (record { 0 = bits })) (44 ∷ rest) (Some bits)
    × (starts (is 32) (flags_text (record { 0 = bits }) ++ 44 ∷ rest) ≡ false) × (length (flags_text (record { 0 = bits })) ≤ 52)
flags_takes (suc (suc (suc (suc (suc (suc (suc (suc (suc (suc (suc (suc (suc (suc (suc (suc k)))))))))))))))) rest small = absurd (omega arith)
flags_takes bits rest small = (flags_of_bits bits rest, refl, omega arith)
