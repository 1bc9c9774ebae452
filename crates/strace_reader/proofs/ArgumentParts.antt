-- The arguments of a call are read as their parts say.
use Rattle.std.proofs.Common.{◌≡◌, ℕ, ◌<◌, ◌^◌, List, [], ◌∷◌, ◌++◌, length, codes, Result, Ok, Err, Option, Some, None}
use Rattle.std.proofs.Common.{Bool, true, false, refl, sym, ap, subst, ◌∙◌, append_assoc, inl, inr, arith}
use Rattle.std.specs.Prelude.{if◌then◌else◌}
use Rattle.std.proofs.lemmas.List.{append-nil}
use Rattle.std.proofs.lemmas.Nat.{or_lt}
use Rattle.line_parts.specs.declared.refusal.Refusal.{Refusal}
use Rattle.line_parts.specs.declared.refusal.What.{What}
use Rattle.line_parts.specs.declared.refusal.What.TheVariants.{Number, Word, Comma}
use Rattle.line_parts.specs.Parts.{Part, chain, arm, done, starts}
use Rattle.line_parts.specs.Leaves.{is, byte, letters, worth, run, spaces, number, until, anything, no_byte, is_digit, is_capital, is_word_byte, many_digits}
use Rattle.line_parts.specs.Lists.{Items, with_more}
use Rattle.std.specs.Int.RustNames.{bit_or}
use Rattle.std.specs.Str.{bytes_eq}
use Rattle.line_parts.specs.Reading.{◌>>=◌, refusal_at, byte_at}
use Rattle.line_parts.proofs.Sequence.{Took, Stuck, Reads, Fine, Good, Follows, Heads, reads_then, fine_then, good_then, shorter, heads_then, alike_same}
use Rattle.line_parts.proofs.Choices.{Nonempty, Full, good_choice, narrower, full_nonempty, full_stays, chain_full, byte_full, letters_full, run_full}
use Rattle.line_parts.proofs.Leaves.{byte_good, done_good, letters_good, run_good, spaces_good, until_good, digits_good}
use Rattle.line_parts.proofs.Leaves.{anything_took, same_is, is_same, run_starts, no_byte_starts}
use Rattle.line_parts.proofs.Numerals.{NoNumeral, number_good, number_full, number_heads, zero_number}
use Rattle.line_parts.proofs.Lists.{is_join, is_close, ItemEnds, ListEnds, Shortens, listed_good, listed_heads, join_fails, join_no_numeral, close_joins}
use Rattle.page_types.specs.declared.sets.Access.{Access}
use Rattle.page_types.specs.declared.sets.Access.TheVariants.{Read}
use Rattle.strace_reader.specs.Words.{prot_of, flag_of, access_of}
use Rattle.strace_reader.specs.declared.arguments.WordList.{WordList}
use Rattle.strace_reader.specs.declared.arguments.WordList.TheVariants.{Prot, Flags}
use Rattle.strace_reader.specs.Calls.{comma, addr, word, known, prot_word, prot, commented, operand, shifted, flag_word, flags, path, descriptor, access}
use Rattle.strace_reader.specs.Calls.{optional}
use Rattle.strace_reader.specs.Reading.{comma_at, addr_at, word_at, known_at, prot_word_at, prot_at, commented_at, operand_at, shifted_at, flag_word_at}
use Rattle.strace_reader.specs.Reading.{flags_at, listed_word_at, listed_at, path_at, descriptor_at, access_read, access_at, optional_at}

-- ---- what may follow

-- a comma follows
abbrev pub CommaEnds : {A : Type 0} → A → List ℕ → Type 0
CommaEnds v q = starts (is 44) q ≡ true

-- a comma, a parenthesis or a bar follows
abbrev pub JoinEnds : {A : Type 0} → A → List ℕ → Type 0
JoinEnds v q = starts is_join q ≡ true

-- no space follows
abbrev pub SpacesEnd : {A : Type 0} → A → List ℕ → Type 0
SpacesEnd v q = starts (is 32) q ≡ false

-- no byte of a word follows
abbrev pub WordEnds : {A : Type 0} → A → List ℕ → Type 0
WordEnds v q = starts is_word_byte q ≡ false

-- a byte that is no space
abbrev pub not_space : ℕ → Bool
not_space c = if is 32 c then false else true

-- a text that begins with this byte begins as a test says of the byte
pub starts_as : (b : ℕ) (test : ℕ → Bool) (q : List ℕ) → starts (is b) q ≡ true → starts test q ≡ test b
starts_as b test [] h = absurd cc
starts_as b test (c ∷ q) h = ap test (same_is b c h)

-- a text that begins with a comma may follow a list
pub comma_closes : (q : List ℕ) → starts (is 44) q ≡ true → starts is_close q ≡ true
comma_closes q h = starts_as 44 is_close q h

-- a text that begins with a closing parenthesis may follow a list
pub paren_closes : (q : List ℕ) → starts (is 41) q ≡ true → starts is_close q ≡ true
paren_closes q h = starts_as 41 is_close q h

not_space_byte : (b : Bool) → (if b then false else true) ≡ true → b ≡ false
not_space_byte true h = cc
not_space_byte false h = refl

-- a text that begins with a byte that is no space doesn't begin with a space
pub not_space_ends : (q : List ℕ) → starts not_space q ≡ true → starts (is 32) q ≡ false
not_space_ends [] h = refl
not_space_ends (c ∷ q) h = not_space_byte (is 32 c) h

space_byte : (test : ℕ → Bool) → test 32 ≡ false → (c : ℕ) (b : Bool) → is 32 c ≡ b → test c ≡ true → (if b then false else true) ≡ true
space_byte test x c true e h = let no = ap test (same_is 32 c e) ∙ x in cc
space_byte test x c false e h = refl

-- a text whose first byte passes a test that a space fails begins with a byte that is no space
pub no_space_first : (test : ℕ → Bool) → test 32 ≡ false → (q : List ℕ) → starts test q ≡ true → starts not_space q ≡ true
no_space_first test x [] h = absurd cc
no_space_first test x (c ∷ q) h = space_byte test x c (is 32 c) refl h

-- a text that begins with a digit begins with a byte that is no space
pub digit_not_space : (q : List ℕ) → starts is_digit q ≡ true → starts not_space q ≡ true
digit_not_space q h = no_space_first is_digit refl q h

-- ---- commas

-- a comma and its spaces are read by comma_at, where no space follows
pub comma_good : Good comma SpacesEnd comma_at
unfolding comma_at
comma_good = good_then (byte_good 44 Comma) (λ u. spaces_good) (λ v b q w h hq. tt)

-- one byte begins with itself
pub byte_heads : (b : ℕ) (due : What) → Heads (is b) (byte b due)
byte_heads b due a q w h = ap (λ x. starts (is b) (x ++ q)) h ∙ is_same b

-- a comma and its spaces begin with a comma
pub comma_heads : Heads (is 44) comma
comma_heads = heads_then (is 44) (byte 44 Comma) (λ u. spaces) (byte_heads 44 Comma)

-- ---- addresses

null_full : Full {A = ℕ} (chain (letters (codes "NULL") Number) (λ u. done 0))
null_full = chain_full (letters (codes "NULL") Number) (λ u. done 0) (letters_full 78 (codes "ULL") Number)

-- a comma or a closing parenthesis follows
abbrev pub CloseEnds : {A : Type 0} → A → List ℕ → Type 0
CloseEnds v q = starts is_close q ≡ true

-- what ends a number
pub close_no_numeral : (q : List ℕ) → starts is_close q ≡ true → NoNumeral q
close_no_numeral q h = join_no_numeral q (close_joins q h)

-- an address is read by addr_at, where a comma or a parenthesis follows
pub addr_closed : Good addr CloseEnds addr_at
unfolding addr_at
addr_closed = good_choice (is 78) (good_then (letters_good (codes "NULL") Number) (λ u. done_good 0 CloseEnds) (λ v b q w h hq. tt))
    (narrower (λ v q h. close_no_numeral q h) (number_good Number))
    (full_nonempty (is 78) (chain (letters (codes "NULL") Number) (λ u. done 0)) null_full) (full_stays (is 78) (number Number) CloseEnds (number_full Number))
    (48 ∷ [], 0, λ q h. zero_number q (close_no_numeral q h))

-- so it is where a comma follows
pub addr_good : Good addr CommaEnds addr_at
addr_good = narrower (λ v q h. comma_closes q h) addr_closed

addr_starts : (b q : List ℕ) (n : ℕ) (x : Bool) → starts (is 78) (b ++ q) ≡ x
    → (arm (chain (letters (codes "NULL") Number) (λ u. done 0)) (number Number) x).takes b q n → starts not_space (b ++ q) ≡ true
addr_starts b q n true e h = starts_as 78 not_space (b ++ q) e
addr_starts b q n false e h = digit_not_space (b ++ q) (number_heads Number b q n h)

-- an address begins with a byte that is no space
pub addr_heads : Heads not_space addr
addr_heads b q n h = addr_starts b q n (starts (is 78) (b ++ q)) refl h

-- ---- an address that may be missing

-- a closing parenthesis follows
abbrev pub ParenEnds : {A : Type 0} → A → List ℕ → Type 0
ParenEnds v q = starts (is 41) q ≡ true

comma_full : {B : Type 0} (next : Unit {0} → Part B) → Full (chain comma next)
comma_full next = chain_full comma next (chain_full (byte 44 Comma) (λ u. spaces) (byte_full 44 Comma))

-- an address that may be missing is read by optional_at, where a parenthesis follows
pub optional_good : Good optional ParenEnds optional_at
unfolding optional_at
optional_good = good_choice (is 44) (good_then comma_good (λ u. narrower (λ v q h. paren_closes q h) addr_closed)
    (λ v b q w h hq. not_space_ends (b ++ q) (addr_heads b q w h))) (done_good 0 ParenEnds)
    (full_nonempty (is 44) (chain comma (λ u. addr)) (comma_full (λ u. addr))) (λ rest q v h hq. starts_as 41 (is 44) q hq)
    ([], 0, λ q h. subst (λ x. (arm (chain comma (λ u. addr)) (done 0) x).takes [] q 0) (sym (starts_as 41 (is 44) q h)) (refl, refl))

optional_starts : (x more : List ℕ) (n : ℕ) (t : Bool) → starts (is 44) (x ++ more) ≡ t
    → (arm (chain comma (λ u. addr)) (done 0) t).takes x more n → starts (is 41) more ≡ true → starts is_close (x ++ more) ≡ true
optional_starts x more n true e h paren = comma_closes (x ++ more) e
optional_starts x more n false e h paren = ap (λ y. starts is_close (y ++ more)) h.0 ∙ paren_closes more paren

-- one behind which a parenthesis is due may stand behind a number
pub optional_closes : {B : Type 0} (next : ℕ → Part B) → ((n : ℕ) → Heads (is 41) (next n)) → (b q : List ℕ) (w : B)
    → (chain optional next).takes b q w → starts is_close (b ++ q) ≡ true
optional_closes next heads b q w h = let e : b ++ q ≡ h.0 ++ (h.1 ++ q) = ap (λ y. y ++ q) h.3 ∙ append_assoc h.0 h.1 q in
    ap (starts is_close) e ∙ optional_starts h.0 (h.1 ++ q) h.2 (starts (is 44) (h.0 ++ (h.1 ++ q))) refl h.4 (heads h.2 h.1 q w h.5)

-- ---- words

-- a word is read by word_at, where no byte of a word follows
pub word_good : Good word WordEnds word_at
word_good = run_good is_capital is_word_byte Word 65 refl

known_follows : (x : Option ℕ) (b q : List ℕ) (u : Option ℕ) → (known x).takes b q u → ItemEnds u q → starts is_word_byte (b ++ q) ≡ false
known_follows None b q u h hq = ap (λ y. starts is_word_byte (b ++ y)) h.0 ∙ ap (starts is_word_byte) (append-nil b) ∙ h.2
known_follows (Some n) b q u h hq = ap (λ y. starts is_word_byte (y ++ q)) h.0 ∙ join_fails is_word_byte refl refl refl q (subst (λ x. ItemEnds x q) h.1 hq)

-- all that is left is fine as what has no value, where only the end may follow that
pub rest_fine : {B : Type 0} (test : ℕ → Bool) (follow : Option B → List ℕ → Type 0) → ((q : List ℕ) → follow None q → q ≡ [])
    → Fine (anything test None) follow
rest_fine test follow last = record {
  some = ([], None, λ q h. (last q h, refl, refl));
  before = λ a rest q v h hq. (last q (subst (λ x. follow x q) h.1 hq), h.1, h.2);
}

known_fine : (x : Option ℕ) → Fine (known x) ItemEnds
known_fine None = rest_fine is_word_byte ItemEnds (λ q h. h)
known_fine (Some n) = (done_good (Some n) ItemEnds).fine

known_reads : (x : Option ℕ) (text : List ℕ) → starts is_word_byte text ≡ false → Reads (known x) ItemEnds text (known_at x text)
known_reads None text h = anything_took is_word_byte None text h
known_reads (Some n) text h = (done_good (Some n) ItemEnds).reads text

known_word : (f : List ℕ → Option ℕ) → Good (chain word (λ w. known (f w))) ItemEnds (λ text. word_at text >>= λ w. known_at (f w.0) w.1)
known_word f =
    let follows : Follows WordEnds (λ w. known (f w)) ItemEnds = λ v b q u h hq. known_follows (f v) b q u h hq in
    record {
      fine = fine_then word (λ w. known (f w)) WordEnds ItemEnds follows word_good.fine (λ w. known_fine (f w));
      reads = λ text. reads_then word (λ w. known (f w)) WordEnds ItemEnds text (word_at text) (λ w. known_at (f w.0) w.1) follows
          word_good.fine (λ w. known_fine (f w)) (word_good.reads text) (λ x t. known_reads (f x.0) x.1 t.takes.2);
    }

known_word_full : (f : List ℕ → Option ℕ) → Full (chain word (λ w. known (f w)))
known_word_full f = chain_full word (λ w. known (f w)) (run_full is_capital is_word_byte Word)

-- a word begins with a byte that is no space
pub word_heads : Heads not_space word
word_heads b q w h = no_space_first is_capital refl (b ++ q) (run_starts is_capital is_word_byte b q h.1)

-- ---- protections

rest_good : Good (anything no_byte None) ItemEnds (λ text. Ok (None, []))
rest_good = record { fine = rest_fine no_byte ItemEnds (λ q h. h); reads = λ text. anything_took no_byte None text (no_byte_starts text) }

-- all that is left isn't nothing where a byte that passes a test is left
pub rest_nonempty : {A : Type 0} (test : ℕ → Bool) (v : A) → Nonempty test (anything no_byte v)
rest_nonempty test v rest w h e = let k : starts test rest ≡ false = ap (starts test) h.0 in cc

-- a protection word is read by prot_word_at, before what may follow an item of a list
pub prot_word_good : Good prot_word ItemEnds prot_word_at
unfolding prot_word_at
prot_word_good = good_choice is_digit rest_good (known_word prot_of) (rest_nonempty is_digit None)
    (full_stays is_digit (chain word (λ w. known (prot_of w))) ItemEnds (known_word_full prot_of)) (48 ∷ [], None, λ q h. (h, refl, refl))

-- a protection is read by prot_at, before what may follow a list
pub prot_good : Good prot ListEnds prot_at
unfolding prot_at listed_at
prot_good = listed_good prot_word prot_word_at prot_word_good 0

digit_or_word : (one : Part (Option ℕ)) (f : List ℕ → Option ℕ) (b q : List ℕ) (w : Option ℕ) (x : Bool)
    → starts is_digit (b ++ q) ≡ x → (arm one (chain word (λ w. known (f w))) x).takes b q w → starts not_space (b ++ q) ≡ true
digit_or_word one f b q w true e h = digit_not_space (b ++ q) e
digit_or_word one f b q w false e h = heads_then not_space word (λ w. known (f w)) word_heads b q w h

-- a protection begins with a byte that is no space
pub prot_heads : Heads not_space prot
prot_heads = listed_heads not_space prot_word 0 (λ b q w h. digit_or_word (anything no_byte None) prot_of b q w (starts is_digit (b ++ q)) refl h)

-- ---- flags

-- the bytes of a text begin with the first of them
pub letters_heads : (b : ℕ) (text : List ℕ) (due : What) → Heads (is b) (letters (b ∷ text) due)
letters_heads b text due = heads_then (is b) (byte b due) (λ u. letters text due) (byte_heads b due)

abbrev comment : Part (Unit {0})
comment = chain (letters (codes " /*") Comma) (λ u. chain (until 42 47 Comma) (λ v. byte 47 Comma))

commented_empty : (q : List ℕ) → starts is_join q ≡ true → commented.takes [] q tt
commented_empty q h = subst (λ x. (arm comment (done tt) x).takes [] q tt) (sym (join_fails (is 32) refl refl refl q h)) (refl, refl)

comment_full : Full comment
comment_full = chain_full (letters (codes " /*") Comma) (λ u. chain (until 42 47 Comma) (λ v. byte 47 Comma)) (letters_full 32 (codes "/*") Comma)

commented_good : Good commented JoinEnds commented_at
unfolding commented_at
commented_good =
    let end_good : Good (byte 47 Comma) JoinEnds (byte_at 47 Comma) = narrower (λ v q h. tt) (byte_good 47 Comma) in
    good_choice (is 32) (good_then (letters_good (codes " /*") Comma)
    (λ u. good_then (until_good 42 47 Comma refl) (λ v. end_good) (λ v b q w h hq. byte_heads 47 Comma b q w h)) (λ v b q w h hq. tt)) (done_good tt JoinEnds)
    (full_nonempty (is 32) comment comment_full) (λ rest q v h hq. join_fails (is 32) refl refl refl q hq) ([], tt, commented_empty)

-- an operand ends before a space, a comma, a parenthesis or a bar
abbrev pub is_operand_end : ℕ → Bool
is_operand_end c = if is 32 c then true else is_join c

-- such an end follows
abbrev pub OperandEnds : {A : Type 0} → A → List ℕ → Type 0
OperandEnds v q = starts is_operand_end q ≡ true

operand_byte : (test : ℕ → Bool) → test 32 ≡ false → test 124 ≡ false → test 44 ≡ false → test 41 ≡ false
    → (c : ℕ) (q : List ℕ) (b : Bool) → is 32 c ≡ b → (if b then true else is_join c) ≡ true → test c ≡ false
operand_byte test s x y z c q true e h = ap test (same_is 32 c e) ∙ s
operand_byte test s x y z c q false e h = join_fails test x y z (c ∷ q) h

operand_fails : (test : ℕ → Bool) → test 32 ≡ false → test 124 ≡ false → test 44 ≡ false → test 41 ≡ false → (q : List ℕ)
    → starts is_operand_end q ≡ true → starts test q ≡ false
operand_fails test s x y z [] h = refl
operand_fails test s x y z (c ∷ q) h = operand_byte test s x y z c q (is 32 c) refl h

operand_numeral_byte : (c : ℕ) (q : List ℕ) (b : Bool) → is 32 c ≡ b → (if b then true else is_join c) ≡ true → NoNumeral (c ∷ q)
unfolding worth
operand_numeral_byte c q true e h = rw (same_is 32 c e) (omega arith, omega arith)
operand_numeral_byte c q false e h = join_no_numeral (c ∷ q) h

operand_no_numeral : (q : List ℕ) → starts is_operand_end q ≡ true → NoNumeral q
operand_no_numeral [] h = tt
operand_no_numeral (c ∷ q) h = operand_numeral_byte c q (is 32 c) refl h

-- what a number is shifted by is read by operand_at, where an operand ends
pub operand_good : Good operand OperandEnds operand_at
unfolding operand_at
operand_good = good_choice is_digit (good_then (number_good Number) (λ n. done_good tt OperandEnds)
    (λ v b q w h hq. subst NoNumeral (sym (ap (λ y. y ++ q) h.0)) (operand_no_numeral q hq))) (good_then word_good (λ w. done_good tt OperandEnds)
    (λ v b q w h hq. ap (λ y. starts is_word_byte (y ++ q)) h.0 ∙ operand_fails is_word_byte refl refl refl refl q hq))
    (full_nonempty is_digit (chain (number Number) (λ n. done tt)) (chain_full (number Number) (λ n. done tt) (number_full Number)))
    (full_stays is_digit (chain word (λ w. done tt)) OperandEnds (chain_full word (λ w. done tt) (run_full is_capital is_word_byte Word)))
    (65 ∷ [], tt, λ q h. (65 ∷ [], [], 65 ∷ [], refl, (refl, (refl, tt), operand_fails is_word_byte refl refl refl refl q h), (refl, refl)))

either_close : (a b : Bool) → b ≡ true → (if a then true else b) ≡ true
either_close true b h = refl
either_close false b h = h

join_ends : (q : List ℕ) → starts is_join q ≡ true → starts is_operand_end q ≡ true
join_ends [] h = h
join_ends (c ∷ q) h = either_close (is 32 c) (is_join c) h

-- behind an operand stands a comment, or what ends an item
commented_starts : (b q : List ℕ) (w : Unit {0}) (x : Bool) → starts (is 32) (b ++ q) ≡ x → (arm comment (done tt) x).takes b q w
    → starts is_join q ≡ true → starts is_operand_end (b ++ q) ≡ true
commented_starts b q w true e h hq = starts_as 32 is_operand_end (b ++ q) e
commented_starts b q w false e h hq = ap (λ y. starts is_operand_end (y ++ q)) h.0 ∙ join_ends q hq

abbrev shift : Part (Unit {0})
shift = chain (letters (codes "<<") Comma) (λ u. chain operand (λ v. commented))

shifted_empty : (q : List ℕ) → starts is_join q ≡ true → shifted.takes [] q tt
shifted_empty q h = subst (λ x. (arm shift commented x).takes [] q tt) (sym (join_fails (is 60) refl refl refl q h)) (commented_empty q h)

shifted_good : Good shifted JoinEnds shifted_at
unfolding shifted_at
shifted_good = good_choice (is 60) (good_then (letters_good (codes "<<") Comma) (λ u. good_then operand_good (λ v. commented_good)
    (λ v b q w h hq. commented_starts b q w (starts (is 32) (b ++ q)) refl h hq)) (λ v b q w h hq. tt)) commented_good
    (full_nonempty (is 60) shift (chain_full (letters (codes "<<") Comma) (λ u. chain operand (λ v. commented))
    (letters_full 60 (codes "<") Comma))) (λ rest q v h hq. join_fails (is 60) refl refl refl q hq) ([], tt, shifted_empty)

angle_no_numeral : (q : List ℕ) → starts (is 60) q ≡ true → NoNumeral q
unfolding worth
angle_no_numeral [] h = tt
angle_no_numeral (c ∷ q) h = rw (same_is 60 c h) (omega arith, omega arith)

shifted_starts : (b q : List ℕ) (w : Unit {0}) (x : Bool) → starts (is 60) (b ++ q) ≡ x → (arm shift commented x).takes b q w
    → starts is_join q ≡ true → NoNumeral (b ++ q)
shifted_starts b q w true e h hq = angle_no_numeral (b ++ q) e
shifted_starts b q w false e h hq = operand_no_numeral (b ++ q) (commented_starts b q w (starts (is 32) (b ++ q)) refl h hq)

-- behind a number of the flags
number_follows : (b q : List ℕ) (w : Option ℕ) → (chain {B = Option ℕ} shifted (λ u. done (Some 0))).takes b q w → ItemEnds w q → NoNumeral (b ++ q)
number_follows b q w h hq =
    let join : starts is_join q ≡ true = subst (λ x. ItemEnds x q) h.5.1 hq in
    let behind : starts is_join (h.1 ++ q) ≡ true = ap (λ y. starts is_join (y ++ q)) h.5.0 ∙ join in
    let e : b ++ q ≡ h.0 ++ (h.1 ++ q) = ap (λ y. y ++ q) h.3 ∙ append_assoc h.0 h.1 q in
    subst NoNumeral (sym e) (shifted_starts h.0 (h.1 ++ q) h.2 (starts (is 60) (h.0 ++ (h.1 ++ q))) refl h.4 behind)

-- one of the flags is read by flag_word_at, before what may follow an item of a list
pub flag_word_good : Good flag_word ItemEnds flag_word_at
unfolding flag_word_at flag_of
flag_word_good = good_choice is_digit (good_then (number_good Number) (λ n. good_then shifted_good (λ u. done_good (Some 0) ItemEnds)
    (λ v b q w h hq. ap (λ y. starts is_join (y ++ q)) h.0 ∙ subst (λ x. ItemEnds x q) h.1 hq))
    (λ v b q w h hq. number_follows b q w h hq)) (known_word flag_of) (full_nonempty is_digit (chain (number Number) (λ n. chain shifted (λ u. done (Some 0))))
    (chain_full (number Number) (λ n. chain shifted (λ u. done (Some 0))) (number_full Number)))
    (full_stays is_digit (chain word (λ w. known (flag_of w))) ItemEnds (known_word_full flag_of))
    (65 ∷ [], Some 0, λ q h. (65 ∷ [], [], 65 ∷ [], refl, (refl, (refl, tt), join_fails is_word_byte refl refl refl q h), (refl, refl)))

-- the flags are read by flags_at, before what may follow a list
pub flags_good : Good flags ListEnds flags_at
unfolding flags_at listed_at
flags_good = listed_good flag_word flag_word_at flag_word_good 0

-- a word of either list takes a byte at least
pub listed_word_shortens : (list : WordList) → Shortens (listed_word_at list)
listed_word_shortens Prot text rest v e = shorter prot_word_good text rest v e
listed_word_shortens Flags text rest v e = shorter flag_word_good text rest v e

-- the flags begin with a byte that is no space
pub flags_heads : Heads not_space flags
flags_heads = listed_heads not_space flag_word 0 (λ b q w h. digit_or_word (chain (number Number) (λ n. chain shifted (λ u. done (Some 0)))) flag_of b q w
    (starts is_digit (b ++ q)) refl h)

-- ---- descriptors

abbrev named : Part (Unit {0})
named = chain (byte 60 Comma) (λ u. until 62 44 Comma)

path_empty : (q : List ℕ) → starts (is 44) q ≡ true → path.takes [] q tt
path_empty q h = subst (λ x. (arm named (done tt) x).takes [] q tt) (sym (starts_as 44 (is 60) q h)) (refl, refl)

path_good : Good path CommaEnds path_at
unfolding path_at
path_good = good_choice (is 60) (good_then (byte_good 60 Comma) (λ u. until_good 62 44 Comma refl) (λ v b q w h hq. tt))
    (done_good tt CommaEnds) (full_nonempty (is 60) named (chain_full (byte 60 Comma) (λ u. until 62 44 Comma) (byte_full 60 Comma)))
    (λ rest q v h hq. starts_as 44 (is 60) q hq) ([], tt, path_empty)

path_starts : (b q : List ℕ) (w : Unit {0}) (x : Bool) → starts (is 60) (b ++ q) ≡ x → (arm named (done tt) x).takes b q w
    → starts (is 44) q ≡ true → starts is_digit (b ++ q) ≡ false
path_starts b q w true e h hq = starts_as 60 is_digit (b ++ q) e
path_starts b q w false e h hq = ap (λ y. starts is_digit (y ++ q)) h.0 ∙ starts_as 44 is_digit q hq

-- a descriptor is read by descriptor_at, where a comma follows
pub descriptor_good : Good descriptor CommaEnds descriptor_at
unfolding descriptor_at
descriptor_good = good_choice (is 45) (good_then (letters_good (codes "-1") Number) (λ u. path_good) (λ v b q w h hq. tt))
    (good_then (digits_good Number) (λ u. path_good) (λ v b q w h hq. path_starts b q w (starts (is 60) (b ++ q)) refl h hq))
    (full_nonempty (is 45) (chain (letters (codes "-1") Number) (λ u. path))
    (chain_full (letters (codes "-1") Number) (λ u. path) (letters_full 45 (codes "1") Number)))
    (full_stays (is 45) (chain (many_digits Number) (λ u. path)) CommaEnds (chain_full (many_digits Number) (λ u. path)
    (chain_full (run is_digit is_digit Number) (λ d. done tt) (run_full is_digit is_digit Number))))
    (48 ∷ [], tt, λ q h. (48 ∷ [], [], tt, refl, (48 ∷ [], [], 48 ∷ [], refl, (refl, (refl, tt), starts_as 44 is_digit q h), (refl, refl)), path_empty q h))

descriptor_starts : (b q : List ℕ) (w : Unit {0}) (x : Bool) → starts (is 45) (b ++ q) ≡ x
    → (arm (chain (letters (codes "-1") Number) (λ u. path)) (chain (many_digits Number) (λ u. path)) x).takes b q w → starts not_space (b ++ q) ≡ true
descriptor_starts b q w true e h = starts_as 45 not_space (b ++ q) e
descriptor_starts b q w false e h = heads_then not_space (many_digits Number) (λ u. path) (heads_then not_space (run is_digit is_digit Number) (λ d. done tt)
    (λ a t v k. digit_not_space (a ++ t) (run_starts is_digit is_digit a t k.1))) b q w h

-- a descriptor begins with a byte that is no space
pub descriptor_heads : Heads not_space descriptor
descriptor_heads b q w h = descriptor_starts b q w (starts (is 45) (b ++ q)) refl h

-- ---- accesses

access_some : (q : List ℕ) → starts is_word_byte q ≡ false → access.takes (codes "PROT_READ") q Read
unfolding access_of
access_some q h = ((refl, (refl, (refl, (refl, (refl, (refl, (refl, (refl, (refl, tt))))))))), h, refl)

-- the word that an access is
access_word : (p q : List ℕ) (v : Access) → access.takes p q v → word.takes p q p
access_word p q v h = (refl, h.0, h.1)

access_clean : (text w rest : List ℕ) (a : Access) (g o r : List ℕ) (x : What) → access_of w ≡ Some a → Took word text w rest
    → access.refuses g o r x → text ≡ g ++ (o ++ r) → ⊥
access_clean text w rest a g o r x found t h e = elim (h.2) [
  | inl k ↦ t.clean g o r Word (h.0, k.0, refl, k.1) e
  | inr k ↦
      let whole : o ++ r ≡ t.front ++ rest = sym (e ∙ ap (λ y. y ++ (o ++ r)) h.0) ∙ t.parts in
      let s = t.only o r rest o (refl, k.0, k.1) whole (alike_same rest) in let none : access_of w ≡ None = ap access_of (sym s.1) ∙ k.2 in cc
]

access_took : (text w rest : List ℕ) (a : Access) → access_of w ≡ Some a → Took word text w rest → Took access text a rest
access_took text w rest a found t =
    let same : access_of t.front ≡ Some a = ap access_of (sym t.takes.0) ∙ found in
    record {
      front = t.front;
      parts = t.parts;
      takes = (t.takes.1, t.takes.2, same);
      only = λ p q more v h e alike. let s = t.only p q more p (access_word p q v h) e alike in (s.0, cc (h.2, ap access_of s.0, same));
      clean = λ g o r x h e. access_clean text w rest a g o r x found t h e;
    }

access_other : (text w rest : List ℕ) → access_of w ≡ None → Took word text w rest → Stuck access WordEnds text (refusal_at text Word)
access_other text w rest none t =
    let same : access_of t.front ≡ None = ap access_of (sym t.takes.0) ∙ none in
    record {
      front = [];
      over = t.front;
      rest = rest;
      parts = t.parts;
      left = ap length t.parts;
      due = (refl, refl, inr (t.takes.1, t.takes.2, same));
      begins = (codes "PROT_READ", Read, access_some);
      ends = λ p q more v h e alike. let s = t.only p q more p (access_word p q v h) e alike in
          let k : access_of p ≡ None = ap access_of s.1 ∙ none in let l = h.2 in cc;
      one = λ g o r x h e. (sym (ap length (e ∙ ap (λ y. y ++ (o ++ r)) h.0)), h.1);
    }

access_none : (text : List ℕ) (f : Refusal) → Stuck word WordEnds text f → Stuck access WordEnds text f
access_none text f s =
    let all : length text ≡ f.left = ap length (s.parts ∙ ap (λ y. y ++ (s.over ++ s.rest)) s.due.0) ∙ sym s.left in
    record {
      front = s.front;
      over = s.over;
      rest = s.rest;
      parts = s.parts;
      left = s.left;
      due = (s.due.0, s.due.2, inl (s.due.1, s.due.3));
      begins = (codes "PROT_READ", Read, λ q h. subst (λ y. access.takes (y ++ codes "PROT_READ") q Read) (sym s.due.0) (access_some q h));
      ends = λ p q more v h e alike. s.ends p q more p (access_word p q v h) e alike;
      one = λ g o r x h e. (sym (ap length (e ∙ ap (λ y. y ++ (o ++ r)) h.0)) ∙ all, h.1 ∙ sym s.due.2);
    }

access_found : (text w rest : List ℕ) (r : Option Access) → access_of w ≡ r → Took word text w rest → Reads access WordEnds text (access_read text rest r)
access_found text w rest None e t = access_other text w rest e t
access_found text w rest (Some a) e t = access_took text w rest a e t

access_reads : (text : List ℕ) (r : Result (List ℕ × List ℕ) Refusal) → Reads word WordEnds text r
    → Reads access WordEnds text (r >>= λ w. access_read text w.1 (access_of w.0))
access_reads text (Ok x) t = access_found text x.0 x.1 (access_of x.0) refl t
access_reads text (Err f) s = access_none text f s

-- an access is read by access_at, where no byte of a word follows
pub access_good : Good access WordEnds access_at
unfolding access_at
access_good = record {
  fine = record { some = (codes "PROT_READ", Read, access_some); before = λ a rest q v h hq. (h.0, hq, h.2) };
  reads = λ text. access_reads text (word_at text) (word_good.reads text);
}

-- an access begins with a byte that is no space
pub access_heads : Heads not_space access
access_heads b q w h = no_space_first is_capital refl (b ++ q) (run_starts is_capital is_word_byte b q h.0)

-- ---- what takes the rest of a line leaves nothing

-- where the part has no value it takes all that is left
abbrev pub NoneEnds : Part (Option ℕ) → Type 0
NoneEnds part = (p q : List ℕ) (v : Option ℕ) → part.takes p q v → v ≡ None → q ≡ []

more_none : (bits : ℕ) (u : Option ℕ) → with_more bits u ≡ None → u ≡ None
more_none bits None e = refl
more_none bits (Some n) e = absurd cc

items_end : (item : Part (Option ℕ)) (bits : ℕ) → NoneEnds item → (before p q : List ℕ) (v : Option ℕ) → Items item bits before p q v → v ≡ None → q ≡ []
items_end item bits ends [] p q v h e = ends p q h.0 h.1 (more_none bits h.0 (sym h.3 ∙ e))
items_end item bits ends (n ∷ before) p q v h e = items_end item (bit_or bits n) ends before h.1 q v h.4 e

known_end : (x : Option ℕ) (p q : List ℕ) (v : Option ℕ) → (known x).takes p q v → v ≡ None → q ≡ []
known_end None p q v h e = h.0
known_end (Some n) p q v h e = absurd (cc (h.1, e))

prot_word_end : (p q : List ℕ) (v : Option ℕ) (x : Bool) → (arm (anything no_byte None) (chain word (λ w. known (prot_of w))) x).takes p q v → v ≡ None → q ≡ []
prot_word_end p q v true h e = h.0
prot_word_end p q v false h e = known_end (prot_of h.2) h.1 q v h.5 e

-- a protection without a value takes all that is left
pub prot_end : NoneEnds prot
prot_end p q v h e = items_end prot_word 0 (λ p q v h e. prot_word_end p q v (starts is_digit (p ++ q)) h e) h.0 p q v h.1 e

flag_word_end : (p q : List ℕ) (v : Option ℕ) (x : Bool)
    → (arm (chain (number Number) (λ n. chain shifted (λ u. done (Some 0)))) (chain word (λ w. known (flag_of w))) x).takes p q v → v ≡ None → q ≡ []
flag_word_end p q v true h e = absurd (cc (h.5.5.1, e))
flag_word_end p q v false h e = known_end (flag_of h.2) h.1 q v h.5 e

-- flags without a value take all that is left
pub flags_end : NoneEnds flags
flags_end p q v h e = items_end flag_word 0 (λ p q v h e. flag_word_end p q v (starts is_digit (p ++ q)) h e) h.0 p q v h.1 e

-- ---- the bits of a list are bounded where those of each item are

-- a value, where there is one, is below this power of 2
abbrev pub Below : ℕ → Option ℕ → Type 0
Below k None = Unit {0}
Below k (Some n) = n < 2 ^ k

more_below : (k bits : ℕ) (u : Option ℕ) → bits < 2 ^ k → Below k u → Below k (with_more bits u)
more_below k bits None b h = tt
more_below k bits (Some n) b h = or_lt k bits n b h

items_below : (k : ℕ) (item : Part (Option ℕ)) → ((p q : List ℕ) (v : Option ℕ) → item.takes p q v → Below k v) → (bits : ℕ)
    → bits < 2 ^ k → (before p q : List ℕ) (v : Option ℕ) → Items item bits before p q v → Below k v
items_below k item each bits b [] p q v h = subst (Below k) (sym h.3) (more_below k bits h.0 b (each p q h.0 h.1))
items_below k item each bits b (n ∷ before) p q v h =
    items_below k item each (bit_or bits n) (more_below k bits (Some n) b (each h.0 (124 ∷ (h.1 ++ q)) (Some n) h.3)) before h.1 q v h.4

known_below : (k : ℕ) (x : Option ℕ) (p q : List ℕ) (v : Option ℕ) → Below k x → (known x).takes p q v → Below k v
known_below k None p q v b h = subst (Below k) (sym h.1) tt
known_below k (Some n) p q v b h = subst (Below k) (sym h.1) b

prot_cases : (a b c d : Bool) → Below 3 (if a then Some 1 else if b then Some 2 else if c then Some 4 else if d then Some 0 else None)
prot_cases false false false false = tt
prot_cases a b c d = omega arith

prot_of_below : (w : List ℕ) → Below 3 (prot_of w)
unfolding prot_of
prot_of_below w = prot_cases (bytes_eq w (codes "PROT_READ")) (bytes_eq w (codes "PROT_WRITE")) (bytes_eq w (codes "PROT_EXEC"))
    (bytes_eq w (codes "PROT_NONE"))

flag_cases : (a b c d e : Bool) → Below 4 (if a then Some 1 else if b then Some 2 else if c then Some 4 else if d then Some 8 else if e then None else Some 0)
flag_cases false false false false true = tt
flag_cases a b c d e = omega arith

flag_of_below : (w : List ℕ) → Below 4 (flag_of w)
unfolding flag_of
flag_of_below w = flag_cases (bytes_eq w (codes "MAP_SHARED")) (bytes_eq w (codes "MAP_PRIVATE")) (bytes_eq w (codes "MAP_FIXED"))
    (bytes_eq w (codes "MAP_FIXED_NOREPLACE")) (bytes_eq w (codes "MAP_SHARED_VALIDATE"))

prot_word_below : (p q : List ℕ) (v : Option ℕ) (x : Bool) → (arm (anything no_byte None) (chain word (λ w. known (prot_of w))) x).takes p q v → Below 3 v
prot_word_below p q v true h = subst (Below 3) (sym h.1) tt
prot_word_below p q v false h = known_below 3 (prot_of h.2) h.1 q v (prot_of_below h.2) h.5

-- the bits of a protection are below 2^3
pub prot_below : (p q : List ℕ) (v : Option ℕ) → prot.takes p q v → Below 3 v
prot_below p q v h = items_below 3 prot_word (λ p q v h. prot_word_below p q v (starts is_digit (p ++ q)) h) 0 (omega arith) h.0 p q v h.1

flag_word_below : (p q : List ℕ) (v : Option ℕ) (x : Bool)
    → (arm (chain (number Number) (λ n. chain shifted (λ u. done (Some 0)))) (chain word (λ w. known (flag_of w))) x).takes p q v → Below 4 v
flag_word_below p q v true h = subst (Below 4) (sym h.5.5.1) (omega arith)
flag_word_below p q v false h = known_below 4 (flag_of h.2) h.1 q v (flag_of_below h.2) h.5

-- the bits of flags are below 2^4
pub flags_below : (p q : List ℕ) (v : Option ℕ) → flags.takes p q v → Below 4 v
flags_below p q v h = items_below 4 flag_word (λ p q v h. flag_word_below p q v (starts is_digit (p ++ q)) h) 0 (omega arith) h.0 p q v h.1
