-- The number that a text ends with: its digits stand behind the last place of a byte that is none.
use Rattle.std.proofs.Common.{◌≡◌, ◌≢◌, ℕ, ◌+◌, ◌-◌, ◌*◌, ◌^◌, ◌<◌, ◌≤◌, List, [], ◌∷◌, ◌++◌, length, take, drop, Bool, true, false, refl, sym, ap, subst, ◌∙◌}
use Rattle.std.proofs.Common.{append_assoc, arith, get_or, length-drop}
use Rattle.std.specs.Prelude.{nat_lt, ◌==◌}
use Rattle.std.proofs.lemmas.Bool.{lt-ltb, eqb-true}
use Rattle.std.proofs.lemmas.Bool.Decides.{nat_tests}
use Rattle.std.proofs.lemmas.List.{append-nil}
use Rattle.line_parts.specs.Leaves.{EachIs, AllDigits, worth, value}
use Rattle.line_parts.specs.Reading.{digits_of}
use Rattle.line_parts.proofs.LineLemmas.{all_behind}
use Rattle.line_parts.proofs.Numerals.{run_takes, same_digits}
use Rattle.strace_reader.specs.Grammar.{EndsWith}
use Rattle.memchr.specs.Find.{is_byte, Passes, NoneAfter}
use Rattle.raw_lines.specs.Numbers.{EndsInNumber}
use Rattle.raw_lines.proofs.Searches.{isnt, isnt_of, at_byte, behind_byte, nowhere_byte, each_at, last_place_same}

-- ---- digits

abbrev is_of : ℕ → ℕ → Bool
is_of base b = nat_lt (worth b) base

mark_is_none : (base mark : ℕ) → base ≤ worth mark → is_of base mark ≡ false
mark_is_none base mark h = grind (arith, nat_tests, h)

-- a byte that is no digit stands in no digits
pub digits_without : (base mark : ℕ) → base ≤ worth mark → (digits : List ℕ) → AllDigits base digits → EachIs (isnt mark) digits
digits_without base mark none [] h = tt
digits_without base mark none (b ∷ digits) h =
    (isnt_of mark (is_of base) (mark_is_none base mark none) b (lt-ltb (worth b) base h.0), digits_without base mark none digits h.1)

digits_left : (base n : ℕ) (text : List ℕ) → AllDigits base text → (digits_of base n text).1 ≡ []
unfolding digits_of
digits_left base n [] h = refl
digits_left base n (b ∷ text) h = rw (lt-ltb (worth b) base h.0) (digits_left base (n * base + worth b) text h.1)

digits_alone : (base : ℕ) (text : List ℕ) → (digits_of base 0 text).1 ≡ [] → AllDigits base text
digits_alone base text h = let r = run_takes base 0 text in let k : r.1 ≡ [] = sym (ap (λ x. x.1) r.2.is_read) ∙ h in
    let e : text ≡ r.0 = r.2.parts ∙ ap (λ x. r.0 ++ x) k ∙ append-nil r.0 in subst (AllDigits base) (sym e) r.2.all

-- what digits alone are read as
digits_whole : (base : ℕ) (digits : List ℕ) → AllDigits base digits → (digits_of base 0 digits).0 ≡ value base 0 digits
digits_whole base digits all =
    let r = run_takes base 0 digits in
    let s : r.0 ≡ digits = same_digits base [] r.0 digits r.1 [] r.2.all all r.2.ended tt (sym r.2.parts ∙ sym (append-nil digits)) tt in
    ap (λ x. x.0) r.2.is_read ∙ ap (value base 0) s

-- what is empty has no bytes
pub empty_of : (text : List ℕ) (b : Bool) → b ≡ (length text == 0) → b ≡ true → text ≡ []
empty_of [] b is e = refl
empty_of (x ∷ text) b is e = let k = eqb-true (length (x ∷ text)) 0 (sym is ∙ e) in absurd (omega arith)

-- ---- the parts of a text that ends with a number

number_whole : (base : ℕ) (word : List ℕ) (mark : ℕ) (text : List ℕ) (n : ℕ) → (h : EndsInNumber base word mark text n) → text ≡ (h.0 ++ word) ++ (mark ∷ h.1)
number_whole base word mark text n h = h.4 ∙ sym (append_assoc h.0 word (mark ∷ h.1))

-- a text without the byte ends with no number behind it
pub number_no_mark : (base : ℕ) (word : List ℕ) (mark : ℕ) (text : List ℕ)
    → ((j : ℕ) → 0 ≤ j → j < length text → is_byte mark (get_or text j 0) ≡ true → ⊥) → (n : ℕ) → EndsInNumber base word mark text n → ⊥
number_no_mark base word mark text none n h =
    each_at mark (h.0 ++ word) h.1 (subst (EachIs (isnt mark)) (number_whole base word mark text n h) (nowhere_byte mark text none))

-- the last place of the byte, where the bytes of a base are others
pub record IsLastMark (base mark : ℕ) (text : List ℕ) (at : ℕ) : Type 0 where
  pub none : base ≤ worth mark
  pub within : at < length text
  pub is : is_byte mark (get_or text at 0) ≡ true
  pub last : (j : ℕ) → at + 1 ≤ j → j < length text → is_byte mark (get_or text j 0) ≡ true → ⊥

-- it is what the search from the end finds
pub last_mark : (base mark : ℕ) (text : List ℕ) (at : ℕ) → base ≤ worth mark
    → NoneAfter (Passes (is_byte mark) text) 0 (length text) at × Passes (is_byte mark) text at → IsLastMark base mark text at
last_mark base mark text at n f = record { none = n; within = f.0.high; is = f.1; last = f.0.after }

-- the bytes behind a place of a text
abbrev pub behind : ℕ → List ℕ → List ℕ
behind at text = take (length text - (at + 1)) (drop (at + 1) text)

number_parts : (base : ℕ) (word : List ℕ) (mark : ℕ) (text : List ℕ) (at n : ℕ) → IsLastMark base mark text at
    → (h : EndsInNumber base word mark text n) → (take at text ≡ h.0 ++ word) × (behind at text ≡ h.1)
number_parts base word mark text at n s h =
    let k = last_place_same mark (take at text) (h.0 ++ word) (drop (at + 1) text) h.1 (behind_byte mark text at s.last)
    (digits_without base mark s.none h.1 h.2.1) (sym (at_byte mark text at s.within s.is) ∙ number_whole base word mark text n h) in
    (k.0, all_behind (at + 1) text ∙ k.1)

-- before that place stands the word
pub number_word : (base : ℕ) (word : List ℕ) (mark : ℕ) (text : List ℕ) (at n : ℕ) → IsLastMark base mark text at
    → EndsInNumber base word mark text n → EndsWith word (take at text)
number_word base word mark text at n s h = (h.0, (number_parts base word mark text at n s h).0)

-- behind it stand digits alone
pub number_rest : (base : ℕ) (word : List ℕ) (mark : ℕ) (text : List ℕ) (at n : ℕ) → IsLastMark base mark text at
    → EndsInNumber base word mark text n → (digits_of base 0 (behind at text)).1 ≡ []
number_rest base word mark text at n s h =
    digits_left base 0 (behind at text) (subst (AllDigits base) (sym (number_parts base word mark text at n s h).1) h.2.1)

-- at least one
pub number_some : (base : ℕ) (word : List ℕ) (mark : ℕ) (text : List ℕ) (at n : ℕ) → IsLastMark base mark text at → at + 1 ≡ length text
    → EndsInNumber base word mark text n → ⊥
number_some base word mark text at n s e h = let l = ap length (sym (all_behind (at + 1) text) ∙ (number_parts base word mark text at n s h).1) in
    let k = length-drop (at + 1) text in let some = h.2.0 in omega arith

-- and their number has 32 bits
pub number_narrow : (base : ℕ) (word : List ℕ) (mark : ℕ) (text : List ℕ) (at n : ℕ) → IsLastMark base mark text at
    → 2 ^ 32 ≤ (digits_of base 0 (behind at text)).0 → EndsInNumber base word mark text n → ⊥
number_narrow base word mark text at n s wide h = let e = (number_parts base word mark text at n s h).1 in
    let v = ap (λ x. (digits_of base 0 x).0) e ∙ digits_whole base h.1 h.2.1 in let is = h.2.2 in let small = h.3 in omega arith

-- where all that stands so, the text ends with this number
pub number_found : (base : ℕ) (word : List ℕ) (mark : ℕ) (text : List ℕ) (at n : ℕ) → IsLastMark base mark text at → EndsWith word (take at text)
    → (digits_of base 0 (behind at text)).1 ≡ [] → at + 1 ≢ length text → n ≡ (digits_of base 0 (behind at text)).0 → n < 2 ^ 32
    → EndsInNumber base word mark text n
number_found base word mark text at n s words rest some is small =
    let digits = behind at text in let all = digits_alone base digits rest in
    let l = ap length (all_behind (at + 1) text) ∙ length-drop (at + 1) text in
    let within = s.within in (
      words.0,
      digits,
      (omega arith, all, is ∙ digits_whole base digits all),
      small,
      at_byte mark text at s.within s.is ∙ ap (λ x. take at text ++ (mark ∷ x)) (sym (all_behind (at + 1) text))
          ∙ ap (λ x. x ++ (mark ∷ digits)) words.1 ∙ append_assoc words.0 word (mark ∷ digits),
    )

-- ---- one number

-- a text ends with one number behind a word and a byte
pub number_one : (base : ℕ) (word : List ℕ) (mark : ℕ) (text : List ℕ) (n m : ℕ) → base ≤ worth mark → EndsInNumber base word mark text n
    → EndsInNumber base word mark text m → n ≡ m
number_one base word mark text n m none h g =
    let k = last_place_same mark (h.0 ++ word) (g.0 ++ word) h.1 g.1 (digits_without base mark none h.1 h.2.1) (digits_without base mark none g.1 g.2.1)
    (sym (number_whole base word mark text n h) ∙ number_whole base word mark text m g) in h.2.2 ∙ ap (value base 0) k.1 ∙ sym g.2.2
