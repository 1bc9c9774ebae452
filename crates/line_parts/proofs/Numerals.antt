-- A number is read as its part says: all the digits that come, in 64 bits, or a refusal.
use Rattle.std.proofs.Common.{◌≡◌, ◌≢◌, ℕ, ◌+◌, ◌*◌, ◌^◌, ◌<◌, ◌≤◌, List, [], ◌∷◌, ◌++◌, length, Result, Ok, Err, true}
use Rattle.std.proofs.Common.{Some, None, refl, sym, ap, subst, ◌∙◌, inl, inr, arith}
use Rattle.std.specs.Prelude.{◌⊎◌}
use Rattle.std.proofs.lemmas.Bool.Decides.{eqb_tells, nat_tests}
use Rattle.std.proofs.lemmas.Bool.{cases_lt, lt-ltb, le-ltb}
use Rattle.std.proofs.lemmas.List.{length-append}
use Rattle.line_parts.specs.declared.refusal.Refusal.{Refusal}
use Rattle.line_parts.specs.declared.refusal.What.{What}
use Rattle.line_parts.specs.declared.refusal.What.TheVariants.{Wide}
use Rattle.line_parts.specs.Parts.{Alike, starts}
use Rattle.line_parts.specs.Leaves.{number, worth, AllDigits, NoDigit, value, Digits, No0x, Numeral, DueNumber, is_digit}
use Rattle.line_parts.specs.Reading.{refusal_at, digits_of, behind_0x, digits_read, number_at}
use Rattle.line_parts.proofs.Choices.{Full}
use Rattle.line_parts.proofs.Sequence.{Took, Stuck, Reads, Good, Heads, alike_same}

-- what goes on alike begins with the same byte
pub head_is : (b : ℕ) (x more rest : List ℕ) → b ∷ x ≡ more → Alike more rest → (t : List ℕ) × (rest ≡ b ∷ t)
head_is b x [] rest e h = absurd cc
head_is b x (c ∷ more) [] e h = absurd h
head_is b x (c ∷ more) (d ∷ rest) e h = (rest, cc)

-- what may follow a number, decimal or hexadecimal
abbrev pub NoNumeral : List ℕ → Type 0
NoNumeral [] = Unit {0}
NoNumeral (b ∷ rest) = (16 ≤ worth b) × (b ≢ 120)

-- what may follow a number, the same for each
abbrev pub NumberEnds : ℕ → List ℕ → Type 0
NumberEnds n q = NoNumeral q

-- the digits that are taken
pub record Run (base n : ℕ) (text digits rest : List ℕ) : Type 0 where
  -- the text is the digits and the rest
  pub parts : text ≡ digits ++ rest
  -- each of them is a digit of the base
  pub all : AllDigits base digits
  -- digits_of gives the number of the digits, behind n, and the rest
  pub is_read : digits_of base n text ≡ (value base n digits, rest)
  -- the rest doesn't go on with a digit of the base
  pub ended : NoDigit base rest

-- each text has a run of digits at its front, which may be empty
pub run_takes : (base n : ℕ) (text : List ℕ) → (digits rest : List ℕ) × Run base n text digits rest
unfolding digits_of
run_takes base n [] = ([], [], record { parts = refl; all = tt; is_read = refl; ended = tt })
run_takes base n (c ∷ rest) = elim (cases_lt (worth c) base) [
  | inl lt ↦
      let r = run_takes base (n * base + worth c) rest in (
        c ∷ r.0,
        r.1,
        record { parts = ap (λ x. c ∷ x) r.2.parts; all = (lt, r.2.all); is_read = rw (lt-ltb (worth c) base lt) r.2.is_read; ended = r.2.ended },
      )
  | inr le ↦ ([], c ∷ rest, record { parts = refl; all = tt; is_read = rw (le-ltb (worth c) base le) refl; ended = le })
]

-- Digits are taken while they come: two runs that go on alike are one.
pub same_digits : (base : ℕ) (rest p front q more : List ℕ) → AllDigits base p → AllDigits base front → NoDigit base q
    → NoDigit base rest → p ++ q ≡ front ++ more → Alike more rest → p ≡ front
same_digits base rest [] [] q more hp hf hq hr e alike = refl
same_digits base rest [] (c ∷ front) [] more hp hf hq hr e alike = absurd cc
same_digits base rest [] (c ∷ front) (d ∷ q) more hp hf hq hr e alike = let h : d ≡ c = cc in let w = ap worth h in absurd (omega (arith, hf.0, hq))
same_digits base [] (b ∷ p) [] q more hp hf hq hr e alike = let r = head_is b (p ++ q) more [] e alike in absurd (cc (r.1))
same_digits base (d ∷ rest) (b ∷ p) [] q more hp hf hq hr e alike =
    let r = head_is b (p ++ q) more (d ∷ rest) e alike in let h : d ≡ b = cc (r.1) in let w = ap worth h in absurd (omega (arith, hp.0, hr))
same_digits base rest (b ∷ p) (c ∷ front) q more hp hf hq hr e alike =
    let t : p ++ q ≡ front ++ more = cc in let i = same_digits base rest p front q more hp.1 hf.1 hq hr t alike in let h : b ≡ c = cc in cc

follows_digits : (base : ℕ) (q : List ℕ) → base ≤ 16 → NoNumeral q → NoDigit base q
follows_digits base [] le h = tt
follows_digits base (b ∷ q) le h = omega (arith, h.0)

x_no_digit : 10 ≤ worth 120
unfolding worth
x_no_digit = omega arith

zero_digit : worth 48 ≡ 0
unfolding worth
zero_digit = refl

-- Decimal digits to their end in a text that doesn't begin with 0x don't go on as 0x does.
run_no_0x : (front more rest t : List ℕ) → AllDigits 10 front → Alike more rest → No0x (front ++ rest) → 0 < length front → front ++ more ≡ 48 ∷ 120 ∷ t → ⊥
run_no_0x [] more rest t hf alike never long e = omega arith
run_no_0x (a ∷ []) [] rest t hf alike never long e = cc
run_no_0x (a ∷ []) (c ∷ more) [] t hf alike never long e = alike
run_no_0x (a ∷ []) (c ∷ more) (d ∷ rest) t hf alike never long e = never rest (let h : a ≡ 48 = cc in let k : d ≡ 120 = cc in cc)
run_no_0x (a ∷ b ∷ front) more rest t hf alike never long e = let h : b ≡ 120 = cc in let w = ap worth h in omega (arith, hf.1.0, x_no_digit)

same_value : (base : ℕ) (a b : List ℕ) (m n : ℕ) → a ≡ b → m ≡ value base 0 a → n ≡ value base 0 b → m ≡ n
same_value base a b m n e h k = h ∙ ap (value base 0) e ∙ sym k

-- The one numeral at the front of such a text, of decimal digits.
one_decimal : (front rest p q more : List ℕ) (v w : ℕ) → Digits 10 front v → NoDigit 10 rest → No0x (front ++ rest)
    → Numeral p q w → p ++ q ≡ front ++ more → Alike more rest → (p ≡ front) × (w ≡ v)
one_decimal front rest p q more v w hv hr never (inl h) e alike =
    let s = same_digits 10 rest p front q more h.0.1 hv.1 h.1 hr e alike in (s, same_value 10 p front w v s h.0.2 hv.2)
one_decimal front rest p q more v w hv hr never (inr h) e alike =
    absurd (run_no_0x front more rest (h.0 ++ q) hv.1 alike never hv.0 (sym e ∙ ap (λ x. x ++ q) h.1))

-- the same of hexadecimal digits
one_hex : (digits rest p q more : List ℕ) (v w : ℕ) → Digits 16 digits v → NoDigit 16 rest → Numeral p q w
    → p ++ q ≡ (48 ∷ 120 ∷ digits) ++ more → Alike more rest → (p ≡ 48 ∷ 120 ∷ digits) × (w ≡ v)
one_hex digits rest p q more v w hv hr (inl h) e alike = absurd (h.2 (digits ++ more) e)
one_hex digits rest p q more v w hv hr (inr h) e alike =
    let both : 48 ∷ 120 ∷ (h.0 ++ q) ≡ 48 ∷ 120 ∷ (digits ++ more) = ap (λ x. x ++ q) (sym h.1) ∙ e in
    let t : h.0 ++ q ≡ digits ++ more = cc (both) in
    let s = same_digits 16 rest h.0 digits q more h.2.1 hv.1 h.3 hr t alike in (h.1 ∙ ap (λ x. 48 ∷ 120 ∷ x) s, same_value 16 h.0 digits w v s h.2.2 hv.2)

x_follows : (q t : List ℕ) → NoNumeral q → 48 ∷ q ≡ 48 ∷ 120 ∷ t → ⊥
x_follows [] t h e = cc
x_follows (b ∷ q) t h e = h.1 cc

-- the byte 0 is the numeral of 0, a number of 64 bits, before what may follow a number
pub zero_number : (q : List ℕ) → NoNumeral q → Numeral (48 ∷ []) q 0 × (0 < 2 ^ 64)
unfolding worth
zero_number q h = (inl ((omega arith, (omega arith, tt), refl), follows_digits 10 q (omega arith) h, λ t e. x_follows q t h e), omega arith)

zero_hex : (q : List ℕ) → NoNumeral q → Numeral (48 ∷ 120 ∷ 48 ∷ []) q 0 × (0 < 2 ^ 64)
unfolding worth
zero_hex q h = (inr (48 ∷ [], refl, (omega arith, (omega arith, tt), refl), follows_digits 16 q (omega arith) h), omega arith)

-- ---- where a numeral begins, and where none does

no_digits : (base : ℕ) (p q more text : List ℕ) → 0 < length p → AllDigits base p → NoDigit base text → p ++ q ≡ more → Alike more text → ⊥
no_digits base [] q more text long hp none e alike = omega arith
no_digits base (a ∷ p) q more text long hp none e alike =
    let r = head_is a (p ++ q) more text e alike in let h : base ≤ worth a = subst (NoDigit base) r.1 none in omega (arith, hp.0)

no_numeral : (p q more text : List ℕ) (w : ℕ) → NoDigit 10 text → Numeral p q w → p ++ q ≡ more → Alike more text → ⊥
no_numeral p q more text w none (inl h) e alike = no_digits 10 p q more text h.0.0 h.0.1 none e alike
no_numeral p q more text w none (inr h) e alike =
    let r = head_is 48 (120 ∷ (h.0 ++ q)) more text (ap (λ x. x ++ q) (sym h.1) ∙ e) alike in
    let k : 10 ≤ worth 48 = subst (NoDigit 10) r.1 none in omega (arith, zero_digit)

-- behind 0x without a digit no numeral goes on
hex_ends : (p q more digits : List ℕ) (w : ℕ) → NoDigit 16 digits → Numeral p q w → p ++ q ≡ 48 ∷ 120 ∷ more → Alike more digits → ⊥
hex_ends p q more digits w none (inl h) e alike = h.2 more e
hex_ends p q more digits w none (inr h) e alike =
    let both : 48 ∷ 120 ∷ (h.0 ++ q) ≡ 48 ∷ 120 ∷ more = ap (λ x. x ++ q) (sym h.1) ∙ e in
    let t : h.0 ++ q ≡ more = cc (both) in no_digits 16 h.0 q more digits h.2.0 h.2.1 none t alike

-- A numeral that was read to its end, behind which nothing else goes on.
abbrev OneNumeral : List ℕ → List ℕ → ℕ → Type 0
OneNumeral front rest v = (p q more : List ℕ) (w : ℕ) → Numeral p q w → p ++ q ≡ front ++ more → Alike more rest → (p ≡ front) × (w ≡ v)

-- Where a numeral stands, no number is missing.
not_missing : (due : What) (text front rest g o r : List ℕ) (v : ℕ) → text ≡ front ++ rest → Numeral front rest v
    → ((g ≡ []) × NoDigit 10 r) ⊎ ((g ≡ 48 ∷ 120 ∷ []) × NoDigit 16 r) → o ≡ [] → text ≡ g ++ (o ++ r) → ⊥
not_missing due text front rest g o r v parts num (inl k) none e =
    let whole : text ≡ r = e ∙ ap (λ x. x ++ (o ++ r)) k.0 ∙ ap (λ x. x ++ r) none in no_numeral front rest r r v k.1 num (sym parts ∙ whole) (alike_same r)
not_missing due text front rest g o r v parts num (inr k) none e =
    let whole : text ≡ 48 ∷ 120 ∷ r = e ∙ ap (λ x. x ++ (o ++ r)) k.0 ∙ ap (λ x. 48 ∷ 120 ∷ (x ++ r)) none in
    hex_ends front rest r r v k.1 num (sym parts ∙ whole) (alike_same r)

number_clean : (due : What) (text front rest g o r : List ℕ) (v : ℕ) (w : What) → text ≡ front ++ rest → Numeral front rest v
    → v < 2 ^ 64 → OneNumeral front rest v → DueNumber due g o r w → text ≡ g ++ (o ++ r) → ⊥
number_clean due text front rest g o r v w parts num lt one (inl h) e = not_missing due text front rest g o r v parts num h.2 h.1 e
number_clean due text front rest g o r v w parts num lt one (inr h) e =
    let whole : o ++ r ≡ front ++ rest = sym (e ∙ ap (λ x. x ++ (o ++ r)) h.1) ∙ parts in
    let s = one o r rest h.2 h.4 whole (alike_same rest) in let is = s.1 in let le = h.3 in omega arith

took_number : (due : What) (text front rest : List ℕ) (v : ℕ) → text ≡ front ++ rest → Numeral front rest v → v < 2 ^ 64
    → OneNumeral front rest v → Took (number due) text v rest
took_number due text front rest v parts num lt one = record {
  front = front;
  parts = parts;
  takes = (num, lt);
  only = λ p q more w h e alike. one p q more w h.0 e alike;
  clean = λ g o r w h e. number_clean due text front rest g o r v w parts num lt one h e;
}

no_empty : (p q : List ℕ) (n : ℕ) → p ≡ [] → Numeral p q n → ⊥
no_empty p q n e (inl h) = let k = ap length e in omega (arith, h.0.0)
no_empty p q n e (inr h) = cc (h.1)

wide_one : (due : What) (text front rest g o r : List ℕ) (v : ℕ) (w : What) → text ≡ front ++ rest → Numeral front rest v
    → DueNumber due g o r w → text ≡ g ++ (o ++ r) → (length (o ++ r) ≡ length text) × (w ≡ Wide)
wide_one due text front rest g o r v w parts num (inl h) e = absurd (not_missing due text front rest g o r v parts num h.2 h.1 e)
wide_one due text front rest g o r v w parts num (inr h) e = (sym (ap length (e ∙ ap (λ x. x ++ (o ++ r)) h.1)), h.0)

stuck_wide : (due : What) (text front rest : List ℕ) (v : ℕ) → text ≡ front ++ rest → Numeral front rest v → 2 ^ 64 ≤ v
    → OneNumeral front rest v → Stuck (number due) NumberEnds text (refusal_at text Wide)
stuck_wide due text front rest v parts num le one = record {
  front = [];
  over = front;
  rest = rest;
  parts = parts;
  left = ap length parts;
  due = inr (refl, refl, v, le, num);
  begins = (48 ∷ [], 0, λ q h. zero_number q h);
  ends = λ p q more w h e alike. let s = one p q more w h.0 e alike in let lt = h.1 in let is = s.1 in omega arith;
  one = λ g o r w h e. wide_one due text front rest g o r v w parts num h e;
}

decimal_one : (due : What) (text g o r : List ℕ) (w : What) → NoDigit 10 text → DueNumber due g o r w → text ≡ g ++ (o ++ r)
    → (length (o ++ r) ≡ length text) × (w ≡ due)
decimal_one due text g o r w none (inl h) e = elim (h.2) [
  | inl k ↦ (sym (ap length (e ∙ ap (λ x. x ++ (o ++ r)) k.0)), h.0)
  | inr k ↦
      let whole : text ≡ 48 ∷ 120 ∷ (o ++ r) = e ∙ ap (λ x. x ++ (o ++ r)) k.0 in
      let n : 10 ≤ worth 48 = subst (NoDigit 10) whole none in absurd (omega (arith, zero_digit))
]
decimal_one due text g o r w none (inr h) e =
    let whole : o ++ r ≡ text = sym (e ∙ ap (λ x. x ++ (o ++ r)) h.1) in absurd (no_numeral o r text text h.2 none h.4 whole (alike_same text))

stuck_decimal : (due : What) (text : List ℕ) → NoDigit 10 text → Stuck (number due) NumberEnds text (refusal_at text due)
stuck_decimal due text none = record {
  front = [];
  over = [];
  rest = text;
  parts = refl;
  left = refl;
  due = inl (refl, refl, inl (refl, none));
  begins = (48 ∷ [], 0, λ q h. zero_number q h);
  ends = λ p q more w h e alike. no_numeral p q more text w none h.0 e alike;
  one = λ g o r w h e. decimal_one due text g o r w none h e;
}

hex_one : (due : What) (text digits g o r : List ℕ) (w : What) → text ≡ 48 ∷ 120 ∷ digits → NoDigit 16 digits
    → DueNumber due g o r w → text ≡ g ++ (o ++ r) → (length (o ++ r) ≡ length digits) × (w ≡ due)
hex_one due text digits g o r w is none (inl h) e = elim (h.2) [
  | inl k ↦
      let whole : 48 ∷ 120 ∷ digits ≡ r = sym is ∙ e ∙ ap (λ x. x ++ (o ++ r)) k.0 ∙ ap (λ x. x ++ r) h.1 in
      let n : 10 ≤ worth 48 = subst (NoDigit 10) (sym whole) k.1 in absurd (omega (arith, zero_digit))
  | inr k ↦
      let whole : 48 ∷ 120 ∷ digits ≡ 48 ∷ 120 ∷ (o ++ r) = sym is ∙ e ∙ ap (λ x. x ++ (o ++ r)) k.0 in
      let t : o ++ r ≡ digits = cc (whole) in (ap length t, h.0)
]
hex_one due text digits g o r w is none (inr h) e =
    let whole : o ++ r ≡ 48 ∷ 120 ∷ digits = sym (e ∙ ap (λ x. x ++ (o ++ r)) h.1) ∙ is in
    absurd (hex_ends o r digits digits h.2 none h.4 whole (alike_same digits))

stuck_hex : (due : What) (text digits : List ℕ) → text ≡ 48 ∷ 120 ∷ digits → NoDigit 16 digits → Stuck (number due) NumberEnds text (refusal_at digits due)
stuck_hex due text digits is none = record {
  front = 48 ∷ 120 ∷ [];
  over = [];
  rest = digits;
  parts = is;
  left = refl;
  due = inl (refl, refl, inr (refl, none));
  begins = (48 ∷ [], 0, λ q h. zero_hex q h);
  ends = λ p q more w h e alike. hex_ends p q more digits w none h.0 e alike;
  one = λ g o r w h e. hex_one due text digits g o r w is none h e;
}

nothing_taken : (ds rest : List ℕ) → length ds ≡ 0 → rest ≡ ds ++ rest
nothing_taken [] rest h = refl
nothing_taken (d ∷ ds) rest h = absurd (omega arith)

some_taken : (a b c : ℕ) → c ≡ a + b → b ≢ c → 0 < a
some_taken a b c h k = omega arith

-- What digits_read gives, by its three cases.
digits_cases : (due : What) (base : ℕ) (text digits : List ℕ) (P : Result (ℕ × List ℕ) Refusal → Type 0)
    → (NoDigit base digits → P (Err (refusal_at digits due)))
    → ((ds rest : List ℕ) (v : ℕ) → digits ≡ ds ++ rest → Digits base ds v → NoDigit base rest → v < 2 ^ 64 → P (Ok (v, rest)))
    → ((ds rest : List ℕ) (v : ℕ) → digits ≡ ds ++ rest → Digits base ds v → NoDigit base rest → 2 ^ 64 ≤ v → P (Err (refusal_at text Wide)))
    → P (digits_read due text digits (digits_of base 0 digits))
digits_cases due base text digits P none small wide =
    let r = run_takes base 0 digits in let len = ap length r.2.parts in let long = length-append r.0 r.1 in
    rw r.2.is_read (elim (eqb_tells (length r.1) (length digits)) [
      | inl same ↦ rw same.0 (none (subst (NoDigit base) (nothing_taken r.0 r.1 (omega arith) ∙ sym r.2.parts) r.2.ended))
      | inr other ↦
          let d : Digits base r.0 (value base 0 r.0) = (some_taken (length r.0) (length r.1) (length digits) (len ∙ long) other.1, r.2.all, refl) in
          rw other.0 (elim (cases_lt (value base 0 r.0) (2 ^ 64)) [
            | inl lt ↦ rw (lt-ltb (value base 0 r.0) (2 ^ 64) lt) (small r.0 r.1 (value base 0 r.0) r.2.parts d r.2.ended lt)
            | inr le ↦ rw (le-ltb (value base 0 r.0) (2 ^ 64) le) (wide r.0 r.1 (value base 0 r.0) r.2.parts d r.2.ended le)
          ])
    ])

decimal_reads : (due : What) (text : List ℕ) → No0x text → Reads (number due) NumberEnds text (digits_read due text text (digits_of 10 0 text))
decimal_reads due text never = digits_cases due 10 text text (Reads (number due) NumberEnds text) (λ none. stuck_decimal due text none)
    (λ ds rest v parts d ended lt. took_number due text ds rest v parts (inl (d, ended, subst No0x parts never)) lt
    (λ p q more w h e alike. one_decimal ds rest p q more v w d ended (subst No0x parts never) h e alike))
    (λ ds rest v parts d ended le. stuck_wide due text ds rest v parts (inl (d, ended, subst No0x parts never)) le
    (λ p q more w h e alike. one_decimal ds rest p q more v w d ended (subst No0x parts never) h e alike))

hex_reads : (due : What) (text digits : List ℕ) → text ≡ 48 ∷ 120 ∷ digits
    → Reads (number due) NumberEnds text (digits_read due text digits (digits_of 16 0 digits))
hex_reads due text digits is = digits_cases due 16 text digits (Reads (number due) NumberEnds text) (λ none. stuck_hex due text digits is none)
    (λ ds rest v parts d ended lt. took_number due text (48 ∷ 120 ∷ ds) rest v (is ∙ ap (λ x. 48 ∷ 120 ∷ x) parts)
    (inr (ds, refl, d, ended)) lt (λ p q more w h e alike. one_hex ds rest p q more v w d ended h e alike))
    (λ ds rest v parts d ended le. stuck_wide due text (48 ∷ 120 ∷ ds) rest v (is ∙ ap (λ x. 48 ∷ 120 ∷ x) parts)
    (inr (ds, refl, d, ended)) le (λ p q more w h e alike. one_hex ds rest p q more v w d ended h e alike))

behind_cases : (text : List ℕ) → ((behind_0x text ≡ None) × No0x text) ⊎ ((t : List ℕ) × (behind_0x text ≡ Some t) × (text ≡ 48 ∷ 120 ∷ t))
unfolding behind_0x
behind_cases [] = inl (refl, λ t e. cc)
behind_cases (a ∷ []) = inl (refl, λ t e. cc)
behind_cases (a ∷ b ∷ rest) = elim (eqb_tells a 48) [
  | inl same ↦ elim (eqb_tells b 120) [
    | inl also ↦ let p = same.1 in let q = also.1 in inr (rest, rw (same.0, also.0) refl, cc)
    | inr other ↦ inl (rw (same.0, other.0) refl, λ t e. other.1 cc)
  ]
  | inr other ↦ inl (rw other.0 refl, λ t e. other.1 cc)
]

before_0x : (a q t : List ℕ) → 0 < length a → AllDigits 10 a → NoNumeral q → a ++ q ≡ 48 ∷ 120 ∷ t → ⊥
before_0x [] q t long ha hq e = omega arith
before_0x (a ∷ []) q t long ha hq e = x_follows q t hq (let h : a ≡ 48 = cc in cc)
before_0x (a ∷ b ∷ p) q t long ha hq e = let h : b ≡ 120 = cc in let w = ap worth h in omega (arith, ha.1.0, x_no_digit)

numeral_before : (a rest q : List ℕ) (n : ℕ) → Numeral a rest n → NoNumeral q → Numeral a q n
numeral_before a rest q n (inl h) hq = inl (h.0, follows_digits 10 q (omega arith) hq, λ t e. before_0x a q t h.0.0 h.0.1 hq e)
numeral_before a rest q n (inr h) hq = inr (h.0, h.1, h.2, follows_digits 16 q (omega arith) hq)

-- a number is read by number_at, before what may follow a number
pub number_good : (due : What) → Good (number due) NumberEnds (number_at due)
unfolding number_at
number_good due = record {
  fine = record { some = (48 ∷ [], 0, λ q h. zero_number q h); before = λ a rest q v h hq. (numeral_before a rest q v h.0 hq, h.1) };
  reads = λ text. elim (behind_cases text) [ inl h ↦ rw h.0 (decimal_reads due text h.1) | inr h ↦ rw h.1 (hex_reads due text h.0 h.2) ];
}

-- a number is never nothing
pub number_full : (due : What) → Full (number due)
number_full due rest n h = no_empty [] rest n refl h.0

-- a byte that is worth less than 10 is a digit from 0 to 9
pub digit_byte : (b : ℕ) → worth b < 10 → is_digit b ≡ true
unfolding worth
digit_byte b h = grind (arith, nat_tests)

numeral_heads : (b q : List ℕ) (n : ℕ) → Numeral b q n → starts is_digit (b ++ q) ≡ true
numeral_heads [] q n (inl h) = absurd (omega (arith, h.0.0))
numeral_heads (b ∷ p) q n (inl h) = digit_byte b h.0.1.0
numeral_heads b q n (inr h) = ap (λ x. starts is_digit (x ++ q)) h.1

-- a number begins with a digit
pub number_heads : (due : What) → Heads is_digit (number due)
unfolding worth
number_heads due b q n h = numeral_heads b q n h.0
