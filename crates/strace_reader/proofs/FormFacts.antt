-- How a line begins and ends: each form is found where it stands, and nowhere else.
use Rattle.std.proofs.Common.{◌≡◌, ◌≢◌, ℕ, ◌^◌, ◌<◌, ◌≤◌, List, [], ◌∷◌, ◌++◌, length, codes, Option, Some, None, Bool}
use Rattle.std.proofs.Common.{true, false, refl, sym, ap, subst, ◌∙◌, append_assoc, inl, inr, arith}
use Rattle.std.specs.Prelude.{MatchOption}
use Rattle.std.proofs.lemmas.Bool.{cases_lt, lt-ltb, le-ltb}
use Rattle.std.proofs.lemmas.List.{append-nil, length-append, append_cancel_left, append_cancel_right}
use Rattle.line_parts.specs.Parts.{starts}
use Rattle.line_parts.specs.Leaves.{is, EachIs, NoDigit, worth, value}
use Rattle.line_parts.specs.Reading.{digits_of, narrow, taken, after_spaces}
use Rattle.line_parts.proofs.Sequence.{alike_same}
use Rattle.line_parts.proofs.Leaves.{same_run, taken_is, same_is}
use Rattle.line_parts.proofs.Numerals.{run_takes, same_digits}
use Rattle.strace_reader.specs.Grammar.{EndsWith, NeverReturned, IsPid, PidThen, IsBracketed, IsPrefixed, IsBehindSpaces, IsCut, IsHalf, unfinished}

-- ---- process numbers

-- what narrow gives of a number is that number
pub narrow_some : (n v : ℕ) → narrow n ≡ Some v → v ≡ n
unfolding narrow
narrow_some n v h = elim (cases_lt n (2 ^ 64)) [ inl lt ↦ let k = rw (lt-ltb n (2 ^ 64) lt) at h in cc | inr le ↦ let k = rw (le-ltb n (2 ^ 64) le) at h in cc ]

-- a number of which narrow gives nothing is 2^64 or above
pub narrow_none : (n : ℕ) → narrow n ≡ None → 2 ^ 64 ≤ n
unfolding narrow
narrow_none n h = elim (cases_lt n (2 ^ 64)) [ inl lt ↦ let k = rw (lt-ltb n (2 ^ 64) lt) at h in cc | inr le ↦ le ]

-- digits, at least one, of a number below 2^32, with a word behind them, are a process number before that word
pub pid_found : (word text behind rest : List ℕ) (pid : ℕ) → pid ≡ (digits_of 10 0 text).0 → behind ≡ (digits_of 10 0 text).1
    → pid < 2 ^ 32 → length behind ≢ length text → behind ≡ word ++ rest → PidThen word text pid rest
pid_found word text behind rest pid en er lt long w =
    let r = run_takes 10 0 text in let ds = r.0 in let is_n : pid ≡ value 10 0 ds = en ∙ ap (λ x. x.0) r.2.is_read in
    let is_rest : behind ≡ r.1 = er ∙ ap (λ x. x.1) r.2.is_read in
    let k = ap length r.2.parts ∙ length-append ds r.1 in let l = ap length is_rest in
    let some : 0 < length ds = omega arith in (ds, ((some, r.2.all, is_n), lt), r.2.parts ∙ ap (λ x. ds ++ x) (sym is_rest ∙ w))

word_no_digit : (word rest : List ℕ) → NoDigit 10 word → word ≢ [] → NoDigit 10 (word ++ rest)
word_no_digit [] rest h some = absurd (some refl)
word_no_digit (b ∷ word) rest h some = h

-- what the digits that a text begins with are, where a process number and a word stand there
pub record PidRead (word text behind : List ℕ) (n pid : ℕ) (rest : List ℕ) : Type 0 where
  -- the number of the digits is the process number
  pub same : pid ≡ n
  -- it is below 2^32
  pub narrow_pid : n < 2 ^ 32
  -- at least one digit was taken
  pub long : length behind < length text
  -- the word and the rest stand behind the digits
  pub is : behind ≡ word ++ rest

-- where a process number and a word stand, the digits are that number's and the word stands behind them
pub pid_read : (word text behind : List ℕ) (n pid : ℕ) (rest : List ℕ) → n ≡ (digits_of 10 0 text).0
    → behind ≡ (digits_of 10 0 text).1 → NoDigit 10 word → word ≢ [] → PidThen word text pid rest → PidRead word text behind n pid rest
pid_read word text behind n pid rest en er none some h =
    let r = run_takes 10 0 text in let ds = r.0 in let is_n : n ≡ value 10 0 ds = en ∙ ap (λ x. x.0) r.2.is_read in
    let is_rest : behind ≡ r.1 = er ∙ ap (λ x. x.1) r.2.is_read in let after = word ++ rest in
    let stop = word_no_digit word rest none some in let e : ds ++ r.1 ≡ h.0 ++ after = sym r.2.parts ∙ h.2 in
    let s = same_digits 10 after ds h.0 r.1 after r.2.all h.1.0.1 r.2.ended stop e (alike_same after) in
    let is_after : r.1 ≡ after = append_cancel_left ds r.1 after (e ∙ ap (λ x. x ++ after) (sym s)) in
    let same : pid ≡ n = h.1.0.2 ∙ sym (ap (value 10 0) s) ∙ sym is_n in let bound = h.1.1 in let digits = h.1.0.0 in
    let k = ap length r.2.parts ∙ length-append ds r.1 in let l = ap length is_rest in let m = ap length s in
    record { same = same; narrow_pid = omega arith; long = omega arith; is = is_rest ∙ is_after }

-- a text has one process number before a word
pub pid_same : (word text : List ℕ) (p q : ℕ) (r s : List ℕ) → NoDigit 10 word → word ≢ [] → PidThen word text p r → PidThen word text q s → (p ≡ q) × (r ≡ s)
pid_same word text p q r s none some h g =
    let a = pid_read word text (digits_of 10 0 text).1 (digits_of 10 0 text).0 p r refl refl none some h in
    let b = pid_read word text (digits_of 10 0 text).1 (digits_of 10 0 text).0 q s refl refl none some g in
    (a.same ∙ sym b.same, append_cancel_left word r s (sym a.is ∙ b.is))

-- what is said of an option, weakened on either side
pub either_way : {A : Type 0} (r : Option A) (M N : Type 0) (P Q : A → Type 0) → (M → N) → ((x : A) → P x → Q x) → MatchOption r M P → MatchOption r N Q
either_way None M N P Q f g h = f h
either_way (Some x) M N P Q f g h = g x h

-- ---- prefixes

-- ---- spaces

-- what the code skips to is what is behind the spaces
pub behind_spaces : (text : List ℕ) → IsBehindSpaces text (after_spaces text)
unfolding after_spaces
behind_spaces text = let r = taken_is (is 32) text in ((taken (is 32) text).0, r.0, r.1, r.2)

-- there is one text behind all the spaces
pub behind_same : (text a b : List ℕ) → IsBehindSpaces text a → IsBehindSpaces text b → a ≡ b
behind_same text a b h g = let e : h.0 ++ a ≡ g.0 ++ b = sym h.2 ∙ g.2 in
    let s = same_run (is 32) b h.0 g.0 a b h.1 g.1 h.3 g.3 e (alike_same b) in append_cancel_left h.0 a b (e ∙ ap (λ x. x ++ b) (sym s))

-- ---- prefixes

-- a process number and a bracket, behind "[pid " and all the spaces, are a process number in brackets
pub bracket_yes : (text rest : List ℕ) (pid : ℕ) (after : List ℕ) → text ≡ codes "[pid " ++ rest
    → PidThen (codes "] ") (after_spaces rest) pid after → IsBracketed text pid after
bracket_yes text rest pid after e h = let b = behind_spaces rest in (b.0, after_spaces rest, b.1, e ∙ ap (λ x. codes "[pid " ++ x) b.2, h)

no_space_digit : (b : ℕ) (x : Bool) → is 32 b ≡ x → worth b < 10 → x ≡ false
unfolding worth
no_space_digit b true e h = let k = ap worth (same_is 32 b e) in absurd (omega arith)
no_space_digit b false e h = refl

pid_no_space : (digits rest : List ℕ) (pid : ℕ) → IsPid digits pid → starts (is 32) (digits ++ rest) ≡ false
unfolding worth
pid_no_space [] rest pid h = absurd (omega (arith, h.0.0))
pid_no_space (b ∷ digits) rest pid h = no_space_digit b (is 32 b) refl h.0.1.0

digits_no_space : (word text : List ℕ) (pid : ℕ) (rest : List ℕ) → PidThen word text pid rest → starts (is 32) text ≡ false
digits_no_space word text pid rest h = ap (starts (is 32)) h.2 ∙ pid_no_space h.0 (word ++ rest) pid h.1

-- a process number in brackets stands behind "[pid " and all the spaces
pub bracket_no : (text rest : List ℕ) (pid : ℕ) (behind : List ℕ) → text ≡ codes "[pid " ++ rest → (more after : List ℕ)
    → EachIs (is 32) more → text ≡ codes "[pid " ++ (more ++ after) → PidThen (codes "] ") after pid behind
    → PidThen (codes "] ") (after_spaces rest) pid behind
bracket_no text rest pid behind e more after each whole h =
    let same : rest ≡ more ++ after = append_cancel_left (codes "[pid ") rest (more ++ after) (sym e ∙ whole) in
    let k : after_spaces rest ≡ after = behind_same rest (after_spaces rest) after (behind_spaces rest)
    (more, each, same, digits_no_space (codes "] ") after pid behind h) in subst (λ x. PidThen (codes "] ") x pid behind) (sym k) h

-- a space is no decimal digit
pub space_no_digit : NoDigit 10 (codes " ")
unfolding worth
space_no_digit = omega arith

-- a closing bracket is no decimal digit
pub bracket_no_digit : NoDigit 10 (codes "] ")
unfolding worth
bracket_no_digit = omega arith

-- A bracket is no digit.
digit_no_bracket : (digits rest other : List ℕ) (pid : ℕ) → IsPid digits pid → digits ++ rest ≡ 91 ∷ other → ⊥
unfolding worth
digit_no_bracket [] rest other pid h e = omega (arith, h.0.0)
digit_no_bracket (b ∷ digits) rest other pid h e = let k : b ≡ 91 = cc in let d = h.0.1.0 in let w = ap worth k in omega arith

-- a text has one prefix
pub prefix_same : (text : List ℕ) (p q : ℕ) (r s : List ℕ) → IsPrefixed text p r → IsPrefixed text q s → (p ≡ q) × (r ≡ s)
prefix_same text p q r s (inl h) (inl g) = pid_same (codes " ") text p q r s space_no_digit (λ e. cc) h g
prefix_same text p q r s (inl h) (inr g) = absurd (digit_no_bracket h.0 (codes " " ++ r) (codes "pid " ++ (g.0 ++ g.1)) p h.1 (sym h.2 ∙ g.3))
prefix_same text p q r s (inr h) (inl g) = absurd (digit_no_bracket g.0 (codes " " ++ s) (codes "pid " ++ (h.0 ++ h.1)) q g.1 (sym g.2 ∙ h.3))
prefix_same text p q r s (inr h) (inr g) = let b = bracket_no text (h.0 ++ h.1) q s h.3 g.0 g.1 g.2 g.3 g.4 in
    let a = bracket_no text (h.0 ++ h.1) p r h.3 h.0 h.1 h.2 h.3 h.4 in pid_same (codes "] ") (after_spaces (h.0 ++ h.1)) p q r s bracket_no_digit (λ e. cc) a b

-- a text has one process and one body
pub cut_same : (text : List ℕ) (p q : ℕ) (a b : List ℕ) → IsCut text p a → IsCut text q b → (p ≡ q) × (a ≡ b)
cut_same text p q a b (inl h) (inl g) = let k = prefix_same text p q h.0 g.0 h.1 g.1 in (k.0, behind_same g.0 a b (subst (λ x. IsBehindSpaces x a) k.1 h.2) g.2)
cut_same text p q a b (inl h) (inr g) = absurd (g.2 p h.0 h.1)
cut_same text p q a b (inr h) (inl g) = absurd (h.2 q g.0 g.1)
cut_same text p q a b (inr h) (inr g) = (h.0 ∙ sym g.0, h.1 ∙ sym g.1)

pid_front : (word text : List ℕ) (pid : ℕ) (rest : List ℕ) → PidThen word text pid rest → (front : List ℕ) × (text ≡ front ++ rest)
pid_front word text pid rest h = (h.0 ++ word, h.2 ∙ sym (append_assoc h.0 word rest))

prefix_front : (text : List ℕ) (pid : ℕ) (rest : List ℕ) → IsPrefixed text pid rest → (front : List ℕ) × (text ≡ front ++ rest)
prefix_front text pid rest (inl h) = pid_front (codes " ") text pid rest h
prefix_front text pid rest (inr h) =
    let k = pid_front (codes "] ") h.1 pid rest h.4 in (
      codes "[pid " ++ (h.0 ++ k.0),
      h.3 ∙ ap (λ x. codes "[pid " ++ (h.0 ++ x)) k.1 ∙ ap (λ x. codes "[pid " ++ x) (sym (append_assoc h.0 k.0 rest))
          ∙ sym (append_assoc (codes "[pid ") (h.0 ++ k.0) rest),
    )

-- a line is what stands before its body, and its body
pub cut_front : (text : List ℕ) (pid : ℕ) (body : List ℕ) → IsCut text pid body → (front : List ℕ) × (text ≡ front ++ body)
cut_front text pid body (inl h) = let k = prefix_front text pid h.0 h.1 in (k.0 ++ h.2.0, k.1 ∙ ap (λ x. k.0 ++ x) h.2.2 ∙ sym (append_assoc k.0 h.2.0 body))
cut_front text pid body (inr h) = ([], sym h.1)

-- what is left behind the spaces isn't longer than the text
pub behind_length : (text rest : List ℕ) → IsBehindSpaces text rest → length rest ≤ length text
behind_length text rest h = let k = ap length h.2 ∙ length-append h.0 rest in omega arith

-- a body is no longer than its line
pub cut_length : (text : List ℕ) (pid : ℕ) (body : List ℕ) → IsCut text pid body → length body ≤ length text
cut_length text pid body h = let k = cut_front text pid body h in let l = ap length k.1 ∙ length-append k.0 body in omega arith

-- ---- endings

-- a run of one byte may be turned round
rotate : (x : ℕ) (s : List ℕ) → EachIs (is x) s → s ++ (x ∷ []) ≡ x ∷ s
rotate x [] h = refl
rotate x (b ∷ s) h = let k : b ≡ x = same_is x b h.0 in ap (λ y. b ∷ y) (rotate x s h.1) ∙ ap (λ y. y ∷ (x ∷ s)) k ∙ ap (λ y. x ∷ (y ∷ s)) (sym k)

turned : (x c : ℕ) (s : List ℕ) → is x c ≡ true → EachIs (is x) s → c ∷ s ≡ s ++ (x ∷ [])
turned x c s h each = ap (λ y. y ∷ s) (same_is x c h) ∙ sym (rotate x s each)

-- two equal texts end with the same byte
pub last_same : (a b : List ℕ) (x y : ℕ) → a ++ (x ∷ []) ≡ b ++ (y ∷ []) → x ≡ y
last_same [] (c ∷ []) x y e = cc
last_same (c ∷ []) [] x y e = cc
last_same (c ∷ a) (d ∷ b) x y e = last_same a b x y cc
last_same a b x y e = cc

-- where all the bytes at the ends of a text are one byte, and none of it stands before them, what stands there is one
pub trailing : (x : ℕ) (a b s t : List ℕ) → EachIs (is x) s → EachIs (is x) t → ((f : List ℕ) → a ≢ f ++ (x ∷ []))
    → ((f : List ℕ) → b ≢ f ++ (x ∷ [])) → a ++ s ≡ b ++ t → a ≡ b
trailing x a b [] [] hs ht na nb e = sym (append-nil a) ∙ e ∙ append-nil b
trailing x a b [] (c ∷ t) hs ht na nb e = absurd (na (b ++ t)
    (sym (append-nil a) ∙ e ∙ ap (λ y. b ++ y) (turned x c t ht.0 ht.1) ∙ sym (append_assoc b t (x ∷ []))))
trailing x a b (c ∷ s) [] hs ht na nb e = absurd (nb (a ++ s)
    (sym (append-nil b) ∙ sym e ∙ ap (λ y. a ++ y) (turned x c s hs.0 hs.1) ∙ sym (append_assoc a s (x ∷ []))))
trailing x a b (c ∷ s) (d ∷ t) hs ht na nb e =
    let e1 : (a ++ s) ++ (x ∷ []) ≡ (b ++ t) ++ (x ∷ []) = append_assoc a s (x ∷ []) ∙ ap (λ y. a ++ y) (sym (turned x c s hs.0 hs.1)) ∙ e
    ∙ ap (λ y. b ++ y) (turned x d t ht.0 ht.1) ∙ sym (append_assoc b t (x ∷ [])) in
    trailing x a b s t hs.1 ht.1 na nb (append_cancel_right (a ++ s) (b ++ t) (x ∷ []) e1)

abbrev cut : List ℕ
cut = codes "<unfinished ...>)"

abbrev nothing : List ℕ
nothing = codes "= ?"

cut_end : (front f : List ℕ) → front ++ cut ≢ f ++ (32 ∷ [])
cut_end front f e = let k : front ++ cut ≡ (front ++ codes "<unfinished ...>") ++ (41 ∷ []) = sym (append_assoc front (codes "<unfinished ...>") (41 ∷ [])) in
    let l = last_same (front ++ codes "<unfinished ...>") f 41 32 (sym k ∙ e) in cc

-- the line of a call that never returned, up to its end
never_parts : (text front more : List ℕ) → text ≡ front ++ (cut ++ ((32 ∷ more) ++ nothing)) → text ≡ ((front ++ cut) ++ (32 ∷ more)) ++ nothing
never_parts text front more e = e ∙ sym (append_assoc front cut ((32 ∷ more) ++ nothing)) ∙ sym (append_assoc (front ++ cut) (32 ∷ more) nothing)

-- a text that ends with "<unfinished ...>)", spaces and "= ?" is that of a call that never returned
pub never_yes : (text one two three spaces : List ℕ) → text ≡ one ++ nothing → one ≡ two ++ (32 ∷ []) → two ≡ three ++ spaces
    → EachIs (is 32) spaces → EndsWith cut three → NeverReturned text
never_yes text one two three spaces e1 e2 e3 each w =
    let k : one ≡ three ++ (32 ∷ spaces) = e2 ∙ ap (λ x. x ++ (32 ∷ [])) e3 ∙ append_assoc three spaces (32 ∷ [])
    ∙ ap (λ x. three ++ x) (rotate 32 spaces each) in
    let l : one ≡ (w.0 ++ cut) ++ (32 ∷ spaces) = k ∙ ap (λ x. x ++ (32 ∷ spaces)) w.1 in (
      w.0,
      spaces,
      each,
      e1 ∙ ap (λ x. x ++ nothing) l ∙ append_assoc (w.0 ++ cut) (32 ∷ spaces) nothing ∙ append_assoc w.0 cut ((32 ∷ spaces) ++ nothing),
    )

-- a text that doesn't end with "= ?" isn't that of a call that never returned
pub never_one : (text : List ℕ) → ((front : List ℕ) → text ≢ front ++ nothing) → NeverReturned text → ⊥
never_one text none h = none ((h.0 ++ cut) ++ (32 ∷ h.1)) (never_parts text h.0 h.1 h.3)

never_spaced : (text one : List ℕ) → text ≡ one ++ nothing → (h : NeverReturned text) → one ≡ ((h.0 ++ cut) ++ h.1) ++ (32 ∷ [])
never_spaced text one e h = append_cancel_right one ((h.0 ++ cut) ++ (32 ∷ h.1)) nothing (sym e ∙ never_parts text h.0 h.1 h.3)
    ∙ ap (λ x. (h.0 ++ cut) ++ x) (sym (rotate 32 h.1 h.2)) ∙ sym (append_assoc (h.0 ++ cut) h.1 (32 ∷ []))

-- nor is one without a space before "= ?"
pub never_two : (text one : List ℕ) → text ≡ one ++ nothing → ((front : List ℕ) → one ≢ front ++ (32 ∷ [])) → NeverReturned text → ⊥
never_two text one e none h = none ((h.0 ++ cut) ++ h.1) (never_spaced text one e h)

-- in that of a call that never returned, what stands before all the spaces ends with "<unfinished ...>)"
pub never_three : (text one two three spaces : List ℕ) → text ≡ one ++ nothing → one ≡ two ++ (32 ∷ []) → two ≡ three ++ spaces
    → EachIs (is 32) spaces → ((f : List ℕ) → three ≢ f ++ (32 ∷ [])) → NeverReturned text → EndsWith cut three
never_three text one two three spaces e1 e2 e3 each none h =
    let k : two ≡ (h.0 ++ cut) ++ h.1 = append_cancel_right two ((h.0 ++ cut) ++ h.1) (32 ∷ []) (sym e2 ∙ never_spaced text one e1 h) in
    (h.0, trailing 32 three (h.0 ++ cut) spaces h.1 each h.2 none (cut_end h.0) (sym e3 ∙ k))

-- ---- halves

-- what stands before the spaces and "<unfinished ...>" is what is kept of a first half
pub half_yes : (text front half spaces : List ℕ) → text ≡ front ++ unfinished → front ≡ half ++ spaces → EachIs (is 32) spaces
    → ((f : List ℕ) → half ≢ f ++ (32 ∷ [])) → IsHalf text half
half_yes text front half spaces e k each ended =
    record { spaces = spaces; only_spaces = each; parts = e ∙ ap (λ x. x ++ unfinished) k ∙ append_assoc half spaces unfinished; ended = ended }

half_front : (text half : List ℕ) → (h : IsHalf text half) → text ≡ (half ++ h.spaces) ++ unfinished
half_front text half h = h.parts ∙ sym (append_assoc half h.spaces unfinished)

-- a text is one first half at most
pub half_same : (text a b : List ℕ) → IsHalf text a → IsHalf text b → a ≡ b
half_same text a b h g =
    let e : a ++ h.spaces ≡ b ++ g.spaces = append_cancel_right (a ++ h.spaces) (b ++ g.spaces) unfinished (sym (half_front text a h) ∙ half_front text b g) in
    trailing 32 a b h.spaces g.spaces h.only_spaces g.only_spaces h.ended g.ended e

-- a first half ends with "<unfinished ...>"
pub half_ends : (text half : List ℕ) → IsHalf text half → EndsWith unfinished text
half_ends text half h = (half ++ h.spaces, half_front text half h)

-- what is kept of a first half isn't longer than its text
pub half_length : (text half : List ℕ) → IsHalf text half → length half ≤ length text
half_length text half h = let k = ap length h.parts ∙ length-append half (h.spaces ++ unfinished) in omega arith
