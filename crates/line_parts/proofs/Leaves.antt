-- The smallest parts are read as they say.
use Rattle.std.proofs.Common.{◌≡◌, ℕ, List, [], ◌∷◌, ◌++◌, length, Ok, Err, Bool, true, false, refl, sym, ap, subst, ◌∙◌, inl, inr, ◌+◌, ◌-◌, ◌≤◌, take, arith}
use Rattle.std.specs.Prelude.{◌⊎◌}
use Rattle.std.proofs.lemmas.Bool.Decides.{eqb_tells}
use Rattle.std.proofs.Math.Seq.{take-append_seam}
use Rattle.std.proofs.lemmas.List.{append-nil, length-append}
use Rattle.line_parts.specs.declared.refusal.What.{What}
use Rattle.line_parts.specs.Parts.{Alike, starts, done}
use Rattle.line_parts.specs.Leaves.{is, AtFirst, byte, letters, EachIs, IsRun, run, is_digit, is_capital, is_word_byte}
use Rattle.line_parts.specs.Leaves.{many_digits, spaces, NoPair, until, end, anything}
use Rattle.line_parts.specs.Reading.{refusal_at, byte_at, letters_at, taken, after_spaces, run_at, digits_end, until_at, end_at}
use Rattle.line_parts.proofs.Sequence.{Took, Stuck, Reads, Good, good_then}
use Rattle.line_parts.proofs.Choices.{starts_front}

-- anything may follow
abbrev pub Any : {A : Type 0} → A → List ℕ → Type 0
Any v q = Unit {0}

-- the end follows
abbrev pub Last : {A : Type 0} → A → List ℕ → Type 0
Last v q = q ≡ []

-- a truth value is true or false
pub bool_cases : (b : Bool) → (b ≡ true) ⊎ (b ≡ false)
bool_cases true = inl refl
bool_cases false = inr refl

-- a byte passes the test for itself
pub is_same : (b : ℕ) → is b b ≡ true
is_same b = elim (eqb_tells b b) [ inl h ↦ h.0 | inr h ↦ absurd (h.1 refl) ]

-- a byte that passes the test for another is the other
pub same_is : (b c : ℕ) → is b c ≡ true → c ≡ b
same_is b c h = elim (eqb_tells c b) [ inl k ↦ k.1 | inr k ↦ cc ]

-- no truth value is both true and false
pub not_both : {b : Bool} → b ≡ true → b ≡ false → ⊥
not_both h k = cc

-- a refusal at the first byte is the only one there
pub first_one : (test : ℕ → Bool) (due : What) (text g o r : List ℕ) (w : What) → AtFirst test due g o r w → text ≡ g ++ (o ++ r)
    → (length (o ++ r) ≡ length text) × (w ≡ due)
first_one test due text g o r w h e = (sym (ap length (e ∙ ap (λ x. x ++ (o ++ r)) h.0)), h.2)

-- a text whose first byte passes isn't refused for its first byte
pub first_clean : (test : ℕ → Bool) (due : What) (text g o r : List ℕ) (w : What) → AtFirst test due g o r w
    → text ≡ g ++ (o ++ r) → starts test text ≡ true → ⊥
first_clean test due text g o r w h e yes_ =
    let is : text ≡ r = e ∙ ap (λ x. x ++ (o ++ r)) h.0 ∙ ap (λ x. x ++ r) h.1 in not_both yes_ (ap (starts test) is ∙ h.3)

-- What begins with a byte that passes does not go on as a text that begins with none.
pub first_ends : (test : ℕ → Bool) (text whole more : List ℕ) → starts test text ≡ false → starts test whole ≡ true → whole ≡ more → Alike more text → ⊥
first_ends test text whole more none one e alike = not_both one (ap (starts test) e ∙ starts_front test [] more text alike ∙ none)

-- ---- one byte

byte_stuck : (b : ℕ) (due : What) (text : List ℕ) → starts (is b) text ≡ false → Stuck (byte b due) Any text (refusal_at text due)
byte_stuck b due text none = record {
  front = [];
  over = [];
  rest = text;
  parts = refl;
  left = refl;
  due = (refl, refl, refl, none);
  begins = (b ∷ [], tt, λ q h. refl);
  ends = λ p q more v h e alike. first_ends (is b) text (p ++ q) more none (ap (λ x. starts (is b) (x ++ q)) h ∙ is_same b) e alike;
  one = λ g o r w h e. first_one (is b) due text g o r w h e;
}

byte_took : (b : ℕ) (due : What) (c : ℕ) (rest : List ℕ) → is b c ≡ true → Took (byte b due) (c ∷ rest) tt rest
byte_took b due c rest h =
    let same = same_is b c h in
    record {
      front = c ∷ [];
      parts = refl;
      takes = ap (λ x. x ∷ []) same;
      only = λ p q more w k e alike. (k ∙ ap (λ x. x ∷ []) (sym same), refl);
      clean = λ g o r w k e. first_clean (is b) due (c ∷ rest) g o r w k e h;
    }

byte_reads : (b : ℕ) (due : What) (text : List ℕ) → Reads (byte b due) Any text (byte_at b due text)
unfolding byte_at
byte_reads b due [] = byte_stuck b due [] refl
byte_reads b due (c ∷ rest) = elim (bool_cases (is b c)) [ inl h ↦ rw h (byte_took b due c rest h) | inr h ↦ rw h (byte_stuck b due (c ∷ rest) h) ]

-- one byte is read by byte_at, and anything may follow
pub byte_good : (b : ℕ) (due : What) → Good (byte b due) Any (byte_at b due)
byte_good b due = record { fine = record { some = (b ∷ [], tt, λ q h. refl); before = λ a rest q v h hq. h }; reads = byte_reads b due }

-- nothing is taken by giving the value and the whole text, whatever may follow
pub done_good : {A : Type 0} (v : A) (follow : A → List ℕ → Type 0) → Good (done v) follow (λ text. Ok (v, text))
done_good v follow = record {
  fine = record { some = ([], v, λ q h. (refl, refl)); before = λ a rest q w h hq. h };
  reads = λ text. record { front = []; parts = refl; takes = (refl, refl); only = λ p q more w h e alike. h; clean = λ g o r w h e. h };
}

-- the bytes of a text are read by letters_at, and anything may follow
pub letters_good : (word : List ℕ) (due : What) → Good (letters word due) Any (letters_at word due)
unfolding letters_at
letters_good [] due = done_good tt Any
letters_good (b ∷ word) due = good_then (byte_good b due) (λ u. letters_good word due) (λ v t q w h hq. tt)

-- ---- runs and spaces

-- the bytes that are taken pass the test, the text is these and the others, and the others don't begin with one that
-- passes
pub taken_is : (test : ℕ → Bool) (text : List ℕ) → EachIs test (taken test text).0 × (text ≡ (taken test text).0 ++ (taken test text).1)
    × (starts test (taken test text).1 ≡ false)
unfolding taken
taken_is test [] = (tt, refl, refl)
taken_is test (c ∷ rest) =
    elim (bool_cases (test c)) [ inl h ↦ let r = taken_is test rest in rw h ((h, r.0), ap (λ x. c ∷ x) r.1, r.2) | inr h ↦ rw h (tt, refl, h) ]

-- Two runs to their end that go on alike are one.
pub same_run : (test : ℕ → Bool) (rest p front q more : List ℕ) → EachIs test p → EachIs test front → starts test q ≡ false
    → starts test rest ≡ false → p ++ q ≡ front ++ more → Alike more rest → p ≡ front
same_run test rest [] [] q more hp hf hq hr e alike = refl
same_run test rest [] (c ∷ front) q more hp hf hq hr e alike = absurd (not_both (ap (starts test) e ∙ hf.0) hq)
same_run test rest (b ∷ p) [] q more hp hf hq hr e alike = absurd (first_ends test rest (b ∷ (p ++ q)) more hr hp.0 e alike)
same_run test rest (b ∷ p) (c ∷ front) q more hp hf hq hr e alike =
    let t : p ++ q ≡ front ++ more = cc in let i = same_run test rest p front q more hp.1 hf.1 hq hr t alike in let h : b ≡ c = cc in cc

-- a run, with what stands behind it, begins with a byte that passes the first test
pub run_starts : (first later : ℕ → Bool) (p q : List ℕ) → IsRun first later p → starts first (p ++ q) ≡ true
run_starts first later [] q h = absurd h
run_starts first later (b ∷ p) q h = h.0

run_same : (first later : ℕ → Bool) (rest p front q more : List ℕ) → IsRun first later p → IsRun first later front
    → starts later q ≡ false → starts later rest ≡ false → p ++ q ≡ front ++ more → Alike more rest → p ≡ front
run_same first later rest [] front q more hp hf hq hr e alike = absurd hp
run_same first later rest (b ∷ p) [] q more hp hf hq hr e alike = absurd hf
run_same first later rest (b ∷ p) (c ∷ front) q more hp hf hq hr e alike =
    let t : p ++ q ≡ front ++ more = cc in let i = same_run later rest p front q more hp.1 hf.1 hq hr t alike in let h : b ≡ c = cc in cc

run_stuck : (first later : ℕ → Bool) (due : What) (b : ℕ) (text : List ℕ) → first b ≡ true → starts first text ≡ false
    → Stuck (run first later due) (λ v q. starts later q ≡ false) text (refusal_at text due)
run_stuck first later due b text sample none = record {
  front = [];
  over = [];
  rest = text;
  parts = refl;
  left = refl;
  due = (refl, refl, refl, none);
  begins = (b ∷ [], b ∷ [], λ q h. (refl, (sample, tt), h));
  ends = λ p q more v h e alike. first_ends first text (p ++ q) more none (run_starts first later p q h.1) e alike;
  one = λ g o r w h e. first_one first due text g o r w h e;
}

run_took : (first later : ℕ → Bool) (due : What) (text front rest : List ℕ) → text ≡ front ++ rest → IsRun first later front
    → starts later rest ≡ false → Took (run first later due) text front rest
run_took first later due text front rest parts run_is ended = record {
  front = front;
  parts = parts;
  takes = (refl, run_is, ended);
  only = λ p q more w h e alike. let s = run_same first later rest p front q more h.1 run_is h.2 ended e alike in (s, h.0 ∙ s);
  clean = λ g o r w h e. first_clean first due text g o r w h e (ap (starts first) parts ∙ run_starts first later front rest run_is);
}

run_reads : (first later : ℕ → Bool) (due : What) (b : ℕ) → first b ≡ true → (text : List ℕ)
    → Reads (run first later due) (λ v q. starts later q ≡ false) text (run_at first later due text)
unfolding run_at
run_reads first later due b sample [] = run_stuck first later due b [] sample refl
run_reads first later due b sample (c ∷ rest) = elim (bool_cases (first c)) [
  | inl h ↦ let r = taken_is later rest in rw h
      (run_took first later due (c ∷ rest) (c ∷ (taken later rest).0) (taken later rest).1 (ap (λ x. c ∷ x) r.1) (h, r.0) r.2)
  | inr h ↦ rw h (run_stuck first later due b (c ∷ rest) sample h)
]

-- A run is good, where b is a byte that begins one.
pub run_good : (first later : ℕ → Bool) (due : What) (b : ℕ) → first b ≡ true
    → Good (run first later due) (λ v q. starts later q ≡ false) (run_at first later due)
run_good first later due b sample = record {
  fine = record { some = (b ∷ [], b ∷ [], λ q h. (refl, (sample, tt), h)); before = λ a rest q v h hq. (h.0, h.1, hq) };
  reads = run_reads first later due b sample;
}

-- digits are read by digits_end, where what follows doesn't begin with a digit
pub digits_good : (due : What) → Good (many_digits due) (λ v q. starts is_digit q ≡ false) (digits_end due)
unfolding digits_end
digits_good due = good_then (run_good is_digit is_digit due 48 refl) (λ d. done_good tt (λ v q. starts is_digit q ≡ false))
    (λ v b q w h hq. ap (λ y. starts is_digit (y ++ q)) h.0 ∙ hq)

-- what is left behind the bytes that pass isn't longer than the text
pub taken_shorter : (test : ℕ → Bool) (text : List ℕ) → length (taken test text).1 ≤ length text
taken_shorter test text = let r = taken_is test text in let k = ap length r.1 ∙ length-append (taken test text).0 (taken test text).1 in omega arith

taken_front : (test : ℕ → Bool) (text : List ℕ) → take (length text - length (taken test text).1) text ≡ (taken test text).0
taken_front test text =
    let r = taken_is test text in let front = (taken test text).0 in let after = (taken test text).1 in
    let k : length text ≡ length front + length after = ap length r.1 ∙ length-append front after in
    let n : length text - length after ≡ length front = omega arith in
    ap (λ x. take x text) n ∙ ap (λ x. take (length front) x) r.1 ∙ take-append_seam front after

run_is_taken : (first later : ℕ → Bool) (due : What) (text : List ℕ) → ((b : ℕ) → first b ≡ true → later b ≡ true)
    → starts first text ≡ true → run_at first later due text ≡ Ok ((taken later text).0, (taken later text).1)
unfolding run_at taken
run_is_taken first later due [] sub h = absurd cc
run_is_taken first later due (c ∷ rest) sub h = rw h (rw (sub c h) refl)

-- a run as the code cuts it off
pub run_cut : (first later : ℕ → Bool) (due : What) (text rest : List ℕ) → ((b : ℕ) → first b ≡ true → later b ≡ true)
    → starts first text ≡ true → rest ≡ (taken later text).1 → run_at first later due text ≡ Ok (take (length text - length rest) text, rest)
run_cut first later due text rest sub h e =
    rw e (run_is_taken first later due text sub h ∙ ap (λ x. Ok (x, (taken later text).1)) (sym (taken_front later text)))

-- a text whose first byte passes no first test of a run is refused at its front
pub run_missing : (first later : ℕ → Bool) (due : What) (text : List ℕ) → starts first text ≡ false → run_at first later due text ≡ Err (refusal_at text due)
unfolding run_at
run_missing first later due [] h = refl
run_missing first later due (c ∷ rest) h = rw h refl

-- a capital letter is a byte of a word
pub capital_is_word : (b : ℕ) → is_capital b ≡ true → is_word_byte b ≡ true
capital_is_word b h = rw h refl

spaces_reads : (text : List ℕ) → Reads spaces (λ v q. starts (is 32) q ≡ false) text (Ok (tt, after_spaces text))
unfolding after_spaces
spaces_reads text =
    let r = taken_is (is 32) text in
    record {
      front = (taken (is 32) text).0;
      parts = r.1;
      takes = (r.0, r.2);
      only = λ p q more v h e alike. (same_run (is 32) (taken (is 32) text).1 p (taken (is 32) text).0 q more h.0 r.0 h.1 r.2 e alike, refl);
      clean = λ g o x w h e. h;
    }

-- spaces are read by after_spaces, where what follows doesn't begin with a space
pub spaces_good : Good spaces (λ v q. starts (is 32) q ≡ false) (λ text. Ok (tt, after_spaces text))
spaces_good = record { fine = record { some = ([], tt, λ q h. (tt, h)); before = λ a rest q v h hq. (h.0, hq) }; reads = spaces_reads }

-- ---- the end, and all that is left

end_reads : {A : Type 0} (due : What) (v : A) (text : List ℕ) → Reads (end due v) Last text (end_at due v text)
unfolding end_at
end_reads due v [] = record {
  front = [];
  parts = refl;
  takes = (refl, refl, refl);
  only = λ p q more w h e alike. (h.0, h.2);
  clean = λ g o r w h e. h.3 (sym (e ∙ ap (λ x. x ++ (o ++ r)) h.0 ∙ ap (λ x. x ++ r) h.1));
}
end_reads due v (c ∷ rest) = record {
  front = [];
  over = [];
  rest = c ∷ rest;
  parts = refl;
  left = refl;
  due = (refl, refl, refl, λ e. cc);
  begins = ([], v, λ q h. (refl, h, refl));
  ends = λ p q more w h e alike. let none : [] ≡ more = sym (ap (λ x. x ++ q) h.0 ∙ h.1) ∙ e in subst (λ x. Alike x (c ∷ rest)) (sym none) alike;
  one = λ g o r w h e. (sym (ap length (e ∙ ap (λ x. x ++ (o ++ r)) h.0)), h.2);
}

-- the end of the text is read by end_at, and nothing follows
pub end_good : {A : Type 0} (due : What) (v : A) → Good (end due v) Last (end_at due v)
end_good {A} due v = record { fine = record { some = ([], v, λ q h. (refl, h, refl)); before = λ a rest q w h hq. (h.0, hq, h.2) }; reads = end_reads due v }

alike_end : (more : List ℕ) → Alike more [] → more ≡ []
alike_end [] h = refl
alike_end (b ∷ more) h = absurd h

-- all of a text is taken, and nothing left, where its first byte doesn't pass the test
pub anything_took : {A : Type 0} (test : ℕ → Bool) (v : A) (text : List ℕ) → starts test text ≡ false → Took (anything test v) text v []
anything_took test v text none = record {
  front = text;
  parts = sym (append-nil text);
  takes = (refl, refl, none);
  only = λ p q more w h e alike. (sym (append-nil p) ∙ ap (λ x. p ++ x) (sym h.0) ∙ e ∙ ap (λ x. text ++ x) (alike_end more alike) ∙ append-nil text, h.1);
  clean = λ g o r w h e. h;
}

-- no text begins with a byte that passes a test that no byte passes
pub no_byte_starts : (text : List ℕ) → starts (λ b. false) text ≡ false
no_byte_starts [] = refl
no_byte_starts (b ∷ text) = refl

-- where no byte passes the test, all that is left is read by giving the value and leaving nothing
pub anything_good : {A : Type 0} (v : A) → Good (anything (λ b. false) v) Last (λ text. Ok (v, []))
anything_good v = record {
  fine = record { some = ([], v, λ q h. (h, refl, refl)); before = λ a rest q w h hq. (hq, h.1, h.2) };
  reads = λ text. anything_took (λ b. false) v text (no_byte_starts text);
}

-- ---- bytes to a pair

pub until_same : (x y : ℕ) (rest p front q more : List ℕ) → is y x ≡ false → NoPair x y p → NoPair x y front
    → starts (is y) q ≡ true → starts (is y) rest ≡ true → (p ++ (x ∷ [])) ++ q ≡ (front ++ (x ∷ [])) ++ more → Alike more rest → p ≡ front
until_same x y rest [] [] q more apart hp hf hq hr e alike = refl
until_same x y rest [] (c ∷ []) q more apart hp hf hq hr e alike = let k : q ≡ x ∷ more = cc in absurd (not_both hq (ap (starts (is y)) k ∙ apart))
until_same x y rest [] (c ∷ d ∷ front) q more apart hp hf hq hr e alike =
    let k : q ≡ d ∷ ((front ++ (x ∷ [])) ++ more) = cc in let h : c ≡ x = cc in absurd (not_both hq (ap (starts (is y)) k ∙ hf.0 h))
until_same x y rest (b ∷ []) [] q more apart hp hf hq hr e alike =
    let k : x ∷ q ≡ more = cc in absurd (not_both hr (sym (ap (starts (is y)) k ∙ starts_front (is y) [] more rest alike) ∙ apart))
until_same x y rest (b ∷ d ∷ p) [] q more apart hp hf hq hr e alike =
    let k : d ∷ ((p ++ (x ∷ [])) ++ q) ≡ more = cc in let h : b ≡ x = cc in
    absurd (not_both hr (sym (ap (starts (is y)) k ∙ starts_front (is y) [] more rest alike) ∙ hp.0 h))
until_same x y rest (b ∷ p) (c ∷ front) q more apart hp hf hq hr e alike =
    let t : (p ++ (x ∷ [])) ++ q ≡ (front ++ (x ∷ [])) ++ more = cc in
    let i = until_same x y rest p front q more apart hp.1 hf.1 hq hr t alike in let h : b ≡ c = cc in cc

until_none : (x y : ℕ) (p q text : List ℕ) → NoPair x y text → starts (is y) q ≡ true → (p ++ (x ∷ [])) ++ q ≡ text → ⊥
until_none x y [] q (c ∷ text) hf hq e = let h : c ≡ x = cc in let k : q ≡ text = cc in not_both hq (ap (starts (is y)) k ∙ hf.0 h)
until_none x y (b ∷ p) q (c ∷ text) hf hq e = until_none x y p q text hf.1 hq cc
until_none x y p q text hf hq e = cc

-- the first x that a y follows stands behind the body, and until_at leaves the rest
pub record Before (x y : ℕ) (due : What) (text : List ℕ) (body rest : List ℕ) : Type 0 where
  -- the text is the body, x and the rest
  pub parts : text ≡ (body ++ (x ∷ [])) ++ rest
  -- in the body no y stands behind x
  pub none : NoPair x y body
  -- the rest begins with y
  pub next : starts (is y) rest ≡ true
  -- until_at leaves the rest
  pub is_read : until_at x y due text ≡ Ok (tt, rest)

body_starts : (test : ℕ → Bool) (body : List ℕ) (x : ℕ) (rest text : List ℕ) → text ≡ (body ++ (x ∷ [])) ++ rest
    → starts test text ≡ false → starts test body ≡ false
body_starts test [] x rest text e h = refl
body_starts test (b ∷ body) x rest text e h = sym (ap (starts test) e) ∙ h

until_on : (x y : ℕ) (due : What) (c : ℕ) (text : List ℕ) → (c ≡ x → starts (is y) text ≡ false) → until_at x y due (c ∷ text) ≡ until_at x y due text
    → ((body rest : List ℕ) × Before x y due text body rest) ⊎ (NoPair x y text × (until_at x y due text ≡ Err (refusal_at [] due)))
    → ((body rest : List ℕ) × Before x y due (c ∷ text) body rest) ⊎ (NoPair x y (c ∷ text) × (until_at x y due (c ∷ text) ≡ Err (refusal_at [] due)))
until_on x y due c text none on (inl h) = inl (
  c ∷ h.0,
  h.1,
  record {
    parts = ap (λ t. c ∷ t) h.2.parts;
    none = (λ e. body_starts (is y) h.0 x h.1 text h.2.parts (none e), h.2.none);
    next = h.2.next;
    is_read = on ∙ h.2.is_read;
  },
)
until_on x y due c text none on (inr h) = inr ((none, h.0), on ∙ h.1)

until_cases : (x y : ℕ) (due : What) (text : List ℕ) → ((body rest : List ℕ) × Before x y due text body rest)
    ⊎ (NoPair x y text × (until_at x y due text ≡ Err (refusal_at [] due)))
unfolding until_at
until_cases x y due [] = inr (tt, refl)
until_cases x y due (c ∷ text) = elim (bool_cases (is x c)) [
  | inl h ↦ elim (bool_cases (starts (is y) text)) [
    | inl k ↦ let same = same_is x c h in inl ([], text, record { parts = cc; none = tt; next = k; is_read = rw h (rw k refl) })
    | inr k ↦ until_on x y due c text (λ e. k) (rw h (rw k refl)) (until_cases x y due text)
  ]
  | inr h ↦ until_on x y due c text (λ e. absurd (not_both (ap (is x) e ∙ is_same x) h)) (rw h refl) (until_cases x y due text)
]

until_took : (x y : ℕ) (due : What) (text body rest : List ℕ) → is y x ≡ false → Before x y due text body rest → Took (until x y due) text tt rest
until_took x y due text body rest apart b = record {
  front = body ++ (x ∷ []);
  parts = b.parts;
  takes = (body, refl, b.none, b.next);
  only = λ p q more v h e alike.
      let s = until_same x y rest h.0 body q more apart h.2 b.none h.3 b.next (ap (λ t. t ++ q) (sym h.1) ∙ e) alike in (h.1 ∙ ap (λ t. t ++ (x ∷ [])) s, refl);
  clean = λ g o r w h e.
      let whole : text ≡ g = e ∙ ap (λ t. g ++ (t ++ r)) h.0 ∙ ap (λ t. g ++ t) h.1 ∙ append-nil g in
      until_none x y body rest g h.3 b.next (sym b.parts ∙ whole);
}

until_stuck : (x y : ℕ) (due : What) (text : List ℕ) → NoPair x y text → Stuck (until x y due) (λ v q. starts (is y) q ≡ true) text (refusal_at [] due)
until_stuck x y due text none = record {
  front = text;
  over = [];
  rest = [];
  parts = sym (append-nil text);
  left = refl;
  due = (refl, refl, refl, none);
  begins = (x ∷ [], tt, λ q h. (text, refl, none, h));
  ends = λ p q more v h e alike.
      until_none x y h.0 q text none h.3 (ap (λ t. t ++ q) (sym h.1) ∙ e
      ∙ ap (λ t. (text ++ []) ++ t) (alike_end more alike) ∙ append-nil (text ++ []) ∙ append-nil text);
  one = λ g o r w h e. (ap (λ t. length (t ++ r)) h.0 ∙ ap length h.1, h.2);
}

-- bytes to an x with a y behind it are read by until_at, where x isn't y and what follows begins with y
pub until_good : (x y : ℕ) (due : What) → is y x ≡ false → Good (until x y due) (λ v q. starts (is y) q ≡ true) (until_at x y due)
until_good x y due apart = record {
  fine = record { some = (x ∷ [], tt, λ q h. ([], refl, tt, h)); before = λ a rest q v h hq. (h.0, h.1, h.2, hq) };
  reads = λ text. elim (until_cases x y due text) [
    | inl h ↦ rw h.2.is_read (until_took x y due text h.0 h.1 apart h.2)
    | inr h ↦ rw h.1 (until_stuck x y due text h.0)
  ];
}
