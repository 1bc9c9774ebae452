-- Where a byte or a word stands first or last in a text, and the digits at its end, as parts of the text.
use Rattle.std.proofs.Common.{◌≡◌, ◌⊎◌, ℕ, suc, ◌+◌, ◌<◌, ◌≤◌, List, [], ◌∷◌, ◌++◌, length, take, drop, Bool, true, false, refl, sym, ap, subst, ◌∙◌}
use Rattle.std.proofs.Common.{append_assoc, arith, get_or, get_or-take, get_or-drop, length-drop, length-take-le, take-append-drop}
use Rattle.std.specs.Prelude.{◌==◌, if◌then◌else◌}
use Rattle.std.proofs.lemmas.Bool.{eqb-true}
use Rattle.std.proofs.lemmas.Bool.Decides.{nat_tests}
use Rattle.std.proofs.lemmas.List.{append_cancel_left, drop_more, get_or-append-add, get_or_append_left, length-append}
use Rattle.line_parts.specs.Leaves.{is, EachIs, AllDigits, worth}
use Rattle.line_parts.proofs.Leaves.{is_same, same_run, not_both}
use Rattle.line_parts.proofs.Sequence.{alike_same}
use Rattle.strace_reader.proofs.FormFacts.{last_same}
use Rattle.memchr.specs.Find.{is_byte, OccursAt}
use Rattle.memchr.proofs.lemmas.MatchLemmas.{OccursAt-split}

-- the byte is another one
abbrev pub isnt : ℕ → ℕ → Bool
isnt b c = if c == b then false else true

-- ---- a byte

-- the first byte of a text, where it has one
abbrev pub first_byte : List ℕ → ℕ
first_byte [] = 0
first_byte (b ∷ text) = b

-- where each byte that is read passes the test, all do
pub each_from : (test : ℕ → Bool) (text : List ℕ) → ((k : ℕ) → k < length text → test (get_or text k 0) ≡ true) → EachIs test text
each_from test [] h = tt
each_from test (b ∷ text) h = (h 0 (omega arith), each_from test text (λ k below. h (suc k) (omega arith)))

-- all bytes of a text pass the test just where those of its two parts do
pub each_parts : (test : ℕ → Bool) (a b : List ℕ) → EachIs test (a ++ b) → EachIs test a × EachIs test b
each_parts test [] b h = (tt, h)
each_parts test (x ∷ a) b h = let k = each_parts test a b h.1 in ((h.0, k.0), k.1)

-- the same from the parts
pub each_whole : (test : ℕ → Bool) (a b : List ℕ) → EachIs test a → EachIs test b → EachIs test (a ++ b)
each_whole test [] b h g = g
each_whole test (x ∷ a) b h g = (h.0, each_whole test a b h.1 g)

-- where all bytes pass one test, and what passes it passes the other, all pass that
pub each_weaker : (one other : ℕ → Bool) → ((b : ℕ) → one b ≡ true → other b ≡ true) → (text : List ℕ) → EachIs one text → EachIs other text
each_weaker one other weaker [] h = tt
each_weaker one other weaker (b ∷ text) h = (weaker b h.0, each_weaker one other weaker text h.1)

-- a test that isn't true fails
pub not_true : (x : Bool) → (x ≡ true → ⊥) → (if x then false else true) ≡ true
not_true true n = absurd (n refl)
not_true false n = refl

isnt_self : (b : ℕ) → isnt b b ≡ false
isnt_self b = rw (is_same b) refl

-- a byte of the test that fails for b isn't b
pub isnt_of : (b : ℕ) (test : ℕ → Bool) → test b ≡ false → (c : ℕ) → test c ≡ true → isnt b c ≡ true
isnt_of b test none c h = not_true (c == b) (λ e. not_both (ap test (sym (eqb-true c b e)) ∙ h) none)

-- the text up to the place of a byte, the byte, and what stands behind it
pub at_byte : (b : ℕ) (text : List ℕ) (k : ℕ) → k < length text → is_byte b (get_or text k 0) ≡ true → text ≡ take k text ++ (b ∷ drop (k + 1) text)
at_byte b text k within is = let e : get_or text k 0 ≡ b = eqb-true (get_or text k 0) b is in
    sym (take-append-drop k text) ∙ ap (λ x. take k text ++ x) (drop_more text k 0 within ∙ ap (λ x. x ∷ drop (k + 1) text) e)

-- before the first place of a byte it doesn't stand
pub before_byte : (b : ℕ) (text : List ℕ) (k : ℕ) → k ≤ length text → ((j : ℕ) → 0 ≤ j → j < k → is_byte b (get_or text j 0) ≡ true → ⊥)
    → EachIs (isnt b) (take k text)
before_byte b text k within none =
    let l = length-take-le k text within in
    each_from (isnt b) (take k text) (λ j below. subst (λ x. isnt b x ≡ true) (sym (get_or-take k text j 0 (omega arith)))
    (not_true (get_or text j 0 == b) (none j (omega arith) (omega arith))))

-- behind its last place it doesn't stand
pub behind_byte : (b : ℕ) (text : List ℕ) (k : ℕ) → ((j : ℕ) → k + 1 ≤ j → j < length text → is_byte b (get_or text j 0) ≡ true → ⊥)
    → EachIs (isnt b) (drop (k + 1) text)
behind_byte b text k none =
    let l = length-drop (k + 1) text in
    each_from (isnt b) (drop (k + 1) text) (λ j below. subst (λ x. isnt b x ≡ true) (sym (get_or-drop (k + 1) text j 0))
    (not_true (get_or text (k + 1 + j) 0 == b) (none (k + 1 + j) (omega arith) (omega arith))))

-- where it stands nowhere, no byte is it
pub nowhere_byte : (b : ℕ) (text : List ℕ) → ((j : ℕ) → 0 ≤ j → j < length text → is_byte b (get_or text j 0) ≡ true → ⊥) → EachIs (isnt b) text
nowhere_byte b text none = each_from (isnt b) text (λ j below. not_true (get_or text j 0 == b) (none j (omega arith) below))

-- a text in which a byte stands has it
pub each_at : (b : ℕ) (g s : List ℕ) → EachIs (isnt b) (g ++ (b ∷ s)) → ⊥
each_at b [] s h = not_both h.0 (isnt_self b)
each_at b (c ∷ g) s h = each_at b g s h.1

-- two parts before the first place of a byte are one
pub first_same : (b : ℕ) (f g r s : List ℕ) → EachIs (isnt b) f → EachIs (isnt b) g → f ++ (b ∷ r) ≡ g ++ (b ∷ s) → (f ≡ g) × (r ≡ s)
first_same b f g r s hf hg e = let k : f ≡ g = same_run (isnt b) (b ∷ s) f g (b ∷ r) (b ∷ s) hf hg (isnt_self b) (isnt_self b) e (alike_same (b ∷ s)) in
    let l : b ∷ r ≡ b ∷ s = append_cancel_left f (b ∷ r) (b ∷ s) (e ∙ ap (λ x. x ++ (b ∷ s)) (sym k)) in (k, cc)

-- and so are two before its last place
pub last_place_same : (b : ℕ) (f g r s : List ℕ) → EachIs (isnt b) r → EachIs (isnt b) s → f ++ (b ∷ r) ≡ g ++ (b ∷ s) → (f ≡ g) × (r ≡ s)
last_place_same b [] [] r s hr hs e = (refl, cc)
last_place_same b [] (c ∷ g) r s hr hs e = let k : r ≡ g ++ (b ∷ s) = cc in absurd (each_at b g s (subst (EachIs (isnt b)) k hr))
last_place_same b (c ∷ f) [] r s hr hs e = let k : s ≡ f ++ (b ∷ r) = cc in absurd (each_at b f r (subst (EachIs (isnt b)) k hs))
last_place_same b (c ∷ f) (d ∷ g) r s hr hs e = let k : f ++ (b ∷ r) ≡ g ++ (b ∷ s) = cc in let h : c ≡ d = cc in let l = last_place_same b f g r s hr hs k in
    (ap (λ x. c ∷ x) l.0 ∙ ap (λ x. x ∷ g) h, l.1)

-- ---- a word

-- the text up to the place of a word, the word, and what stands behind it
pub at_word : (text word : List ℕ) (k : ℕ) → OccursAt text word k → text ≡ take k text ++ (word ++ drop (k + length word) text)
at_word text word k h = sym (take-append-drop k text) ∙ ap (λ x. take k text ++ x) (OccursAt-split text word k h)

-- a word between two parts stands at the end of the first
pub word_at : (text word front back : List ℕ) → text ≡ front ++ (word ++ back) → OccursAt text word (length front)
word_at text word front back e =
    let k = ap length e ∙ length-append front (word ++ back) in let l = length-append word back in
    record {
      fits = omega arith;
      reads = λ j below. ap (λ x. get_or x (length front + j) 0) e ∙ get_or-append-add front (word ++ back) j 0 ∙ get_or_append_left word back 0 j below;
    }

-- ---- digits at the end

-- a digit is worth less than ten
pub digit_worth : (b : ℕ) → 48 ≤ b → b ≤ 57 → worth b < 10
unfolding worth
digit_worth b l h = grind (arith, nat_tests)

-- another byte isn't
pub other_worth : (b : ℕ) → (b < 48) ⊎ (57 < b) → 10 ≤ worth b
unfolding worth
other_worth b h = grind (arith, nat_tests)

-- one digit more at the end of a text
pub digits_on : (text left front digits : List ℕ) (last : ℕ) → text ≡ left ++ digits → AllDigits 10 digits → left ≡ front ++ (last ∷ [])
    → worth last < 10 → (x : List ℕ) × AllDigits 10 x × (text ≡ front ++ x)
digits_on text left front digits last e all s w = (last ∷ digits, (w, all), e ∙ ap (λ x. x ++ digits) s ∙ append_assoc front (last ∷ []) digits)

-- what the last byte of a text is worth
pub last_other : (left front : List ℕ) (last : ℕ) → left ≡ front ++ (last ∷ []) → 10 ≤ worth last
    → (more : List ℕ) (byte : ℕ) → left ≡ more ++ (byte ∷ []) → 10 ≤ worth byte
last_other left front last e w more byte k = subst (λ b. 10 ≤ worth b) (last_same front more last byte (sym e ∙ k)) w

last_digit : (c : ℕ) (g e : List ℕ) → AllDigits 10 ((c ∷ g) ++ e) → ((front : List ℕ) (b : ℕ) → c ∷ g ≡ front ++ (b ∷ []) → 10 ≤ worth b) → ⊥
last_digit c [] e h n = let k = n [] c refl in let d = h.0 in omega arith
last_digit c (x ∷ g) e h n = last_digit x g e h.1 (λ front b eq. n (c ∷ front) b (ap (λ z. c ∷ z) eq))

-- a text has one run of digits at its end
pub digits_end_same : (f g d e : List ℕ) → AllDigits 10 d → AllDigits 10 e
    → ((front : List ℕ) (b : ℕ) → f ≡ front ++ (b ∷ []) → 10 ≤ worth b) → ((front : List ℕ) (b : ℕ) → g ≡ front ++ (b ∷ []) → 10 ≤ worth b)
    → f ++ d ≡ g ++ e → (f ≡ g) × (d ≡ e)
digits_end_same [] [] d e hd he nf ng eq = (refl, eq)
digits_end_same [] (c ∷ g) d e hd he nf ng eq = absurd (last_digit c g e (subst (AllDigits 10) eq hd) ng)
digits_end_same (c ∷ f) [] d e hd he nf ng eq = absurd (last_digit c f d (subst (AllDigits 10) (sym eq) he) nf)
digits_end_same (x ∷ f) (y ∷ g) d e hd he nf ng eq =
    let k : f ++ d ≡ g ++ e = cc in let h : x ≡ y = cc in
    let l = digits_end_same f g d e hd he (λ front b q. nf (x ∷ front) b (ap (λ z. x ∷ z) q))
    (λ front b q. ng (y ∷ front) b (ap (λ z. y ∷ z) q)) k in (ap (λ z. x ∷ z) l.0 ∙ ap (λ z. z ∷ g) h, l.1)
