-- What the readers of runs give: a run and what stands behind it, or none. A clock is digits and more bytes behind
-- them, of which the first is no digit; so digits are a clock where such bytes follow.
use Rattle.std.proofs.Common.{◌≡◌, ◌≢◌, ℕ, ◌<◌, List, [], ◌∷◌, ◌++◌, length, codes, Bool, true, false, Ok, Err, refl, sym, ap, subst, ◌∙◌}
use Rattle.std.proofs.Common.{append_assoc, inl, inr, arith}
use Rattle.std.proofs.lemmas.List.{append-nil, append_cancel_left, length-append}
use Rattle.line_parts.specs.declared.refusal.What.{What}
use Rattle.line_parts.specs.declared.refusal.Refusal.{Refusal}
use Rattle.line_parts.specs.Parts.{starts}
use Rattle.line_parts.specs.Leaves.{is, AtFirst, EachIs, IsRun, run, is_digit, many_digits}
use Rattle.line_parts.specs.Reading.{taken, run_at, digits_end, after_spaces}
use Rattle.line_parts.proofs.Leaves.{taken_is, same_run, not_both, run_starts, run_good, digits_good}
use Rattle.line_parts.proofs.Sequence.{Took, Stuck, Reads, alike_same}
use Rattle.strace_reader.specs.Grammar.{IsBehindSpaces}
use Rattle.strace_reader.proofs.FormFacts.{behind_spaces, behind_same}
use Rattle.raw_lines.specs.Fields.{is_clock_byte, is_address_byte, IsClock, IsSince, IsBracket, IsField, IsFieldTo, IsBehindField}
use Rattle.raw_lines.proofs.Searches.{each_parts, each_whole, each_weaker}
use Rattle.raw_lines.proofs.FieldFacts.{clock_each, clock_same, clock_no_space, digit_in_clock, run_each, address_each, address_no_space, close_no_address}
use Rattle.raw_lines.proofs.FieldFacts.{inside, field_no_space, field_to_same, field_to_space, field_read}

-- ---- runs that were read

-- a run that was read, and what is left behind it, where b is a byte that begins one
pub run_took : (first later : ℕ → Bool) (due : What) (b : ℕ) → first b ≡ true → (text w back : List ℕ) → run_at first later due text ≡ Ok (w, back)
    → IsRun first later w × (text ≡ w ++ back) × (starts later back ≡ false)
run_took first later due b sample text w back e =
    let t : Took (run first later due) text w back =
    subst (Reads (run first later due) (λ v q. starts later q ≡ false) text) e ((run_good first later due b sample).reads text) in
    (subst (IsRun first later) (sym t.takes.0) t.takes.1, t.parts ∙ ap (λ x. x ++ back) (sym t.takes.0), t.takes.2)

-- what is refused at its front begins with none of its bytes
nothing_before : (test : ℕ → Bool) (due what : What) (text front over rest : List ℕ) → text ≡ front ++ (over ++ rest) → AtFirst test due front over rest what
    → starts test text ≡ false
nothing_before test due what text front over rest e h = ap (starts test) (e ∙ ap (λ x. x ++ (over ++ rest)) h.0 ∙ ap (λ x. x ++ rest) h.1) ∙ h.3

-- where none was read the text doesn't begin with its first byte
pub run_refused : (first later : ℕ → Bool) (due : What) (b : ℕ) → first b ≡ true → (text : List ℕ) (f : Refusal) → run_at first later due text ≡ Err f
    → starts first text ≡ false
run_refused first later due b sample text f e =
    let s : Stuck (run first later due) (λ v q. starts later q ≡ false) text f =
    subst (Reads (run first later due) (λ v q. starts later q ≡ false) text) e ((run_good first later due b sample).reads text) in
    nothing_before first due f.what text s.front s.over s.rest s.parts s.due

-- no run stands where the text doesn't begin with its first byte
pub run_none : (first later : ℕ → Bool) (text w back : List ℕ) → starts first text ≡ false → IsRun first later w → text ≡ w ++ back → ⊥
run_none first later text w back none h e = not_both (ap (starts first) e ∙ run_starts first later w back h) none

-- the digits that were passed, and what is left behind them
pub digits_took : (due : What) (text back : List ℕ) → digits_end due text ≡ Ok (tt, back)
    → (digits : List ℕ) × IsRun is_digit is_digit digits × (text ≡ digits ++ back) × (starts is_digit back ≡ false)
digits_took due text back e =
    let t : Took (many_digits due) text tt back = subst (Reads (many_digits due) (λ v q. starts is_digit q ≡ false) text) e ((digits_good due).reads text) in
    let h = t.takes in let all : t.front ≡ h.0 = h.3 ∙ ap (λ x. h.0 ++ x) h.5.0 ∙ append-nil h.0 in
    (h.0, h.4.1, t.parts ∙ ap (λ x. x ++ back) all, ap (λ x. starts is_digit (x ++ back)) (sym h.5.0) ∙ h.4.2)

-- where none were passed the text begins with no digit
pub digits_refused : (due : What) (text : List ℕ) (f : Refusal) → digits_end due text ≡ Err f → starts is_digit text ≡ false
digits_refused due text f e =
    let s : Stuck (many_digits due) (λ v q. starts is_digit q ≡ false) text f =
    subst (Reads (many_digits due) (λ v q. starts is_digit q ≡ false) text) e ((digits_good due).reads text) in
    elim (s.due) [ inl h ↦ nothing_before is_digit due f.what text s.front s.over s.rest s.parts h | inr h ↦ absurd h.5 ]

no_front : (more rest text : List ℕ) → text ≡ more ++ rest → length rest ≡ length text → text ≡ rest
no_front [] rest text e l = e
no_front (b ∷ more) rest text e l = let k = ap length e ∙ length-append (b ∷ more) rest in absurd (omega arith)

-- where as much is left behind the bytes that pass a test as there was, the text begins with none
pub none_taken : (test : ℕ → Bool) (text rest : List ℕ) → rest ≡ (taken test text).1 → length rest ≡ length text → starts test text ≡ false
none_taken test text rest r l = let t = taken_is test text in
    let e : text ≡ (taken test text).1 = no_front (taken test text).0 (taken test text).1 text t.1 (ap length (sym r) ∙ l) in ap (starts test) e ∙ t.2

run_of_each : (test : ℕ → Bool) (more : List ℕ) → EachIs test more → more ≢ [] → IsRun test test more
run_of_each test [] h some = absurd (some refl)
run_of_each test (b ∷ more) h some = h

-- where less is left, they are a run
pub some_taken : (test : ℕ → Bool) (text rest : List ℕ) → rest ≡ (taken test text).1 → length rest ≢ length text
    → (more : List ℕ) × IsRun test test more × (text ≡ more ++ rest) × (starts test rest ≡ false)
some_taken test text rest r l =
    let t = taken_is test text in
    let e : text ≡ (taken test text).0 ++ rest = t.1 ∙ ap (λ x. (taken test text).0 ++ x) (sym r) in (
      (taken test text).0,
      run_of_each test (taken test text).0 t.0 (λ n. l (sym (ap length (e ∙ ap (λ x. x ++ rest) n)))),
      e,
      ap (starts test) r ∙ t.2,
    )

-- ---- a clock

clock_run : (digits more : List ℕ) → IsRun is_digit is_digit digits → EachIs is_clock_byte more → IsRun is_digit is_clock_byte (digits ++ more)
clock_run [] more h g = absurd h
clock_run (b ∷ digits) more h g = (h.0, each_whole is_clock_byte digits more (each_weaker is_digit is_clock_byte digit_in_clock digits h.1) g)

no_digit_first : (more rest behind : List ℕ) → behind ≡ more ++ rest → starts is_digit behind ≡ false → IsRun is_clock_byte is_clock_byte more
    → EachIs is_digit more → ⊥
no_digit_first [] rest behind e n h g = absurd h
no_digit_first (b ∷ more) rest behind e n h g = not_both (ap (starts is_digit) e ∙ g.0) n

-- digits and more bytes of a clock are one
pub clock_yes : (text behind rest digits more : List ℕ) → IsRun is_digit is_digit digits → text ≡ digits ++ behind → starts is_digit behind ≡ false
    → IsRun is_clock_byte is_clock_byte more → behind ≡ more ++ rest → IsClock (digits ++ more) × (text ≡ (digits ++ more) ++ rest)
clock_yes text behind rest digits more d e n m k = (
  (
    clock_run digits more d (run_each is_clock_byte is_clock_byte (λ b h. h) more m),
    λ each. no_digit_first more rest behind k n m (each_parts is_digit digits more each).1,
  ),
  e ∙ ap (λ x. digits ++ x) k ∙ sym (append_assoc digits more rest),
)

-- digits alone are none
pub clock_only_digits : (text behind digits : List ℕ) → IsRun is_digit is_digit digits → text ≡ digits ++ behind → starts is_clock_byte behind ≡ false
    → (front rest : List ℕ) → IsClock front → text ≡ front ++ rest → starts is_clock_byte rest ≡ false → ⊥
clock_only_digits text behind digits d e n front rest h k m =
    let each = run_each is_digit is_digit (λ b i. i) digits d in
    let s : digits ≡ front = same_run is_clock_byte rest digits front behind rest (each_weaker is_digit is_clock_byte digit_in_clock digits each)
    (clock_each front h) n m (sym e ∙ k) (alike_same rest) in h.1 (subst (EachIs is_digit) s each)

-- a text without a digit at its front has no clock there
pub clock_no_digits : (text : List ℕ) → starts is_digit text ≡ false → (front rest : List ℕ) → IsClock front → text ≡ front ++ rest → ⊥
clock_no_digits text n front rest h e = run_none is_digit is_clock_byte text front rest n h.0 e

-- ---- a time in parentheses

-- what stands behind the spaces of a text that begins so
pub behind_parts : (open_word close_word text rest more inner other : List ℕ) → text ≡ open_word ++ rest → EachIs (is 32) more
    → starts (is 32) (inner ++ (close_word ++ other)) ≡ false → text ≡ (open_word ++ (more ++ (inner ++ close_word))) ++ other
    → after_spaces rest ≡ inner ++ (close_word ++ other)
behind_parts open_word close_word text rest more inner other e hm n k =
    let p : rest ≡ more ++ (inner ++ (close_word ++ other)) =
    append_cancel_left open_word rest (more ++ (inner ++ (close_word ++ other))) (sym e ∙ k ∙ inside open_word close_word more inner other) in
    behind_same rest (after_spaces rest) (inner ++ (close_word ++ other)) (behind_spaces rest) (more, hm, p, n)

-- the same from the parts: what stands between the two words
pub around_parts : (open_word close_word text rest inner left other : List ℕ) → text ≡ open_word ++ rest → after_spaces rest ≡ inner ++ left
    → left ≡ close_word ++ other → (more : List ℕ) × EachIs (is 32) more × (text ≡ (open_word ++ (more ++ (inner ++ close_word))) ++ other)
around_parts open_word close_word text rest inner left other e k l =
    let b = behind_spaces rest in (
      b.0,
      b.1,
      e ∙ ap (λ x. open_word ++ x) (b.2 ∙ ap (λ x. b.0 ++ x) (k ∙ ap (λ x. inner ++ x) l)) ∙ sym (inside open_word close_word b.0 inner other),
    )

since_parts : (text rest front other : List ℕ) → text ≡ codes "(+" ++ rest → (h : IsSince front) → text ≡ front ++ other
    → after_spaces rest ≡ h.1 ++ (codes ")" ++ other)
since_parts text rest front other e h k = behind_parts (codes "(+") (codes ")") text rest h.0 h.1 other e h.2 (clock_no_space h.1 (codes ")" ++ other) h.3)
    (k ∙ ap (λ x. x ++ other) h.4)

-- where no clock stands behind the parenthesis and the spaces, there is no such time
pub since_no_clock : (text rest skipped : List ℕ) → text ≡ codes "(+" ++ rest → skipped ≡ after_spaces rest
    → ((front other : List ℕ) → IsClock front → skipped ≡ front ++ other → starts is_clock_byte other ≡ false → ⊥)
    → (front other : List ℕ) → IsSince front → text ≡ front ++ other → ⊥
since_no_clock text rest skipped e s none front other h k = none h.1 (codes ")" ++ other) h.3 (s ∙ since_parts text rest front other e h k) refl

-- where the clock isn't closed there is none
pub since_no_end : (text rest skipped clock left : List ℕ) → text ≡ codes "(+" ++ rest → skipped ≡ after_spaces rest → IsClock clock
    → skipped ≡ clock ++ left → starts is_clock_byte left ≡ false → ((x : List ℕ) → left ≢ codes ")" ++ x)
    → (front other : List ℕ) → IsSince front → text ≡ front ++ other → ⊥
since_no_end text rest skipped clock left e s hc p n none front other h k =
    let q : clock ++ left ≡ h.1 ++ (codes ")" ++ other) = sym p ∙ s ∙ since_parts text rest front other e h k in
    let r : clock ≡ h.1 = clock_same clock h.1 left (codes ")" ++ other) hc h.3 n refl q in
    none other (append_cancel_left clock left (codes ")" ++ other) (q ∙ ap (λ x. x ++ (codes ")" ++ other)) (sym r)))

-- where it is, there is one
pub since_yes : (text rest skipped clock left x : List ℕ) → text ≡ codes "(+" ++ rest → skipped ≡ after_spaces rest → IsClock clock
    → skipped ≡ clock ++ left → left ≡ codes ")" ++ x → (front : List ℕ) × IsSince front × (text ≡ front ++ x)
since_yes text rest skipped clock left x e s hc p l = let a = around_parts (codes "(+") (codes ")") text rest clock left x e (sym s ∙ p) l in
    (codes "(+" ++ (a.0 ++ (clock ++ codes ")")), (a.0, clock, a.1, hc, refl), a.2)

-- ---- a number or an address in brackets

bracket_parts : (text rest front other : List ℕ) → text ≡ codes "[" ++ rest → (h : IsBracket front) → text ≡ front ++ other
    → after_spaces rest ≡ h.1 ++ (codes "]" ++ other)
bracket_parts text rest front other e h k = behind_parts (codes "[") (codes "]") text rest h.0 h.1 other e h.2 (address_no_space h.1 (codes "]" ++ other) h.3)
    (k ∙ ap (λ x. x ++ other) h.4)

-- where no byte of an address stands behind the bracket and the spaces, there is no such field
pub bracket_no_address : (text rest skipped : List ℕ) → text ≡ codes "[" ++ rest → skipped ≡ after_spaces rest → starts is_address_byte skipped ≡ false
    → (front other : List ℕ) → IsBracket front → text ≡ front ++ other → ⊥
bracket_no_address text rest skipped e s n front other h k =
    run_none is_address_byte is_address_byte skipped h.1 (codes "]" ++ other) n h.3 (s ∙ bracket_parts text rest front other e h k)

-- where the address isn't closed there is none
pub bracket_no_end : (text rest skipped inner left : List ℕ) → text ≡ codes "[" ++ rest → skipped ≡ after_spaces rest
    → IsRun is_address_byte is_address_byte inner → skipped ≡ inner ++ left → starts is_address_byte left ≡ false
    → ((x : List ℕ) → left ≢ codes "]" ++ x) → (front other : List ℕ) → IsBracket front → text ≡ front ++ other → ⊥
bracket_no_end text rest skipped inner left e s hi p n none front other h k =
    let q : inner ++ left ≡ h.1 ++ (codes "]" ++ other) = sym p ∙ s ∙ bracket_parts text rest front other e h k in
    let r : inner ≡ h.1 = same_run is_address_byte (codes "]" ++ other) inner h.1 left (codes "]" ++ other) (address_each inner hi)
    (address_each h.1 h.3) n (close_no_address other) q (alike_same (codes "]" ++ other)) in
    none other (append_cancel_left inner left (codes "]" ++ other) (q ∙ ap (λ x. x ++ (codes "]" ++ other)) (sym r)))

-- where it is, there is one
pub bracket_yes : (text rest skipped inner left x : List ℕ) → text ≡ codes "[" ++ rest → skipped ≡ after_spaces rest
    → IsRun is_address_byte is_address_byte inner → skipped ≡ inner ++ left → left ≡ codes "]" ++ x → (front : List ℕ) × IsBracket front × (text ≡ front ++ x)
bracket_yes text rest skipped inner left x e s hi p l = let a = around_parts (codes "[") (codes "]") text rest inner left x e (sym s ∙ p) l in
    (codes "[" ++ (a.0 ++ (inner ++ codes "]")), (a.0, inner, a.1, hi, refl), a.2)

-- ---- one field

-- where none of the three kinds stands, no field does
pub field_none : (text : List ℕ) → ((front rest : List ℕ) → IsClock front → text ≡ front ++ rest → starts is_clock_byte rest ≡ false → ⊥)
    → ((front rest : List ℕ) → IsSince front → text ≡ front ++ rest → ⊥) → ((front rest : List ℕ) → IsBracket front → text ≡ front ++ rest → ⊥)
    → (front rest : List ℕ) → IsFieldTo front rest → text ≡ front ++ rest → ⊥
field_none text c s b front rest (inl h) e = c front rest h.0 e h.1
field_none text c s b front rest (inr (inl h)) e = s front rest h e
field_none text c s b front rest (inr (inr h)) e = b front rest h e

-- where no space stands behind it, neither
pub field_no_space_behind : (text f left : List ℕ) → IsFieldTo f left → text ≡ f ++ left → ((x : List ℕ) → left ≢ codes " " ++ x)
    → (front rest : List ℕ) → IsField front → text ≡ front ++ (32 ∷ rest) → ⊥
field_no_space_behind text f left hf e none front rest h k =
    let s : f ≡ front = field_to_same f front left (32 ∷ rest) hf (field_to_space front rest h) (sym e ∙ k) in
    none rest (append_cancel_left f left (32 ∷ rest) (sym e ∙ k ∙ ap (λ x. x ++ (32 ∷ rest)) (sym s)))

-- where one does, it is a field
pub field_yes : (text f left x : List ℕ) → IsFieldTo f left → text ≡ f ++ left → left ≡ codes " " ++ x
    → (front : List ℕ) × IsField front × (text ≡ front ++ (32 ∷ x))
field_yes text f left x h e l = (f, field_read f left h, e ∙ ap (λ y. f ++ y) l)

-- ---- a field with the spaces around it

-- where no field stands behind the spaces, the text has none
pub behind_none : (text skipped : List ℕ) → skipped ≡ after_spaces text
    → ((front rest : List ℕ) → IsField front → skipped ≡ front ++ (32 ∷ rest) → ⊥) → (rest : List ℕ) → IsBehindField text rest → ⊥
behind_none text skipped s none rest h =
    let k : after_spaces text ≡ h.1 ++ (32 ∷ h.2) =
    behind_same text (after_spaces text) (h.1 ++ (32 ∷ h.2)) (behind_spaces text) (h.0, h.3, h.5, field_no_space h.1 (32 ∷ h.2) h.4) in none h.1 h.2 h.4 (s ∙ k)

-- where one does, this is left behind it and its spaces
pub behind_yes : (text skipped field left rest : List ℕ) → skipped ≡ after_spaces text → IsField field → skipped ≡ field ++ (32 ∷ left)
    → rest ≡ after_spaces left → IsBehindField text rest
behind_yes text skipped field left rest s h e r =
    let b = behind_spaces text in (b.0, field, left, b.1, h, b.2 ∙ ap (λ x. b.0 ++ x) (sym s ∙ e), subst (IsBehindSpaces left) (sym r) (behind_spaces left))

-- what is left behind a field is shorter
pub behind_shorter : (text rest : List ℕ) → IsBehindField text rest → length rest < length text
behind_shorter text rest h = let a = ap length h.5 ∙ length-append h.0 (h.1 ++ (32 ∷ h.2)) in let b = length-append h.1 (32 ∷ h.2) in
    let c = ap length h.6.2 ∙ length-append h.6.0 rest in omega arith
