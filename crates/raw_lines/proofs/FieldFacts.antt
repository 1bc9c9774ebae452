-- Fields stand in one way: a text begins with one field at most, and there is one text behind all its fields.
use Rattle.std.proofs.Common.{◌≡◌, ℕ, List, [], ◌∷◌, ◌++◌, codes, Bool, true, false, refl, sym, ap, subst, ◌∙◌, append_assoc, inl, inr, arith}
use Rattle.std.proofs.lemmas.List.{append_cancel_left}
use Rattle.line_parts.specs.Parts.{starts}
use Rattle.line_parts.specs.Leaves.{is, EachIs, IsRun, is_digit, worth}
use Rattle.line_parts.proofs.Leaves.{same_run, same_is}
use Rattle.line_parts.proofs.Sequence.{alike_same}
use Rattle.strace_reader.specs.Grammar.{IsBehindSpaces}
use Rattle.strace_reader.proofs.FormFacts.{behind_same}
use Rattle.raw_lines.proofs.Searches.{first_byte}
use Rattle.raw_lines.specs.Fields.{is_clock_byte, is_address_byte, IsClock, IsSince, IsBracket, IsField, IsFieldTo, IsBehindField}
use Rattle.raw_lines.specs.Fields.{AreFields, last_field, one_field}

-- ---- runs

-- a digit is a byte of a clock
pub digit_in_clock : (b : ℕ) → is_digit b ≡ true → is_clock_byte b ≡ true
digit_in_clock b h = rw h refl

-- all bytes of a run pass its second test
pub run_each : (first later : ℕ → Bool) → ((b : ℕ) → first b ≡ true → later b ≡ true) → (text : List ℕ) → IsRun first later text → EachIs later text
run_each first later weaker [] h = absurd h
run_each first later weaker (b ∷ text) h = (weaker b h.0, h.1)

-- all bytes of a clock are such bytes
pub clock_each : (clock : List ℕ) → IsClock clock → EachIs is_clock_byte clock
clock_each clock h = run_each is_digit is_clock_byte digit_in_clock clock h.0

-- all bytes of an address are such bytes
pub address_each : (inner : List ℕ) → IsRun is_address_byte is_address_byte inner → EachIs is_address_byte inner
address_each inner h = run_each is_address_byte is_address_byte (λ b k. k) inner h

-- two clocks before bytes that are none of a clock are one
pub clock_same : (f g r s : List ℕ) → IsClock f → IsClock g → starts is_clock_byte r ≡ false → starts is_clock_byte s ≡ false → f ++ r ≡ g ++ s → f ≡ g
clock_same f g r s hf hg nr ns e = same_run is_clock_byte s f g r s (clock_each f hf) (clock_each g hg) nr ns e (alike_same s)

digit_no_space : (b : ℕ) (x : Bool) → is 32 b ≡ x → is_digit b ≡ true → x ≡ false
digit_no_space b true e h = let k = ap is_digit (same_is 32 b e) in absurd cc
digit_no_space b false e h = refl

-- a clock begins with a digit, so with no space
pub clock_no_space : (clock rest : List ℕ) → IsClock clock → starts (is 32) (clock ++ rest) ≡ false
clock_no_space [] rest h = absurd h.0
clock_no_space (b ∷ clock) rest h = digit_no_space b (is 32 b) refl h.0.0

address_byte_no_space : (b : ℕ) (x : Bool) → is 32 b ≡ x → is_address_byte b ≡ true → x ≡ false
unfolding worth
address_byte_no_space b true e h = let k = ap is_address_byte (same_is 32 b e) in absurd cc
address_byte_no_space b false e h = refl

-- an address begins with no space
pub address_no_space : (inner rest : List ℕ) → IsRun is_address_byte is_address_byte inner → starts (is 32) (inner ++ rest) ≡ false
address_no_space [] rest h = absurd h
address_no_space (b ∷ inner) rest h = address_byte_no_space b (is 32 b) refl h.0

-- ---- one field

-- spaces before texts that don't begin with one are the same, and so are the texts
spaces_same : (m n a b : List ℕ) → EachIs (is 32) m → EachIs (is 32) n → starts (is 32) a ≡ false → starts (is 32) b ≡ false
    → m ++ a ≡ n ++ b → (m ≡ n) × (a ≡ b)
spaces_same m n a b hm hn na nb e =
    let s = same_run (is 32) b m n a b hm hn na nb e (alike_same b) in (s, append_cancel_left m a b (e ∙ ap (λ x. x ++ b) (sym s)))

-- what stands between two words and a rest
pub inside : (open_word close_word m c r : List ℕ) → (open_word ++ (m ++ (c ++ close_word))) ++ r ≡ open_word ++ (m ++ (c ++ (close_word ++ r)))
inside open_word close_word m c r = append_assoc open_word (m ++ (c ++ close_word)) r
    ∙ ap (λ x. open_word ++ x) (append_assoc m (c ++ close_word) r ∙ ap (λ x. m ++ x) (append_assoc c close_word r))

-- the end of a bracket is no byte of an address
pub close_no_address : (r : List ℕ) → starts is_address_byte (codes "]" ++ r) ≡ false
unfolding worth
close_no_address r = refl

since_same : (f g r s : List ℕ) → IsSince f → IsSince g → f ++ r ≡ g ++ s → f ≡ g
since_same f g r s hf hg e =
    let m = hf.0 in let c = hf.1 in let n = hg.0 in let d = hg.1 in
    let k : codes "(+" ++ (m ++ (c ++ (codes ")" ++ r))) ≡ codes "(+" ++ (n ++ (d ++ (codes ")" ++ s))) =
    sym (inside (codes "(+") (codes ")") m c r) ∙ ap (λ x. x ++ r) (sym hf.4) ∙ e ∙ ap (λ x. x ++ s) hg.4 ∙ inside (codes "(+") (codes ")") n d s in
    let l = append_cancel_left (codes "(+") (m ++ (c ++ (codes ")" ++ r))) (n ++ (d ++ (codes ")" ++ s))) k in
    let t = spaces_same m n (c ++ (codes ")" ++ r)) (d ++ (codes ")" ++ s)) hf.2 hg.2
    (clock_no_space c (codes ")" ++ r) hf.3) (clock_no_space d (codes ")" ++ s) hg.3) l in
    let u : c ≡ d = clock_same c d (codes ")" ++ r) (codes ")" ++ s) hf.3 hg.3 refl refl t.1 in
    hf.4 ∙ ap (λ x. codes "(+" ++ (x ++ (c ++ codes ")"))) t.0 ∙ ap (λ x. codes "(+" ++ (n ++ (x ++ codes ")"))) u ∙ sym hg.4

bracket_same : (f g r s : List ℕ) → IsBracket f → IsBracket g → f ++ r ≡ g ++ s → f ≡ g
bracket_same f g r s hf hg e =
    let m = hf.0 in let c = hf.1 in let n = hg.0 in let d = hg.1 in
    let k : codes "[" ++ (m ++ (c ++ (codes "]" ++ r))) ≡ codes "[" ++ (n ++ (d ++ (codes "]" ++ s))) =
    sym (inside (codes "[") (codes "]") m c r) ∙ ap (λ x. x ++ r) (sym hf.4) ∙ e ∙ ap (λ x. x ++ s) hg.4 ∙ inside (codes "[") (codes "]") n d s in
    let l = append_cancel_left (codes "[") (m ++ (c ++ (codes "]" ++ r))) (n ++ (d ++ (codes "]" ++ s))) k in
    let t = spaces_same m n (c ++ (codes "]" ++ r)) (d ++ (codes "]" ++ s)) hf.2 hg.2
    (address_no_space c (codes "]" ++ r) hf.3) (address_no_space d (codes "]" ++ s) hg.3) l in
    let u : c ≡ d = same_run is_address_byte (codes "]" ++ s) c d (codes "]" ++ r) (codes "]" ++ s)
    (address_each c hf.3) (address_each d hg.3) (close_no_address r) (close_no_address s) t.1 (alike_same (codes "]" ++ s)) in
    hf.4 ∙ ap (λ x. codes "[" ++ (x ++ (c ++ codes "]"))) t.0 ∙ ap (λ x. codes "[" ++ (n ++ (x ++ codes "]"))) u ∙ sym hg.4

-- fields of two kinds differ in their first byte
clock_or : (b : ℕ) (f r rest : List ℕ) → IsClock f → is_digit b ≡ false → f ++ r ≡ b ∷ rest → ⊥
clock_or b [] r rest h none e = absurd h.0
clock_or b (c ∷ f) r rest h none e = let k : c ≡ b = cc in let l = ap is_digit k in cc

since_first : (f r : List ℕ) → IsSince f → (rest : List ℕ) × (f ++ r ≡ 40 ∷ rest)
since_first f r h = ((43 ∷ (h.0 ++ (h.1 ++ codes ")"))) ++ r, ap (λ x. x ++ r) h.4)

bracket_first : (f r : List ℕ) → IsBracket f → (rest : List ℕ) × (f ++ r ≡ 91 ∷ rest)
bracket_first f r h = ((h.0 ++ (h.1 ++ codes "]")) ++ r, ap (λ x. x ++ r) h.4)

clock_or_since : (f g r s : List ℕ) → IsClock f → IsSince g → f ++ r ≡ g ++ s → ⊥
clock_or_since f g r s h k e = let p = since_first g s k in clock_or 40 f r p.0 h refl (e ∙ p.1)

clock_or_bracket : (f g r s : List ℕ) → IsClock f → IsBracket g → f ++ r ≡ g ++ s → ⊥
clock_or_bracket f g r s h k e = let p = bracket_first g s k in clock_or 91 f r p.0 h refl (e ∙ p.1)

since_or_bracket : (f g r s : List ℕ) → IsSince f → IsBracket g → f ++ r ≡ g ++ s → ⊥
since_or_bracket f g r s h k e =
    let p = since_first f r h in let q = bracket_first g s k in let n : ◌≡◌ {A = ℕ} 40 91 = ap first_byte (sym p.1 ∙ e ∙ q.1) in omega arith

-- a text begins with one field that is read to its end
pub field_to_same : (f g r s : List ℕ) → IsFieldTo f r → IsFieldTo g s → f ++ r ≡ g ++ s → f ≡ g
field_to_same f g r s (inl h) (inl k) e = clock_same f g r s h.0 k.0 h.1 k.1 e
field_to_same f g r s (inl h) (inr (inl k)) e = absurd (clock_or_since f g r s h.0 k e)
field_to_same f g r s (inl h) (inr (inr k)) e = absurd (clock_or_bracket f g r s h.0 k e)
field_to_same f g r s (inr (inl h)) (inl k) e = absurd (clock_or_since g f s r k.0 h (sym e))
field_to_same f g r s (inr (inl h)) (inr (inl k)) e = since_same f g r s h k e
field_to_same f g r s (inr (inl h)) (inr (inr k)) e = absurd (since_or_bracket f g r s h k e)
field_to_same f g r s (inr (inr h)) (inl k) e = absurd (clock_or_bracket g f s r k.0 h (sym e))
field_to_same f g r s (inr (inr h)) (inr (inl k)) e = absurd (since_or_bracket g f s r k h (sym e))
field_to_same f g r s (inr (inr h)) (inr (inr k)) e = bracket_same f g r s h k e

-- a field before a space is read to its end
pub field_to_space : (f r : List ℕ) → IsField f → IsFieldTo f (32 ∷ r)
field_to_space f r (inl h) = inl (h, refl)
field_to_space f r (inr h) = inr h

-- what is read to its end is a field
pub field_read : (f r : List ℕ) → IsFieldTo f r → IsField f
field_read f r (inl h) = inl h.0
field_read f r (inr h) = inr h

-- a field begins with no space
pub field_no_space : (f r : List ℕ) → IsField f → starts (is 32) (f ++ r) ≡ false
field_no_space f r (inl h) = clock_no_space f r h
field_no_space f r (inr (inl h)) = let p = since_first f r h in ap (starts (is 32)) p.1
field_no_space f r (inr (inr h)) = let p = bracket_first f r h in ap (starts (is 32)) p.1

-- there is one text behind a field
pub behind_field_same : (text a b : List ℕ) → IsBehindField text a → IsBehindField text b → a ≡ b
behind_field_same text a b h g =
    let t = spaces_same h.0 g.0 (h.1 ++ (32 ∷ h.2)) (g.1 ++ (32 ∷ g.2)) h.3 g.3
    (field_no_space h.1 (32 ∷ h.2) h.4) (field_no_space g.1 (32 ∷ g.2) g.4) (sym h.5 ∙ g.5) in
    let f = field_to_same h.1 g.1 (32 ∷ h.2) (32 ∷ g.2) (field_to_space h.1 h.2 h.4) (field_to_space g.1 g.2 g.4) t.1 in
    let k : 32 ∷ h.2 ≡ 32 ∷ g.2 = append_cancel_left h.1 (32 ∷ h.2) (32 ∷ g.2) (t.1 ∙ ap (λ x. x ++ (32 ∷ g.2)) (sym f)) in
    let l : h.2 ≡ g.2 = cc in behind_same g.2 a b (subst (λ x. IsBehindSpaces x a) l h.6) g.6

-- there is one text behind all fields
pub fields_same : (text a b : List ℕ) → AreFields text a → AreFields text b → a ≡ b
fields_same text a b (last_field none) (last_field other) = refl
fields_same text a b (last_field none) (one_field h more) = absurd (none _ h)
fields_same text a b (one_field h more) (last_field none) = absurd (none _ h)
fields_same text a b (one_field {behind = x} h more) (one_field {behind = y} g other) =
    let e = behind_field_same text x y h g in fields_same y a b (subst (λ z. AreFields z a) e more) other

-- what stands behind a field is what is left when its bytes and those around it are taken away
pub behind_field_front : (text rest : List ℕ) → IsBehindField text rest → (skipped : List ℕ) × (text ≡ skipped ++ rest)
behind_field_front text rest h =
    let spaces = h.6.0 in
    let k : 32 ∷ h.2 ≡ (32 ∷ spaces) ++ rest = ap (λ x. 32 ∷ x) h.6.2 in (
      h.0 ++ (h.1 ++ (32 ∷ spaces)),
      h.5 ∙ ap (λ x. h.0 ++ (h.1 ++ x)) k ∙ ap (λ x. h.0 ++ x) (sym (append_assoc h.1 (32 ∷ spaces) rest)) ∙ sym (append_assoc h.0 (h.1 ++ (32 ∷ spaces)) rest),
    )

-- and so is what stands behind all fields
pub fields_front : (text rest : List ℕ) → AreFields text rest → (skipped : List ℕ) × (text ≡ skipped ++ rest)
fields_front text rest (last_field none) = ([], refl)
fields_front text rest (one_field {behind = x} h more) =
    let k = behind_field_front text x h in let l = fields_front x rest more in (k.0 ++ l.0, k.1 ∙ ap (λ y. k.0 ++ y) l.1 ∙ sym (append_assoc k.0 l.0 rest))
