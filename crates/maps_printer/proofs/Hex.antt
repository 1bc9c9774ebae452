-- The digits of a number in lower hexadecimal, one at a time, and how many there are.
use Rattle.std.proofs.Common.{◌≡◌, ◌≢◌, ℕ, zero, suc, ◌+◌, ◌-◌, ◌*◌, ◌/◌, ◌%◌, ◌^◌, ◌<◌, ◌≤◌, false, List, [], ◌∷◌}
use Rattle.std.proofs.Common.{◌++◌, length, arith, refl, sym, ap, ◌∙◌, append_assoc, length-append, replicate, ⊎_elim}
use Rattle.std.proofs.lemmas.Bool.{cases_lt}
use Rattle.std.specs.Fmt.{digits, digits_onto, digit_glyph}
use Rattle.maps_printer.specs.Numbers.{hex_digits, page_address}

abbrev spell : ℕ → ℕ → List ℕ → List ℕ
spell k n acc = digits_onto k 16 false n acc

-- the digits come before what is there already
pub spell-hex : (n : ℕ) → digits_onto 64 16 false n [] ≡ hex_digits n
unfolding digits
spell-hex n = refl

-- the last digit of a number below 16 is its only one
pub spell_only : (k n : ℕ) (acc : List ℕ) → n / 16 ≡ 0 → spell (suc k) n acc ≡ digit_glyph false (n % 16) ∷ acc
spell_only k n acc e = grind arith

-- the last digit of a larger number comes behind those of the rest
pub spell_more : (k n : ℕ) (acc : List ℕ) → n / 16 ≢ 0 → spell (suc k) n acc ≡ spell k (n / 16) (digit_glyph false (n % 16) ∷ acc)
spell_more k n acc e = grind arith

-- a number below a power of 16 has at most as many digits
spell_length : (k j n : ℕ) (acc : List ℕ) → n < 16 ^ suc j → length (spell k n acc) ≤ suc j + length acc
spell_length zero j n acc small = omega arith
spell_length (suc k) zero n acc small = let one : n / 16 ≡ 0 = omega arith in rw (spell_only k n acc one) (omega arith)
spell_length (suc k) (suc j) n acc small = let rest = spell_length k j (n / 16) (digit_glyph false (n % 16) ∷ acc) (omega arith) in grind (arith, rest)

-- a number of 64 bits has at most sixteen
pub length-hex_digits : (n : ℕ) → n < 2 ^ 64 → length (hex_digits n) ≤ 16
length-hex_digits n small = let bound = spell_length 64 15 n [] (omega arith) in omega (arith, ap length (spell-hex n), bound)

-- the digits come before what is there already
spell-append : (k n : ℕ) (acc : List ℕ) → spell k n acc ≡ spell k n [] ++ acc
spell-append zero n acc = refl
spell-append (suc k) n acc = ⊎_elim (λ small. let e : n / 16 ≡ 0 = omega arith in spell_only k n acc e ∙ ap (λ l. l ++ acc) (sym (spell_only k n [] e)))
    (λ large.
    let e : n / 16 ≢ 0 = omega arith in let last = digit_glyph false (n % 16) in
    spell_more k n acc e ∙ spell-append k (n / 16) (last ∷ acc) ∙ sym (append_assoc (spell k (n / 16) []) (last ∷ []) acc)
    ∙ ap (λ l. l ++ acc) (sym (spell_more k n [] e ∙ spell-append k (n / 16) (last ∷ [])))) (cases_lt n 16)

-- how many digits are allowed doesn't matter once it is enough
spell_enough : (j k n : ℕ) (acc : List ℕ) → n < 16 ^ suc j → n < 16 ^ suc k → spell (suc j) n acc ≡ spell (suc k) n acc
spell_enough zero k n acc p q = let e : n / 16 ≡ 0 = omega arith in spell_only zero n acc e ∙ sym (spell_only k n acc e)
spell_enough (suc j) zero n acc p q = let e : n / 16 ≡ 0 = omega arith in spell_only (suc j) n acc e ∙ sym (spell_only zero n acc e)
spell_enough (suc j) (suc k) n acc p q = ⊎_elim (λ small. let e : n / 16 ≡ 0 = omega arith in spell_only (suc j) n acc e ∙ sym (spell_only (suc k) n acc e))
    (λ large.
    let e : n / 16 ≢ 0 = omega arith in
    spell_more (suc j) n acc e ∙ spell_enough j k (n / 16) (digit_glyph false (n % 16) ∷ acc) (omega arith) (omega arith) ∙ sym (spell_more (suc k) n acc e))
    (cases_lt n 16)

-- a number times 16 has one digit more, a zero
hex_digits-times_16 : (n : ℕ) → 0 < n → n < 2 ^ 80 → hex_digits (n * 16) ≡ hex_digits n ++ 48 ∷ []
hex_digits-times_16 n some small =
    let rest : n * 16 / 16 ≡ n = omega arith in let last : n * 16 % 16 ≡ 0 = omega arith in
    sym (spell-hex (n * 16)) ∙ spell_more 63 (n * 16) [] (omega arith) ∙ (λ i. spell 63 (rest i) (digit_glyph false (last i) ∷ []))
    ∙ spell_enough 62 63 n (48 ∷ []) (omega arith) (omega arith) ∙ spell-append 64 n (48 ∷ []) ∙ ap (λ l. l ++ 48 ∷ []) (spell-hex n)

-- the address of a page is the page's number and three zeros
pub hex_digits-page : (page : ℕ) → 0 < page → page < 2 ^ 64 → hex_digits (page * 4096) ≡ hex_digits page ++ 48 ∷ 48 ∷ 48 ∷ []
hex_digits-page page some small =
    let e : page * 4096 ≡ page * 16 * 16 * 16 = omega arith in
    ap hex_digits e ∙ hex_digits-times_16 (page * 16 * 16) (omega arith) (omega arith)
    ∙ ap (λ l. l ++ 48 ∷ []) (hex_digits-times_16 (page * 16) (omega arith) (omega arith)
    ∙ ap (λ l. l ++ 48 ∷ []) (hex_digits-times_16 page some (omega arith))) ∙ append_assoc (hex_digits page ++ 48 ∷ []) (48 ∷ []) (48 ∷ [])
    ∙ append_assoc (hex_digits page) (48 ∷ []) (48 ∷ 48 ∷ [])

-- the address of a page with at least eight digits: zeros, the page's number, and three zeros
pub page_address_parts : (page : ℕ) → page < 2 ^ 64 → page_address page ≡ (replicate (5 - length (hex_digits page)) 48 ++ hex_digits page) ++ 48 ∷ 48 ∷ 48 ∷ []
unfolding digits
page_address_parts zero small = refl
page_address_parts (suc k) small =
    let h = hex_digits (suc k) in let e = hex_digits-page (suc k) (omega arith) small in
    let n : 8 - length (h ++ 48 ∷ 48 ∷ 48 ∷ []) ≡ 5 - length h = simp length-append (omega arith) in
    ap (λ l. replicate (8 - length l) 48 ++ l) e ∙ ap (λ m. replicate m 48 ++ (h ++ 48 ∷ 48 ∷ 48 ∷ [])) n
    ∙ sym (append_assoc (replicate (5 - length h) 48) h (48 ∷ 48 ∷ 48 ∷ []))
