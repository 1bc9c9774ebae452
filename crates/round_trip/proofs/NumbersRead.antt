-- A number that is written is read as the same number: decimal digits, and hexadecimal digits behind 0x.
use Rattle.std.proofs.Common.{◌≡◌, ℕ, ◌+◌, ◌*◌, ◌^◌, ◌<◌, ◌≤◌, List, [], ◌∷◌, ◌++◌, length, decimal, false, refl, sym, ap, ◌∙◌, inl, inr, arith}
use Rattle.std.proofs.lemmas.Fmt.{digits_is_IsNumeral, decimal_is_IsNumeral}
use Rattle.std.proofs.lemmas.Bool.Decides.{nat_tests}
use Rattle.std.specs.Char.{digit_value}
use Rattle.std.specs.Str.Parse.{AllDigits as StdDigits, digits_value_after}
use Rattle.line_parts.specs.declared.refusal.What.{What}
use Rattle.line_parts.specs.Parts.{starts}
use Rattle.line_parts.specs.Leaves.{is, number, worth, AllDigits, NoDigit, value, Digits, No0x}
use Rattle.line_parts.proofs.Numerals.{NoNumeral}
use Rattle.maps_printer.specs.Numbers.{hex_digits}

-- the two readings of a digit agree
worth_is : (c : ℕ) → digit_value c < 16 → worth c ≡ digit_value c
unfolding worth
worth_is c small = grind (arith, nat_tests)

digits_are : (base : ℕ) (ds : List ℕ) → base ≤ 16 → StdDigits base ds → AllDigits base ds
digits_are base [] low h = tt
digits_are base (c ∷ ds) low h = let w = worth_is c (omega (arith, h.0)) in (omega (arith, h.0), digits_are base ds low h.1)

value_is : (base n : ℕ) (ds : List ℕ) → base ≤ 16 → StdDigits base ds → value base n ds ≡ digits_value_after base n ds
value_is base n [] low h = refl
value_is base n (c ∷ ds) low h =
    let w = worth_is c (omega (arith, h.0)) in ap (λ d. value base (n * base + d) ds) w ∙ value_is base (n * base + digit_value c) ds low h.1

-- the digits that are written
pub decimal_digits : (n : ℕ) → n < 2 ^ 64 → Digits 10 (decimal n) n
decimal_digits n small =
    let h = decimal_is_IsNumeral n small in (h.0.0, digits_are 10 (decimal n) (omega arith) h.0.1, sym (value_is 10 0 (decimal n) (omega arith) h.0.1 ∙ h.1))

-- the hexadecimal digits that are written of a number are its digits
pub hex_are_digits : (n : ℕ) → n < 2 ^ 64 → Digits 16 (hex_digits n) n
hex_are_digits n small =
    let h = digits_is_IsNumeral 16 false (omega arith) (omega arith) n (omega arith) in (
      h.0.0,
      digits_are 16 (hex_digits n) (omega arith) h.0.1,
      sym (value_is 16 0 (hex_digits n) (omega arith) h.0.1 ∙ h.1),
    )

-- what ends a number ends its digits
ends_digits : (base : ℕ) (rest : List ℕ) → base ≤ 16 → NoNumeral rest → NoDigit base rest
ends_digits base [] low h = tt
ends_digits base (b ∷ rest) low h = omega (arith, h.0)

x_is_no_digit : 10 ≤ worth 120
unfolding worth
x_is_no_digit = omega arith

-- decimal digits don't go on as 0x does
no_0x : (ds rest : List ℕ) → 0 < length ds → AllDigits 10 ds → NoNumeral rest → No0x (ds ++ rest)
no_0x [] rest some all ends t e = absurd (omega arith)
no_0x (a ∷ []) [] some all ends t e = absurd cc
no_0x (a ∷ []) (b ∷ rest) some all ends t e = ends.1 cc
no_0x (a ∷ b ∷ ds) rest some all ends t e = let x : b ≡ 120 = cc in let w = ap worth x in omega (arith, all.1.0, x_is_no_digit)

-- the decimal digits that are written of a number are read as it, before what may follow a number
pub decimal_takes : (due : What) (n : ℕ) (rest : List ℕ) → n < 2 ^ 64 → NoNumeral rest → (number due).takes (decimal n) rest n
decimal_takes due n rest small ends =
    let h = decimal_digits n small in (inl (h, ends_digits 10 rest (omega arith) ends, no_0x (decimal n) rest h.0 h.1 ends), small)

-- 0x and the hexadecimal digits that are written of a number are read as it, before what may follow a number
pub hex_takes : (due : What) (n : ℕ) (rest : List ℕ) → n < 2 ^ 64 → NoNumeral rest → (number due).takes (48 ∷ 120 ∷ hex_digits n) rest n
hex_takes due n rest small ends = (inr (hex_digits n, refl, hex_are_digits n small, ends_digits 16 rest (omega arith) ends), small)

-- decimal digits begin with no other byte than a digit
digit_first : (ds rest : List ℕ) (b : ℕ) → 0 < length ds → AllDigits 10 ds → 10 ≤ worth b → starts (is b) (ds ++ rest) ≡ false
digit_first [] rest b some all none = absurd (omega arith)
digit_first (d ∷ ds) rest b some all none = grind (arith, nat_tests)

-- the decimal digits of a number don't begin with a space
pub decimal_starts : (n : ℕ) (rest : List ℕ) → n < 2 ^ 64 → starts (is 32) (decimal n ++ rest) ≡ false
unfolding worth
decimal_starts n rest small = let h = decimal_digits n small in digit_first (decimal n) rest 32 h.0 h.1 (omega arith)
