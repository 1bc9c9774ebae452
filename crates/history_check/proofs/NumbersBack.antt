-- A number that was written is read as this number, whatever stands behind it that is no digit.
use Rattle.std.proofs.Common.{◌≡◌, ℕ, ◌*◌, ◌+◌, ◌^◌, ◌<◌, List, [], ◌∷◌, ◌++◌, Some, decimal, refl, sym, ap, ◌∙◌, arith}
use Rattle.std.proofs.lemmas.Bool.{lt-ltb, le-ltb}
use Rattle.line_parts.specs.Leaves.{worth, AllDigits, NoDigit, Digits, value}
use Rattle.line_parts.specs.Reading.{digits_of}
use Rattle.maps_printer.specs.Numbers.{hex_digits, prefixed_hex}
use Rattle.round_trip.proofs.NumbersRead.{decimal_digits, hex_are_digits}
use Rattle.history_check.specs.Reading.{strip_at, number_at, small_at, page_at}

-- all the digits are taken, and no more
digits_on : (base n : ℕ) (ds rest : List ℕ) → AllDigits base ds → NoDigit base rest → digits_of base n (ds ++ rest) ≡ (value base n ds, rest)
unfolding digits_of
digits_on base n [] [] all none = refl
digits_on base n [] (c ∷ rest) all none = rw (le-ltb (worth c) base none) refl
digits_on base n (d ∷ ds) rest all none = rw (lt-ltb (worth d) base all.0) (digits_on base (n * base + worth d) ds rest all.1 none)

number_back : (base n : ℕ) (ds rest : List ℕ) → Digits base ds n → n < 2 ^ 64 → NoDigit base rest → number_at base (ds ++ rest) ≡ Some (n, rest)
unfolding number_at
number_back base n ds rest all small none =
    let e : digits_of base 0 (ds ++ rest) ≡ (n, rest) = digits_on base 0 ds rest all.1 none ∙ ap (λ v. (v, rest)) (sym all.2) in
    rw e (rw (lt-ltb n (2 ^ 64) small) refl)

-- a count
pub decimal_back : (n : ℕ) (rest : List ℕ) → n < 2 ^ 64 → NoDigit 10 rest → number_at 10 (decimal n ++ rest) ≡ Some (n, rest)
decimal_back n rest small none = number_back 10 n (decimal n) rest (decimal_digits n small) small none

-- a count of 32 bits
pub small_back : (n : ℕ) (rest : List ℕ) → n < 2 ^ 32 → NoDigit 10 rest → small_at (decimal n ++ rest) ≡ Some (n, rest)
unfolding small_at
small_back n rest small none = rw (decimal_back n rest (omega arith) none) (rw (lt-ltb n (2 ^ 32) small) refl)

-- a page or an address
pub page_back : (n : ℕ) (rest : List ℕ) → n < 2 ^ 64 → NoDigit 16 rest → page_at (prefixed_hex n ++ rest) ≡ Some (n, rest)
unfolding page_at strip_at
page_back n rest small none = number_back 16 n (hex_digits n) rest (hex_are_digits n small) small none
