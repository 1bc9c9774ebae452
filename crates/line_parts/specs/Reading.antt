-- Reading from left to right, up to the first refusal: what the functions of src/ compute, as functions on lists.
-- What is right is not said here but in Parts and Leaves; lemmas of proofs/ show that these functions read those parts.
use Rattle.std.specs.Prelude.{◌≡◌, ℕ, ◌+◌, ◌*◌, ◌^◌, zero, suc, List, [], ◌∷◌, length, Bool, Option, Some, None, Result, Ok, Err, nat_lt, ◌==◌, if◌then◌else◌}
use Rattle.line_parts.specs.declared.refusal.Refusal.{Refusal}
use Rattle.line_parts.specs.declared.refusal.What.{What}
use Rattle.line_parts.specs.declared.refusal.What.TheVariants.{Wide, Comma}
use Rattle.std.specs.Int.RustNames.{bit_or}
use Rattle.line_parts.specs.Parts.{starts}
use Rattle.line_parts.specs.Leaves.{worth, is, is_digit}

infixl 10 ◌>>=◌
abbrev pub ◌>>=◌ : {A B : Type 0} → Result A Refusal → (A → Result B Refusal) → Result B Refusal
(Ok x) >>= f = f x
(Err e) >>= f = Err e

-- What a function returned, seen by view, is what reading gives.
abbrev pub Gives : {X Y : Type 0} → (X → Y) → Result X Refusal → Result Y Refusal → Type 0
Gives view (Ok x) read = read ≡ Ok (view x)
Gives view (Err e) read = read ≡ Err e

-- the refusal where this text is left
abbrev pub refusal_at : List ℕ → What → Refusal
refusal_at text w = record { left = length text; what = w }

-- one byte
unfoldable pub byte_at : ℕ → What → List ℕ → Result (Unit {0} × List ℕ) Refusal
byte_at b w [] = Err (refusal_at [] w)
byte_at b w (c ∷ rest) = if c == b then Ok (tt, rest) else Err (refusal_at (c ∷ rest) w)

-- the bytes of a text
unfoldable pub letters_at : List ℕ → What → List ℕ → Result (Unit {0} × List ℕ) Refusal
letters_at [] w text = Ok (tt, text)
letters_at (b ∷ word) w text = byte_at b w text >>= λ u. letters_at word w u.1

-- the bytes at the front that pass the test, and the others
unfoldable pub taken : (ℕ → Bool) → List ℕ → List ℕ × List ℕ
taken test [] = ([], [])
taken test (c ∷ rest) = if test c then (c ∷ (taken test rest).0, (taken test rest).1) else ([], c ∷ rest)

-- the text behind its spaces
unfoldable pub after_spaces : List ℕ → List ℕ
after_spaces text = (taken (is 32) text).1

-- a run of bytes
unfoldable pub run_at : (ℕ → Bool) → (ℕ → Bool) → What → List ℕ → Result (List ℕ × List ℕ) Refusal
run_at first later w [] = Err (refusal_at [] w)
run_at first later w (c ∷ rest) = if first c then Ok (c ∷ (taken later rest).0, (taken later rest).1) else Err (refusal_at (c ∷ rest) w)

-- the text behind a run of digits
unfoldable pub digits_end : What → List ℕ → Result (Unit {0} × List ℕ) Refusal
digits_end due text = run_at is_digit is_digit due text >>= λ x. Ok (tt, x.1)

-- The digits are taken while they come, behind a number n: the number with them, and the text that is left.
unfoldable pub digits_of : ℕ → ℕ → List ℕ → ℕ × List ℕ
digits_of base n [] = (n, [])
digits_of base n (c ∷ rest) = if nat_lt (worth c) base then digits_of base (n * base + worth c) rest else (n, c ∷ rest)

-- a number of at most 64 bits, where it is one
unfoldable pub narrow : ℕ → Option ℕ
narrow n = if nat_lt n (2 ^ 64) then Some n else None

-- the text behind 0x
unfoldable pub behind_0x : List ℕ → Option (List ℕ)
behind_0x [] = None
behind_0x (a ∷ []) = None
behind_0x (a ∷ b ∷ rest) = if a == 48 then if b == 120 then Some rest else None else None

abbrev pub digits_read : What → List ℕ → List ℕ → ℕ × List ℕ → Result (ℕ × List ℕ) Refusal
digits_read due text digits r = if length r.1 == length digits then Err (refusal_at digits due)
    else if nat_lt r.0 (2 ^ 64) then Ok r
    else Err (refusal_at text Wide)

abbrev pub number_from : What → List ℕ → Option (List ℕ) → Result (ℕ × List ℕ) Refusal
number_from due text None = digits_read due text text (digits_of 10 0 text)
number_from due text (Some digits) = digits_read due text digits (digits_of 16 0 digits)

-- a number
unfoldable pub number_at : What → List ℕ → Result (ℕ × List ℕ) Refusal
number_at due text = number_from due text (behind_0x text)

-- the text behind the first x that a y follows
unfoldable pub until_at : ℕ → ℕ → What → List ℕ → Result (Unit {0} × List ℕ) Refusal
until_at x y w [] = Err (refusal_at [] w)
until_at x y w (c ∷ rest) = if c == x then if starts (is y) rest then Ok (tt, rest) else until_at x y w rest else until_at x y w rest

-- the end
unfoldable pub end_at : {A : Type 0} → What → A → List ℕ → Result (A × List ℕ) Refusal
end_at w v [] = Ok (v, [])
end_at w v (c ∷ rest) = Err (refusal_at (c ∷ rest) w)

-- the text behind its first byte
abbrev pub behind_first : List ℕ → List ℕ
behind_first [] = []
behind_first (b ∷ text) = text

-- behind an item of a list: on with the next, or not
abbrev pub list_next : (ℕ → List ℕ → Result (Option ℕ × List ℕ) Refusal) → ℕ → Option ℕ → List ℕ → Result (Option ℕ × List ℕ) Refusal
list_next on bits None rest = Ok (None, rest)
list_next on bits (Some n) rest = if starts (is 124) rest then on (bit_or bits n) (behind_first rest) else Ok (Some (bit_or bits n), rest)

-- a list of at most k items
unfoldable pub list_at : (List ℕ → Result (Option ℕ × List ℕ) Refusal) → ℕ → ℕ → List ℕ → Result (Option ℕ × List ℕ) Refusal
list_at item zero bits text = Err (refusal_at text Comma)
list_at item (suc k) bits text = item text >>= λ x. list_next (list_at item k) bits x.0 x.1
