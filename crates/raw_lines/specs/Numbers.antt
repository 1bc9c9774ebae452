-- The number that a text ends with: digits of a base behind a word and a byte that is no digit of it. strace(1) prints
-- results and the numbers of processes so.
use Rattle.std.specs.Prelude.{◌≡◌, ℕ, ◌^◌, ◌<◌, List, ◌∷◌, ◌++◌}
use Rattle.line_parts.specs.Leaves.{Digits}

-- the text ends with this number of 32 bits, behind the word and the byte
abbrev pub EndsInNumber : ℕ → List ℕ → ℕ → List ℕ → ℕ → Type 0
EndsInNumber base word mark text n = (front digits : List ℕ) × Digits base digits n × (n < 2 ^ 32) × (text ≡ front ++ (word ++ (mark ∷ digits)))
