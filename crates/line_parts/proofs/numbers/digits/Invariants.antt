use Rattle.std.proofs.Common.{◌≡◌, ℕ, length}
use Rattle.line_parts.specs.Reading.{digits_of, narrow}
use Rattle.line_parts.proofs.numbers.digits.Given as goal

-- the value is that of a number n, None above 64 bits, and the digits of the rest, behind n, give what those of the
-- text give
abbrev pub invariant-loop-rest : goal.invariant-loop-rest
invariant-loop-rest l = (n : ℕ) × (l.value ≡ narrow n) × (digits_of l.base n l.rest ≡ digits_of l.base 0 l.text)

-- the bytes that are left
abbrev pub decreases-loop-rest : goal.decreases-loop-rest
decreases-loop-rest l = length l.rest
