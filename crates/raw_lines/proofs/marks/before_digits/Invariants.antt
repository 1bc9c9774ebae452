use Rattle.std.proofs.Common.{◌≡◌, ℕ, List, ◌++◌, length}
use Rattle.line_parts.specs.Leaves.{AllDigits}
use Rattle.raw_lines.proofs.marks.before_digits.Given as goal

-- the text is what is left and digits
abbrev pub invariant-digits : goal.invariant-digits
invariant-digits l = (digits : List ℕ) × AllDigits 10 digits × (l.text ≡ l.left ++ digits)

-- the bytes that are left
abbrev pub decreases-digits : goal.decreases-digits
decreases-digits l = length l.left
