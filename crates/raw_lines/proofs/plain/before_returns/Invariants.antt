use Rattle.std.proofs.Common.{◌≡◌, ℕ, List, ◌++◌, length}
use Rattle.line_parts.specs.Leaves.{is, EachIs}
use Rattle.raw_lines.proofs.plain.before_returns.Given as goal

-- the text is what is left and carriage returns
abbrev pub invariant-returns : goal.invariant-returns
invariant-returns l = (returns : List ℕ) × EachIs (is 13) returns × (l.text ≡ l.left ++ returns)

-- the bytes that are left
abbrev pub decreases-returns : goal.decreases-returns
decreases-returns l = length l.left
