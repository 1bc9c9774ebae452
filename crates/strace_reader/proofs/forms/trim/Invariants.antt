use Rattle.std.proofs.Common.{◌≡◌, ℕ, List, ◌++◌, length}
use Rattle.line_parts.specs.Leaves.{is, EachIs}
use Rattle.strace_reader.proofs.forms.trim.Given as goal

-- the text is what is left and spaces
abbrev pub invariant-loop-front : goal.invariant-loop-front
invariant-loop-front l = (spaces : List ℕ) × EachIs (is 32) spaces × (l.text ≡ l.left ++ spaces)

-- the bytes that are left
abbrev pub decreases-loop-front : goal.decreases-loop-front
decreases-loop-front l = length l.left
