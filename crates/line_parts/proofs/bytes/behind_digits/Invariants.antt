use Rattle.std.proofs.Common.{◌≡◌, length}
use Rattle.line_parts.specs.Leaves.{is_digit}
use Rattle.line_parts.specs.Reading.{taken}
use Rattle.line_parts.proofs.bytes.behind_digits.Given as goal

-- the same is left behind the digits of the rest as behind those of the text
abbrev pub invariant-loop-rest : goal.invariant-loop-rest
invariant-loop-rest l = (taken is_digit l.rest).1 ≡ (taken is_digit l.text).1

-- the bytes that are left
abbrev pub decreases-loop-rest : goal.decreases-loop-rest
decreases-loop-rest l = length l.rest
