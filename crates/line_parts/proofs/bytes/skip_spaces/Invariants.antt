use Rattle.std.proofs.Common.{◌≡◌, length}
use Rattle.line_parts.specs.Leaves.{is}
use Rattle.line_parts.specs.Reading.{taken}
use Rattle.line_parts.proofs.bytes.skip_spaces.Given as goal

-- the same is left behind the spaces of the rest as behind those of the text
abbrev pub invariant-loop-rest : goal.invariant-loop-rest
invariant-loop-rest l = (taken (is 32) l.rest).1 ≡ (taken (is 32) l.text).1

-- the bytes that are left
abbrev pub decreases-loop-rest : goal.decreases-loop-rest
decreases-loop-rest l = length l.rest
