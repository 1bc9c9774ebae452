use Rattle.std.proofs.Common.{◌≡◌, length}
use Rattle.line_parts.specs.Reading.{until_at}
use Rattle.line_parts.proofs.bytes.until.Given as goal

-- until_at gives the same for the rest as for the text
abbrev pub invariant-loop-rest : goal.invariant-loop-rest
invariant-loop-rest l = until_at l.x l.y l.what l.rest ≡ until_at l.x l.y l.what l.text

-- the bytes that are left
abbrev pub decreases-loop-rest : goal.decreases-loop-rest
decreases-loop-rest l = length l.rest
