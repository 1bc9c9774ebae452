use Rattle.std.proofs.Common.{ℕ, List, length}
use Rattle.raw_lines.specs.Fields.{AreFields}
use Rattle.raw_lines.proofs.fields.skip_fields.Given as goal

-- what is left behind the fields of the rest is left behind those of the text
abbrev pub invariant-fields : goal.invariant-fields
invariant-fields l = (rest : List ℕ) → AreFields l.left rest → AreFields l.text rest

-- the bytes that are left
abbrev pub decreases-fields : goal.decreases-fields
decreases-fields l = length l.left
