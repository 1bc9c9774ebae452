use Rattle.std.proofs.Common.{◌≡◌, length}
use Rattle.line_parts.specs.Reading.{taken}
use Rattle.raw_lines.specs.Beginnings.{is_name_byte}
use Rattle.raw_lines.proofs.beginnings.skip_name.Given as goal

-- the same is left behind the name bytes of the rest as behind those of the text
abbrev pub invariant-name : goal.invariant-name
invariant-name l = (taken is_name_byte l.rest).1 ≡ (taken is_name_byte l.text).1

-- the bytes that are left
abbrev pub decreases-name : goal.decreases-name
decreases-name l = length l.rest
