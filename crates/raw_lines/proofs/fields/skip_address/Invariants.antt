use Rattle.std.proofs.Common.{◌≡◌, length}
use Rattle.line_parts.specs.Reading.{taken}
use Rattle.raw_lines.specs.Fields.{is_address_byte}
use Rattle.raw_lines.proofs.fields.skip_address.Given as goal

-- the same is left behind the address's bytes of the rest as behind those of the text
abbrev pub invariant-address : goal.invariant-address
invariant-address l = (taken is_address_byte l.rest).1 ≡ (taken is_address_byte l.text).1

-- the bytes that are left
abbrev pub decreases-address : goal.decreases-address
decreases-address l = length l.rest
