use Rattle.std.proofs.Common.{◌≡◌, length}
use Rattle.line_parts.specs.Reading.{taken}
use Rattle.raw_lines.specs.Fields.{is_clock_byte}
use Rattle.raw_lines.proofs.fields.skip_clock.Given as goal

-- the same is left behind the clock's bytes of the rest as behind those of the text
abbrev pub invariant-clock : goal.invariant-clock
invariant-clock l = (taken is_clock_byte l.rest).1 ≡ (taken is_clock_byte l.text).1

-- the bytes that are left
abbrev pub decreases-clock : goal.decreases-clock
decreases-clock l = length l.rest
