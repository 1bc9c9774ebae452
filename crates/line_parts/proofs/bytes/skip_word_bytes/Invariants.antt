use Rattle.std.proofs.Common.{◌≡◌, length}
use Rattle.line_parts.specs.Leaves.{is_word_byte}
use Rattle.line_parts.specs.Reading.{taken}
use Rattle.line_parts.proofs.bytes.skip_word_bytes.Given as goal

-- the same is left behind the word bytes of the rest as behind those of the text
abbrev pub invariant-loop-rest : goal.invariant-loop-rest
invariant-loop-rest l = (taken is_word_byte l.rest).1 ≡ (taken is_word_byte l.text).1

-- the bytes that are left
abbrev pub decreases-loop-rest : goal.decreases-loop-rest
decreases-loop-rest l = length l.rest
