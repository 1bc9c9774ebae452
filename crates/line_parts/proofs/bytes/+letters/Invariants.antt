use Rattle.std.proofs.Common.{length}
use Rattle.line_parts.proofs.bytes.+letters.Given as goal

-- the bytes of the word that are still due
abbrev pub decreases-letters : goal.decreases-letters
decreases-letters l = length l.word.now
