use Rattle.std.proofs.Common.{◌≡◌, length, suc}
use Rattle.line_parts.specs.Reading.{list_at}
use Rattle.strace_reader.specs.Reading.{listed_word_at, listed_at}
use Rattle.strace_reader.proofs.arguments.listed.Given as goal

-- the list of the text is the list of what is left, from the bits so far on
abbrev pub invariant-items : goal.invariant-items
invariant-items l = listed_at l.list l.text ≡ list_at (listed_word_at l.list) (suc (length l.left)) l.bits l.left

-- the bytes that are left
abbrev pub decreases-items : goal.decreases-items
decreases-items l = length l.left
