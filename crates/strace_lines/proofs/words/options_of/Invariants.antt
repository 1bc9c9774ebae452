use Rattle.std.proofs.Common.{length, map, ℕ, Bool, Option}
use Rattle.std.specs.String.{string_bytes}
use Rattle.strace_lines.specs.Words.{AskToRewrite}
use Rattle.strace_lines.proofs.WordLemmas.{LeftOver}
use Rattle.strace_lines.proofs.words.options_of.Given as goal

-- what was asked for so far, with what the rest of the words ask for, is what all of them ask for
abbrev pub invariant-options : goal.invariant-options
invariant-options l = record {
  to : (process : Option ℕ) (strict : Bool) → LeftOver l.options (map string_bytes l.rest) process strict
      → AskToRewrite (map string_bytes l.words) process strict;
  from : (process : Option ℕ) (strict : Bool) → AskToRewrite (map string_bytes l.words) process strict
      → LeftOver l.options (map string_bytes l.rest) process strict;
}

-- the rest becomes shorter with each turn
abbrev pub decreases-options : goal.decreases-options
decreases-options l = length l.rest
