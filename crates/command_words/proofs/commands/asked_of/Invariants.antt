-- What was asked for so far, with what the rest of the words ask for, is what all of them ask for.
use Rattle.std.proofs.Common.{length, map}
use Rattle.std.specs.String.{string_bytes}
use Rattle.command_words.specs.Commands.{DoAsk}
use Rattle.command_words.specs.declared.commands.Asked.{Asked}
use Rattle.command_words.proofs.CommandLemmas.{LeftOver}
use Rattle.command_words.proofs.commands.asked_of.Given as goal

-- what holds before each turn, in both directions
abbrev pub invariant-loop-rest : goal.invariant-loop-rest
invariant-loop-rest l = record {
  to : (after : Asked) → LeftOver l.asked (map string_bytes l.rest) after → DoAsk (map string_bytes l.words) after;
  from : (after : Asked) → DoAsk (map string_bytes l.words) after → LeftOver l.asked (map string_bytes l.rest) after;
}

-- the rest becomes shorter with each turn
abbrev pub decreases-loop-rest : goal.decreases-loop-rest
decreases-loop-rest l = length l.rest
