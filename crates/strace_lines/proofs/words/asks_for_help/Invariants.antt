use Rattle.std.proofs.Common.{map, take}
use Rattle.std.specs.String.{string_bytes}
use Rattle.strace_lines.specs.Words.{AskForHelp}
use Rattle.strace_lines.proofs.words.asks_for_help.Given as goal

-- none of the words so far asks for help
abbrev pub invariant-words : goal.invariant-words
invariant-words l = ¬ AskForHelp (map string_bytes (take l.word-index l.words))
