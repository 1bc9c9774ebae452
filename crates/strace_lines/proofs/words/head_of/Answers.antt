use Rattle.std.proofs.Common.{rules, map, drop}
use Rattle.std.specs.String.{string_bytes}
use Rattle.strace_lines.proofs.WordLemmas.{apart_begins}
use Rattle.strace_lines.proofs.words.head_of.Goals as goal

-- the name of a process and the number behind it are an option
pub returns-clause-begins : goal.returns-clause-begins
returns-clause-begins c =
    apart_begins c.as_str-word.result.now c.as_str.result.now (map string_bytes (drop 1 c.in_ok-first.rest.now)) (map string_bytes c.args.words.now)
    c.in_ok-process-2.process (search rules) (search rules) c.in_ok-process-2.ensures.is (search rules)
