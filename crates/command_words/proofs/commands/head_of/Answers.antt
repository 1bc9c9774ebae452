use Rattle.std.proofs.Common.{rules, map, drop, refl}
use Rattle.std.specs.String.{string_bytes}
use Rattle.command_words.proofs.CommandLemmas.{not_joined, not_apart}
use Rattle.command_words.proofs.commands.head_of.Goals as goal

-- where a name and a number around `=` are no option, no option begins the words
pub returns-in_err-given-clause-none : goal.returns-in_err-given-clause-none
returns-in_err-given-clause-none c _ = not_joined c.as_str-word.result.now c.in-Some.name.now c.in-Some.value.now (map string_bytes c.in_ok-first.rest.now)
    (map string_bytes c.args.words.now) (search rules) (search rules) (search rules) (search rules) (c.in_err-given.ensures.none refl)

-- where the word is no flag, and no name of the number behind it, no option begins the words
pub returns-in_err-given-2-clause-none : goal.returns-in_err-given-2-clause-none
returns-in_err-given-2-clause-none c _ =
    not_apart c.as_str-word.result.now c.as_str.result.now (map string_bytes (drop 1 c.in_ok-first.rest.now)) (map string_bytes c.args.words.now)
    (search rules) (search rules) (c.in_default-flag.ensures.none refl) (c.in_err-given-2.ensures.none refl)
