use Rattle.std.proofs.Common.{rules, map}
use Rattle.std.specs.String.{string_bytes}
use Rattle.command_words.specs.Commands.{IsCommand, HasRanges}
use Rattle.command_words.proofs.CommandLemmas.{has_ranges, some_weaker, spells_once, spells_none, one_command, is_answer}
use Rattle.command_words.proofs.commands.command_of.Goals as goal

-- where the options ask for nothing, the words spell no command that could be answered
pub returns-in_err-asked-clause-only : goal.returns-in_err-asked-clause-only
returns-in_err-asked-clause-only c command h =
    absurd (spells_none (string_bytes c.in_ok-name.name.now) (map string_bytes c.in_ok-name.rest.now) (map string_bytes c.args.words.now) (search rules)
    c.in_err-asked.ensures.only command h)

-- so they are refused
pub returns-in_err-asked-clause-refused : goal.returns-in_err-asked-clause-refused
returns-in_err-asked-clause-refused c _ command h =
    spells_none (string_bytes c.in_ok-name.name.now) (map string_bytes c.in_ok-name.rest.now) (map string_bytes c.args.words.now) (search rules)
    c.in_err-asked.ensures.only command h

-- and they ask for one thing at most, as they ask for none
pub returns-in_err-asked-clause-one : goal.returns-in_err-asked-clause-one
returns-in_err-asked-clause-one c first other h _ =
    absurd (spells_none (string_bytes c.in_ok-name.name.now) (map string_bytes c.in_ok-name.rest.now) (map string_bytes c.args.words.now) (search rules)
    c.in_err-asked.ensures.only first h)

-- each command that the words spell is the answer
pub returns-clause-only : goal.returns-clause-only
returns-clause-only c = spells_once c.as_str.result.now (map string_bytes c.in_ok-name.rest.now) (map string_bytes c.args.words.now) c.in_ok-asked.asked
    c.command_named.result (search rules) c.in_ok-asked.ensures.only c.command_named.ensures.only

-- the numbers of the answer are in their ranges
pub returns-clause-in_range : goal.returns-clause-in_range
returns-clause-in_range c = some_weaker c.command_named.result (IsCommand c.as_str.result.now c.in_ok-asked.asked) HasRanges
    (has_ranges c.as_str.result.now (map string_bytes c.in_ok-name.rest.now) c.in_ok-asked.asked c.in_ok-asked.ensures.asked) c.command_named.ensures.is

-- where there is no answer, the words spell no command
pub returns-clause-refused : goal.returns-clause-refused
returns-clause-refused c none command h = is_answer c.command_named.result command
    (spells_once c.as_str.result.now (map string_bytes c.in_ok-name.rest.now) (map string_bytes c.args.words.now) c.in_ok-asked.asked
    c.command_named.result (search rules) c.in_ok-asked.ensures.only c.command_named.ensures.only command h) none

-- two commands that the words spell are both the answer, so they are one
pub returns-clause-one : goal.returns-clause-one
returns-clause-one c first other h k =
    let only = spells_once c.as_str.result.now (map string_bytes c.in_ok-name.rest.now) (map string_bytes c.args.words.now) c.in_ok-asked.asked
    c.command_named.result (search rules) c.in_ok-asked.ensures.only c.command_named.ensures.only in
    one_command c.command_named.result first other (only first h) (only other k)
