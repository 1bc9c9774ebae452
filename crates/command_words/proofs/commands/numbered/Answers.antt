use Rattle.std.proofs.Common.{rules, refl}
use Rattle.command_words.proofs.CommandLemmas.{not_named, not_in_range}
use Rattle.command_words.proofs.commands.numbered.Goals as goal

-- where no option that takes this number has the name, the two are no option
pub returns-in_err-given-clause-none : goal.returns-in_err-given-clause-none
returns-in_err-given-clause-none c _ =
    not_named c.args.name.now c.args.value.now c.in_ok-number.number (search rules) c.in_ok-number.ensures.is (c.in_err-given.ensures.none refl)

-- nor are they where the number is out of the option's range
pub returns-else-is_in_range-clause-none : goal.returns-else-is_in_range-clause-none
returns-else-is_in_range-clause-none c _ =
    not_in_range c.args.name.now c.args.value.now c.in_ok-number.number c.in_ok-given.given (search rules) c.in_ok-number.ensures.is
    c.in_ok-given.ensures.is (λ in_range. absurd (cc (c.is_in_range.ensures.1 in_range, c.if-is_in_range.false)))
