use Rattle.std.proofs.Common.{refl, subst, map}
use Rattle.std.specs.String.{string_bytes}
use Rattle.command_words.specs.Commands.{AskFor}
use Rattle.command_words.specs.declared.commands.Command.TheVariants.{Check}
use Rattle.trace_driver.proofs.RunLemmas.{play_is_no_check, load_is_no_check, checks_as_asked}
use Rattle.trace_driver.proofs.run.report.Goals as goal

-- what was written is the summary of the load that the words ask for
pub returns-in-Some-Load-clause-out : goal.returns-in-Some-Load-clause-out
returns-in-Some-Load-clause-out g c = c.play_load.ensures.out (map string_bytes c.args.words.now) (g.S.Source.remaining c.args.input.now)
    (subst (AskFor (map string_bytes c.args.words.now)) c.in-Some-Load.field-0-is c.in-Some-Load.ensures.spelled)

-- the load's status has its cause, whatever the input is
pub returns-in-Some-Load-clause-cause : goal.returns-in-Some-Load-clause-cause
returns-in-Some-Load-clause-cause g c = c.play_load.ensures.cause (map string_bytes c.args.words.now) (g.S.Source.remaining c.args.input.now)
    (g.S.Source.fault_count c.args.input.now, g.S.Source.fault_count c.args.input.now)
    (subst (AskFor (map string_bytes c.args.words.now)) c.in-Some-Load.field-0-is c.in-Some-Load.ensures.spelled)

-- words that spell no command are refused
pub returns-in-None-clause-cause : goal.returns-in-None-clause-cause
returns-in-None-clause-cause g c = c.in-None.ensures.refused refl

-- words that ask for a play, a load or nothing ask for no check
pub returns-in-Some-Play-clause-verdict : goal.returns-in-Some-Play-clause-verdict
returns-in-Some-Play-clause-verdict g c opening asked = absurd (play_is_no_check _ _ _ opening c.in-Some-Play.ensures.one
    (subst (AskFor (map string_bytes c.args.words.now)) c.in-Some-Play.field-0-is c.in-Some-Play.ensures.spelled) asked)

pub returns-in-Some-Load-clause-verdict : goal.returns-in-Some-Load-clause-verdict
returns-in-Some-Load-clause-verdict g c opening asked = absurd (load_is_no_check _ _ _ _ opening c.in-Some-Load.ensures.one
    (subst (AskFor (map string_bytes c.args.words.now)) c.in-Some-Load.field-0-is c.in-Some-Load.ensures.spelled) asked)

pub returns-in-None-clause-verdict : goal.returns-in-None-clause-verdict
returns-in-None-clause-verdict g c opening asked = absurd (c.in-None.ensures.refused refl (Check opening) asked)

-- those that ask for a check ask for the one that was made
pub returns-in-Some-Check-clause-verdict : goal.returns-in-Some-Check-clause-verdict
returns-in-Some-Check-clause-verdict g c = checks_as_asked _ _ (g.S.Source.remaining c.args.input.now, g.S.Source.remaining c.check_input.new.input)
    (g.K.Sink.contents c.args.out.now, g.K.Sink.contents c.check_input.new.out) c.check_input.result c.in-Some-Check.ensures.one
    (subst (AskFor (map string_bytes c.args.words.now)) c.in-Some-Check.field-0-is c.in-Some-Check.ensures.spelled) c.check_input.ensures.verdict
