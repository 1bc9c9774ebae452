use Rattle.std.proofs.Common.{map, inl, refl, subst}
use Rattle.std.specs.String.{string_bytes}
use Rattle.strace_lines.specs.Words.{AskFor}
use Rattle.strace_lines.proofs.RunLemmas.{help_only, usage_only}
use Rattle.strace_lines.proofs.run.answer.Goals as goal

-- where help is asked for, its status is the only one
pub returns-in-Ok-clause-complete : goal.returns-in-Ok-clause-complete
returns-in-Ok-clause-complete g c bytes known =
    inl (help_only (map string_bytes c.args.words.now) bytes c.in-Some-Help.ensures.one
    (subst (AskFor (map string_bytes c.args.words.now)) c.in-Some-Help.field-0-is c.in-Some-Help.ensures.spelled))

-- and so is that of words that aren't accepted
pub returns-in-None-clause-complete : goal.returns-in-None-clause-complete
returns-in-None-clause-complete g c bytes known = inl (usage_only (map string_bytes c.args.words.now) bytes (c.in-None.ensures.refused refl))

-- where a rewriting is asked for, what is said of it is so of these words
pub returns-in-Some-Rewrite-clause-out : goal.returns-in-Some-Rewrite-clause-out
returns-in-Some-Rewrite-clause-out g c =
    c.rewrite_input.ensures.out (map string_bytes c.args.words.now)
    (subst (AskFor (map string_bytes c.args.words.now)) c.in-Some-Rewrite.field-0-is c.in-Some-Rewrite.ensures.spelled)

-- and its status has its cause
pub returns-in-Some-Rewrite-clause-cause : goal.returns-in-Some-Rewrite-clause-cause
returns-in-Some-Rewrite-clause-cause g c =
    c.rewrite_input.ensures.cause (map string_bytes c.args.words.now)
    (subst (AskFor (map string_bytes c.args.words.now)) c.in-Some-Rewrite.field-0-is c.in-Some-Rewrite.ensures.spelled)
