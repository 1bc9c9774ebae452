use Rattle.std.proofs.Common.{map, ap, Some}
use Rattle.std.proofs.lemmas.Bool.Decides.{not_from_Decides}
use Rattle.std.specs.String.{string_bytes}
use Rattle.strace_lines.specs.declared.words.Asked.{Asked}
use Rattle.strace_lines.specs.declared.words.Asked.TheVariants.{Rewrite}
use Rattle.strace_lines.proofs.WordLemmas.{options_only, options_none, asks_one}
use Rattle.strace_lines.proofs.words.asked_of.Goals as goal

-- where the words aren't all options, they ask for nothing
pub returns-in_err-options-clause-only : goal.returns-in_err-options-clause-only
returns-in_err-options-clause-only c asked h =
    absurd (options_none (map string_bytes c.args.words.now) (not_from_Decides _ c.asks_for_help.ensures c.if-asks_for_help.false)
    (c.in_err-options.ensures.only) asked h)

-- so they are refused
pub returns-in_err-options-clause-refused : goal.returns-in_err-options-clause-refused
returns-in_err-options-clause-refused c _ asked h =
    options_none (map string_bytes c.args.words.now) (not_from_Decides _ c.asks_for_help.ensures c.if-asks_for_help.false)
    (c.in_err-options.ensures.only) asked h

-- and ask for one thing at most
pub returns-in_err-options-clause-one : goal.returns-in_err-options-clause-one
returns-in_err-options-clause-one c first other a b =
    absurd (options_none (map string_bytes c.args.words.now) (not_from_Decides _ c.asks_for_help.ensures c.if-asks_for_help.false)
    (c.in_err-options.ensures.only) first a)

-- the options are all that the words ask for
pub returns-clause-only : goal.returns-clause-only
returns-clause-only c asked h =
    ap (λ (a : Asked). Some a) (options_only (map string_bytes c.args.words.now) c.in_ok-options.options
    (not_from_Decides _ c.asks_for_help.ensures c.if-asks_for_help.false) c.in_ok-options.ensures.only asked h)

-- so they ask for one thing
pub returns-clause-one : goal.returns-clause-one
returns-clause-one c =
    asks_one (map string_bytes c.args.words.now) (Rewrite c.in_ok-options.options.process c.in_ok-options.options.strict)
    (options_only (map string_bytes c.args.words.now) c.in_ok-options.options
    (not_from_Decides _ c.asks_for_help.ensures c.if-asks_for_help.false) c.in_ok-options.ensures.only)
