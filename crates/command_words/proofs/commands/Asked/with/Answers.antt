-- An option that is refused was asked for before, by its own kind.
use Rattle.std.proofs.Common.{rules, unwrap_or}
use Rattle.command_words.specs.Commands.{value_for, of_opening, of_log, of_touched, of_changes, of_differ, of_threads, of_seed, of_calls}
use Rattle.command_words.proofs.commands.Asked.with.Goals as goal

-- --opening
pub returns-in_default-clause-again : goal.returns-in_default-clause-again
returns-in_default-clause-again c _ = record { kind = of_opening; value = 0; gives = search rules; already = search rules }

-- --log
pub returns-in_default-2-clause-again : goal.returns-in_default-2-clause-again
returns-in_default-2-clause-again c _ = record { kind = of_log; value = 0; gives = search rules; already = search rules }

-- --touched
pub returns-in_default-3-clause-again : goal.returns-in_default-3-clause-again
returns-in_default-3-clause-again c _ = record { kind = of_touched; value = 0; gives = search rules; already = search rules }

-- --changes
pub returns-in_default-4-clause-again : goal.returns-in_default-4-clause-again
returns-in_default-4-clause-again c _ = record { kind = of_changes; value = 0; gives = search rules; already = search rules }

-- --differ
pub returns-in_default-5-clause-again : goal.returns-in_default-5-clause-again
returns-in_default-5-clause-again c _ = record { kind = of_differ; value = 0; gives = search rules; already = search rules }

-- --threads, whose value is its number
pub returns-in_default-6-clause-again : goal.returns-in_default-6-clause-again
returns-in_default-6-clause-again c _ =
    record { kind = of_threads; value = unwrap_or (value_for of_threads c.args.given) 0; gives = search rules; already = search rules }

-- --seed
pub returns-in_default-7-clause-again : goal.returns-in_default-7-clause-again
returns-in_default-7-clause-again c _ =
    record { kind = of_seed; value = unwrap_or (value_for of_seed c.args.given) 0; gives = search rules; already = search rules }

-- --calls
pub returns-in_default-8-clause-again : goal.returns-in_default-8-clause-again
returns-in_default-8-clause-again c _ =
    record { kind = of_calls; value = unwrap_or (value_for of_calls c.args.given) 0; gives = search rules; already = search rules }
