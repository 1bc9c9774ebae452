use Rattle.std.proofs.Common.{◌+◌, ◌*◌, length}
use Rattle.std.proofs.lemmas.Result.{on_ok_weaker}
use Rattle.range_sets.proofs.Places.{all_held, granted_calls, granted_some, granted_each, alone_take, free_told, let_go_told, passes_told}
use Rattle.range_sets.proofs.Places.{asks_told, bound_told, cause_told, each_told, granted_stands, granted_keeps, keeps_told, list_told, outside_told}
use Rattle.range_sets.proofs.taking.try_set.Goals as goal

-- what was granted is held, each want by the seat at its place
pub returns-clause-held : goal.returns-clause-held
returns-clause-held g c = on_ok_weaker c.try_four.result (all_held _ _ _ _ c.try_four.ensures.four c.requires.free) c.try_four.ensures.granted

-- it changed no pass
pub returns-clause-calls : goal.returns-clause-calls
returns-clause-calls g c = on_ok_weaker c.try_four.result (granted_calls _ _ _ _) c.try_four.ensures.granted

-- there was a want, so something is held
pub returns-clause-some : goal.returns-clause-some
returns-clause-some g c = on_ok_weaker c.try_four.result (granted_some _ _ _ _ c.requires.some) c.try_four.ensures.granted

-- each want took one try
pub returns-clause-each : goal.returns-clause-each
returns-clause-each g c = on_ok_weaker c.try_four.result (granted_each _ _ _ _) c.try_four.ensures.granted

-- which has the steps of one list, where each range takes one
pub returns-clause-bound : goal.returns-clause-bound
returns-clause-bound g c = λ alone. let n = alone_take c.args.table.now c.args.wants.now alone in on_ok_weaker c.try_four.result (λ granted. granted_each _ _ _
    _ granted (length c.args.wants.now * (64 + 386 * c.args.table.now.seats)) n) c.try_four.ensures.granted

-- after a refusal nothing is held
pub returns-clause-free : goal.returns-clause-free
returns-clause-free g c = free_told _ _ _ _ _ c.requires.free c.try_four.result c.try_four.ensures.refused

-- each seat let go what it had got
pub returns-clause-let_go : goal.returns-clause-let_go
returns-clause-let_go g c = let_go_told _ _ _ _ _ c.requires.free c.try_four.result c.try_four.ensures.refused

-- the passes before the refused place are rested
pub returns-clause-passes : goal.returns-clause-passes
returns-clause-passes g c = passes_told _ _ _ _ _ c.requires.free c.try_four.result c.try_four.ensures.refused

-- the refused want has its cause
pub returns-clause-cause : goal.returns-clause-cause
returns-clause-cause g c = cause_told _ _ _ _ _ c.requires.free c.try_four.result c.try_four.ensures.refused

-- a refusal took the steps of the tries up to its want
pub returns-clause-refused_each : goal.returns-clause-refused_each
returns-clause-refused_each g c = each_told _ _ _ _ _ c.requires.free c.try_four.result c.try_four.ensures.refused

-- which have the steps of one list each, where each range takes one
pub returns-clause-refused_bound : goal.returns-clause-refused_bound
returns-clause-refused_bound g c = λ alone. bound_told _ _ _ _ _ c.requires.free alone c.try_four.result c.try_four.ensures.refused

-- each seat asked for its own want
pub returns-clause-asks : goal.returns-clause-asks
returns-clause-asks g c = asks_told _ _ _ _ _ c.try_four.result c.try_four.ensures.granted c.try_four.ensures.refused

-- each granted range stands in the list that it takes alone, or in list 0
pub returns-clause-stands : goal.returns-clause-stands
returns-clause-stands g c = on_ok_weaker c.try_four.result (granted_stands _ _ _ _) c.try_four.ensures.granted

-- each seat keeps the lists in which its try doesn't work
pub returns-clause-only : goal.returns-clause-only
returns-clause-only g c = on_ok_weaker c.try_four.result (granted_keeps _ _ _ _) c.try_four.ensures.granted

-- so do those that tried up to the refused one
pub returns-clause-refused_only : goal.returns-clause-refused_only
returns-clause-refused_only g c = keeps_told _ _ _ _ _ c.try_four.result c.try_four.ensures.refused

-- a refusal tells a list in which the try works
pub returns-clause-told : goal.returns-clause-told
returns-clause-told g c = list_told _ _ _ _ _ c.try_four.result c.try_four.ensures.refused

-- no scan is open where none was
pub returns-clause-outside : goal.returns-clause-outside
returns-clause-outside g c = outside_told _ _ _ _ _ c.try_four.result c.try_four.ensures.granted c.try_four.ensures.refused
