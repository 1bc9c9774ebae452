use Rattle.std.proofs.Common.{rules}
use Rattle.std.proofs.lemmas.List.Sorted.{IsNonDecreasingBy-from_sort_by_key}
use Rattle.space_model.proofs.history.by_number.Goals as goal

-- the entries are in order of their numbers
pub returns-clause-in_order : goal.returns-clause-in_order
returns-clause-in_order c =
    IsNonDecreasingBy-from_sort_by_key (λ e. e.number) _ c.sort_unstable_by_key.ensures.sorted (λ a r q k. search rules)
