use Rattle.std.proofs.Common.{refl, sym, ap, ◌∙◌, inr, arith, length}
use Rattle.std.proofs.lemmas.Result.{err_from_is_err_and}
use Rattle.trace_driver.proofs.OpeningLemmas.{spells_fit, maps_next, maps_empty, maps_over, maps_end, past_by_one, areas_by_one, named_with, nil}
use Rattle.trace_driver.proofs.opening.read_opening.Goals as goal

-- the empty line ends the opening
pub returns-then-is_empty-clause-opens : goal.returns-then-is_empty-clause-opens
returns-then-is_empty-clause-opens c =
    let left = rw c.in-Some.ensures.line at c.maps.invariant.0 in
    let none = nil c.in-Some.line.now (sym c.is_empty.ensures ∙ c.if-is_empty.true) in rw (c.if-not-has_maps.false) (maps_empty _ _ _ _ _ _ (rw none at left))

-- a line that is no maps line, or comes too early, ends the run
pub returns-in_err-item-clause-stopped : goal.returns-in_err-item-clause-stopped
returns-in_err-item-clause-stopped c =
    let p = err_from_is_err_and c.from_residual.result c.from_residual.ensures.1 in
    let left = rw c.in-Some.ensures.line at c.maps.invariant.0 in
    rw (p.1, p.2, c.if-not-has_maps.false) (inr (maps_end _ _ _ _ _ _ _ _ left c.in_err-item.ensures.stopped))

-- the end of a maps line is below 2^64
pub take-requires-clause-fits : goal.take-requires-clause-fits
take-requires-clause-fits c = (spells_fit _ _ c.in_ok-item.ensures.next.spells).1

-- a maps line is taken, and what was read grows by it
pub maps-preserved : goal.maps-preserved
maps-preserved c =
    let left = rw c.in-Some.ensures.line at c.maps.invariant.0 in let taken = c.in_ok-end.ensures in
    let more = maps_next _ _ _ _ _ _ _ _ _ _ left c.in_ok-item.ensures.next taken.areas taken.past in (
      rw (taken.next, taken.end) more,
      omega (arith, taken.next, c.in-Some.ensures.shorter),
      omega (arith, taken.next, taken.past, past_by_one c.maps.opening.past c.in_ok-item.item),
      omega (arith, taken.next, ap length taken.areas, areas_by_one c.maps.opening.areas.items c.in_ok-item.item),
      named_with _ _ c.in_ok-item.item c.maps.invariant.4 c.in_ok-item.ensures.named taken.areas,
    )

-- the end of the text ends the opening
pub returns-clause-opens : goal.returns-clause-opens
returns-clause-opens c = let none = c.in_default.ensures.none.0 refl in rw (none, c.if-not-has_maps.false) (maps_over _ _ _ _ _ (rw none at c.maps.invariant.0))
