use Rattle.std.proofs.Common.{◌∷◌, [], ◌∙◌, sym}
use Rattle.area_protect.proofs.Newcomers.{two_new}
use Rattle.area_protect.proofs.tests.a_boundary_that_moves_between_two_looks_is_seen.Goals as goal

-- the first new caller is of the space and holds nothing
pub held_beside-held-requires-clause-caller : goal.held_beside-held-requires-clause-caller
held_beside-held-requires-clause-caller g c =
    let s = c.split_at_mut-first in
    let t = two_new c.in-Ok.space.table _ (1 ∷ 1 ∷ []) c.in-Ok.callers.items s.result.0.now s.result.1.now c.index-first-0.result
    c.index-others-0.result c.in-Ok.ensures.callers (sym c.deref_mut.ensures.value ∙ s.ensures.value) s.ensures.front_len c.in-Ok.ensures.count.1 in
    (t.0.table_is, t.0.free)

-- so does the second one
pub held_beside-held-requires-clause-other : goal.held_beside-held-requires-clause-other
held_beside-held-requires-clause-other g c =
    let s = c.split_at_mut-first in
    let t = two_new c.in-Ok.space.table _ (1 ∷ 1 ∷ []) c.in-Ok.callers.items s.result.0.now s.result.1.now c.index-first-0.result
    c.index-others-0.result c.in-Ok.ensures.callers (sym c.deref_mut.ensures.value ∙ s.ensures.value) s.ensures.front_len c.in-Ok.ensures.count.1 in
    (t.1.table_is, t.1.free)
