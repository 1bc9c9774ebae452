use Rattle.std.proofs.Common.{◌≡◌, ℕ, List, drop, length, sym, ap, ◌∙◌, subst, arith}
use Rattle.area_guard.specs.Rows.{nb_in, rows_in}
use Rattle.row_plans.specs.RowLists.{areas_from}
use Rattle.row_blocks.specs.Blocks.{IsLaidOut}
use Rattle.area_rows.specs.Callers.{IsWhole}
use Rattle.area_rows.proofs.Gathering.{idle_rows, whole_of}
use Rattle.area_rows.proofs.space.Space.close_areas.Goals as goal

-- a history is whole, with the areas that come back
pub returns-in-Ok-clause-left : goal.returns-in-Ok-clause-left
returns-in-Ok-clause-left c =
    let callers = c.args.callers.items in let h = c.in-Ok.ensures.guard in
    let areas : c.last_areas.result.items ≡ areas_from (rows_in c.in-Ok.apart.words.items) =
    c.last_areas.ensures ∙ ap (λ (w : List ℕ). areas_from (rows_in w)) c.as_slice.ensures.value in
    (h.1, subst (IsWhole callers h.1) (sym areas) (whole_of callers h.3 (idle_rows (length callers) h.3 h.4)))

pub last_areas-requires-clause-blocks : goal.last_areas-requires-clause-blocks
last_areas-requires-clause-blocks c = c.in-Ok.ensures.blocks.0 ∙ ap nb_in (sym c.as_slice.ensures.value)

pub last_areas-requires-clause-laid : goal.last_areas-requires-clause-laid
last_areas-requires-clause-laid c = subst (λ (l : List ℕ). IsLaidOut (nb_in l) (drop 3 l)) (sym c.as_slice.ensures.value) c.in-Ok.ensures.laid

-- there is room for the rows, and for their areas
pub last_areas-requires-clause-room : goal.last_areas-requires-clause-room
last_areas-requires-clause-room c =
    let room = c.in-Ok.ensures.room in let rows = room.0 in let areas = room.1 in
    let same = ap (λ (w : List ℕ). length (rows_in w)) c.as_slice.ensures.value in (omega arith, omega arith)
