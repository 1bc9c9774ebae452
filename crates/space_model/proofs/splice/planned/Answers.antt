-- The list with its middle built anew has the kinds of the change, and the rows that were counted.
use Rattle.std.proofs.Common.{◌^◌, ◌<◌, ◌++◌, ◌∙◌, sym, ap, subst, refl}
use Rattle.space_model.specs.Areas.{IsAreaList, row_count}
use Rattle.space_model.specs.Judges.{second_of}
use Rattle.space_model.proofs.Splicing.{areas_right, spliced, plan_of}
use Rattle.space_model.proofs.Stepping.{rows-fit}
use Rattle.space_model.proofs.splice.planned.Goals as goal

-- the areas behind the first cut are an area list
pub cut_by_start-requires : goal.cut_by_start-requires
cut_by_start-requires c =
    areas_right c.cut_by_end.result.0.now c.cut_by_end.result.1.now
    (subst IsAreaList c.cut_by_end.ensures.whole c.requires.in_order)

-- the rows before are those of the three parts together
pub recounted-rows-requires-clause-counted : goal.recounted-rows-requires-clause-counted
recounted-rows-requires-clause-counted c =
    c.requires.counted ∙
    ap row_count (c.cut_by_end.ensures.whole ∙ ap (λ x. c.cut_by_end.result.0.now ++ x) c.cut_by_start.ensures.whole)

-- the rows of the new list are few enough to count
pub recounted-rows-requires-clause-fits : goal.recounted-rows-requires-clause-fits
recounted-rows-requires-clause-fits c =
    let A = c.args.areas.now in let front = c.cut_by_end.result.0.now in let back = c.cut_by_start.result.1.now in let N = c.changed.new.list.items in
    let change = c.args.change in
    subst (λ X. row_count (front ++ (X ++ back)) < 2 ^ 32) (sym c.as_slice.ensures.value)
    (rows-fit A (front ++ (N ++ back)) change c.requires.in_order c.requires.few c.requires.rising
    (spliced A front c.cut_by_end.result.1.now c.cut_by_start.result.0.now back N change.first (second_of change.second) _ _
    c.saturating_sub.ensures c.end.ensures c.requires.in_order c.requires.rising c.cut_by_end.ensures
    c.cut_by_start.ensures c.in_ok-changed.ensures.items))

-- the new areas between the cuts, with the rows counted, are a plan of the change
pub returns-clause-plan : goal.returns-clause-plan
returns-clause-plan c =
    let front = c.cut_by_end.result.0.now in let back = c.cut_by_start.result.1.now in let change = c.args.change in
    plan_of c.args.areas.now front c.cut_by_end.result.1.now c.cut_by_start.result.0.now back c.changed.new.list.items
    change.first (second_of change.second) _ _ _ _ _ c.saturating_sub.ensures c.end.ensures c.requires.in_order
    c.requires.rising c.cut_by_end.ensures c.cut_by_start.ensures c.in_ok-changed.ensures.items refl refl
    (c.recounted-rows.ensures ∙ ap (λ X. row_count (front ++ (X ++ back))) c.as_slice.ensures.value)
