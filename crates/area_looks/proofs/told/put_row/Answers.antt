use Rattle.std.proofs.Common.{◌+◌, ◌-◌, [], ◌∷◌, ◌++◌, Option, ◌∙◌, ap, sym, subst, arith}
use Rattle.std.specs.Prelude.{slice_set}
use Rattle.page_types.specs.declared.calls.Kind.{Kind}
use Rattle.space_model.specs.declared.areas.Area.{Area}
use Rattle.row_plans.specs.RowLists.{with_row}
use Rattle.area_looks.specs.Places.{IsPut}
use Rattle.area_looks.proofs.Putting.{put_more, put_past}
use Rattle.area_looks.proofs.told.put_row.Goals.{then-counts-into, else-counts-into}
use Rattle.area_looks.proofs.told.put_row.Goals as goal

pub returns-after-counts-into-clause-put : goal.returns-after-counts-into-clause-put
returns-after-counts-into-clause-put g c = λ list first put.
    let told = g.T.Told.told in let counts = c.args.counts in
    let a : Area = record { lo = c.args.lo; hi = c.args.hi; kind = c.in-Some.kind } in
    subst (λ (k : Option Kind). IsPut told (list ++ with_row c.args.lo k c.args.hi []) first c.if-counts-into.into
    (record { areas = counts.areas + 1; pages = counts.pages + (c.args.hi - c.args.lo) })) (sym c.in-Some.is)
    (elim c.if-counts-into.branch [
      | then-counts-into w ↦ subst (λ now. IsPut told (list ++ a ∷ []) first now (record { areas = counts.areas + 1; pages = counts.pages + (a.hi - a.lo) }))
          (sym (w.into-is ∙ ap (slice_set c.args.into.now counts.areas) w.of_area.ensures))
          (put_more told list first c.args.into.now counts a put w.if-counts-into.true)
      | else-counts-into w ↦ subst (λ now. IsPut told (list ++ a ∷ []) first now (record { areas = counts.areas + 1; pages = counts.pages + (a.hi - a.lo) }))
          (sym w.into-is) (put_past told list first c.args.into.now counts a put (let out = w.if-counts-into.false in omega arith))
    ])
