use Rattle.std.proofs.Common.{ℕ, ◌≡◌, sym, ap, subst, ◌∙◌}
use Rattle.row_plans.specs.Plans.{IsRowList, spliced}
use Rattle.row_plans.proofs.PlanLeft.{planned_list}
use Rattle.test_rows.proofs.plan_tests.rows_after.Goals as goal

-- the rows are those after the splice, which are a row list
pub returns : goal.returns
returns c =
    let cut = c.plan_rows-planned.result.cut in
    let plan = spliced (λ (at : ℕ). at) c.args.rows.now cut c.plan_rows-planned.new.new.items in
    let is : c.in_ok-after.after.items ≡ plan =
    c.in_ok-after.ensures ∙ ap (spliced (λ (at : ℕ). at) c.args.rows.now cut) c.as_slice.ensures.value in
    subst IsRowList (sym is)
    (planned_list c.args.rows.now plan c.args.call.now c.plan_rows-planned.result.reply c.plan_rows-planned.result.rows c.requires.old
    c.plan_rows-planned.ensures.plan)
