use Rattle.std.proofs.Common.{rules, ℕ, List, ◌≡◌, ◌<◌, ◌≤◌, ◌+◌, ◌-◌, length, ◌∙◌, ap, refl, arith}
use Rattle.page_types.specs.declared.TheConstants.{ROWS}
use Rattle.space_model.specs.Areas.{kind_at}
use Rattle.space_model.specs.Effect.{patched}
use Rattle.space_model.specs.Judges.{patches_of}
use Rattle.space_model.specs.Answers.{full_reply}
use Rattle.row_plans.specs.RowLists.{ShowFrom, areas_from}
use Rattle.row_plans.specs.Plans.{spliced}
use Rattle.row_plans.proofs.Splices.{splice_length}
use Rattle.row_plans.proofs.PlanLeft.{made_done, made_full}
use Rattle.row_plans.proofs.plan.changed.Given.{Over}
use Rattle.row_plans.proofs.plan.changed.Goals.{After-plan_change-cut}
use Rattle.row_plans.proofs.plan.changed.Goals as goal

-- the rows with those that come in the place of those that go
abbrev rows_of : (g : Over) (c : After-plan_change-cut g) → List ℕ
rows_of g c =
    spliced (g.R.Rows.number c.args.old.now c.args.hand.now) (g.R.Rows.words c.args.old.now c.args.hand.now) c.plan_change-cut.result
    c.plan_change-cut.new.rows.items

-- they show the changed kinds, and are as many as stay and come
made_rows : (g : Over) (c : After-plan_change-cut g)
    → ShowFrom 0 (rows_of g c) (patched (patches_of c.args.change) (kind_at (areas_from (g.R.Rows.words c.args.old.now c.args.hand.now))))
    × (c.plan_change-cut.result.gone ≤ c.count-count.result)
    × (length (rows_of g c) ≡ c.count-count.result - c.plan_change-cut.result.gone + length c.plan_change-cut.new.rows.items)
made_rows g c =
    let old = c.args.old.now in let hand = c.args.hand.now in let words = g.R.Rows.words old hand in let number = g.R.Rows.number old hand in
    let cut = c.plan_change-cut.result in let made = c.plan_change-cut.ensures in
    let all = c.count-count.ensures hand c.requires.may in let there = made.there in
    let wide = splice_length words c.plan_change-cut.new.rows.items (number cut.at) (number cut.at + cut.gone) (omega arith) there in
    (made.shows (kind_at (areas_from words)) (g.R.Rows.are_rows old hand c.requires.may).show, omega arith, omega arith)

-- where the changed rows are more than ROWS, the change has its full reply, and no row goes
pub returns-then-rows-gt-ROWS-clause-made : goal.returns-then-rows-gt-ROWS-clause-made
returns-then-rows-gt-ROWS-clause-made g c =
    let h = (goal.at.returns-then-rows-gt-ROWS-clause-made g c).After-plan_change-cut in let rows = made_rows g h in
    let gone = rows.1 in let counted = rows.2 in
    let many : ROWS < length (rows_of g h) = search rules in
    let same = c.unchanged.ensures.same c.args.hand.now c.requires.may in
    made_full (rows_of g h) c.args.change (g.R.Rows.are_rows c.args.old.now c.args.hand.now c.requires.may) c.requires.rising rows.0 many same.same
    (c.unchanged.ensures.reply ∙ (c.full_reply.ensures ∙ ap (full_reply c.args.change.full) (search rules))) same.counted

-- where they aren't, it is made with the splice
pub returns-clause-made : goal.returns-clause-made
returns-clause-made g c =
    let h = (goal.at.returns-clause-made g c).After-plan_change-cut in let rows = made_rows g h in
    let gone = rows.1 in let counted = rows.2 in
    let few : length (rows_of g h) ≤ ROWS = search rules in
    made_done (rows_of g h) c.args.change (g.R.Rows.are_rows c.args.old.now c.args.hand.now c.requires.may) c.requires.rising rows.0 few
    c.plan_change-cut.ensures.gaps refl (search rules)
