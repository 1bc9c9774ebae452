use Rattle.std.proofs.Common.{ℕ, ◌≡◌, ◌<◌, ◌≤◌, drop, get_or, ap, subst, ◌∙◌, arith}
use Rattle.row_plans.specs.RowWords.{row_start, row_kind}
use Rattle.row_plans.specs.RowLists.{rows_start}
use Rattle.row_plans.proofs.Splices.{start_at}
use Rattle.row_plans.proofs.RowPages.{kind_there}
use Rattle.row_plans.proofs.places.kind_of.Goals as goal

-- the row that has the page has its kind
pub returns-clause-kind : goal.returns-clause-kind
returns-clause-kind g c =
    let rows = c.args.rows.now in let hand = c.args.hand.now in let words = g.R.Rows.words rows hand in let found = c.find-row.ensures in
    let at : ℕ = g.R.Rows.number rows hand c.find-row.result.at in
    let begins : rows_start (drop at words) ≡ row_start (get_or words at 0) = start_at words at found.there in
    let starts = ap row_start found.word in let from = found.from in
    let low : rows_start (drop at words) ≤ c.args.page = omega arith in
    kind_there _ _ _ _ _ (g.R.Rows.are_rows rows hand c.requires.may).show
    found.there low (subst (λ (x : ℕ). c.args.page < x) found.end found.until) (c.read_row-kind.ensures.kind ∙ ap row_kind found.word)
