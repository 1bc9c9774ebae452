use Rattle.std.proofs.Common.{rules, ℕ, ◌≡◌, ◌+◌, ◌<◌, length, sym, ap, ◌∙◌, arith}
use Rattle.std.specs.Prelude.{slice_index}
use Rattle.row_plans.specs.RowWords.{row_start}
use Rattle.row_plans.proofs.Splices.{start_at}
use Rattle.row_plans.proofs.RowPages.{ends_all}
use Rattle.row_plans.proofs.Loading.{loads_first, as_before}
use Rattle.row_plans.proofs.places.row_behind.Goals as goal

-- where no row is behind, the last one ends at LIMIT
pub returns-in_default-clause-end : goal.returns-in_default-clause-end
returns-in_default-clause-end g c =
    let words = g.R.Rows.words c.args.rows.now c.args.hand.now in
    let at : ℕ = g.R.Rows.number c.args.rows.now c.args.hand.now c.args.at in
    let all : at + 1 ≡ length words = search rules in
    sym (ends_all words (at + 1) (omega arith))

-- the row behind starts where its word says
pub returns-clause-end : goal.returns-clause-end
returns-clause-end g c =
    let rows = c.args.rows.now in let hand = c.args.hand.now in let words = g.R.Rows.words rows hand in let number = g.R.Rows.number rows hand in
    let at : ℕ = number c.args.at in
    let there : (number c.in-Some.next ≡ at + 1) × (at + 1 < length words) = search rules in
    let now = loads_first g.R.Rows _ _ _ c.requires.may c.next.ensures.loaded in
    let word = as_before (λ l n. c.load.result ≡ slice_index l (n c.in-Some.next)) now c.load.ensures.word in
    c.read_row-end.ensures.start ∙ (ap row_start (word ∙ ap (slice_index words) there.0) ∙ sym (start_at words (at + 1) there.1))
