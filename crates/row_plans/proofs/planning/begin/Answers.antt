use Rattle.std.proofs.Common.{rules, ◌≡◌, ◌<◌, ◌+◌, arith}
use Rattle.row_plans.specs.Plans.{IsPlaceOf}
use Rattle.row_plans.proofs.Comes.{come_first, come_row}
use Rattle.row_plans.proofs.Loading.{loads_first, as_before}
use Rattle.row_plans.proofs.planning.begin.Goals as goal

-- before page 0 there is no row
pub returns-then-page-eq0-clause-come : goal.returns-then-page-eq0-clause-come
returns-then-page-eq0-clause-come g c =
    let none : c.args.page ≡ 0 = search rules in
    come_first _ _ _ _ _ (g.R.Rows.are_rows c.args.old.now c.args.hand.now c.requires.may).show (c.first-first.ensures c.args.hand.now c.requires.may) none

-- and before another page there is the one that was found
pub returns-clause-come : goal.returns-clause-come
returns-clause-come g c =
    let found = c.find-row.ensures in let row = c.find-row.result in let later = c.if-page-eq0.false in
    let some : 0 < c.args.page = omega arith in
    let next = as_before (λ l n. IsPlaceOf l n (n row.at + 1) c.next.result) (loads_first g.R.Rows _ _ _ c.requires.may found.loaded) c.next.ensures.next in
    come_row _ _ _ _ row.word _ _ _ some found.there found.word found.end found.from found.until c.read_row-kind.ensures.kind c.read_row-kind.ensures.named
    next
