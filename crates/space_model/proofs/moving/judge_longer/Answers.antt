use Rattle.space_model.proofs.Remapping.{moves_judged, stays_judged, unplaced_judged}
use Rattle.space_model.proofs.moving.judge_longer.Goals as goal

-- where the first place that applies is the old start, the pages become more there
pub returns-then-start-lo-clause-judged : goal.returns-then-start-lo-clause-judged
returns-then-start-lo-clause-judged g c =
    stays_judged (g.P.Pages.kinds c.args.pages.now c.args.hand.now) c.args.addr c.args.old_len c.args.new_len c.args.may_move c.args.hint
    c.requires.undecided c.requires.clear c.requires.longer c.in-Some.ensures.place c.if-start-lo.true c.end_page-end.ensures
    c.page_count-count.ensures c.requires.kind c.changed.ensures

-- where it is another, they move
pub returns-else-start-lo-clause-judged : goal.returns-else-start-lo-clause-judged
returns-else-start-lo-clause-judged g c =
    moves_judged (g.P.Pages.kinds c.args.pages.now c.args.hand.now) c.args.addr c.args.old_len c.args.new_len c.args.may_move c.args.hint
    c.requires.undecided c.requires.clear c.requires.longer c.in-Some.ensures.place c.if-start-lo.false c.end_page-end.ensures
    c.page_count-count.ensures c.requires.kind c.moved.ensures

-- where none applies the Remap is refused
pub returns-in-None-clause-judged : goal.returns-in-None-clause-judged
returns-in-None-clause-judged g c =
    unplaced_judged (g.P.Pages.kinds c.args.pages.now c.args.hand.now) c.args.addr c.args.old_len c.args.new_len c.args.may_move c.args.hint
    c.requires.clear c.requires.longer c.in-None.ensures.place c.end_page-end.ensures c.page_count-count.ensures
