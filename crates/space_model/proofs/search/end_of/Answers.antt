-- What is found up to the next area decides, or that no area is left.
use Rattle.std.proofs.Common.{get_or, sym, subst}
use Rattle.space_model.specs.Areas.{kind_at}
use Rattle.space_model.specs.Building.{no_area}
use Rattle.space_model.specs.Sorts.{IsEnd}
use Rattle.space_model.proofs.Searching.{none_left, end_found, none_next, end_none}
use Rattle.space_model.proofs.Halving.{none_cut}
use Rattle.space_model.proofs.search.end_of.Goals as goal

-- at the start no page has to be passed, and the areas behind the cut are left
pub loop-area-init : goal.loop-area-init
loop-area-init c = none_cut c.args.areas.now c.args.sort c.args.lo _ _ c.requires.in_order c.cut_by_end.ensures

-- where a page of the sort is found, the search ends there or at `hi`
pub returns-in-Some : goal.returns-in-Some
returns-in-Some c =
    let A = c.args.areas.now in let rest = c.cut_by_end.result.1.now in let i = c.loop-area.area-index in let at = c.loop-area.at in
    subst (IsEnd (kind_at A) c.args.sort c.args.lo c.args.hi) (sym c.min.ensures)
    (end_found A c.args.sort (get_or rest i no_area) _ c.args.lo c.args.hi at c.requires.ordered
    (none_left A rest c.args.sort i c.args.lo at c.loop-area-test.true c.loop-area.invariant) c.in-Some.page c.in-Some.ensures)

-- where none is, none comes before the next area
pub loop-area-preserved : goal.loop-area-preserved
loop-area-preserved c =
    let A = c.args.areas.now in let rest = c.cut_by_end.result.1.now in let i = c.loop-area.area-index in let at = c.loop-area.at in
    none_next A c.args.sort (get_or rest i no_area) _ c.args.lo c.args.hi at c.requires.ordered
    (none_left A rest c.args.sort i c.args.lo at c.loop-area-test.true c.loop-area.invariant) c.in_default.ensures

-- and where that one begins at or behind `hi`, the search ends there
pub returns-then-hi-at : goal.returns-then-hi-at
returns-then-hi-at c =
    let A = c.args.areas.now in let rest = c.cut_by_end.result.1.now in let i = c.loop-area.area-index in let at = c.loop-area.at in
    end_none A _ c.args.sort c.args.lo c.args.hi _ c.requires.ordered
    (none_next A c.args.sort (get_or rest i no_area) _ c.args.lo c.args.hi at c.requires.ordered
    (none_left A rest c.args.sort i c.args.lo at c.loop-area-test.true c.loop-area.invariant) c.in_default.ensures) c.if-hi-at.true
