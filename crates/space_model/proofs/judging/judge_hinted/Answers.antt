use Rattle.std.proofs.Common.{ℕ, Option, ◌∙◌, sym, subst}
use Rattle.std.proofs.lemmas.Bool.{true≢false}
use Rattle.page_types.specs.declared.calls.Kind.{Kind}
use Rattle.page_types.specs.declared.calls.Call.TheVariants.{Map}
use Rattle.space_model.specs.Looking.{TakesLooks}
use Rattle.space_model.specs.Places.{FitsAt}
use Rattle.space_model.proofs.Judgements.{hinted_refused, hinted_placed}
use Rattle.space_model.proofs.Looks.{sees, looks_first, looks_hinted}
use Rattle.space_model.proofs.judging.judge_hinted.Given.{Over}
use Rattle.space_model.proofs.judging.judge_hinted.Goals.{After-highest_fit}
use Rattle.space_model.proofs.judging.judge_hinted.Goals as goal

-- where the hint doesn't fit, the pages are put as high as a second look finds that they fit in its window
pub returns-in-Some-clause-judged : goal.returns-in-Some-clause-judged
returns-in-Some-clause-judged g c =
    let same = (sees g.P.Pages c.requires.may c.fits_at.ensures.looked).same in
    hinted_placed (g.P.Pages.kinds c.args.pages.now c.args.hand.now) c.args.addr c.args.len c.args.prot c.args.flags c.requires.hint
    c.window_of-window.ensures.window c.page_count-count.ensures c.mapped_kind-in-Some.ensures
    (λ fit. true≢false (sym (c.fits_at.ensures.fits.1 fit) ∙ c.if-fits_at.false)) (rw same at c.in-Some.ensures.fit)
    c.window_of-window.ensures.limit c.mapped_at-in-Some.ensures

-- two looks are a look
pub returns-in-Some-clause-looked : goal.returns-in-Some-clause-looked
returns-in-Some-clause-looked g c = g.P.Pages.looks_on _ _ _ _ c.fits_at.ensures.looked c.highest_fit.ensures.looked

-- where the pages fit nowhere in the window the Map is refused
pub returns-in-None-clause-judged : goal.returns-in-None-clause-judged
returns-in-None-clause-judged g c =
    let same = (sees g.P.Pages c.requires.may c.fits_at.ensures.looked).same in
    hinted_refused (g.P.Pages.kinds c.args.pages.now c.args.hand.now) c.args.addr c.args.len c.args.prot c.args.flags c.requires.hint
    c.window_of-window.ensures.window c.page_count-count.ensures
    (subst (λ (k : ℕ → Option Kind). (start : ℕ) → ¬ FitsAt k c.window_of-window.result c.page_count-count.result start) same
    c.in-None.ensures.fit)

-- by two looks as well
pub returns-in-None-clause-looked : goal.returns-in-None-clause-looked
returns-in-None-clause-looked g c = g.P.Pages.looks_on _ _ _ _ c.fits_at.ensures.looked c.highest_fit.ensures.looked

-- the looks are those at the hint, and those for a place
down : (g : Over) (c : After-highest_fit g) → TakesLooks (g.P.Pages.kinds c.args.pages.now c.args.hand.now)
    (g.P.Pages.reach c.args.pages.now c.args.hand.now) (g.P.Pages.fit_looks c.args.pages.now c.args.hand.now)
    (Map c.args.addr c.args.len c.args.prot c.args.flags)
    (g.P.Pages.looks c.args.pages.now c.args.hand.now) (g.P.Pages.looks c.args.pages.now c.highest_fit.new.hand)
down g c at stop =
    looks_hinted c.highest_fit.new.hand c.args.addr c.args.len c.args.prot c.args.flags c.page_count-count.result at
    c.requires.hint c.page_count-count.ensures
    (looks_first g.P.Pages _ _ _ _ c.requires.may c.fits_at.ensures.looked c.fits_at.ensures.looks) c.highest_fit.ensures.looks

pub returns-in-Some-clause-looks : goal.returns-in-Some-clause-looks
returns-in-Some-clause-looks g c = down g (goal.at.returns-in-Some-clause-looks g c).After-highest_fit

-- as many where there is no place
pub returns-in-None-clause-looks : goal.returns-in-None-clause-looks
returns-in-None-clause-looks g c = down g (goal.at.returns-in-None-clause-looks g c).After-highest_fit
