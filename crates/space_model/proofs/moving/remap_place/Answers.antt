use Rattle.std.proofs.Common.{◌+◌, ◌≤◌, Bool, if◌then◌else◌, ◌&&◌, ◌==◌, not, ◌∙◌, sym, subst, refl, inl, ℕ, Option, MatchOption}
use Rattle.std.proofs.lemmas.Bool.{true≢false}
use Rattle.page_types.specs.declared.TheConstants.{LOW}
use Rattle.page_types.specs.declared.calls.Kind.{Kind}
use Rattle.page_types.specs.Pages.{page_of, is_aligned}
use Rattle.space_model.specs.Places.{FitsAt, IsHighestFit, HasRoom}
use Rattle.space_model.specs.Looking.{hint_looks}
use Rattle.space_model.proofs.Looks.{sees, sees_on, looks_first, looks_on, looks_then}
use Rattle.space_model.proofs.Remapping.{at_hint, past_hint, found_last}
use Rattle.space_model.proofs.moving.remap_place.Goals as goal

-- the pages go to the hint, where they may and fit there
pub returns-then-goes_to_hint-clause-place : goal.returns-then-goes_to_hint-clause-place
returns-then-goes_to_hint-clause-place g c =
    let goes = c.goes_to_hint.ensures.fits.0 c.if-goes_to_hint.true in
    at_hint (g.P.Pages.kinds c.args.pages.now c.args.hand.now) c.args.count c.args.lo c.args.end
    (c.args.may_move && not (c.args.hint == 0) && is_aligned c.args.hint) c.args.may_move (page_of c.args.hint) goes.0 goes.1

-- or stay, where those behind them are free
pub returns-then-has_room-clause-place : goal.returns-then-has_room-clause-place
returns-then-has_room-clause-place g c =
    let same = (sees g.P.Pages c.requires.may c.goes_to_hint.ensures.looked).same in
    past_hint (g.P.Pages.kinds c.args.pages.now c.args.hand.now) c.args.count c.args.lo c.args.end
    (c.args.may_move && not (c.args.hint == 0) && is_aligned c.args.hint) c.args.may_move (page_of c.args.hint) c.args.lo
    (λ may fit. true≢false (sym (c.goes_to_hint.ensures.fits.1 (may, fit)) ∙ c.if-goes_to_hint.false))
    (inl (subst (λ (k : ℕ → Option Kind). HasRoom k c.args.end (c.args.lo + c.args.count)) same (c.has_room.ensures.room.0 c.if-has_room.true), refl))

-- or go as high as they fit, if they may move
pub returns-then-may_move-clause-place : goal.returns-then-may_move-clause-place
returns-then-may_move-clause-place g c =
    let one = sees g.P.Pages c.requires.may c.goes_to_hint.ensures.looked in
    found_last (g.P.Pages.kinds c.args.pages.now c.args.hand.now) c.args.count c.args.lo c.args.end c.args.may_move c.args.hint c.highest_fit.result
    c.if-may_move.true
    (λ may fit. true≢false (sym (c.goes_to_hint.ensures.fits.1 (may, fit)) ∙ c.if-goes_to_hint.false))
    (λ room. true≢false
    (sym (c.has_room.ensures.room.1 (subst (λ (k : ℕ → Option Kind). HasRoom k c.args.end (c.args.lo + c.args.count)) (sym one.same) room)) ∙
    c.if-has_room.false))
    (subst (λ (k : ℕ → Option Kind).
    MatchOption c.highest_fit.result ((start : ℕ) → ¬ FitsAt k LOW c.args.count start) (IsHighestFit k LOW c.args.count))
    (sees_on one c.has_room.ensures.looked).same c.highest_fit.ensures.fit)

-- after as many looks as were made
pub returns-then-may_move-clause-looked : goal.returns-then-may_move-clause-looked
returns-then-may_move-clause-looked g c =
    (sees_on (sees_on (sees g.P.Pages c.requires.may c.goes_to_hint.ensures.looked) c.has_room.ensures.looked) c.highest_fit.ensures.looked).looked

-- two looks are a look, where the pages stay
pub returns-then-has_room-clause-looked : goal.returns-then-has_room-clause-looked
returns-then-has_room-clause-looked g c = g.P.Pages.looks_on _ _ _ _ c.goes_to_hint.ensures.looked c.has_room.ensures.looked

-- and where there is no place
pub returns-clause-looked : goal.returns-clause-looked
returns-clause-looked g c = g.P.Pages.looks_on _ _ _ _ c.goes_to_hint.ensures.looked c.has_room.ensures.looked

-- after two looks the hand may look again
pub highest_fit-requires-clause-may : goal.highest_fit-requires-clause-may
highest_fit-requires-clause-may g c = (sees_on (sees g.P.Pages c.requires.may c.goes_to_hint.ensures.looked) c.has_room.ensures.looked).may

-- the looks are those at the hint, those behind the pages, and those for a place
pub returns-then-may_move-clause-looks : goal.returns-then-may_move-clause-looks
returns-then-may_move-clause-looks g c =
    let p = c.args.pages.now in let hand = c.args.hand.now in let reach = g.P.Pages.reach p hand in
    let at_hint = hint_looks reach c.args.count c.args.may_move (page_of c.args.hint) in
    let one = looks_first g.P.Pages p hand c.goes_to_hint.new.hand at_hint c.requires.may c.goes_to_hint.ensures.looked c.goes_to_hint.ensures.looks in
    let two = looks_on c.has_room.new.hand c.args.end (c.args.lo + c.args.count) one c.has_room.ensures.looked c.has_room.ensures.looks in
    subst (λ (b : Bool).
    g.P.Pages.looks p c.highest_fit.new.hand ≤
    g.P.Pages.looks p hand + (at_hint + reach c.args.end (c.args.lo + c.args.count) + (if b then g.P.Pages.fit_looks p hand else 0)))
    (sym c.if-may_move.true) (looks_then c.highest_fit.new.hand (λ r fit. fit) two c.highest_fit.ensures.looks)

-- after one look too
pub has_room-requires-clause-may : goal.has_room-requires-clause-may
has_room-requires-clause-may g c = (sees g.P.Pages c.requires.may c.goes_to_hint.ensures.looked).may
