-- Its looks find the same kinds, so what they find bars the Remap, or bars nothing.
use Rattle.std.proofs.Common.{◌≤◌, ◌<◌, ◌+◌, ◌∙◌, inl, refl, sym, ap, subst, arith, ℕ, Bool, if◌then◌else◌, Option}
use Rattle.std.proofs.lemmas.Bool.{lt-ltb}
use Rattle.page_types.specs.declared.calls.Kind.{Kind}
use Rattle.page_types.specs.declared.calls.Call.TheVariants.{Remap}
use Rattle.page_types.specs.Pages.{page_of, page_count, end_page}
use Rattle.space_model.specs.Answers.{bars}
use Rattle.space_model.specs.Sorts.{IsClear}
use Rattle.space_model.specs.Looking.{longer_looks}
use Rattle.space_model.proofs.Looks.{sees, sees_on, looks_first, looks_then, looks_on}
use Rattle.space_model.proofs.Remapping.{fewer_judged, remap_clear, sealed_refuses}
use Rattle.space_model.proofs.moving.judge_remap.Goals as goal

-- the kind and the first bar: two looks are a look
pub returns-in-Some-clause-looked : goal.returns-in-Some-clause-looked
returns-in-Some-clause-looked g c = g.P.Pages.looks_on _ _ _ _ c.kind_of-kind.ensures.looked c.lowest.ensures.looked

-- a sealed page of pages of one kind refuses the Remap
pub returns-in-Some-lowest-clause-judged : goal.returns-in-Some-lowest-clause-judged
returns-in-Some-lowest-clause-judged g c =
    let one = sees g.P.Pages c.requires.may c.kind_of-kind.ensures.looked in
    sealed_refuses (g.P.Pages.kinds c.args.pages.now c.args.hand.now) c.args.addr c.args.old_len c.args.new_len c.args.may_move c.args.hint
    one.same (sees_on one c.lowest.ensures.looked).same c.kind_of-kind.ensures.kind c.end_page-end.ensures
    c.in_default.ensures.lowest c.in-Some-lowest.ensures.lowest

-- after three looks
pub returns-in-Some-lowest-clause-looked : goal.returns-in-Some-lowest-clause-looked
returns-in-Some-lowest-clause-looked g c =
    (sees_on (sees_on (sees g.P.Pages c.requires.may c.kind_of-kind.ensures.looked) c.lowest.ensures.looked) c.lowest-2.ensures.looked).looked

-- pages that nothing bars become fewer
pub returns-then-count-page_count-clause-judged : goal.returns-then-count-page_count-clause-judged
returns-then-count-page_count-clause-judged g c =
    let kinds = g.P.Pages.kinds c.args.pages.now c.args.hand.now in let one = sees g.P.Pages c.requires.may c.kind_of-kind.ensures.looked in
    let clear =
    remap_clear kinds c.args.addr c.args.old_len c.args.new_len c.args.may_move c.args.hint one.same (sees_on one c.lowest.ensures.looked).same
    c.kind_of-kind.ensures.kind c.end_page-end.ensures c.in_default.ensures.lowest c.in_default-lowest.ensures.lowest in
    fewer_judged kinds c.args.addr c.args.old_len c.args.new_len c.args.may_move c.args.hint c.requires.undecided clear
    (omega (arith, c.if-count-page_count.true, c.page_count.ensures)) c.end_page-end.ensures c.page_count-count.ensures c.changed.ensures

-- after three looks as well
pub returns-then-count-page_count-clause-looked : goal.returns-then-count-page_count-clause-looked
returns-then-count-page_count-clause-looked g c =
    (sees_on (sees_on (sees g.P.Pages c.requires.may c.kind_of-kind.ensures.looked) c.lowest.ensures.looked) c.lowest-2.ensures.looked).looked

-- pages that are to be more may be looked at
pub judge_longer-requires-clause-may : goal.judge_longer-requires-clause-may
judge_longer-requires-clause-may g c =
    (sees_on (sees_on (sees g.P.Pages c.requires.may c.kind_of-kind.ensures.looked) c.lowest.ensures.looked) c.lowest-2.ensures.looked).may

-- the first of them has the kind that was found
pub judge_longer-requires-clause-kind : goal.judge_longer-requires-clause-kind
judge_longer-requires-clause-kind g c =
    let two = sees_on (sees g.P.Pages c.requires.may c.kind_of-kind.ensures.looked) c.lowest.ensures.looked in
    c.kind_of-kind.ensures.kind ∙ ap (λ (k : ℕ → Option Kind). k (page_of c.args.addr)) (sym (sees_on two c.lowest-2.ensures.looked).same)

-- and nothing bars them
pub judge_longer-requires-clause-clear : goal.judge_longer-requires-clause-clear
judge_longer-requires-clause-clear g c =
    let one = sees g.P.Pages c.requires.may c.kind_of-kind.ensures.looked in let two = sees_on one c.lowest.ensures.looked in
    subst (λ (k : ℕ → Option Kind). IsClear k (bars k (Remap c.args.addr c.args.old_len c.args.new_len c.args.may_move c.args.hint)))
    (sym (sees_on two c.lowest-2.ensures.looked).same)
    (remap_clear (g.P.Pages.kinds c.args.pages.now c.args.hand.now) c.args.addr c.args.old_len c.args.new_len c.args.may_move c.args.hint
    one.same two.same c.kind_of-kind.ensures.kind c.end_page-end.ensures c.in_default.ensures.lowest c.in_default-lowest.ensures.lowest)

-- four looks are a look
pub returns-clause-looked : goal.returns-clause-looked
returns-clause-looked g c =
    let three = sees_on (sees_on (sees g.P.Pages c.requires.may c.kind_of-kind.ensures.looked) c.lowest.ensures.looked) c.lowest-2.ensures.looked in
    (sees_on three c.judge_longer.ensures.looked).looked

-- a page that isn't of the first one's kind refuses the Remap
pub returns-in-Some-clause-judged : goal.returns-in-Some-clause-judged
returns-in-Some-clause-judged g c =
    let one = sees g.P.Pages c.requires.may c.kind_of-kind.ensures.looked in
    inl (inl (c.in-Some.page, rw (one.same, c.kind_of-kind.ensures.kind, c.end_page-end.ensures) at c.in-Some.ensures.lowest, refl))

-- after two looks the hand may look again
pub lowest-requires-2-clause-may : goal.lowest-requires-2-clause-may
lowest-requires-2-clause-may g c = (sees_on (sees g.P.Pages c.requires.may c.kind_of-kind.ensures.looked) c.lowest.ensures.looked).may

-- the looks are those for the kind, two searches over the old pages, and those for pages that are to be more
pub returns-clause-looks : goal.returns-clause-looks
returns-clause-looks g c = λ at stop.
    let p = c.args.pages.now in let hand = c.args.hand.now in let a = page_of c.args.addr in let reach = g.P.Pages.reach p hand in
    let end = c.end_page-end.result in
    let one = looks_first g.P.Pages p hand c.kind_of-kind.new.hand (reach a a) c.requires.may c.kind_of-kind.ensures.looked c.kind_of-kind.ensures.looks in
    let two = looks_on c.lowest.new.hand a end one c.lowest.ensures.looked c.lowest.ensures.looks in
    let three = looks_on c.lowest-2.new.hand a end two c.lowest-2.ensures.looked c.lowest-2.ensures.looks in
    let more : page_count c.args.old_len < page_count c.args.new_len =
    omega (arith, c.if-count-page_count.false, c.page_count.ensures, c.page_count-count.ensures) in
    let longer = λ (r : ℕ → ℕ → ℕ) (fit : ℕ).
    longer_looks r fit a (end_page c.args.addr c.args.old_len) (page_count c.args.new_len) c.args.may_move (page_of c.args.hint) in
    subst (λ (z : ℕ × Bool).
    g.P.Pages.looks p c.judge_longer.new.hand ≤
    g.P.Pages.looks p hand + (reach a a + reach a z.0 + reach a z.0 + (if z.1 then longer reach (g.P.Pages.fit_looks p hand) else 0)))
    (λ i. (c.end_page-end.ensures i, sym (lt-ltb (page_count c.args.old_len) (page_count c.args.new_len) more) i))
    (looks_then c.judge_longer.new.hand longer three c.judge_longer.ensures.looks)

-- after one look too
pub lowest-requires-clause-may : goal.lowest-requires-clause-may
lowest-requires-clause-may g c = (sees g.P.Pages c.requires.may c.kind_of-kind.ensures.looked).may
