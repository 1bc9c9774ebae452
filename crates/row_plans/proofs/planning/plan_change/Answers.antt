use Rattle.std.proofs.Common.{ℕ, ◌≡◌, ◌≤◌, ◌<◌, ◌+◌, ◌-◌, ◌∙◌, ◌∷◌, List, take, drop, length, sym, ap, subst, arith}
use Rattle.std.proofs.lemmas.List.Elements.{All-take, All-drop}
use Rattle.std.specs.Prelude.{All, Option}
use Rattle.page_types.specs.declared.TheConstants.{LIMIT}
use Rattle.page_types.specs.declared.calls.Kind.{Kind}
use Rattle.space_model.specs.Effect.{patched}
use Rattle.space_model.specs.Cutting.{last_end}
use Rattle.space_model.specs.Judges.{second_of, patches_of}
use Rattle.space_model.proofs.Changing.{rising_end, patched-before, patched-behind, patched-inside, patched-next}
use Rattle.row_plans.specs.RowLists.{rows_start, ShowFrom, IsBareGap}
use Rattle.row_plans.specs.Planning.{ShowTo, StartBefore, IsCome, GoesOn}
use Rattle.row_plans.proofs.RowsBetween.{come_between}
use Rattle.row_plans.proofs.Loading.{HasLoaded, loads_first, loads_on, as_before, as_behind}
use Rattle.row_plans.proofs.RowChanges.{take_few, splice_gaps, begun_shows, made_shows}
use Rattle.row_plans.proofs.planning.plan_change.Given.{Over}
use Rattle.row_plans.proofs.planning.plan_change.Goals.{After-begin-begun, After-put_to-next, After-put_second-last}
use Rattle.row_plans.proofs.planning.plan_change.Goals as goal

-- the loads up to each step, as one
begun : (g : Over) (c : After-begin-begun g) → HasLoaded g.R.Rows c.args.old.now c.args.hand.now c.begin-begun.new.hand
begun g c = loads_first g.R.Rows _ _ _ c.requires.may c.begin-begun.ensures.loaded

next : (g : Over) (c : After-put_to-next g) → HasLoaded g.R.Rows c.args.old.now c.args.hand.now c.put_to-next.new.hand
next g c = loads_on _ (loads_first g.R.Rows _ _ _ c.requires.may c.begin-begun.ensures.loaded) c.put_to-next.ensures.loaded

last : (g : Over) (c : After-put_second-last g) → HasLoaded g.R.Rows c.args.old.now c.args.hand.now c.put_second-last.new.hand
last g c =
    let one = loads_first g.R.Rows _ _ _ c.requires.may c.begin-begun.ensures.loaded in
    loads_on _ (loads_on _ one c.put_to-next.ensures.loaded) c.put_second-last.ensures.loaded

-- no more rows come first than go
first_few : (g : Over) (c : After-begin-begun g) → length c.begin-begun.new.rows.items ≤ c.begin-begun.result.gone
first_few g c =
    let number = g.R.Rows.number c.args.old.now c.args.hand.now in
    let rest = drop (number c.begin-begun.result.at) (g.R.Rows.words c.args.old.now c.args.hand.now) in
    subst (λ (l : List ℕ). length l ≤ c.begin-begun.result.gone) (sym c.begin-begun.ensures.items) (take_few c.begin-begun.result.gone rest)

-- the hand may load again
pub put_to-next-requires-clause-may : goal.put_to-next-requires-clause-may
put_to-next-requires-clause-may g c = (begun g (goal.at.put_to-next-requires-clause-may g c).After-begin-begun).may

-- the rows were gone through up to the first patch
pub put_to-next-requires-clause-come : goal.put_to-next-requires-clause-come
put_to-next-requires-clause-come g c =
    as_behind (λ l n. IsCome l n c.args.change.first.lo c.begin-begun.result) (begun g (goal.at.put_to-next-requires-clause-come g c).After-begin-begun)
    c.begin-begun.ensures.come

-- there is room for the rows of the first patch
pub put_to-next-requires-clause-room : goal.put_to-next-requires-clause-room
put_to-next-requires-clause-room g c =
    let h = (goal.at.put_to-next-requires-clause-room g c).After-begin-begun in
    let same = ap (λ (l : List ℕ). length l) (begun g h).same in
    omega (arith, c.begin-begun.ensures.room, c.clear.ensures.capacity, c.requires.room, first_few g h)

-- the row before is one of the old ones
pub put_to-next-requires-clause-gaps : goal.put_to-next-requires-clause-gaps
put_to-next-requires-clause-gaps g c =
    subst (All IsBareGap) (sym c.begin-begun.ensures.items)
    (All-take IsBareGap _ _ (All-drop IsBareGap _ _ (g.R.Rows.are_rows c.args.old.now c.args.hand.now c.requires.may).gaps))

-- the hand may load again
pub put_second-last-requires-clause-may : goal.put_second-last-requires-clause-may
put_second-last-requires-clause-may g c = (next g (goal.at.put_second-last-requires-clause-may g c).After-put_to-next).may

-- the paints of a second patch are named
pub put_second-last-requires-clause-paints : goal.put_second-last-requires-clause-paints
put_second-last-requires-clause-paints g c = c.requires.paints.1

-- it lies behind the first one
pub put_second-last-requires-clause-rising : goal.put_second-last-requires-clause-rising
put_second-last-requires-clause-rising g c = c.requires.rising.2

-- the rows were gone through up to the end of the first patch
pub put_second-last-requires-clause-come : goal.put_second-last-requires-clause-come
put_second-last-requires-clause-come g c =
    let h = goal.at.put_second-last-requires-clause-come g c in
    as_behind (λ l n. IsCome l n c.args.change.first.hi c.put_to-next.result) (next g h.After-put_to-next)
    (as_before (λ l n. IsCome l n c.args.change.first.hi c.put_to-next.result) (begun g h.After-begin-begun) c.put_to-next.ensures.come)

-- there is room for the rows of a second patch
pub put_second-last-requires-clause-room : goal.put_second-last-requires-clause-room
put_second-last-requires-clause-room g c =
    let h = goal.at.put_second-last-requires-clause-room g c in
    let same = ap (λ (l : List ℕ). length l) (next g h.After-put_to-next).same in
    let few = first_few g h.After-begin-begun in
    omega (arith, c.put_to-next.ensures.few, c.put_to-next.ensures.room, c.begin-begun.ensures.room, c.clear.ensures.capacity, c.requires.room)

-- the hand may load once more
pub join_on-requires-clause-may : goal.join_on-requires-clause-may
join_on-requires-clause-may g c = (last g (goal.at.join_on-requires-clause-may g c).After-put_second-last).may

-- the rows were gone through up to the end of the last patch
gone_through : (g : Over) (c : After-put_second-last g) → IsCome (g.R.Rows.words c.args.old.now c.args.hand.now)
    (g.R.Rows.number c.args.old.now c.args.hand.now) (last_end 0 (patches_of c.args.change)) c.put_second-last.result
gone_through g c =
    let so_far = loads_on _ (loads_first g.R.Rows _ _ _ c.requires.may c.begin-begun.ensures.loaded) c.put_to-next.ensures.loaded in
    as_before (λ l n. IsCome l n (last_end 0 (patches_of c.args.change)) c.put_second-last.result) so_far c.put_second-last.ensures.come

pub join_on-requires-clause-come : goal.join_on-requires-clause-come
join_on-requires-clause-come g c =
    let h = (goal.at.join_on-requires-clause-come g c).After-put_second-last in
    subst (λ (p : ℕ). IsCome (g.R.Rows.words c.args.old.now c.put_second-last.new.hand) (g.R.Rows.number c.args.old.now c.put_second-last.new.hand) p
    c.put_second-last.result) (sym c.end_of-to.ensures)
    (as_behind (λ l n. IsCome l n (last_end 0 (patches_of c.args.change)) c.put_second-last.result) (last g h) (gone_through g h))

-- it ends in the address space
pub join_on-requires-clause-limit : goal.join_on-requires-clause-limit
join_on-requires-clause-limit g c = let end = (rising_end 0 (patches_of c.args.change) c.requires.rising).1 in let is = c.end_of-to.ensures in omega arith

-- there is room for what is left of a row behind it
pub join_on-requires-clause-room : goal.join_on-requires-clause-room
join_on-requires-clause-room g c =
    let h = goal.at.join_on-requires-clause-room g c in
    let few = first_few g h.After-begin-begun in let there = (gone_through g h.After-put_second-last).before.there in
    let more = c.put_second-last.ensures.few in let room = c.put_second-last.ensures.room in
    omega (arith, c.put_to-next.ensures.few, c.put_to-next.ensures.room, c.begin-begun.ensures.room, c.clear.ensures.capacity, c.requires.room)

-- as many rows go as there are
pub returns-clause-there : goal.returns-clause-there
returns-clause-there g c =
    let h = goal.at.returns-clause-there g c in let number = g.R.Rows.number c.args.old.now c.args.hand.now in
    let low = as_before (λ l n. n c.put_second-last.result.at + c.join_on.result ≤ length l) (last g h.After-put_second-last) c.join_on.ensures.there in
    let at = ap number (c.put_second-last.ensures.at ∙ c.put_to-next.ensures.at) in
    omega arith

-- all gaps are bare
pub returns-clause-gaps : goal.returns-clause-gaps
returns-clause-gaps g c = splice_gaps _ _ _ _ (g.R.Rows.are_rows c.args.old.now c.args.hand.now c.requires.may).gaps c.join_on.ensures.gaps

-- the row before the first patch, its pages, those up to the end of the last one, and what is behind it
pub returns-clause-shows : goal.returns-clause-shows
returns-clause-shows g c = λ kinds show.
    let h = goal.at.returns-clause-shows g c in let words = g.R.Rows.words c.args.old.now c.args.hand.now in
    let number = g.R.Rows.number c.args.old.now c.args.hand.now in let loads_two = begun g h.After-begin-begun in
    let loads_three = next g h.After-put_to-next in let loads_four = last g h.After-put_second-last in
    let first = c.args.change.first in let rest = second_of c.args.change.second in
    let begin : ℕ = number c.begin-begun.result.at in
    let start : ℕ = begin + c.begin-begun.result.gone in
    let before : begin ≡ start - 1 = c.begin-begun.ensures.before in
    let gone : c.begin-begun.result.gone ≡ start - begin = omega arith in
    let items = c.begin-begun.ensures.items ∙ ap (λ n. take n (drop begin words)) gone in
    let come : StartBefore words first.lo start = c.begin-begun.ensures.come.before in
    let after : ℕ → Option Kind = patched (first ∷ rest) kinds in
    let from = rows_start (drop begin words) in
    let to = c.end_of-to.result in
    let to_is : to ≡ last_end 0 (first ∷ rest) = c.end_of-to.ensures in
    let end : ℕ = begin + c.join_on.result in
    let at : number c.put_second-last.result.at + c.join_on.result ≡ end =
    ap (λ x. number x + c.join_on.result) (c.put_second-last.ensures.at ∙ c.put_to-next.ensures.at) in
    let more = c.join_on.new.rows.items in
    let low : (p : ℕ) → p < first.lo → after p ≡ kinds p = λ p low.
    patched-before first.lo (first ∷ rest) kinds p (omega arith, c.requires.rising.1, c.requires.rising.2) low in
    let high : (p : ℕ) → to ≤ p → p < LIMIT → after p ≡ kinds p = λ p high limit.
    patched-behind 0 (first ∷ rest) kinds p c.requires.rising (omega arith) in
    let begun = begun_shows words kinds show first.lo start begin come before c.begin-begun.new.rows.items after items low in
    let own = c.put_to-next.ensures.shows from kinds after (as_behind (λ l n. ShowFrom 0 l kinds) loads_two show)
    (λ p low high. patched-inside first rest kinds p c.requires.rising.2 low high) begun in
    let second = c.put_second-last.ensures.shows from kinds after (as_behind (λ l n. ShowFrom 0 l kinds) loads_three show)
    (λ p low. patched-next first rest kinds p low) own in
    let last = subst (λ (p : ℕ). ShowTo from c.put_second-last.new.rows.items p after) (sym to_is) second in
    let joined = subst (λ (n : ℕ). ShowTo from more (rows_start (drop n words)) after) at
    (as_before (λ l n. ShowTo from more (rows_start (drop (n c.put_second-last.result.at + c.join_on.result) l)) after) loads_four
    (c.join_on.ensures.shows from kinds after (as_behind (λ l n. ShowFrom 0 l kinds) loads_four show) high last)) in
    let differs = subst (λ (n : ℕ). GoesOn more (drop n words)) at
    (as_before (λ l n. GoesOn more (drop (n c.put_second-last.result.at + c.join_on.result) l)) loads_four c.join_on.ensures.differs) in
    let ahead = subst (λ (n : ℕ). to ≤ rows_start (drop n words)) at
    (as_before (λ l n. to ≤ rows_start (drop (n c.put_second-last.result.at + c.join_on.result) l)) loads_four c.join_on.ensures.ahead) in
    let ordered = c.requires.rising.1 in let limit = rising_end first.hi rest c.requires.rising.2 in
    made_shows words kinds show first.lo start begin come before more end to after (omega arith) low joined differs ahead high

-- all loads are one
pub returns-clause-loaded : goal.returns-clause-loaded
returns-clause-loaded g c = (loads_on _ (last g (goal.at.returns-clause-loaded g c).After-put_second-last) c.join_on.ensures.loaded).loaded

-- six loads for each row up to the end of the last patch, and those for the rows on both sides
pub returns-clause-steps : goal.returns-clause-steps
returns-clause-steps g c =
    let gone = gone_through g (goal.at.returns-clause-steps g c).After-put_second-last in
    let run = come_between _ _ _ _ _ _ _ (g.R.Rows.are_rows c.args.old.now c.args.hand.now c.requires.may).show c.begin-begun.ensures.come.before
    gone.before c.begin-begun.ensures.before in
    let at = ap (g.R.Rows.number c.args.old.now c.args.hand.now) (c.put_second-last.ensures.at ∙ c.put_to-next.ensures.at) in
    let before = c.begin-begun.ensures.before in
    omega (arith, c.begin-begun.ensures.steps, c.put_to-next.ensures.steps, c.put_second-last.ensures.steps, c.join_on.ensures.steps)
