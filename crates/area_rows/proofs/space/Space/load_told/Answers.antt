use Rattle.std.proofs.Common.{rules, suc, ◌≡◌, ◌+◌, ◌*◌, ◌≤◌, inr, ap, ◌∙◌, subst, arith}
use Rattle.area_guard.specs.Rows.{blocks_by}
use Rattle.area_guard.specs.Keeping.{no_note}
use Rattle.area_rows.specs.Callers.{CallerView}
use Rattle.area_rows.specs.Layouts.{IsSeen, layout_place}
use Rattle.area_rows.proofs.LayoutLoads.{may_layout, seen_is, own_blocks}
use Rattle.area_rows.proofs.space.Space.load_told.Goals as goal

-- the guard allows the load of a body word
pub load_as_uncounted-requires-clause-allowed : goal.load_as_uncounted-requires-clause-allowed
load_as_uncounted-requires-clause-allowed c =
    let p = c.caller.inside.seat.pass in
    let table = ap (λ (v : CallerView). blocks_by v.seat.table) c.caller.view_is ∙ own_blocks c.requires.table c.self.view_is c.self.invariant.1 in
    let own = c.caller.invariant.7 in
    let pass = ap (λ (v : CallerView). v.seat.pass.blocks) c.caller.view_is in
    let lt = c.requires.there in
    may_layout no_note _ _ p (3 + 1 + 128 * c.self.inside.blocks + c.args.block) (inr (omega arith, omega arith)) (search rules) c.caller.invariant.5

-- there is a client word for it
pub load_as_uncounted-requires-clause-place : goal.load_as_uncounted-requires-clause-place
load_as_uncounted-requires-clause-place c =
    let wide = c.self.invariant.0 in
    let table = ap (λ (v : CallerView). blocks_by v.seat.table) c.caller.view_is ∙ own_blocks c.requires.table c.self.view_is c.self.invariant.1 in
    let own = c.caller.invariant.7 in
    let pass = ap (λ (v : CallerView). v.seat.pass.blocks) c.caller.view_is in
    let lt = c.requires.there in omega arith

-- it was one step, with which the caller has noted the layout and the words of all slots
pub returns-clause-seen : goal.returns-clause-seen
returns-clause-seen c =
    let s = c.caller.inside.seat in let u = c.load_as_uncounted.new.seat in
    let table = ap (λ (v : CallerView). blocks_by v.seat.table) c.caller.view_is ∙ own_blocks c.requires.table c.self.view_is c.self.invariant.1 in
    let own = c.caller.invariant.7 in
    let pass = ap (λ (v : CallerView). v.seat.pass.blocks) c.caller.view_is in
    let lt = c.requires.there in
    let few : 2 + c.args.block ≤ blocks_by s.table + 1 = omega arith in
    let up : suc (1 + c.args.block) ≡ 2 + c.args.block = omega arith in
    let at : 3 + 1 + 128 * c.self.inside.blocks + c.args.block ≡ 3 + 128 * blocks_by s.table + (1 + c.args.block) = omega arith in
    subst (λ (v : CallerView). IsSeen v.seat (2 + c.args.block) c.load_as_uncounted.result u) c.caller.view_is
    (seen_is (2 + c.args.block) c.load_as_uncounted.result c.caller.invariant.7 few (at ∙ ap (layout_place (blocks_by s.table)) up) (search rules)
    c.caller.invariant.5 (search rules) c.load_as_uncounted.ensures.call c.load_as_uncounted.ensures.made)
