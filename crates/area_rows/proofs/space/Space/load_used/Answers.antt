use Rattle.std.proofs.Common.{rules, ◌≡◌, ◌+◌, ◌*◌, inr, ap, ◌∙◌, subst, arith}
use Rattle.area_guard.specs.Rows.{blocks_by}
use Rattle.area_guard.specs.Keeping.{no_note}
use Rattle.area_rows.specs.Callers.{CallerView}
use Rattle.area_rows.specs.Layouts.{IsSeen}
use Rattle.area_rows.proofs.LayoutLoads.{may_layout, seen_is, blocks_few, own_blocks}
use Rattle.area_rows.proofs.space.Space.load_used.Goals.{After-load_as_uncounted}
use Rattle.area_rows.proofs.space.Space.load_used.Goals as goal

-- the guard allows the load of the block count
pub load_as_uncounted-requires-clause-allowed : goal.load_as_uncounted-requires-clause-allowed
load_as_uncounted-requires-clause-allowed c =
    let p = c.caller.inside.seat.pass in
    let table = ap (λ (v : CallerView). blocks_by v.seat.table) c.caller.view_is ∙ own_blocks c.requires.table c.self.view_is c.self.invariant.1 in
    let own = c.caller.invariant.7 in
    may_layout no_note _ _ p (3 + 128 * c.self.inside.blocks) (inr (omega arith, omega arith)) (search rules) c.caller.invariant.5

-- there is a client word for it
pub load_as_uncounted-requires-clause-place : goal.load_as_uncounted-requires-clause-place
load_as_uncounted-requires-clause-place c = let wide = c.self.invariant.0 in omega arith

-- it was one step, with which the caller has noted the layout and the words of all slots
seen : (c : After-load_as_uncounted) → IsSeen c.caller.inside.seat 1 c.load_as_uncounted.result c.load_as_uncounted.new.seat
seen c =
    let s = c.caller.inside.seat in
    let table = ap (λ (v : CallerView). blocks_by v.seat.table) c.caller.view_is ∙ own_blocks c.requires.table c.self.view_is c.self.invariant.1 in
    seen_is 1 c.load_as_uncounted.result c.caller.invariant.7 (omega arith) (omega arith) (search rules) c.caller.invariant.5 (search rules)
    c.load_as_uncounted.ensures.call c.load_as_uncounted.ensures.made

-- fewer blocks are in use than there are
pub overflow_cast-result : goal.overflow_cast-result
overflow_cast-result c =
    let is = seen (goal.at.overflow_cast-result c).After-load_as_uncounted in
    let word = is.word in let free = is.layout.free in let few = blocks_few c.caller.inside.seat.table in omega arith

pub returns-clause-seen : goal.returns-clause-seen
returns-clause-seen c = subst (λ (v : CallerView). IsSeen v.seat 1 c.load_as_uncounted.result c.load_as_uncounted.new.seat) c.caller.view_is
    (seen (goal.at.returns-clause-seen c).After-load_as_uncounted)
