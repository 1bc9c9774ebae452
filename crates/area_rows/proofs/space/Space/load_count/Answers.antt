use Rattle.std.proofs.Common.{rules, refl, subst, arith}
use Rattle.area_guard.specs.Keeping.{no_note}
use Rattle.area_rows.specs.Callers.{CallerView}
use Rattle.area_rows.specs.Layouts.{IsSeen}
use Rattle.area_rows.proofs.LayoutLoads.{may_layout, is_layout_place, seen_is}
use Rattle.area_rows.proofs.space.Space.load_count.Goals as goal

-- the guard allows the load of the row count
pub load_as_uncounted-requires-clause-allowed : goal.load_as_uncounted-requires-clause-allowed
load_as_uncounted-requires-clause-allowed c =
    let p = c.caller.inside.seat.pass in
    may_layout no_note _ _ p 2 (is_layout_place p.blocks 0 (omega arith)) (search rules) c.caller.invariant.5

-- it was one step, with which the caller has noted the layout and the words of all slots
pub returns-clause-seen : goal.returns-clause-seen
returns-clause-seen c =
    let s = c.caller.inside.seat in let u = c.load_as_uncounted.new.seat in
    subst (λ (v : CallerView). IsSeen v.seat 0 c.load_as_uncounted.result u) c.caller.view_is
    (seen_is 0 c.load_as_uncounted.result c.caller.invariant.7 (omega arith) refl (search rules) c.caller.invariant.5 (search rules)
    c.load_as_uncounted.ensures.call c.load_as_uncounted.ensures.made)

-- there is a row, and there are at most so many
pub returns-clause-some : goal.returns-clause-some
returns-clause-some c = let seen = returns-clause-seen c in let word = seen.word in let some_row = seen.some in omega arith

pub returns-clause-few : goal.returns-clause-few
returns-clause-few c = let seen = returns-clause-seen c in let word = seen.word in let most = seen.few in omega arith
