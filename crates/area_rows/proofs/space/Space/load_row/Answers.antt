use Rattle.std.proofs.Common.{rules, ◌≡◌, ◌+◌, arith, ap, ◌∙◌, subst, sym}
use Rattle.area_guard.specs.Rows.{blocks_by, IsOneOf}
use Rattle.area_guard.specs.Keeping.{no_note}
use Rattle.area_guard.specs.History.{after_row}
use Rattle.area_guard.specs.Reads.{slots_by, IsHeldPage}
use Rattle.area_rows.specs.Halving.{IsOnSameSide}
use Rattle.area_rows.specs.Callers.{CallerView, IsClientStep}
use Rattle.area_rows.proofs.Stepping.{may_row, reads, reads_side, row_loaded}
use Rattle.area_rows.proofs.LayoutLoads.{own_blocks}
use Rattle.area_rows.proofs.space.Space.load_row.Goals as goal

-- the guard allows the load of a row
pub load_as_uncounted-requires-clause-allowed : goal.load_as_uncounted-requires-clause-allowed
load_as_uncounted-requires-clause-allowed c =
    let table = ap (λ (v : CallerView). blocks_by v.seat.table) c.caller.view_is in
    let own = c.caller.invariant.7 in let reach = c.requires.reach in
    may_row no_note _ _ _ c.args.index (omega arith) (search rules) c.caller.invariant.5

-- there is a client word for the row
pub load_as_uncounted-requires-clause-place : goal.load_as_uncounted-requires-clause-place
load_as_uncounted-requires-clause-place c =
    let table = own_blocks c.requires.table c.self.view_is c.self.invariant.1 in
    let wide = c.self.invariant.0 in let reach = c.requires.reach in omega arith

-- it was one step, after which the pass has that row as well
pub returns-clause-step : goal.returns-clause-step
returns-clause-step c =
    let table = ap (λ (v : CallerView). blocks_by v.seat.table) c.caller.view_is in
    let own = c.caller.invariant.7 in let reach = c.requires.reach in
    subst (λ (v : CallerView). IsClientStep v.seat (3 + c.args.index) (after_row c.args.index c.load_as_uncounted.result v.seat.pass)
    c.load_as_uncounted.new.seat) c.caller.view_is
    (row_loaded c.args.index c.load_as_uncounted.result (omega arith) c.load_as_uncounted.ensures.call c.load_as_uncounted.ensures.made)

-- a row that is counted starts below the limit
pub returns-clause-below : goal.returns-clause-below
returns-clause-below c = λ there.
    let s = c.caller.inside.seat in
    let table = ap (λ (v : CallerView). blocks_by v.seat.table) c.caller.view_is in
    let own = c.caller.invariant.7 in let reach = c.requires.reach in
    let r = reads no_note s.number s.held s.pass c.load_as_uncounted.result c.load_as_uncounted.new.seat.pass c.args.index (omega arith) (search rules)
    c.caller.invariant.5 (search rules) c.load_as_uncounted.ensures.made in
    r.1 (subst (λ (v : CallerView). IsOneOf (slots_by v.seat.pass.laid) c.args.index) (sym c.caller.view_is) there)

-- the first row starts at page 0
pub returns-clause-first : goal.returns-clause-first
returns-clause-first c =
    let s = c.caller.inside.seat in
    let table = ap (λ (v : CallerView). blocks_by v.seat.table) c.caller.view_is in
    let own = c.caller.invariant.7 in let reach = c.requires.reach in
    (reads no_note s.number s.held s.pass c.load_as_uncounted.result c.load_as_uncounted.new.seat.pass c.args.index (omega arith) (search rules)
    c.caller.invariant.5 (search rules) c.load_as_uncounted.ensures.made).0

-- the row starts on the same side of each held page as when it was read before
pub returns-clause-side : goal.returns-clause-side
returns-clause-side c = λ page here.
    let s = c.caller.inside.seat in
    subst (λ (v : CallerView). IsHeldPage v.seat.held page → IsOnSameSide v.seat.pass.rows c.args.index c.load_as_uncounted.result page) c.caller.view_is
    (reads_side no_note s.number s.held s.pass c.load_as_uncounted.result c.load_as_uncounted.new.seat.pass
    c.args.index c.load_as_uncounted.ensures.made page) here
