use Rattle.std.proofs.Common.{◌≡◌, arith, ◌∙◌}
use Rattle.area_guard.specs.Keeping.{no_note}
use Rattle.area_rows.proofs.ReplacingRows.{may_store_change, change_stored, index_reach}
use Rattle.area_rows.proofs.LayoutLoads.{own_blocks}
use Rattle.area_rows.proofs.space.Space.store_change.Goals as goal

-- the guard allows the store of the change
pub store_as_uncounted-requires-clause-allowed : goal.store_as_uncounted-requires-clause-allowed
store_as_uncounted-requires-clause-allowed c = let w = c.requires.change in may_store_change no_note w.1 w.2 c.args.index c.args.word w.3 w.4

-- its place is a word's
pub overflow_add-index : goal.overflow_add-index
overflow_add-index c =
    let w = c.requires.change in
    let table = own_blocks c.requires.table c.self.view_is c.self.invariant.1 in
    let few = c.self.invariant.2 in let lt = index_reach w.2 in let at = w.3 in omega arith

-- there is a client word for the row
pub store_as_uncounted-requires-clause-place : goal.store_as_uncounted-requires-clause-place
store_as_uncounted-requires-clause-place c =
    let w = c.requires.change in
    let table = own_blocks c.requires.table c.self.view_is c.self.invariant.1 in
    let wide = c.self.invariant.0 in let lt = index_reach w.2 in let at = w.3 in omega arith

-- it was one step of the seat, after which all is written
pub returns : goal.returns
returns c = let w = c.requires.change in record {
  step = change_stored w.0 c.args.index c.args.word w.1 c.store_as_uncounted.ensures.call c.store_as_uncounted.ensures.made;
}
