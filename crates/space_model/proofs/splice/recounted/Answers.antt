-- What lies outside the two cuts is counted once.
use Rattle.std.proofs.Common.{arith}
use Rattle.space_model.proofs.Splicing.{rows_fewer, rows_changed}
use Rattle.space_model.proofs.splice.recounted.Goals as goal

-- the old rows between the cuts are few enough to count
pub rows_between-requires : goal.rows_between-requires
rows_between-requires c =
    let few = rows_fewer c.args.front.now c.args.old.now c.args.back.now _ _ c.end_of-from.ensures c.start_of-to.ensures in
    omega (arith, c.requires.counted, c.ranges.rows.fits)

-- they are at most all rows, so the subtraction fits
pub overflow_sub-outside : goal.overflow_sub-outside
overflow_sub-outside c =
    let few = rows_fewer c.args.front.now c.args.old.now c.args.back.now _ _ c.end_of-from.ensures c.start_of-to.ensures in
    omega (arith, c.requires.counted, c.rows_between.ensures)

-- the new rows between the cuts are few enough to count
pub rows_between-requires-2 : goal.rows_between-requires-2
rows_between-requires-2 c =
    let few = rows_fewer c.args.front.now c.args.new.now c.args.back.now _ _ c.end_of-from.ensures c.start_of-to.ensures in
    omega (arith, c.requires.fits)

-- with them the sum still fits
pub overflow_add-result : goal.overflow_add-result
overflow_add-result c =
    let few = rows_fewer c.args.front.now c.args.old.now c.args.back.now _ _ c.end_of-from.ensures c.start_of-to.ensures in
    let changed = rows_changed c.args.front.now c.args.old.now c.args.new.now c.args.back.now _ _ c.end_of-from.ensures c.start_of-to.ensures in
    omega (arith, c.requires.counted, c.requires.fits, c.rows_between.ensures, c.rows_between-2.ensures)

-- the sum is the rows of the new list
pub returns : goal.returns
returns c =
    let few = rows_fewer c.args.front.now c.args.old.now c.args.back.now _ _ c.end_of-from.ensures c.start_of-to.ensures in
    let changed = rows_changed c.args.front.now c.args.old.now c.args.new.now c.args.back.now _ _ c.end_of-from.ensures c.start_of-to.ensures in
    omega (arith, c.requires.counted, c.rows_between.ensures, c.rows_between-2.ensures)
