use Rattle.std.proofs.Common.{◌+◌, ◌<◌, refl, arith}
use Rattle.row_blocks.specs.Blocks.{blocks_of}
use Rattle.row_blocks.proofs.Counts.{count_next, block_there}
use Rattle.test_rows.proofs.block_tests.position.Goals.{In-passed}
use Rattle.test_rows.proofs.block_tests.position.Goals as goal

-- where rows are left behind a block, there is one behind it
behind : (c : In-passed) → c.passed.i + 1 < blocks_of c.args.blocks c.args.words.now
behind c =
    let inv = c.passed.invariant in
    let next = count_next c.args.blocks c.args.words.now c.passed.i in
    let here = inv.there in
    let left = inv.left in
    let rows = inv.rows in
    let more = c.passed-test.true in
    let there = c.requires.there in
    block_there (c.passed.i + 1) c.requires.laid (omega arith) (omega arith)

pub bounds-words-told-in-passed : goal.bounds-words-told-in-passed
bounds-words-told-in-passed c =
    let b = behind (goal.at.bounds-words-told-in-passed c).In-passed in
    let spare = c.requires.laid.spare in
    let wide = c.requires.laid.wide in
    omega arith

-- one block more was passed
pub passed-preserved : goal.passed-preserved
passed-preserved c =
    let inv = c.passed.invariant in
    let next = count_next c.args.blocks c.args.words.now c.passed.i in
    let left = inv.left in
    let rows = inv.rows in
    let more = c.passed-test.true in
    record { left = omega arith; there = behind (goal.at.passed-preserved c).In-passed; rows = refl }
