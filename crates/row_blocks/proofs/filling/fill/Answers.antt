use Rattle.std.proofs.Common.{◌≡◌, ℕ, ◌-◌, ◌*◌, length, ap, arith}
use Rattle.row_blocks.proofs.Fills.{IsBlockLaid, nothing_laid, rows_same, filled_to, filled_tells, left_on, some_left}
use Rattle.row_blocks.proofs.filling.fill.Goals as goal

-- the first block is laid
pub next-init : goal.next-init
next-init c =
    let nb = c.args.blocks in
    let call = c.lay_block.ensures in
    let each = c.rows_each-each.result in
    let laid : IsBlockLaid nb c.number.new.words c.lay_block.new.words c.args.rows.now 0 0 c.min-first.result = assumption call in
    let before = nothing_laid c.requires.few c.number.ensures.length c.number.ensures.told c.number.ensures.below c.number.ensures.above in
    let two : nb - 1 - 1 ≡ nb - 2 = omega arith in
    let all : each * (nb - 1 - 1) ≡ each * (nb - 2) = ap (λ (m : ℕ). each * m) two in
    record {
      filling = filled_to c.requires.wide (omega arith) (omega arith) (omega arith) (omega arith) before laid (omega arith) (omega arith);
      used = call.used;
      started = omega arith;
      high = omega arith;
      within = omega arith;
      left = omega arith;
      low = omega arith;
    }

-- one block more
pub next-preserved : goal.next-preserved
next-preserved c =
    let nb = c.args.blocks in
    let i = c.next.i in
    let taken = c.next.taken in
    let rows = c.args.rows.now in
    let inv = c.next.invariant in
    let call = c.lay_block-in-next.ensures in
    let laid : IsBlockLaid nb c.next.words c.lay_block-in-next.new.words rows i taken c.min-count.result = assumption call in
    let room = some_left c.rows_each-each.result (nb - 1 - i) (length rows - taken) (omega arith) inv.left in
    let same = rows_same c.requires.wide inv.high (omega arith) (omega arith) (omega arith) inv.filling laid 0 (omega arith) (λ e. omega arith) in
    record {
      filling = filled_to c.requires.wide inv.high (omega arith) (omega arith) (omega arith) inv.filling laid (omega arith) (omega arith);
      used = call.used;
      started = omega arith;
      high = omega arith;
      within = omega arith;
      left = left_on c.rows_each-each.result nb i (length rows) taken c.next-test.true inv.left c.min-count.ensures;
      low = omega arith;
    }

-- each block tells its largest gap
pub returns-clause-told : goal.returns-clause-told
returns-clause-told c =
    let inv = c.next.invariant in let within = inv.within in let last = c.next-test.false in filled_tells inv.used (omega arith) inv.filling
