use Rattle.std.proofs.Common.{[], ◌≡◌, ◌+◌, ◌-◌, refl, ap, ◌∙◌, arith}
use Rattle.row_blocks.specs.Blocks.{count_to}
use Rattle.row_blocks.proofs.RowSplices.{same_splice}
use Rattle.row_blocks.proofs.Cuts.{count_told, blocks_gone}
use Rattle.row_blocks.proofs.KeptGaps.{left_beside, out_beside}
use Rattle.row_blocks.proofs.cutting.cut_on.Goals as goal

-- all rows that went are of the first block
pub returns-then-end-first-clause-spliced : goal.returns-then-end-first-clause-spliced
returns-then-end-first-clause-spliced g c =
    let was = c.cut_blocks-end.ensures in
    let one = g.W.Loads.words c.args.words.now c.args.hand.now in
    let begin = count_told c.args.blocks _ _ _ was.before ∙ ap (count_to c.args.blocks one) c.if-end-first.true in
    same_splice [] was.spliced refl begin refl

-- no block has gone
pub returns-then-end-first-clause-went : goal.returns-then-end-first-clause-went
returns-then-end-first-clause-went g c =
    let was = c.cut_blocks-end.ensures in
    let none = c.requires.there in
    let e : c.args.first + 0 ≡ c.args.first = omega arith in
    let same = ap (count_to c.args.blocks (g.W.Loads.words c.args.words.now c.args.hand.now)) e in
    record { first = c.args.first; count = 0; there = omega arith; begin = omega arith; whole = omega arith; went = omega arith }

-- or those up to the first of which rows are left
pub returns-clause-went : goal.returns-clause-went
returns-clause-went g c =
    let was = c.cut_blocks-end.ensures in
    let e : c.args.first + (c.cut_blocks-end.result - c.args.first) ≡ c.cut_blocks-end.result = omega arith in
    let same = ap (count_to c.args.blocks (g.W.Loads.words c.args.words.now c.args.hand.now)) e in
    let whole = was.whole in
    let there = was.there in
    let out = c.take_out.ensures.count in
    let count = was.count in
    record {
      first = c.args.first;
      count = c.cut_blocks-end.result - c.args.first;
      there = omega arith;
      begin = omega arith;
      whole = omega arith;
      went = omega arith;
    }

-- or of whole blocks, and of the one behind them
pub returns-clause-spliced : goal.returns-clause-spliced
returns-clause-spliced g c =
    let was = c.cut_blocks-end.ensures in
    blocks_gone _ _ _ _ _ c.requires.laid was.from (omega arith) was.before was.spliced c.take_out.ensures.spliced

-- the blocks beside those that went tell what they told
pub returns-then-end-first-clause-beside : goal.returns-then-end-first-clause-beside
returns-then-end-first-clause-beside g c =
    let was = c.cut_blocks-end.ensures in
    left_beside c.args.first c.args.gone c.if-end-first.true c.requires.laid.spare was.count was.before was.behind was.none

pub returns-clause-beside : goal.returns-clause-beside
returns-clause-beside g c =
    let was = c.cut_blocks-end.ensures in
    let out = c.take_out.ensures in
    let from = was.from in
    let differ = c.if-end-first.false in
    out_beside (g.W.Loads.words c.args.words.now c.cut_blocks-end.new.hand) c.args.first c.args.gone c.cut_blocks-end.result
    (omega (arith, differ)) c.requires.laid.spare was.count was.before was.behind was.none
    out.count out.before out.behind
