use Rattle.std.proofs.Common.{ℕ, ◌≡◌, ◌+◌, min, subst, arith}
use Rattle.row_blocks.specs.Blocks.{count_to, rank}
use Rattle.row_blocks.specs.Limits.{HaveGone}
use Rattle.row_blocks.proofs.Settlings.{gone_behind}
use Rattle.row_blocks.proofs.Counts.{count_up}
use Rattle.row_blocks.proofs.Cuts.{rest_fits, cut_whole}
use Rattle.row_blocks.proofs.KeptGaps.{beside_wide, cut_beside}
use Rattle.row_blocks.proofs.cutting.cut.Goals as goal

-- the rows that are left to go stand behind those of the first block
pub cut_on-requires-2-clause-fits : goal.cut_on-requires-2-clause-fits
cut_on-requires-2-clause-fits g c =
    let was = c.cut_first-left.ensures in
    rest_fits _ _ _ _ _ was.laid (omega arith) was.left was.spliced was.rest c.requires.fits

-- blocks that have gone stood behind the first row that went
pub returns-then-at-eq0-clause-went : goal.returns-then-at-eq0-clause-went
returns-then-at-eq0-clause-went g c = λ fewer.
    let nb = c.args.blocks in
    let one = g.W.Loads.words c.args.words.now c.args.hand.now in
    let two = g.W.Loads.words c.args.words.now c.cut_on.new.hand in
    let e : count_to nb one c.args.at.block ≡ rank nb one c.args.at.block c.args.at.place = omega arith in
    subst (λ (n : ℕ). HaveGone nb one two n (n + c.args.gone)) e c.cut_on.ensures.went

-- also where it isn't the first of its block
pub returns-clause-went : goal.returns-clause-went
returns-clause-went g c = λ fewer.
    let was = c.cut_first-left.ensures in
    let spare = c.requires.laid.spare in
    gone_behind c.requires.there spare c.requires.place was.left was.less was.others was.count was.rest c.cut_on-2.ensures.went fewer

-- both cuts are one
pub returns-clause-spliced : goal.returns-clause-spliced
returns-clause-spliced g c =
    let was = c.cut_first-left.ensures in
    cut_whole _ _ _ _ _ (omega arith) was.left was.spliced c.cut_on-2.ensures.spliced was.rest

-- the blocks beside those of which rows went tell what they told
pub returns-then-at-eq0-clause-beside : goal.returns-then-at-eq0-clause-beside
returns-then-at-eq0-clause-beside g c =
    let b = c.cut_on.ensures.beside in
    let until = b.until in
    let at = c.args.at in
    let two = g.W.Loads.words c.args.words.now c.cut_on.new.hand in
    let up = count_up c.args.blocks two (at.block + min 1 c.args.gone) (at.block + 1 + min 1 c.args.gone) (omega arith) in
    beside_wide (at.block + 1 + min 1 c.args.gone) _ (omega arith) (omega arith) b

pub returns-clause-beside : goal.returns-clause-beside
returns-clause-beside g c =
    let was = c.cut_first-left.ensures in
    cut_beside c.args.at.block c.args.at.place c.args.gone c.cut_first-left.result c.requires.there c.requires.laid.spare was.left was.count was.others
    was.place c.cut_on-2.ensures.count c.cut_on-2.ensures.beside
