use Rattle.std.proofs.Common.{ℕ, ◌+◌, ◌<◌, List, sym, ap, subst, ◌∙◌, arith}
use Rattle.row_blocks.specs.Blocks.{blocks_of, rows_of, told}
use Rattle.row_blocks.proofs.Steps.{steps_more, three_steps}
use Rattle.row_blocks.proofs.Counts.{count_next, count_up, block_there}
use Rattle.row_blocks.proofs.Cuts.{head_gone}
use Rattle.row_blocks.proofs.cutting.cut_blocks.Given.{Over}
use Rattle.row_blocks.proofs.cutting.cut_blocks.Goals.{In-whole}
use Rattle.row_blocks.proofs.cutting.cut_blocks.Goals as goal

-- while rows are left to go, there is a block whose rows they are
there : (g : Over) (c : In-whole g) → c.whole.end < blocks_of c.args.blocks (g.W.Loads.words c.args.words.now c.args.hand.now)
there g c = block_there c.whole.end c.requires.laid c.whole.invariant.there (omega arith)

pub body_of-body-requires-clause-there : goal.body_of-body-requires-clause-there
body_of-body-requires-clause-there g c = let t = there g (goal.at.body_of-body-requires-clause-there g c).In-whole in omega arith

pub delete-requires-clause-there : goal.delete-requires-clause-there
delete-requires-clause-there g c =
    let t = there g (goal.at.delete-requires-clause-there g c).In-whole in
    let same = c.body_of-body.ensures.words ∙ c.whole.invariant.words in
    subst (λ (l : List ℕ). c.whole.end < blocks_of c.args.blocks l) (sym same) t

-- the rows that were left are the first ones of this block
pub returns-then-left-body-clause-spliced : goal.returns-then-left-body-clause-spliced
returns-then-left-body-clause-spliced g c =
    let t = there g (goal.at.returns-then-left-body-clause-spliced g c).In-whole in
    head_gone c.args.blocks (g.W.Loads.words c.args.words.now c.delete.new.hand) c.whole.end c.whole.left (omega arith)
    (c.body_of-body.ensures.words ∙ c.whole.invariant.words) c.delete.ensures.spliced c.delete.ensures.others c.whole.invariant.left

pub returns-then-left-body-clause-kept : goal.returns-then-left-body-clause-kept
returns-then-left-body-clause-kept g c = three_steps g.W.Loads _ _ _ _ _ c.whole.invariant.stepped.kept c.body_of-body.ensures.kept c.delete.ensures.kept

-- the rows of one block more are to go
pub whole-preserved : goal.whole-preserved
whole-preserved g c =
    let one = g.W.Loads.words c.args.words.now c.args.hand.now in
    let inv = c.whole.invariant in
    let t = there g (goal.at.whole-preserved g c).In-whole in
    let next = count_next c.args.blocks one c.whole.end in
    let was = ap (λ (l : List ℕ). rows_of c.args.blocks l c.whole.end) inv.words in
    record {
      words = c.body_of-body.ensures.words ∙ inv.words;
      from = omega arith;
      there = omega arith;
      left = omega arith;
      stepped = steps_more _ inv.stepped c.body_of-body.ensures.may c.body_of-body.ensures.stay c.body_of-body.ensures.kept;
      steps = omega arith;
    }

-- the blocks behind that one tell what they told
pub returns-then-left-body-clause-behind : goal.returns-then-left-body-clause-behind
returns-then-left-body-clause-behind g c = λ k lt there.
    c.delete.ensures.others k there (λ e. omega arith)
    ∙ ap (λ (l : List ℕ). told c.args.blocks l k) (c.body_of-body.ensures.words ∙ c.whole.invariant.words)

-- rows that are left to go are some of those that were to go
pub returns-then-left-body-clause-none : goal.returns-then-left-body-clause-none
returns-then-left-body-clause-none g c = λ none_goes.
    let inv = c.whole.invariant in
    let left = inv.left in
    let up = count_up c.args.blocks (g.W.Loads.words c.args.words.now c.args.hand.now) c.args.first c.whole.end inv.from in
    absurd (omega arith)

-- no word has changed
pub returns-clause-behind : goal.returns-clause-behind
returns-clause-behind g c = λ k lt there. ap (λ (l : List ℕ). told c.args.blocks l k) c.whole.invariant.words

pub returns-clause-none : goal.returns-clause-none
returns-clause-none g c = λ none_goes. c.whole.invariant.words
