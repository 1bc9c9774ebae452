use Rattle.std.proofs.Common.{ℕ, List, ap, ◌∙◌, arith}
use Rattle.row_blocks.specs.Blocks.{rows_of, told}
use Rattle.row_blocks.proofs.Cuts.{rest_gone}
use Rattle.row_blocks.proofs.cutting.cut_first.Goals as goal

-- the other body words stand as they stood
pub returns-clause-others : goal.returns-clause-others
returns-clause-others g c = λ k lt differ.
    c.delete.ensures.others k lt differ ∙ ap (λ (l : List ℕ). told c.args.blocks l k) c.body_of-body.ensures.words

-- where rows are left to go, the block ends before them
pub returns-clause-rest : goal.returns-clause-rest
returns-clause-rest g c = λ some.
    let nb = c.args.blocks in
    let i = c.args.at.block in
    let same = c.body_of-body.ensures.words in
    let was = ap (λ (l : List ℕ). rows_of nb l i) same in
    rest_gone nb (g.W.Loads.words c.args.words.now c.args.hand.now) (g.W.Loads.words c.args.words.now c.delete.new.hand) i c.args.at.place c.min-cut.result
    (omega arith) (λ k lt differ. c.delete.ensures.others k lt differ ∙ ap (λ (l : List ℕ). told nb l k) same) (omega arith) (omega arith)
