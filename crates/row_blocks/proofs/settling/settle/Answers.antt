use Rattle.std.proofs.Common.{List, ℕ, ◌∙◌, sym, subst}
use Rattle.row_blocks.specs.Limits.{AreFew}
use Rattle.row_blocks.proofs.settling.settle.Goals as goal

-- each block tells its gap still, where two are merged so that one is free
pub returns-then-count-blocks-clause-told : goal.returns-then-count-blocks-clause-told
returns-then-count-blocks-clause-told g c = λ all. c.free_one.ensures.told (rw c.load-count.ensures.words all)

-- where none is
pub returns-then-count-before-clause-told : goal.returns-then-count-before-clause-told
returns-then-count-before-clause-told g c = λ all. rw c.load-count.ensures.words all

-- and where two have few rows
pub returns-clause-told : goal.returns-clause-told
returns-clause-told g c = λ all. c.merge_few.ensures.told (rw c.load-count.ensures.words all)

-- no word is stored where they have more
pub returns-clause-many : goal.returns-clause-many
returns-clause-many g c = λ some many.
    let same = c.load-count.ensures.words in
    c.merge_few.ensures.many (subst (λ (l : List ℕ). ¬ AreFew c.args.blocks l c.args.near) (sym same) many) ∙ same
