use Rattle.std.proofs.Common.{ℕ, ◌≡◌, ◌+◌, ◌*◌, ◌/◌, sym, subst, arith}
use Rattle.std.specs.Prelude.{slice_index}
use Rattle.row_blocks.specs.Gaps.{IsLargestGap}
use Rattle.row_blocks.proofs.filling.lay_block.Goals as goal

-- the body word tells the body and the rows
pub returns-clause-told : goal.returns-clause-told
returns-clause-told c = let few = c.requires.few in let there = c.requires.there in let most = c.requires.most in omega (arith, c.lay_told.ensures.told)

-- and the largest gap
pub returns-clause-gap : goal.returns-clause-gap
returns-clause-gap c =
    let few = c.requires.few in
    let there = c.requires.there in
    let most = c.requires.most in
    let gap : slice_index c.lay_told.new.words (128 * c.args.blocks + 1 + c.args.i) / 262144 ≡ c.gap_of_run-gap.result =
    omega (arith, c.lay_told.ensures.told) in
    subst (λ (g : ℕ). IsLargestGap c.args.rows.now c.args.from (c.args.from + c.args.count) g) (sym gap) c.gap_of_run-gap.ensures.largest
