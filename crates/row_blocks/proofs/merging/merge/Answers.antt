use Rattle.std.proofs.Common.{ℕ, ◌≡◌, ◌+◌, ◌-◌, ◌/◌, ◌%◌, ◌∙◌, ap, arith}
use Rattle.row_blocks.specs.Blocks.{told}
use Rattle.row_blocks.proofs.Merges.{merged, rows_appended}
use Rattle.row_blocks.proofs.KeptGaps.{merged_told}
use Rattle.row_blocks.proofs.merging.merge.Goals as goal

-- the rows are those that were
pub returns-clause-same : goal.returns-clause-same
returns-clause-same g c =
    let a = c.append.ensures in
    merged _ c.args.i c.requires.laid a.laid c.requires.there a.count a.both a.blocks c.take_out.ensures.spliced

-- all rows are rows while some stand twice
pub take_out-requires-clause-rows : goal.take_out-requires-clause-rows
take_out-requires-clause-rows g c =
    let a = c.append.ensures in
    rows_appended _ c.args.i c.requires.laid c.requires.there _ _ a.rows a.count a.both a.blocks c.requires.rows

-- each block tells its gap still, and the merged one the larger one of both
pub returns-clause-told : goal.returns-clause-told
returns-clause-told g c =
    let nb = c.args.blocks in
    let i = c.args.i in
    let ws = c.args.words.now in
    let one = g.W.Loads.words ws c.args.hand.now in
    let mid = g.W.Loads.words ws c.append.new.hand in
    let a = c.append.ensures in
    let out = c.take_out.ensures in
    let spare = c.requires.laid.spare in
    let there = c.requires.there in
    let count = out.count in
    let still = a.count in
    let here = out.before i (omega arith) in
    merged_told nb one (g.W.Loads.words ws c.take_out.new.hand) i c.requires.there
    (merged _ i c.requires.laid a.laid c.requires.there a.count a.both a.blocks out.spliced) (omega arith)
    (λ k lt. out.before k (omega arith) ∙ a.others k (omega arith) (λ e. omega arith))
    (ap (λ (x : ℕ). x % 128) here ∙ a.more)
    (λ k lt le.
    let e : k + (i + 2 - (i + 1)) ≡ k + 1 = omega arith in
    out.behind k (omega arith) le ∙ (ap (told nb mid) e ∙ a.others (k + 1) (omega arith) (λ d. omega arith)))
    (ap (λ (x : ℕ). x / 262144) here ∙ a.gap)
