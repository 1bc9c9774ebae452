use Rattle.std.proofs.Common.{ℕ, [], ◌≡◌, ◌+◌, ◌-◌, ◌*◌, ◌∙◌, refl, ap, arith}
use Rattle.row_blocks.specs.Blocks.{count_to}
use Rattle.row_blocks.specs.Moves.{IsCopied}
use Rattle.row_blocks.proofs.RowSplices.{same_splice}
use Rattle.row_blocks.proofs.Removals.{is_out, rows_taken}
use Rattle.row_blocks.proofs.Places.{first_loaded}
use Rattle.row_blocks.proofs.Settlings.{stands_other}
use Rattle.row_blocks.proofs.removing.take_out.Goals as goal

-- heads are rows
pub copy-requires-clause-rows : goal.copy-requires-clause-rows
copy-requires-clause-rows g c =
    λ m lt. first_loaded _ _ (c.args.end + m) c.requires.laid (omega arith) _ _ c.load-count.ensures.rows c.load-count.ensures.words c.requires.rows

-- there are fewer blocks
pub store_layout-requires-clause-differs : goal.store_layout-requires-clause-differs
store_layout-requires-clause-differs g c =
    let load = c.load-count.ensures in
    let place : ℕ = 128 * c.args.blocks in
    let still = c.rotate.ensures.rotated.below place (omega arith) ∙ c.copy.ensures.copied.above place (omega arith) in
    let there = c.requires.there in
    stands_other _ place load.words load.word still (λ e. omega arith)

-- what stands after the stores
pub returns : goal.returns
returns g c =
    let copied = coe 0 1 (j. IsCopied (c.load-count.ensures.words j) (g.W.Loads.words c.args.words.now c.copy.new.hand) c.args.end c.args.first
    (c.load-count.result - c.args.end)) c.copy.ensures.copied in
    let done = is_out c.requires.laid c.requires.some c.requires.there c.requires.left c.load-count.ensures.word copied c.rotate.ensures.rotated
    c.rotate.ensures.bodies c.store_layout.ensures.words in
    let at : c.args.first + (c.args.end - c.args.first) ≡ c.args.end = omega arith in
    let moved = g.W.Loads.steps_on _ _ _ _ (g.W.Loads.steps_on _ _ _ _ c.load-count.ensures.kept c.copy.ensures.kept) c.rotate.ensures.kept in
    record {
      laid = done.laid;
      spliced = same_splice [] (rows_taken c.requires.laid done) refl refl (ap (count_to _ _) at);
      count = omega arith;
      before = done.told;
      behind = λ k le lt. let count = done.count in done.later k le (omega arith);
      may = c.store_layout.ensures.may;
      rows = λ w r. c.store_layout.ensures.rows w (c.rotate.ensures.rows w (c.copy.ensures.rows w (c.load-count.ensures.rows w r)));
      kept = g.W.Loads.steps_on _ _ _ _ moved c.store_layout.ensures.kept;
      steps = omega arith;
    }
