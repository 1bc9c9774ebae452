use Rattle.std.proofs.Common.{ℕ, List, ◌≡◌, ◌+◌, ◌/◌, ◌∙◌, drop, sym, ap, subst, arith}
use Rattle.std.specs.Prelude.{slice_index, MatchOption}
use Rattle.row_plans.specs.RowWords.{row_start}
use Rattle.row_plans.specs.RowLists.{rows_start}
use Rattle.row_plans.specs.Gaps.{HasNoGap, IsGapBefore}
use Rattle.row_blocks.specs.Blocks.{rows_in, rows_of, count_to}
use Rattle.row_blocks.proofs.Counts.{count_next}
use Rattle.row_blocks.proofs.Tells.{end_inside}
use Rattle.row_blocks.proofs.Steps.{three_steps}
use Rattle.row_blocks.proofs.fits.gap_at_end.Goals as goal

-- the block ends where the next one starts
pub gap_in_block-requires : goal.gap_in_block-requires
gap_in_block-requires g c =
    let nb = c.args.blocks in
    let one = g.W.Loads.words c.args.words.now c.args.hand.now in
    let i = c.args.i in
    let body = c.body_of-body.ensures in
    let load = c.load-end.ensures in
    let same = load.words ∙ body.words in
    let there = c.requires.there in
    let next = count_next nb one i in
    let rows = body.rows in
    let at : count_to nb one (i + 1) ≡ count_to nb one i + (c.body_of-body.result.rows + 1) = omega arith in
    let start : c.load-end.result / 64 ≡ rows_start (drop (count_to nb one i + (c.body_of-body.result.rows + 1)) (rows_in nb one)) =
    ap row_start (load.word ∙ ap (λ (l : List ℕ). slice_index l (i + 1)) body.words)
    ∙ (end_inside c.requires.laid (omega arith) c.requires.there ∙ ap (λ (n : ℕ). rows_start (drop n (rows_in nb one))) at) in
    record {
      few = c.requires.few;
      may = load.may;
      laid = rw same c.requires.laid;
      there = rw same (omega arith);
      place = rw same (omega arith);
      body = rw same body.at;
      start = rw same start;
    }

-- the rows before its end are all of it
pub returns-clause-gap : goal.returns-clause-gap
returns-clause-gap g c =
    let nb = c.args.blocks in
    let one = g.W.Loads.words c.args.words.now c.args.hand.now in
    let i = c.args.i in
    let same = c.load-end.ensures.words ∙ c.body_of-body.ensures.words in
    let next = count_next nb one i in
    let rows = c.body_of-body.ensures.rows in
    let at : count_to nb one i + (c.body_of-body.result.rows + 1) ≡ count_to nb one (i + 1) = omega arith in
    subst (λ (n : ℕ). MatchOption c.gap_in_block.result (HasNoGap (rows_in nb one) (count_to nb one i) n c.args.pages)
    (IsGapBefore (rows_in nb one) n c.args.pages)) at (rw same at c.gap_in_block.ensures.gap)

pub returns-clause-kept : goal.returns-clause-kept
returns-clause-kept g c = three_steps g.W.Loads _ _ _ _ _ c.body_of-body.ensures.kept c.load-end.ensures.kept c.gap_in_block.ensures.kept
