use Rattle.std.proofs.Common.{ℕ, List, ◌≡◌, ◌+◌, ◌∙◌, drop, sym, ap, subst, arith}
use Rattle.std.specs.Prelude.{slice_index, MatchOption}
use Rattle.row_plans.specs.RowLists.{rows_start}
use Rattle.row_plans.proofs.Splices.{start_at}
use Rattle.row_blocks.specs.Blocks.{rows_in, rank}
use Rattle.row_blocks.proofs.Places.{within}
use Rattle.row_blocks.proofs.Passed.{passed_all, passed_to}
use Rattle.row_blocks.proofs.Steps.{three_steps}
use Rattle.row_blocks.proofs.fits.gap_before.Goals as goal

-- the row at the position starts there
pub gap_in_block-requires : goal.gap_in_block-requires
gap_in_block-requires g c =
    let nb = c.args.blocks in
    let one = g.W.Loads.words c.args.words.now c.args.hand.now in
    let at = c.args.at in
    let body = c.body_of-body.ensures in
    let low = within nb one at.block c.requires.laid c.requires.there at.place c.requires.place in
    let start : c.args.start ≡ rows_start (drop (rank nb one at.block at.place) (rows_in nb one)) =
    c.requires.start ∙ sym (start_at (rows_in nb one) (rank nb one at.block at.place) low) in
    record {
      few = c.requires.few;
      may = body.may;
      laid = rw body.words c.requires.laid;
      there = rw body.words c.requires.there;
      place = rw body.words (omega (arith, c.requires.place));
      body = rw body.words body.at;
      start = rw body.words start;
    }

-- a row of its own block has so many free pages
pub returns-in-Some-clause-gap : goal.returns-in-Some-clause-gap
returns-in-Some-clause-gap g c = rw c.body_of-body.ensures.words at c.in-Some.ensures.gap

-- or one of a block before it
pub returns-in-Some-block_with-clause-gap : goal.returns-in-Some-block_with-clause-gap
returns-in-Some-block_with-clause-gap g c =
    let nb = c.args.blocks in
    let one = g.W.Loads.words c.args.words.now c.args.hand.now in
    let at = c.args.at in
    let own = rw c.body_of-body.ensures.words at c.in_default.ensures.gap in
    let same = c.gap_in_block.ensures.words ∙ c.body_of-body.ensures.words in
    let block = rw same at c.in-Some-block_with.ensures.block in
    let found = rw (c.block_with.ensures.words ∙ same) at c.gap_at_end.ensures.gap in
    passed_to nb one c.args.pages c.requires.told at.block c.in-Some-block_with.i c.gap_at_end.result c.requires.some c.requires.there (omega arith)
    block.0 block.1 block.2 own found

-- or none has
pub returns-in-None-clause-gap : goal.returns-in-None-clause-gap
returns-in-None-clause-gap g c =
    let nb = c.args.blocks in
    let one = g.W.Loads.words c.args.words.now c.args.hand.now in
    let own = rw c.body_of-body.ensures.words at c.in_default.ensures.gap in
    let same = c.gap_in_block.ensures.words ∙ c.body_of-body.ensures.words in
    passed_all nb one c.args.pages c.requires.told c.args.at.block c.requires.there (rw same at c.in-None.ensures.block) own

-- the words are those of before
pub block_with-requires : goal.block_with-requires
block_with-requires g c =
    let same = c.gap_in_block.ensures.words ∙ c.body_of-body.ensures.words in
    record { few = c.requires.few; may = c.gap_in_block.ensures.may; laid = rw same c.requires.laid; there = rw same c.requires.there }

pub gap_at_end-requires : goal.gap_at_end-requires
gap_at_end-requires g c =
    let same = c.gap_in_block.ensures.words ∙ c.body_of-body.ensures.words in
    let all = c.block_with.ensures.words ∙ same in
    let block = rw same at c.in-Some-block_with.ensures.block in
    let less = block.0 in
    let there = c.requires.there in
    record { few = c.requires.few; may = c.block_with.ensures.may; laid = rw all c.requires.laid; there = rw all (omega arith) }

-- nothing was stored
pub returns-in-None-clause-kept : goal.returns-in-None-clause-kept
returns-in-None-clause-kept g c =
    three_steps g.W.Loads _ _ _ _ _ c.body_of-body.ensures.kept c.gap_in_block.ensures.kept c.block_with.ensures.kept

pub returns-in-Some-block_with-clause-kept : goal.returns-in-Some-block_with-clause-kept
returns-in-Some-block_with-clause-kept g c =
    g.W.Loads.steps_on _ _ _ _
    (three_steps g.W.Loads _ _ _ _ _ c.body_of-body.ensures.kept c.gap_in_block.ensures.kept c.block_with.ensures.kept) c.gap_at_end.ensures.kept
