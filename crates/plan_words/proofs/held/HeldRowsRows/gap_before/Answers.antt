use Rattle.std.proofs.Common.{ℕ, refl, sym, ◌∙◌, subst, arith}
use Rattle.std.specs.Prelude.{slice_index, MatchOption}
use Rattle.row_plans.specs.RowWords.{row_start}
use Rattle.row_plans.specs.Gaps.{HasNoGap, IsGapBefore}
use Rattle.row_blocks.specs.Blocks.{IsLaidOut}
use Rattle.row_blocks.specs.Gaps.{GapsTold}
use Rattle.area_guard.specs.Reads.{known_words}
use Rattle.plan_words.proofs.HeldPlaces.{rows_known}
use Rattle.plan_words.proofs.Numbers.{row_place}
use Rattle.plan_words.proofs.held.HeldRowsRows.gap_before.Goals as goal

-- there are few blocks
pub gap_before-requires-clause-few : goal.gap_before-requires-clause-few
gap_before-requires-clause-few c = omega arith

-- the words are laid out
pub gap_before-requires-clause-laid : goal.gap_before-requires-clause-laid
gap_before-requires-clause-laid c =
    subst (λ (n : ℕ). IsLaidOut n (known_words c.args.hand.now.pass)) c.requires.may.blocks_are c.requires.may.knows.blocks.laid

-- and tell their gaps
pub gap_before-requires-clause-told : goal.gap_before-requires-clause-told
gap_before-requires-clause-told c =
    subst (λ (n : ℕ). GapsTold n (known_words c.args.hand.now.pass)) c.requires.may.blocks_are c.requires.may.knows.blocks.told

-- a row stands at the position
pub gap_before-requires-clause-there : goal.gap_before-requires-clause-there
gap_before-requires-clause-there c = (row_place c.args.hand.now.pass c.args.at c.requires.may.blocks_are refl c.requires.there).there

pub gap_before-requires-clause-place : goal.gap_before-requires-clause-place
gap_before-requires-clause-place c = (row_place c.args.hand.now.pass c.args.at c.requires.may.blocks_are refl c.requires.there).place

-- and starts there
pub gap_before-requires-clause-start : goal.gap_before-requires-clause-start
gap_before-requires-clause-start c =
    let rows = rows_known c.args.hand.now.pass c.requires.may.blocks_are in
    let number = (row_place c.args.hand.now.pass c.args.at c.requires.may.blocks_are refl c.requires.there).number in
    c.requires.start ∙ (λ i. row_start (slice_index (sym rows i) (sym number i)))

-- the last row before it that has so many free pages
pub returns-clause-gap : goal.returns-clause-gap
returns-clause-gap c =
    let rows = rows_known c.args.hand.now.pass c.requires.may.blocks_are in
    let number = (row_place c.args.hand.now.pass c.args.at c.requires.may.blocks_are refl c.requires.there).number in
    coe 0 1 (i. MatchOption c.gap_before.result (HasNoGap (rows i) 0 (number i) c.args.pages) (IsGapBefore (rows i) (number i) c.args.pages))
    c.gap_before.ensures.gap
