use Rattle.std.proofs.Common.{ℕ, refl, ◌∙◌, subst, arith}
use Rattle.std.specs.Prelude.{slice_index}
use Rattle.row_blocks.specs.Blocks.{IsLaidOut}
use Rattle.area_guard.specs.Reads.{known_words}
use Rattle.plan_words.proofs.HeldPlaces.{rows_known}
use Rattle.plan_words.proofs.Numbers.{row_place}
use Rattle.plan_words.proofs.held.HeldRowsRows.load.Goals as goal

-- there are few blocks
pub row_at-requires-clause-few : goal.row_at-requires-clause-few
row_at-requires-clause-few c = omega arith

-- the words are laid out
pub row_at-requires-clause-laid : goal.row_at-requires-clause-laid
row_at-requires-clause-laid c = subst (λ (n : ℕ). IsLaidOut n (known_words c.args.hand.now.pass)) c.requires.may.blocks_are c.requires.may.knows.blocks.laid

-- and a row stands at the position
pub row_at-requires-clause-there : goal.row_at-requires-clause-there
row_at-requires-clause-there c = (row_place c.args.hand.now.pass c.args.at c.requires.may.blocks_are refl c.requires.there).there

pub row_at-requires-clause-place : goal.row_at-requires-clause-place
row_at-requires-clause-place c = (row_place c.args.hand.now.pass c.args.at c.requires.may.blocks_are refl c.requires.there).place

-- its word
pub returns-clause-word : goal.returns-clause-word
returns-clause-word c =
    let rows = rows_known c.args.hand.now.pass c.requires.may.blocks_are in
    let number = (row_place c.args.hand.now.pass c.args.at c.requires.may.blocks_are refl c.requires.there).number in
    c.row_at.ensures.word ∙ (λ i. slice_index (rows i) (number i))
