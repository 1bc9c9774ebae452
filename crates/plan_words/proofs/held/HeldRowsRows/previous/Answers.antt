use Rattle.std.proofs.Common.{ℕ, refl, subst, arith}
use Rattle.row_blocks.specs.Blocks.{IsLaidOut}
use Rattle.area_guard.specs.Reads.{known_words}
use Rattle.plan_words.proofs.HeldPlaces.{number_known}
use Rattle.plan_words.proofs.Numbers.{row_place}
use Rattle.plan_words.proofs.held.HeldRowsRows.previous.Goals as goal

-- there are few blocks
pub previous-requires-clause-few : goal.previous-requires-clause-few
previous-requires-clause-few c = omega arith

-- the words are laid out
pub previous-requires-clause-laid : goal.previous-requires-clause-laid
previous-requires-clause-laid c = subst (λ (n : ℕ). IsLaidOut n (known_words c.args.hand.now.pass)) c.requires.may.blocks_are c.requires.may.knows.blocks.laid

-- and a row stands at the position
pub previous-requires-clause-there : goal.previous-requires-clause-there
previous-requires-clause-there c = (row_place c.args.hand.now.pass c.args.at c.requires.may.blocks_are refl c.requires.there).there

pub previous-requires-clause-place : goal.previous-requires-clause-place
previous-requires-clause-place c = (row_place c.args.hand.now.pass c.args.at c.requires.may.blocks_are refl c.requires.there).place

-- with one before it
pub previous-requires-clause-less : goal.previous-requires-clause-less
previous-requires-clause-less c = let number = (row_place c.args.hand.now.pass c.args.at c.requires.may.blocks_are refl c.requires.there).number in omega arith

-- which has the number before
pub returns-clause-previous : goal.returns-clause-previous
returns-clause-previous c =
    let blocks = c.requires.may.blocks_are in
    let number = (row_place c.args.hand.now.pass c.args.at blocks refl c.requires.there).number in
    let before = number_known c.args.hand.now.pass blocks c.previous.result c.previous.ensures.there c.previous.ensures.place in
    omega arith
