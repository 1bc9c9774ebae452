use Rattle.std.proofs.Common.{◌+◌, ℕ, refl, subst, arith}
use Rattle.row_plans.specs.Plans.{IsPlaceOf}
use Rattle.row_blocks.specs.declared.positions.Position.{Position}
use Rattle.row_blocks.specs.Blocks.{IsLaidOut, rank}
use Rattle.area_guard.specs.Reads.{known_rows, known_words}
use Rattle.plan_words.specs.Places.{number_at}
use Rattle.plan_words.proofs.HeldPlaces.{next_known}
use Rattle.plan_words.proofs.Numbers.{row_place}
use Rattle.plan_words.proofs.held.HeldRowsRows.next.Goals as goal

-- there are few blocks
pub next-requires-clause-few : goal.next-requires-clause-few
next-requires-clause-few c = omega arith

-- the words are laid out
pub next-requires-clause-laid : goal.next-requires-clause-laid
next-requires-clause-laid c = subst (λ (n : ℕ). IsLaidOut n (known_words c.args.hand.now.pass)) c.requires.may.blocks_are c.requires.may.knows.blocks.laid

-- and a row stands at the position
pub next-requires-clause-there : goal.next-requires-clause-there
next-requires-clause-there c = (row_place c.args.hand.now.pass c.args.at c.requires.may.blocks_are refl c.requires.there).there

pub next-requires-clause-place : goal.next-requires-clause-place
next-requires-clause-place c = (row_place c.args.hand.now.pass c.args.at c.requires.may.blocks_are refl c.requires.there).place

-- the one behind it has the next number
pub returns-clause-next : goal.returns-clause-next
returns-clause-next c =
    let p = c.args.hand.now.pass in
    let blocks = c.requires.may.blocks_are in
    let laid = subst (λ (n : ℕ). IsLaidOut n (known_words p)) blocks c.requires.may.knows.blocks.laid in
    let number = (row_place p c.args.at blocks refl c.requires.there).number in
    subst (λ (n : ℕ). IsPlaceOf (known_rows p) (λ (at : Position). number_at p at) (n + 1) c.next.result) number
    (next_known p blocks (rank c.args.self.now.words.blocks (known_words p) c.args.at.block c.args.at.place) c.next.result laid c.next.ensures.next)
