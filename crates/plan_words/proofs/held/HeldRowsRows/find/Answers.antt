use Rattle.std.proofs.Common.{◌+◌, ◌<◌, ℕ, drop, ◌∙◌, subst, arith}
use Rattle.std.specs.Prelude.{slice_index}
use Rattle.row_plans.specs.RowLists.{rows_start, areas_from}
use Rattle.space_model.specs.Areas.{kind_at}
use Rattle.row_blocks.specs.Blocks.{IsLaidOut, rows_of}
use Rattle.range_rw.specs.Contract.{SeatState, TableShape}
use Rattle.area_guard.specs.declared.guard.Pass.{Pass}
use Rattle.area_guard.specs.Reads.{known_rows, known_words}
use Rattle.plan_words.specs.Reading.{MayLoadAll}
use Rattle.plan_words.proofs.HeldPlaces.{rows_known, number_known, number_low, first_known, low_known}
use Rattle.plan_words.proofs.held.HeldRowsRows.find.Goals as goal

-- the words are laid out over so many blocks
laid : (table : TableShape) (blocks count : ℕ) (s : SeatState Pass) → MayLoadAll table blocks count s → IsLaidOut blocks (known_words s.pass)
laid table blocks count s may = subst (λ (n : ℕ). IsLaidOut n (known_words s.pass)) may.blocks_are may.knows.blocks.laid

-- of which there are few
pub find-found-requires-clause-few : goal.find-found-requires-clause-few
find-found-requires-clause-few c = omega arith

pub find-found-requires-clause-laid : goal.find-found-requires-clause-laid
find-found-requires-clause-laid c = laid _ _ _ c.args.hand.now c.requires.may

-- the first row starts at page 0
pub find-found-requires-clause-first : goal.find-found-requires-clause-first
find-found-requires-clause-first c =
    let may = c.requires.may in
    let p = c.args.hand.now.pass in
    first_known p may.blocks_are (laid _ _ _ c.args.hand.now may) (kind_at (areas_from (known_rows p))) may.list.show may.list.some

-- the first block has few rows
pub find-found-requires-clause-short : goal.find-found-requires-clause-short
find-found-requires-clause-short c =
    subst (λ (n : ℕ). rows_of n (known_words c.args.hand.now.pass) 0 < 64) c.requires.may.blocks_are c.requires.may.knows.blocks.short

-- no row starts above the limit
pub find-found-requires-clause-low : goal.find-found-requires-clause-low
find-found-requires-clause-low c =
    low_known c.args.hand.now.pass c.requires.may.blocks_are (kind_at (areas_from (known_rows c.args.hand.now.pass))) c.requires.may.list.show

-- the row that was found is one of those that are known
pub returns-clause-there : goal.returns-clause-there
returns-clause-there c =
    number_low c.args.hand.now.pass c.requires.may.blocks_are c.find-found.result.at (laid _ _ _ c.args.hand.now c.requires.may) c.find-found.ensures.block
    c.find-found.ensures.place

-- its word
pub returns-clause-word : goal.returns-clause-word
returns-clause-word c =
    let blocks = c.requires.may.blocks_are in
    let rows = rows_known c.args.hand.now.pass blocks in
    let number = number_known c.args.hand.now.pass blocks c.find-found.result.at c.find-found.ensures.block c.find-found.ensures.place in
    c.find-found.ensures.word ∙ (λ i. slice_index (rows i) (number i))

-- and its end
pub returns-clause-end : goal.returns-clause-end
returns-clause-end c =
    let blocks = c.requires.may.blocks_are in
    let rows = rows_known c.args.hand.now.pass blocks in
    let number = number_known c.args.hand.now.pass blocks c.find-found.result.at c.find-found.ensures.block c.find-found.ensures.place in
    c.find-found.ensures.end ∙ (λ i. rows_start (drop (number i + 1) (rows i)))
