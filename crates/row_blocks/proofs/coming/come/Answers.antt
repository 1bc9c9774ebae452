use Rattle.std.proofs.Common.{All, length, sym, subst, arith}
use Rattle.std.proofs.lemmas.List.Elements.{All-weaker}
use Rattle.row_blocks.proofs.RowSplices.{same_splice}
use Rattle.row_blocks.proofs.Comings.{stays_short}
use Rattle.row_blocks.proofs.KeptGaps.{come_beside}
use Rattle.row_blocks.proofs.coming.come.Goals as goal

-- the rows are those that were
pub insert_all-requires-clause-rows : goal.insert_all-requires-clause-rows
insert_all-requires-clause-rows g c =
    subst (All (g.W.Loads.is_row c.args.words.now c.make_room-to.new.hand)) (sym c.make_room-to.ensures.same)
    (All-weaker _ _ c.make_room-to.ensures.rows _ c.requires.rows)

-- and those that come are rows
pub insert_all-requires-clause-new : goal.insert_all-requires-clause-new
insert_all-requires-clause-new g c = All-weaker _ _ c.make_room-to.ensures.rows _ c.requires.new

-- they come where the position is then
pub returns-clause-spliced : goal.returns-clause-spliced
returns-clause-spliced g c =
    let room = c.make_room-to.ensures in same_splice c.args.more.now c.insert_all.ensures.spliced room.same room.rank room.rank

-- block 0 has at most 64 rows still
pub returns-clause-short : goal.returns-clause-short
returns-clause-short g c =
    stays_short c.args.blocks _ _ c.make_room-to.result.block (length c.args.more.now) (omega arith) c.make_room-to.ensures.first
    c.make_room-to.ensures.short c.insert_all.ensures.grown c.insert_all.ensures.others

-- the blocks beside it tell what they told
pub returns-clause-beside : goal.returns-clause-beside
returns-clause-beside g c =
    let room = c.make_room-to.ensures in
    let all = c.insert_all.ensures in
    come_beside c.make_room-to.result.block c.make_room-to.result.place (length c.args.more.now) _ room.laid.spare room.from room.near room.there all.count
    all.others all.grown room.place room.rank room.beside
