use Rattle.std.proofs.Common.{rules, ℕ, ◌≤◌, ◌∙◌, All, length, ap, sym, subst, arith}
use Rattle.page_types.specs.declared.TheConstants.{LIMIT}
use Rattle.row_plans.specs.RowWords.{row_start}
use Rattle.row_blocks.specs.Blocks.{rows_in}
use Rattle.row_blocks.specs.Gaps.{GapsTold}
use Rattle.area_guard.specs.Reads.{known_words}
use Rattle.plan_words.specs.Writing.{plan_at}
use Rattle.plan_words.proofs.Rows.{old_rows, more_rows, more_all, none_written, write_room}
use Rattle.plan_words.proofs.Numbers.{row_place, written_rows}
use Rattle.plan_words.proofs.writing.write_rows.Goals as goal

-- where no row goes and none comes the rows stand as they stood
pub returns-then-is_empty-clause-rows : goal.returns-then-is_empty-clause-rows
returns-then-is_empty-clause-rows c =
    c.requires.rows ∙ sym (none_written (plan_at c.args.seat.now) c.requires.end (search rules) c.requires.more (search rules))

-- the rows that stand are rows of the splice
pub write-requires-clause-rows : goal.write-requires-clause-rows
write-requires-clause-rows c = let s = c.args.seat.now in
    old_rows (plan_at s) (ap (λ n. rows_in n (known_words s.pass)) (sym c.requires.blocks) ∙ c.requires.rows)

-- it begins at one of them
pub write-requires-clause-there : goal.write-requires-clause-there
write-requires-clause-there c = let s = c.args.seat.now in
    (row_place s.pass c.args.at c.requires.blocks c.requires.rows c.requires.there).there

pub write-requires-clause-place : goal.write-requires-clause-place
write-requires-clause-place c = let s = c.args.seat.now in
    let p = (row_place s.pass c.args.at c.requires.blocks c.requires.rows c.requires.there).place in omega arith

-- as many stand there as go
pub write-requires-clause-fits : goal.write-requires-clause-fits
write-requires-clause-fits c = let s = c.args.seat.now in
    let p = (row_place s.pass c.args.at c.requires.blocks c.requires.rows c.requires.there).number in
    let long = ap length (ap (λ n. rows_in n (known_words s.pass)) (sym c.requires.blocks) ∙ c.requires.rows) in
    omega arith

-- a row before them stays, or one comes
pub write-requires-clause-stays : goal.write-requires-clause-stays
write-requires-clause-stays c = let s = c.args.seat.now in
    let p = (row_place s.pass c.args.at c.requires.blocks c.requires.rows c.requires.there).number in
    let stays = c.requires.stays (search rules) in omega arith

-- those that come are rows of the splice
pub write-requires-clause-new : goal.write-requires-clause-new
write-requires-clause-new c = let s = c.args.seat.now in
    more_rows (plan_at s) c.requires.more (omega arith)

-- and there is room for them
pub write-requires-clause-room : goal.write-requires-clause-room
write-requires-clause-room c = let s = c.args.seat.now in
    write_room (plan_at s) c.args.blocks c.args.gone (ap (λ n. rows_in n (known_words s.pass)) (sym c.requires.blocks) ∙ c.requires.rows) c.requires.more
    c.requires.end c.requires.inside c.requires.fits c.requires.some

-- then the rows are those after the splice
pub returns-clause-rows : goal.returns-clause-rows
returns-clause-rows c = let s = c.args.seat.now in
    let p = row_place s.pass c.args.at c.requires.blocks c.requires.rows c.requires.there in
    written_rows s.pass c.write.new.hand.pass (plan_at s) c.args.gone c.requires.blocks c.write.ensures.kept.0.blocks c.requires.rows
    (c.requires.first ∙ sym p.number) c.requires.end c.requires.more c.write.ensures.spliced

-- no row starts above the limit
pub write-requires-clause-low : goal.write-requires-clause-low
write-requires-clause-low c = let s = c.args.seat.now in
    subst (All (λ w. row_start w ≤ LIMIT)) (sym (ap (λ n. rows_in n (known_words s.pass)) (sym c.requires.blocks) ∙ c.requires.rows)) c.requires.low

pub write-requires-clause-low_new : goal.write-requires-clause-low_new
write-requires-clause-low_new c = let s = c.args.seat.now in
    more_all (λ w. row_start w ≤ LIMIT) (plan_at s) c.requires.more (omega arith) c.requires.low_after

-- and each block tells its gap
pub write-requires-clause-told : goal.write-requires-clause-told
write-requires-clause-told c = let s = c.args.seat.now in
    subst (λ (n : ℕ). GapsTold n (known_words s.pass)) c.requires.blocks c.requires.stands.told
