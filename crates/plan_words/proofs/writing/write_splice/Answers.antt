use Rattle.std.proofs.Common.{◌≡◌, ◌+◌, ◌≤◌, ◌∙◌, length, ap, sym, subst, arith}
use Rattle.std.specs.Prelude.{All}
use Rattle.page_types.specs.declared.TheConstants.{LIMIT}
use Rattle.row_plans.specs.RowWords.{row_start}
use Rattle.row_blocks.proofs.RowSplices.{length-splice}
use Rattle.area_guard.specs.declared.guard.Splice.{Splice}
use Rattle.area_guard.specs.Reads.{known_rows}
use Rattle.area_guard.specs.History.{rows_after}
use Rattle.plan_words.specs.Laws.{writing_on}
use Rattle.plan_words.specs.Places.{number_at}
use Rattle.plan_words.specs.Writing.{plan_at, splice_in}
use Rattle.plan_words.proofs.Storing.{written_on}
use Rattle.plan_words.proofs.writing.write_splice.Goals as goal

-- the rows that stand are those that the seat knows
pub write_rows-requires-clause-rows : goal.write_rows-requires-clause-rows
write_rows-requires-clause-rows c = sym (ap (λ (p : Splice). p.old) c.requires.plan)

-- the splice begins at one of them
pub write_rows-requires-clause-there : goal.write_rows-requires-clause-there
write_rows-requires-clause-there c = let old = ap (λ (p : Splice). length p.old) c.requires.plan in omega arith

pub write_rows-requires-clause-first : goal.write_rows-requires-clause-first
write_rows-requires-clause-first c = ap (λ (p : Splice). p.first) c.requires.plan

-- and ends so many behind it
pub write_rows-requires-clause-end : goal.write_rows-requires-clause-end
write_rows-requires-clause-end c =
    let first = ap (λ (p : Splice). p.first) c.requires.plan in
    let end = ap (λ (p : Splice). p.end) c.requires.plan in omega arith

pub write_rows-requires-clause-inside : goal.write_rows-requires-clause-inside
write_rows-requires-clause-inside c =
    let old = ap (λ (p : Splice). length p.old) c.requires.plan in
    let end = ap (λ (p : Splice). p.end) c.requires.plan in
    omega arith

-- these rows come
pub write_rows-requires-clause-more : goal.write_rows-requires-clause-more
write_rows-requires-clause-more c = sym (ap (λ (p : Splice). p.more) c.requires.plan)

pub write_rows-requires-clause-stays : goal.write_rows-requires-clause-stays
write_rows-requires-clause-stays c = λ some_row.
    let first = ap (λ (p : Splice). p.first) c.requires.plan in
    let stays = c.requires.stays (omega arith) in omega arith

-- so many rows are left
pub write_count-requires-clause-left : goal.write_count-requires-clause-left
write_count-requires-clause-left c =
    let s = c.args.seat.now in
    let from = number_at s.pass c.args.at in
    let same : plan_at c.write_rows.new.seat ≡ plan_at s = ap splice_in c.write_rows.ensures.writing.0.pending in
    let after = ap (λ (p : Splice). length (rows_after p)) (same ∙ c.requires.plan) in
    let long = length-splice (known_rows s.pass) c.args.more.now from (from + c.args.gone) (omega arith) (omega arith) in
    omega arith

-- no row of the splice starts above the limit
pub write_rows-requires-clause-low : goal.write_rows-requires-clause-low
write_rows-requires-clause-low c = subst (λ (p : Splice). All (λ w. row_start w ≤ LIMIT) p.old) (sym c.requires.plan) c.requires.low

-- the last step raises the sequence word, and all is written
pub returns-clause-written : goal.returns-clause-written
returns-clause-written c =
    written_on (writing_on c.args.seat.now c.write_rows.new.seat c.write_count.new.seat c.write_rows.ensures.writing.0 c.write_count.ensures.writing)
    c.raise_sequence.ensures.written
