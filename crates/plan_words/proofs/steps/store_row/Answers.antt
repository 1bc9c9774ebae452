use Rattle.std.proofs.Common.{arith}
use Rattle.plan_words.specs.Writing.{plan_at}
use Rattle.plan_words.proofs.Storing.{may_store_row, word_stored, writes_on}
use Rattle.plan_words.proofs.steps.store_row.Goals as goal

-- the guard allows the store of a row of the splice
pub store_as_uncounted-requires-clause-allowed : goal.store_as_uncounted-requires-clause-allowed
store_as_uncounted-requires-clause-allowed c = let s = c.args.seat.now in let w = c.requires.writes in
    may_store_row s.number w.holds.held w.holds.knows (plan_at s) w.pending c.args.slot c.args.word c.requires.slot c.requires.row c.requires.differs

-- it was one step, which left that word among those that the seat knows
pub returns : goal.returns
returns c =
    let w = c.requires.writes in
    let made = c.store_as_uncounted.ensures.made in
    let r = word_stored w c.args.word made.0 c.args.slot (omega arith) c.store_as_uncounted.ensures.call made.1 in
    let writes = writes_on w r.step.writing r.step.holds in
    assumption
