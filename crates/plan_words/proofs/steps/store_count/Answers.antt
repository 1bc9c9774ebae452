use Rattle.plan_words.specs.Writing.{plan_at}
use Rattle.plan_words.proofs.Storing.{may_store_count, count_stored, writes_on}
use Rattle.plan_words.proofs.steps.store_count.Goals as goal

-- the guard allows the store of how many rows the splice leaves
pub store_as_uncounted-requires-clause-allowed : goal.store_as_uncounted-requires-clause-allowed
store_as_uncounted-requires-clause-allowed c = let s = c.args.seat.now in let w = c.requires.writes in
    may_store_count s.number w.holds.held w.holds.knows (plan_at s) w.pending c.args.count c.requires.count c.requires.differs

-- it was one step, which left that count
pub returns : goal.returns
returns c =
    let w = c.requires.writes in
    let made = c.store_as_uncounted.ensures.made in
    let r = count_stored w c.args.count made.0 c.store_as_uncounted.ensures.call made.1 in
    let writes = writes_on w r.step.writing r.step.holds in
    assumption
