use Rattle.plan_words.specs.Writing.{plan_at}
use Rattle.plan_words.proofs.Storing.{may_store_layout, word_stored, writes_on}
use Rattle.plan_words.proofs.steps.store_layout.Goals as goal

-- the guard allows the store of a word of the layout
pub store_as_uncounted-requires-clause-allowed : goal.store_as_uncounted-requires-clause-allowed
store_as_uncounted-requires-clause-allowed c = let s = c.args.seat.now in let w = c.requires.writes in
    may_store_layout s.number w.holds.held w.holds.knows (plan_at s) w.pending c.args.place c.args.word c.requires.layout c.requires.place
    c.requires.differs

-- it was one step, which left that word among those that the seat knows
pub returns : goal.returns
returns c =
    let w = c.requires.writes in
    let made = c.store_as_uncounted.ensures.made in
    let r = word_stored w c.args.word made.0 c.args.place c.requires.place c.store_as_uncounted.ensures.call made.1 in
    let writes = writes_on w r.step.writing r.step.holds in
    assumption
