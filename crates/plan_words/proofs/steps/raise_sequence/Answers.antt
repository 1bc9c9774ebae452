use Rattle.std.proofs.Common.{ap}
use Rattle.range_rw.specs.Contract.{Record}
use Rattle.plan_words.specs.Writing.{plan_at}
use Rattle.plan_words.proofs.Storing.{all_written}
use Rattle.plan_words.proofs.Rows.{may_raise}
use Rattle.plan_words.proofs.steps.raise_sequence.Goals as goal

-- the guard allows the raising, since the rows of the splice are written
pub add_as_uncounted-requires-clause-allowed : goal.add_as_uncounted-requires-clause-allowed
add_as_uncounted-requires-clause-allowed c = let s = c.args.seat.now in let w = c.requires.writes in
    may_raise s.number (plan_at s) w.holds.held w.pending w.holds.knows c.requires.stands c.requires.rows c.requires.count

-- it was one step, after which all is written
pub returns : goal.returns
returns c = record {
  written = all_written _ c.add_as_uncounted.ensures.call c.add_as_uncounted.ensures.made;
  taken = ap (λ (r : Record). r.taken) c.add_as_uncounted.ensures.call.trace;
}
