use Rattle.std.proofs.Common.{refl, inr}
use Rattle.raw_logs.proofs.ReadLogs.{found_of, read_by}
use Rattle.raw_logs.proofs.reading.read_log.Goals as goal

-- the process has no line
pub returns-then-alone-clause-fault : goal.returns-then-alone-clause-fault
returns-then-alone-clause-fault c = inr (
  found_of c.in_ok-found.found.counts c.in_ok-picker.lines c.in_ok-picker.picker,
  read_by c.args.process c.args.text.now c.in_ok-found.found.lines c.in_ok-picker.lines c.in_ok-found.found.counts c.in_ok-picker.picker
      c.in_ok-speakers.speakers c.is_silent-alone.result _ c.in_ok-found.ensures.read c.in_ok-speakers.ensures c.in_ok-picker.ensures.picked
      c.is_silent-alone.ensures (rw c.if-alone.true refl),
)

-- a line is too long
pub returns-in-Some-clause-fault : goal.returns-in-Some-clause-fault
returns-in-Some-clause-fault c = inr (
  found_of c.in_ok-found.found.counts c.in_ok-picker.lines c.in_ok-picker.picker,
  read_by c.args.process c.args.text.now c.in_ok-found.found.lines c.in_ok-picker.lines c.in_ok-found.found.counts c.in_ok-picker.picker
      c.in_ok-speakers.speakers c.is_silent-alone.result _ c.in_ok-found.ensures.read c.in_ok-speakers.ensures c.in_ok-picker.ensures.picked
      c.is_silent-alone.ensures (rw (c.if-alone.false, c.in-Some.is) refl),
)

-- the texts that are written
pub returns-clause-texts : goal.returns-clause-texts
returns-clause-texts c = (
  found_of c.in_ok-found.found.counts c.in_ok-picker.lines c.in_ok-picker.picker,
  read_by c.args.process c.args.text.now c.in_ok-found.found.lines c.in_ok-picker.lines c.in_ok-found.found.counts c.in_ok-picker.picker
      c.in_ok-speakers.speakers c.is_silent-alone.result _ c.in_ok-found.ensures.read c.in_ok-speakers.ensures c.in_ok-picker.ensures.picked
      c.is_silent-alone.ensures (rw (c.if-alone.false, c.in_default.is) refl),
  refl,
  c.with.ensures,
)

-- the first line whose beginning isn't known
pub returns-clause-unknown : goal.returns-clause-unknown
unfolding returns-clause-texts
returns-clause-unknown c = let t = returns-clause-texts c in (t.0, t.1, refl)
