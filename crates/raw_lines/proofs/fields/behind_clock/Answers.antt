use Rattle.raw_lines.specs.Fields.{is_clock_byte}
use Rattle.raw_lines.proofs.RunFacts.{none_taken, some_taken}
use Rattle.raw_lines.proofs.fields.behind_clock.Goals as goal

-- where nothing was passed the text begins with no byte of a clock
pub returns-then-rest-text : goal.returns-then-rest-text
returns-then-rest-text c = none_taken is_clock_byte c.args.text.now c.skip_clock-rest.result.now c.skip_clock-rest.ensures c.if-rest-text.true

-- what was passed is a run of such bytes
pub returns-else-rest-text : goal.returns-else-rest-text
returns-else-rest-text c = some_taken is_clock_byte c.args.text.now c.skip_clock-rest.result.now c.skip_clock-rest.ensures c.if-rest-text.false
