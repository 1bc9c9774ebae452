use Rattle.trace_driver.proofs.CleanLemmas.{short_bad_line}
use Rattle.trace_driver.proofs.clean.bad_line_is_short.Goals as goal

-- numbers of 32 bits make a short line
pub returns : goal.returns
returns c = short_bad_line c.args.line c.args.column c.args.what c.ranges.line.fits c.ranges.column.fits
