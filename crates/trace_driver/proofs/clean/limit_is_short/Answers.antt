use Rattle.trace_driver.proofs.CleanLemmas.{short_limit}
use Rattle.trace_driver.proofs.clean.limit_is_short.Goals as goal

-- a number of 64 bits makes a short line
pub returns : goal.returns
returns c = short_limit c.args.which c.args.value c.ranges.value.fits
