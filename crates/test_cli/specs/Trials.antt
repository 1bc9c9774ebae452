-- What a trial keeps of the status of a run, which can be compared. This is the trials' own.
use Rattle.std.specs.Prelude.{None}
use Rattle.trace_driver.specs.declared.status.Status.{Status as Whole}
use Rattle.trace_driver.specs.declared.status.Status.TheVariants.{Done as WholeDone, Usage as WholeUsage, BadLine as WholeBadLine}
use Rattle.trace_driver.specs.declared.status.Status.TheVariants.{ReadFault as WholeReadFault, WriteFault as WholeWriteFault}
use Rattle.trace_driver.specs.declared.status.Status.TheVariants.{Memory as WholeMemory, Limit as WholeLimit, Wrong as WholeWrong}
use Rattle.test_cli.specs.declared.trial.Status.{Status}
use Rattle.test_cli.specs.declared.trial.Status.TheVariants.{Done, Checked, Usage, BadLine, ReadFault, WriteFault, Memory, Limit, Wrong}

-- the status of a run that ended so, without the history that it carries
abbrev pub whole : Status → Whole
whole Done = WholeDone None
whole Checked = WholeDone None
whole Usage = WholeUsage
whole (BadLine line column what) = WholeBadLine line column what
whole ReadFault = WholeReadFault
whole WriteFault = WholeWriteFault None
whole Memory = WholeMemory
whole (Limit which value) = WholeLimit which value
whole (Wrong line) = WholeWrong line
