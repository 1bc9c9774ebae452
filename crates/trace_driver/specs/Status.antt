-- How an early end becomes the status of a run, and the exit status of each; both are this project's own profile. Out
-- of memory is the one early end that has no cause to show. That it may come anywhere is said in one place, `OrMemory`.
-- A status that carries the history of a run is told from others by `ending`, which leaves the history away.
use Rattle.std.specs.Prelude.{◌≡◌, ◌⊎◌, ℕ, None}
use Rattle.trace_driver.specs.declared.status.EarlyEnd.{EarlyEnd}
use Rattle.trace_driver.specs.declared.status.EarlyEnd.TheVariants.{Refused, Failed, NoMemory, Above}
use Rattle.trace_driver.specs.declared.status.Status.{Status}
use Rattle.trace_driver.specs.declared.status.Status.TheVariants.{Done, Usage, BadLine, ReadFault, WriteFault, Memory, Limit, Wrong}

-- the status of a run that ends so before anything is played
abbrev pub status_of : EarlyEnd → Status
status_of (Refused line column what) = BadLine line column what
status_of Failed = ReadFault
status_of NoMemory = Memory
status_of (Above which value) = Limit which value

-- an end of this kind, or out of memory
abbrev pub OrMemory : (EarlyEnd → Type 0) → EarlyEnd → Type 0
OrMemory Ends end = (end ≡ NoMemory) ⊎ Ends end

-- the exit status
abbrev pub exit_code : Status → ℕ
exit_code (Done closed) = 0
exit_code Usage = 2
exit_code (BadLine line column what) = 3
exit_code ReadFault = 4
exit_code (WriteFault closed) = 5
exit_code Memory = 6
exit_code (Limit which value) = 7
exit_code (Wrong line) = 8

-- the status without the history that it carries
abbrev pub ending : Status → Status
ending (Done closed) = Done None
ending Usage = Usage
ending (BadLine line column what) = BadLine line column what
ending ReadFault = ReadFault
ending (WriteFault closed) = WriteFault None
ending Memory = Memory
ending (Limit which value) = Limit which value
ending (Wrong line) = Wrong line
