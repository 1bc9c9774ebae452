-- The line on standard error, for each way in which a run ends without its whole report. The texts are this project's
-- own profile, and docs/FORMATS.md lists them too. A run that is done has no line.
use Rattle.std.specs.Prelude.{ℕ, List, [], ◌++◌, codes}
use Rattle.byte_ports.specs.Bytes.{numbered}
use Rattle.line_parts.specs.declared.refusal.What.{What}
use Rattle.line_parts.specs.declared.refusal.What.TheVariants.{Number, Wide, Word, Comma, Close, Result as AtResult, Form, Order}
use Rattle.trace_driver.specs.declared.status.Status.{Status}
use Rattle.trace_driver.specs.declared.status.Status.TheVariants.{Done, Usage, BadLine, ReadFault, WriteFault, Memory, Limit, Wrong}
use Rattle.trace_driver.specs.declared.status.Which.{Which}
use Rattle.trace_driver.specs.declared.status.Which.TheVariants.{Input, Line, Lines, Rows}

-- what was due in a refused line
abbrev pub what_text : What → List ℕ
what_text Number = codes ": number expected\n"
what_text Wide = codes ": number too wide\n"
what_text Word = codes ": word expected\n"
what_text Comma = codes ": comma expected\n"
what_text Close = codes ": closing parenthesis expected\n"
what_text AtResult = codes ": result expected\n"
what_text Form = codes ": no maps line\n"
what_text Order = codes ": maps out of order\n"

-- which limit
abbrev pub which_text : Which → List ℕ
which_text Input = codes "limit input: "
which_text Line = codes "limit line: "
which_text Lines = codes "limit lines: "
which_text Rows = codes "limit rows: "

-- a refused line
abbrev pub bad_line_text : ℕ → ℕ → What → List ℕ
bad_line_text line column what = numbered (codes "line ") line (codes " column ") ++ numbered [] column (what_text what)

-- the line for a status; none for a whole report
unfoldable pub error_line : Status → List ℕ
error_line (Done closed) = []
error_line Usage = codes "usage: play [--threads N] [--opening] [--log] [--touched] [--changes] [--differ]"
    ++ codes " or load --seed N --threads N --calls N or check [--opening]\n"
error_line (BadLine line column what) = bad_line_text line column what
error_line ReadFault = codes "read fault\n"
error_line (WriteFault closed) = codes "write fault\n"
error_line Memory = codes "out of memory\n"
error_line (Limit which value) = numbered (which_text which) value (codes "\n")
error_line (Wrong line) = codes "wrong log\n"
