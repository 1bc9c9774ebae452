-- What the program writes besides lines: the help, the counts of a run, and the line that says why a run ended without
-- its lines. Each begins with the program's name but the help, so that it can be told apart in a pipe. The texts are
-- this project's own profile, and docs/FORMATS.md lists them too.
use Rattle.std.specs.Prelude.{ℕ, ◌==◌, List, [], ◌∷◌, ◌++◌, Bool, if◌then◌else◌, codes}
use Rattle.std.specs.Borrow.{Bor}
use Rattle.std.specs.List.{flat_map}
use Rattle.byte_ports.specs.Bytes.{numbered}
use Rattle.line_parts.specs.declared.refusal.What.{What}
use Rattle.line_parts.specs.declared.refusal.What.TheVariants.{Number, Wide, Word, Comma, Close, Result as AtResult, Form as MapsForm, Order}
use Rattle.raw_logs.specs.declared.counts.Counts.{Counts}
use Rattle.raw_trace.specs.declared.fault.Cause.{Cause}
use Rattle.raw_trace.specs.declared.tally.Tally.{Tally}
use Rattle.raw_trace.specs.declared.fault.Cause.TheVariants.{Form, Alone, Unclear, OtherForm, Unknown}
use Rattle.strace_lines.specs.declared.status.Status.{Status}
use Rattle.strace_lines.specs.declared.status.Status.TheVariants.{Done, Helped, Usage, Unreadable, NoProcess, ReadFault, WriteFault, Memory, LongInput, LongLine}

-- the help
abbrev pub help_text : List ℕ
help_text = codes "usage: strace_lines [--strict] [--process N] < raw.log > my.trace\n\n" ++
    (codes "Reads what strace(1) printed, and writes lines that range_cli plays.\n\n" ++
    (codes "  --process N   the lines of process N and its threads alone\n" ++
    (codes "  --strict      end with status 3 at the first line of a call that can't be read\n" ++
    codes "  -h, --help    print this\n")))

-- a text with the number of lines
abbrev pub count_line : List ℕ → ℕ → List ℕ
count_line text n = codes "strace_lines: " ++ (text ++ numbered (codes ": ") n (codes "\n"))

-- the same, where there are some
abbrev pub counted_text : List ℕ → ℕ → List ℕ
counted_text text n = if n == 0 then [] else count_line text n

-- what is counted, and how often it came: the lines that were changed; those left out that are of the program; those
-- that are of other spaces or don't tell of which they are; and what became of calls
abbrev pub named_counts : Tally → Counts → List (List ℕ × ℕ)
named_counts t c =
    (codes "lines without what options add", c.stripped) ∷
    (codes "process numbers changed", c.numbered) ∷
    (codes "messages of strace left out", c.messages) ∷
    (codes "stack lines left out", c.stack) ∷
    (codes "lines of unknown beginning left out", c.unknown) ∷
    (codes "long lines left out", c.long) ∷
    (codes "lines of other processes left out", c.elsewhere) ∷
    (codes "lines before an execve left out", c.earlier) ∷
    (codes "lines that don't tell what was made", c.untold) ∷
    (codes "numbers that were made and have no line", c.silent) ∷
    (codes "numbers that have lines and weren't made", c.foreign) ∷
    (codes "numbers that were made twice", c.twice) ∷
    (codes "calls that show another program", t.programs) ∷
    (codes "calls of brk written as what they did", t.brks) ∷
    (codes "calls joined", c.joined) ∷
    (codes "calls mended", c.mended) ∷
    (codes "calls that never returned", c.unreturned) ∷
    (codes "lines left unread", c.unread) ∷
    (codes "calls of other forms, not played", c.forms) ∷
    (codes "calls with an injected result, not played", c.injected) ∷
    (codes "calls that failed for reasons outside, not played", c.outside) ∷
    (codes "mprotects that failed, played", t.protects) ∷
    (codes "calls whose result isn't told", c.unanswered) ∷ []

-- what a text points to, and the count beside it
abbrev pub named_count : Bor (List ℕ) × ℕ → List ℕ × ℕ
named_count c = (c.0.now, c.1)

-- the lines of such counts, one behind the other; none for a count of 0
abbrev pub counts_text : List (List ℕ × ℕ) → List ℕ
counts_text counts = flat_map (λ c. counted_text c.0 c.1) counts

-- that the log ends within a line, where it does
abbrev pub cut_text : Bool → List ℕ
cut_text ends_cut = if ends_cut then codes "strace_lines: last line cut, left out\n" else []

-- how many calls were written; where there are none, what to look for
abbrev pub calls_text : ℕ → List ℕ
calls_text n = if n == 0
    then codes "strace_lines: calls written: 0\nstrace_lines: no call was found: is this a log of strace -f, without -Y?\n"
    else count_line (codes "calls written") n

-- how many calls were written, and what was changed and left out
abbrev pub done_text : Tally → Counts → Bool → List ℕ
done_text t c ends_cut = calls_text t.calls ++ (counts_text (named_counts t c) ++ cut_text ends_cut)

-- what was due in a line that can't be read
abbrev pub what_text : What → List ℕ
what_text Number = codes ": number expected\n"
what_text Wide = codes ": number too wide\n"
what_text Word = codes ": word expected\n"
what_text Comma = codes ": comma expected\n"
what_text Close = codes ": closing parenthesis expected\n"
what_text AtResult = codes ": result expected\n"
what_text MapsForm = codes ": no maps line\n"
what_text Order = codes ": maps out of order\n"

-- why a line can't be read
abbrev pub cause_text : Cause → List ℕ
cause_text (Form what) = what_text what
cause_text Alone = codes ": second half without its first\n"
cause_text Unclear = codes ": unclear line\n"
cause_text OtherForm = codes ": form that isn't played\n"
cause_text Unknown = codes ": unknown beginning\n"

-- a line that can't be read: its number, its column and why
abbrev pub unreadable_text : ℕ → ℕ → Cause → List ℕ
unreadable_text line column cause = numbered (codes "strace_lines: line ") line (codes " column ") ++ numbered [] column (cause_text cause)

-- what a run says on standard error
unfoldable pub said : Status → List ℕ
said (Done calls counts ends_cut) = done_text calls counts ends_cut
said Helped = []
said Usage = codes "usage: strace_lines [--strict] [--process N] < raw.log > my.trace\n"
said (Unreadable line column cause) = unreadable_text line column cause
said NoProcess = codes "strace_lines: no line of that process\n"
said ReadFault = codes "strace_lines: read fault\n"
said WriteFault = codes "strace_lines: write fault\n"
said Memory = codes "strace_lines: out of memory\n"
said LongInput = codes "strace_lines: limit input: 67108865\n"
said (LongLine line) = numbered (codes "strace_lines: line ") line (codes ": limit line: 65536\n")

-- the exit status
abbrev pub exit_code : Status → ℕ
exit_code (Done calls counts ends_cut) = 0
exit_code Helped = 0
exit_code Usage = 2
exit_code (Unreadable line column cause) = 3
exit_code NoProcess = 3
exit_code ReadFault = 4
exit_code WriteFault = 5
exit_code Memory = 6
exit_code LongInput = 7
exit_code (LongLine line) = 7
