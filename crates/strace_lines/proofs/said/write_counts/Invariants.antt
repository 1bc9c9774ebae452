use Rattle.std.proofs.Common.{◌≤◌, map, take}
use Rattle.std.specs.Io.KnownBytes.{Appends}
use Rattle.strace_lines.specs.Texts.{counts_text, named_count}
use Rattle.strace_lines.proofs.said.write_counts.Given as goal

-- the lines of the counts so far were written, and the count of failed calls didn't fall
abbrev pub invariant-loop-text : goal.invariant-loop-text
invariant-loop-text g l =
    Appends (g.K.Sink.contents l.fn.err) (g.K.Sink.contents l.err) (counts_text (map named_count (take l.text-index l.counts)))
    × (g.K.Sink.fault_count l.fn.err ≤ g.K.Sink.fault_count l.err)
