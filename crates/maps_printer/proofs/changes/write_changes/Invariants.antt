-- The lines so far are written or wait, and the buffer has room for a line.
use Rattle.std.proofs.Common.{◌+◌, ◌≤◌, length, take}
use Rattle.maps_printer.specs.Lines.{changes_text}
use Rattle.byte_ports.specs.Bytes.{AppendsAllBut}
use Rattle.maps_printer.proofs.changes.write_changes.Given as goal

-- what holds before each change; the count of failed calls didn't fall
abbrev pub invariant-loop-change : goal.invariant-loop-change
invariant-loop-change g l = AppendsAllBut (g.K.Sink.contents l.fn.out) (g.K.Sink.contents l.out) (changes_text (take l.change-index l.changes)) l.buffer
    × (length l.buffer + 512 ≤ 16384) × (g.K.Sink.fault_count l.fn.out ≤ g.K.Sink.fault_count l.out)
