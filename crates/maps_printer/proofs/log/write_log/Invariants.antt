-- The lines so far are written or wait, and the buffer has room for a line.
use Rattle.std.proofs.Common.{◌+◌, ◌≤◌, length, take}
use Rattle.maps_printer.specs.Lines.{log_text}
use Rattle.byte_ports.specs.Bytes.{AppendsAllBut}
use Rattle.maps_printer.proofs.log.write_log.Given as goal

-- what holds before each entry; the count of failed calls didn't fall
abbrev pub invariant-loop-entry : goal.invariant-loop-entry
invariant-loop-entry g l = AppendsAllBut (g.K.Sink.contents l.fn.out) (g.K.Sink.contents l.out) (log_text (take l.entry-index l.entries)) l.buffer
    × (length l.buffer + 512 ≤ 16384) × (g.K.Sink.fault_count l.fn.out ≤ g.K.Sink.fault_count l.out)
