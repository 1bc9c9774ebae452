-- The lines so far are written or wait, and the buffer has room for a line.
use Rattle.std.proofs.Common.{◌+◌, ◌≤◌, length, take}
use Rattle.maps_printer.specs.Lines.{maps_text}
use Rattle.byte_ports.specs.Bytes.{AppendsAllBut}
use Rattle.maps_printer.proofs.maps.write_maps.Given as goal

-- what holds before each area; the count of failed calls didn't fall
abbrev pub invariant-loop-area : goal.invariant-loop-area
invariant-loop-area g l = AppendsAllBut (g.K.Sink.contents l.fn.out) (g.K.Sink.contents l.out) (maps_text (take l.area-index l.areas)) l.buffer
    × (length l.buffer + 512 ≤ 16384) × (g.K.Sink.fault_count l.fn.out ≤ g.K.Sink.fault_count l.out)
