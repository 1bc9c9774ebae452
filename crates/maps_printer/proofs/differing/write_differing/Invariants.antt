-- The lines so far are written or wait, and the buffer has room for a line.
use Rattle.std.proofs.Common.{◌+◌, ◌≤◌, length, take}
use Rattle.maps_printer.specs.Lines.{differing_text}
use Rattle.byte_ports.specs.Bytes.{AppendsAllBut}
use Rattle.maps_printer.proofs.differing.write_differing.Given as goal

-- what holds before each reply; the count of failed calls didn't fall
abbrev pub invariant-loop-reply : goal.invariant-loop-reply
invariant-loop-reply g l = AppendsAllBut (g.K.Sink.contents l.fn.out) (g.K.Sink.contents l.out) (differing_text (take l.reply-index l.replies)) l.buffer
    × (length l.buffer + 512 ≤ 16384) × (g.K.Sink.fault_count l.fn.out ≤ g.K.Sink.fault_count l.out)
