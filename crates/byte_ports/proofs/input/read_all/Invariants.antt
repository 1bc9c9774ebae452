use Rattle.std.proofs.Common.{◌≡◌, ◌+◌, ◌-◌, ◌≤◌, length}
use Rattle.std.specs.Io.KnownBytes.{Consumes}
use Rattle.byte_ports.proofs.input.read_all.Given as goal

-- what was read so far is what the source has given, and it is within the limit
abbrev pub invariant-pieces : goal.invariant-pieces
invariant-pieces g l = Consumes (g.S.Source.remaining l.fn.input) (g.S.Source.remaining l.input) l.bytes.items
    × (length l.bytes.items ≤ l.limit)
    × (length l.piece ≡ 32768)
    × (g.S.Source.fault_count l.fn.input ≤ g.S.Source.fault_count l.input)

-- each turn reads a byte at least, up to one above the limit
abbrev pub decreases-pieces : goal.decreases-pieces
decreases-pieces g l = l.limit + 1 - length l.bytes.items
