use Rattle.std.proofs.Common.{arith}
use Rattle.byte_ports.proofs.Draining.{drained}
use Rattle.byte_ports.proofs.input.read_all.Goals as goal

-- a read of no bytes at the end says that the bytes so far are the whole input
pub returns-then-count-eq0-clause-whole : goal.returns-then-count-eq0-clause-whole
returns-then-count-eq0-clause-whole g c =
    let last = c.in-Ok.ensures in
    let none = c.if-count-eq0.true in
    drained _ _ _ _ _ _ c.pieces.invariant.0 none last.moved (last.end none (omega arith))
