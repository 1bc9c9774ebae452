-- What is gone from `rest` was appended, and each turn takes some of it.
use Rattle.std.proofs.Common.{◌≡◌, ℕ, List, ◌++◌, length}
use Rattle.std.specs.Io.KnownBytes.{Appends}
use Rattle.byte_ports.proofs.whole.write_all.Given as goal

-- the bytes are some that are done, which were appended, and then the rest; no call failed so far
abbrev pub invariant-loop-rest : goal.invariant-loop-rest
invariant-loop-rest g l =
    (done : List ℕ)
    × (l.fn.bytes ≡ done ++ l.rest)
    × Appends (g.K.Sink.contents l.fn.out) (g.K.Sink.contents l.out) done
    × (g.K.Sink.fault_count l.out ≡ g.K.Sink.fault_count l.fn.out)

-- the rest becomes shorter with each turn
abbrev pub decreases-loop-rest : goal.decreases-loop-rest
decreases-loop-rest g l = length l.rest
