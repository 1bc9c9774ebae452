use Rattle.std.proofs.Common.{◌≡◌, ◌≤◌, drop}
use Rattle.raw_trace.specs.Stages.{DidSome}
use Rattle.raw_trace.proofs.writing.write_lines.Given as goal

-- of the texts so far all was done, and the first of them were let go
abbrev pub invariant-places : goal.invariant-places
invariant-places l = DidSome l.strict l.fn.lines l.place l.fn.counts l.ordering × (l.left ≡ drop l.gone l.fn.lines) × (l.gone ≤ l.place)
