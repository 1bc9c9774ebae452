use Rattle.std.proofs.Common.{◌≡◌, ◌≤◌, ◌+◌, ◌*◌, length}
use Rattle.std.specs.Prelude.{All}
use Rattle.page_types.specs.Named.{IsNamedCall}
use Rattle.test_worker.proofs.lines.reads.Given as goal

-- there is a line for each turn, their calls have named bits alone, and the next line number is small
abbrev pub invariant-loop-turn : goal.invariant-loop-turn
invariant-loop-turn l = record { long : length l.lines.items ≡ l.turn; named : All (λ m. IsNamedCall m.call) l.lines.items; number : l.line ≤ 17 + 17 * l.turn }
