use Rattle.std.proofs.Common.{◌≡◌, length}
use Rattle.std.specs.Prelude.{All}
use Rattle.page_types.specs.Named.{IsNamedCall}
use Rattle.test_worker.proofs.lines.page_lines.Given as goal

-- there is a line for each turn, and their calls have named bits alone
abbrev pub invariant-loop-turn : goal.invariant-loop-turn
invariant-loop-turn l = record { long : length l.lines.items ≡ l.turn; named : All (λ m. IsNamedCall m.call) l.lines.items }
