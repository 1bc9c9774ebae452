use Rattle.std.proofs.Common.{◌≤◌, ◌+◌, ◌-◌, ◌*◌, ℕ, List, length}
use Rattle.std.specs.Prelude.{◌↔◌}
use Rattle.strace_reader.specs.Grammar.{Refuses}
use Rattle.raw_lines.specs.Mends.{AreMends}
use Rattle.raw_lines.proofs.mends.mended.Given as goal

-- the line is refused so, it has grown by at most 8 bytes a turn, and the mends that are left make of it what all mends
-- make of the text
abbrev pub invariant-mends : goal.invariant-mends
invariant-mends l = Refuses l.line.items l.bad × (length l.line.items ≤ length l.text + 8 * l.counter)
    × ((final : List ℕ) → AreMends (3 - l.counter) l.line.items final ↔ AreMends 3 l.text final)
