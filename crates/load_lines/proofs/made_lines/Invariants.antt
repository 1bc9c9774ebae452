-- The lines so far are the first of the load, and the state is the one that their draws left.
use Rattle.std.proofs.Common.{◌≡◌, ◌<◌, ◌*◌, ◌^◌, All}
use Rattle.load_lines.specs.Calls.{drawn_lines, IsNamedLine}
use Rattle.load_lines.specs.Generator.{state_after}
use Rattle.load_lines.proofs.made_lines.Given as goal

-- what holds of the lines and the state before each turn; the calls of the lines have named bits alone
abbrev pub invariant-loop-made : goal.invariant-loop-made
invariant-loop-made l = record {
  lines : l.lines.items ≡ drawn_lines l.seed l.threads l.made;
  state : l.state ≡ state_after l.seed (4 * l.made);
  bound : l.state < 2 ^ 31;
  named : All IsNamedLine l.lines.items;
}
