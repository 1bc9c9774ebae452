use Rattle.std.proofs.Common.{◌-◌, ◌≤◌}
use Rattle.row_blocks.proofs.MovedWords.{HasPushed}
use Rattle.row_blocks.proofs.moves.raise.Given as goal

-- the words before a place have moved up, and the last of them is carried
abbrev pub invariant-shift : goal.invariant-shift
invariant-shift g l = record {
  pushed : HasPushed g.W.Loads l.words l.initial.hand l.hand l.from l.to l.word l.carried;
  low : l.from ≤ l.to;
  high : l.to ≤ l.until;
  row : g.W.Loads.is_row l.words l.hand l.carried;
}

abbrev pub decreases-shift : goal.decreases-shift
decreases-shift g l = l.until - l.to
