use Rattle.std.proofs.Common.{ℕ, ◌≡◌, ◌+◌, ◌-◌, ◌*◌, ◌<◌, ◌≤◌, length}
use Rattle.std.specs.Prelude.{slice_index}
use Rattle.row_blocks.proofs.filling.number.Given as goal

-- so many body words are stored
abbrev pub invariant-bodies : goal.invariant-bodies
invariant-bodies l = record {
  long : length l.words ≡ length l.initial.words;
  high : l.k ≤ l.blocks;
  done : (m : ℕ) → m < l.k → slice_index l.words (128 * l.blocks + 1 + m) ≡ 128 * m;
  low : (s : ℕ) → s < 128 * l.blocks + 1 → slice_index l.words s ≡ slice_index l.initial.words s;
  up : (s : ℕ) → 129 * l.blocks + 1 ≤ s → slice_index l.words s ≡ slice_index l.initial.words s;
}

abbrev pub decreases-bodies : goal.decreases-bodies
decreases-bodies l = l.blocks - l.k
