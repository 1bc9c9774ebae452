use Rattle.std.proofs.Common.{ℕ, ◌≡◌, ◌+◌, ◌-◌, ◌<◌, ◌≤◌, length}
use Rattle.std.specs.Prelude.{slice_index}
use Rattle.row_blocks.proofs.filling.lay_run.Given as goal

-- so many rows are laid
abbrev pub invariant-copies : goal.invariant-copies
invariant-copies l = record {
  long : length l.words ≡ length l.initial.words;
  high : l.k ≤ l.count;
  done : (m : ℕ) → m < l.k → slice_index l.words (l.to + m) ≡ slice_index l.rows (l.from + m);
  low : (s : ℕ) → s < l.to → slice_index l.words s ≡ slice_index l.initial.words s;
  up : (s : ℕ) → l.to + l.count ≤ s → slice_index l.words s ≡ slice_index l.initial.words s;
}

abbrev pub decreases-copies : goal.decreases-copies
decreases-copies l = l.count - l.k
