use Rattle.std.proofs.Common.{◌≡◌, ◌+◌, ◌-◌, ◌<◌, ◌≤◌, ℕ, length}
use Rattle.std.specs.Prelude.{slice_index}
use Rattle.area_rows.proofs.first_words.set_quotas.Given as goal

-- so many numbers are set
abbrev pub invariant-callers : goal.invariant-callers
invariant-callers l = record {
  long : length l.words ≡ length l.initial.words;
  quotas : (n : ℕ) → n < l.k → slice_index l.words (l.from + n) ≡ slice_index l.calls n;
  below : (s : ℕ) → s < l.from → slice_index l.words s ≡ slice_index l.initial.words s;
  high : l.k ≤ length l.calls;
}

abbrev pub decreases-callers : goal.decreases-callers
decreases-callers l = length l.calls - l.k
