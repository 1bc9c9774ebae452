-- A port that fails leaves a trace that no caller can make: its own count of failed calls. A caller that says "the
-- port failed" proves it by that count, so it can't give up by itself. The counts and the words on them are this
-- project's own profile.
use Rattle.std.specs.Prelude.{ℕ, ◌+◌, ◌-◌, ◌<◌, ◌^◌, min}

-- a count of failed calls rose where it is greater afterwards, or is afterwards at its last value
abbrev pub Rose : ℕ → ℕ → Type 0
Rose before after = after < 2 ^ 64 - 1 → before < after

-- one more, for a counter of so many bits, which stays at its last value
abbrev pub one_more : ℕ → ℕ → ℕ
one_more bits count = min (count + 1) (2 ^ bits - 1)
