-- A range as contracts see it: its two ends, as plain numbers. Every `Range` of the code meets `IsRange`; the
-- definitions speak of ends alone, so that a range read from words can be named before it is known to be one.
use Rattle.std.specs.Prelude.{ℕ, ◌<◌, ◌≤◌, ◌^◌}

-- the whole numbers from lo on and below hi
pub record Interval : Type 0 where
  pub lo : ℕ
  pub hi : ℕ

-- the bounds of a range: it isn't empty and ends at 2^62 at the latest (this project's own profile)
abbrev pub IsRange : ℕ → ℕ → Type 0
IsRange lo hi = (lo < hi) × (hi ≤ 2 ^ 62)

-- two ranges have a number in common (Kogan, Dice and Issa 2020)
abbrev pub Overlaps : Interval → Interval → Type 0
Overlaps a b = (a.lo < b.hi) × (b.lo < a.hi)
