-- What is wanted of a set, and which two wants conflict first. Two wants conflict where the ranges would if they were
-- held, readers sharing and a writer alone (Kogan, Dice and Issa 2020). The order by places is this project's own
-- profile.
use Rattle.std.specs.Prelude.{◌≡◌, ◌⊎◌, ℕ, ◌<◌, ◌≤◌, List, slice_get, Some}
use Rattle.std.specs.List.{AllPairs}
use Rattle.lock_core.specs.Grants.{Conflicts}
use Rattle.lock_core.specs.declared.range.Held.{Held}
use Rattle.range_sets.specs.declared.wants.Want.{Want}

-- what a seat holds to which this want was granted
abbrev pub want_held : Want → Held
want_held w = record { range = w.range; mode = w.mode }

-- the wants at two places conflict
abbrev pub AreClashing : List Want → ℕ → ℕ → Type 0
AreClashing wants i j = (a b : Want) × (slice_get wants i ≡ Some a) × (slice_get wants j ≡ Some b) × Conflicts (want_held a) (want_held b)

-- the wants at these two places conflict, the earlier place first, and no others do at an earlier first place, or at
-- the same first place and an earlier second one
pub record IsFirstClash (wants : List Want) (i j : ℕ) : Type 0 where
  pub order : i < j
  pub clashes : AreClashing wants i j
  pub first : (k l : ℕ) → k < l → AreClashing wants k l → (i < k) ⊎ ((i ≡ k) × (j ≤ l))

-- no two wants at different places conflict
abbrev pub NoClash : List Want → Type 0
NoClash wants = AllPairs (λ a b. ¬ (Conflicts (want_held a) (want_held b))) wants
