-- How roles are kept: those of halves by their place. It ties the type of the code to the list that contracts see.
use Rattle.std.specs.Prelude.{◌≡◌, ℕ, zero, suc, ◌+◌, ◌≤◌, List, [], ◌∷◌, Option, Some, None}
use Rattle.std.specs.BTreeMap.{BTreeMap, get}
use Rattle.std.specs.Ordering.{nat_cmp}
use Rattle.raw_trace.specs.declared.halves.Role.{Role}
use Rattle.raw_trace.specs.declared.halves.Role.TheVariants.{Alone}

-- the role, or that of no half where none is there
abbrev pub role_or : Option Role → Role
role_or None = Alone
role_or (Some role) = role

-- the roles of so many places from this one on
abbrev pub roles_in : BTreeMap ℕ Role → ℕ → ℕ → List Role
roles_in halves from zero = []
roles_in halves from (suc n) = role_or (get nat_cmp halves from) ∷ roles_in halves (suc from) n

-- each place with a role is below this one
abbrev pub AreBelow : BTreeMap ℕ Role → ℕ → Type 0
AreBelow halves count = (place : ℕ) → count ≤ place → get nat_cmp halves place ≡ None
