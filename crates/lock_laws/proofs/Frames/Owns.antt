-- What an own node says of its record.
use Rattle.std.proofs.Common.{◌≡◌, ◌⊎◌, Some, inl, inr, refl}
use Rattle.lock_core.specs.declared.views.Own.{Own}
use Rattle.lock_core.specs.declared.views.Own.TheVariants.{Nothing, Filling, Linked}
use Rattle.lock_core.specs.Nodes.{Filled, Listed, filling, listed}

-- two options that are the same and have a value have the same value
pub same_some : {A : Type 0} (a b : A) → Some a ≡ Some b → a ≡ b
same_some a b e = cc

-- an own node is nothing, a node that is being filled or a linked one
pub own_is : (o : Own) → (o ≡ Nothing) ⊎ (((f : Filled) × (o ≡ filling f)) ⊎ (k : Listed) × (o ≡ listed k))
own_is Nothing = inl refl
own_is (Filling node lo hi mode aimed) = inr (inl (record { node = node; lo = lo; hi = hi; mode = mode; aimed = aimed }, refl))
own_is (Linked node range mode todo) = inr (inr (record { node = node; range = range; mode = mode; todo = todo }, refl))
