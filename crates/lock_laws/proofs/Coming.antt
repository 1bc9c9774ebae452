-- What a cursor that comes to a word makes of the own node: it stays, or its range is held from now on.
use Rattle.std.proofs.Common.{◌≡◌, ◌⊎◌, ℕ, suc, ◌*◌, Bool, true, false, inl, inr, refl, eqb-true}
use Rattle.std.specs.Prelude.{◌==◌, if◌then◌else◌}
use Rattle.lock_core.specs.declared.views.Todo.TheVariants.{Forward, FromHead, Done}
use Rattle.lock_core.specs.declared.views.Own.{Own}
use Rattle.lock_core.specs.declared.views.Own.TheVariants.{Linked}
use Rattle.lock_core.specs.Nodes.{Listed, listed}
use Rattle.lock_core.specs.Views.{own_at}

-- the own node with nothing left to do
abbrev pub done : Listed → Listed
done k = record k { todo = Done }

-- a validation came to its end: a reader's to the end of the list, a writer's to its own node
pub record CameHome (own : Own) (w : ℕ) (after : Own) : Type 0 where
  -- the own node before
  pub was : Listed
  -- it was linked
  pub is : own ≡ listed was
  -- afterwards it has nothing left to do
  pub now : after ≡ listed (done was)
  -- a reader came to the end, or a writer to its own node
  pub way : ((was.todo ≡ Forward) × (w ≡ 0)) ⊎ ((was.todo ≡ FromHead) × (w ≡ 2 * suc was.node))

came_at : (own : Listed) (w target : ℕ) → (w ≡ target → ((own.todo ≡ Forward) × (w ≡ 0)) ⊎ ((own.todo ≡ FromHead) × (w ≡ 2 * suc own.node)))
    → (b : Bool) → (w == target) ≡ b
    → ((if b then listed (done own) else listed own) ≡ listed own) ⊎ CameHome (listed own) w (if b then listed (done own) else listed own)
came_at own w target way true e = inr (record { was = own; is = refl; now = refl; way = way (eqb-true w target e) })
came_at own w target way false e = inl refl

-- a cursor that comes to a word leaves the own node as it is, or brings its validation to the end
pub coming : (own : Own) (w : ℕ) → (own_at own w ≡ own) ⊎ CameHome own w (own_at own w)
coming (Linked node range mode Forward) w =
    came_at (record { node = node; range = range; mode = mode; todo = Forward }) w 0 (λ e. inl (refl, e)) (w == 0) refl
coming (Linked node range mode FromHead) w =
    came_at (record { node = node; range = range; mode = mode; todo = FromHead }) w (2 * suc node) (λ e. inr (refl, e)) (w == 2 * suc node) refl
coming _ w = inl refl
