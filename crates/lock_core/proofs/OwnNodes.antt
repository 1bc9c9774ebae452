-- Reading an epoch or a home word leaves the own node.
use Rattle.std.proofs.Common.{◌≡◌, ℕ, ◌%◌, Bool, true, false, Some, None, refl}
use Rattle.std.specs.Prelude.{Option, ◌==◌, if◌then◌else◌}
use Rattle.view_lists.specs.Counted.{are_others_passed}
use Rattle.lock_core.specs.declared.views.View.{View}
use Rattle.lock_core.specs.declared.views.Own.{Own}
use Rattle.lock_core.specs.Views.{looked_at, noted, passes, is_passed, note_of, released, epoch_read, home_read}

-- the own node of a view that is one of two
pub own_if : (b : Bool) (x y : View) (o : Own) → x.own ≡ o → y.own ≡ o → (if b then x else y).own ≡ o
own_if true x y o e e' = e
own_if false x y o e e' = e'

own_noted : (v : View) (j w : ℕ) (o : Option ℕ) → (noted v j w o).own ≡ v.own
own_noted v j w None = refl
own_noted v j w (Some n) = own_if (n == w) v (passes v j) v.own refl refl

own_looked : (v : View) (j w : ℕ) → (looked_at v j w).own ≡ v.own
own_looked v j w = own_if (is_passed v j) _ _ v.own refl (own_if (w % 2 == 0) _ _ v.own refl (own_noted v j w (note_of v j)))

-- ReadEpoch leaves the own node as it is
pub own_epoch : (s : ℕ) (v : View) (j w : ℕ) → (epoch_read s v j w).own ≡ v.own
own_epoch s v j w = own_if (are_others_passed s (looked_at v j w).passed) (released (looked_at v j w)) (looked_at v j w) v.own
    (own_looked v j w) (own_looked v j w)

-- ReadHome leaves the own node as it is
pub own_home : (seats : ℕ) (v : View) (n w : ℕ) → (home_read seats v n w).own ≡ v.own
own_home seats v n w = own_if (w == 1) _ v v.own (own_if (seats == 1) _ _ v.own refl refl) refl
