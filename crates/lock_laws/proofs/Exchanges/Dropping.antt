-- A seat lets its cursor go, since an exchange failed: no word changes. A reader that validates begins again behind
-- its own node and a writer at the head, and what they have to see is still before them.
use Rattle.std.proofs.Common.{ℕ, List, inl, refl}
use Rattle.std.specs.Prelude.{slice_set}
use Rattle.lock_core.specs.declared.views.View.{View}
use Rattle.lock_core.specs.Words.{Heap}
use Rattle.lock_core.specs.Views.{dropped}
use Rattle.lock_laws.specs.Invariant.{IsViewOf}
use Rattle.lock_laws.proofs.Frames.Parts.{Parts}
use Rattle.lock_laws.proofs.Frames.Moving.{moves_kept}
use Rattle.lock_laws.proofs.Frames.Seeing.{calm_same, sees_anew, sees_own_anew}

-- all that the invariant says is so once the cursor is gone
pub drops : (h : Heap) (views : List View) (s : ℕ) (v : View) → Parts h views → IsViewOf views s v → Parts h (slice_set views s (dropped v))
drops h views s v parts at = moves_kept h h views s v (dropped v) parts at (calm_same h) (λ x. refl) (λ j w e. refl) (λ l. l) (record {
  rest = refl;
  own = inl refl;
  odd = λ e. refl;
  cursor = λ d e. absurd (cc);
  reach = λ d x e m. absurd (cc);
  sees = λ k g own r see. (refl, sees_anew h views s v k g parts at own r);
  to_see = λ k own e. sees_own_anew h k (parts.places.linked s v k at own).0 e;
  unseen = λ low a d e m. absurd (cc);
})
