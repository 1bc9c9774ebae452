-- Views that stand behind boxes, in a list: after an append, a removal of the first and an exchange of one, the list of
-- the views is what such a change leaves of it.
use Rattle.std.proofs.Common.{◌≡◌, ℕ, ◌-◌, ◌<◌, Bool, List, [], ◌∷◌, ◌++◌, get_or, set, refl, sym, ap, ◌∙◌, arith, ne_eqb}
use Rattle.std.specs.Prelude.{remove, if◌then◌else◌}
use Rattle.std.specs.Global.{Box}
use Rattle.std.proofs.lemmas.List.{map_push, map-set}
use Rattle.lock_core.specs.declared.views.View.{View}
use Rattle.epoch_pools.specs.Hands.{views_in, views_of}

-- with one box more there is one view more
pub view_more : (l now : List (Box View)) (b : Box View) (vs : List View) (v : View) → now ≡ l ++ b ∷ [] → views_in l ≡ vs → b.value ≡ v
    → views_in now ≡ vs ++ v ∷ []
view_more l now b vs v is before last = ap views_in is ∙ (map_push (λ (x : Box View). x.value) l b ∙ (λ i. before i ++ last i ∷ []))

-- without its first box a list is without its first view
pub view_removed : (l now : List (Box View)) → now ≡ remove l 0 → views_in now ≡ remove (views_in l) 0
view_removed [] now is = ap views_in is
view_removed (b ∷ l) now is = ap views_in is

-- the view behind the first box is the first view
pub view_first_of : (l : List (Box View)) (b : Box View) → b ≡ get_or l 0 b → b.value ≡ get_or (views_in l) 0 b.value
view_first_of [] b is = refl
view_first_of (x ∷ l) b is = ap (λ (y : Box View). y.value) is

-- with another box in the place of a list behind the first, its view is there
pub view_put : (l : List (Box View)) (list : ℕ) (b : Box View) (vs : List View) (v : View) → 0 < list → views_in l ≡ vs → b.value ≡ v
    → views_in (set l (list - 1) b) ≡ views_of list vs v
view_put l list b vs v more before here = map-set (λ (x : Box View). x.value) l (list - 1) b ∙ ((λ i. set (before i) (list - 1) (here i))
    ∙ sym (ap (λ (t : Bool). if t then vs else set vs (list - 1) v) (ne_eqb list 0 (λ e. absurd (omega arith)))))
