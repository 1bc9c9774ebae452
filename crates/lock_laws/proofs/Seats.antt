-- Of which seat a node is: what the places of the invariant say of the counts of a node in the seats' lists.
use Rattle.std.proofs.Common.{◌≡◌, ℕ, ◌+◌, ◌/◌, ◌≤◌, Bool, true, false, List, [], ◌∷◌, ◌++◌, refl, sym, ap, ◌∙◌, subst, arith, eqb-true}
use Rattle.std.specs.Prelude.{◌==◌, if◌then◌else◌}
use Rattle.lock_core.specs.Counted.{times}
use Rattle.lock_core.specs.declared.views.View.{View}
use Rattle.lock_core.specs.Words.{Heap}
use Rattle.lock_core.specs.Nodes.{Listed, listed, own_times}
use Rattle.lock_laws.specs.Invariant.{IsViewOf, Places}
use Rattle.lock_core.proofs.ByView.{same_view}
use Rattle.lock_core.proofs.Counts.{own_linked, counts_moved}

is_true : (b : Bool) (n : ℕ) → n ≡ (if b then 1 else 0) → 1 ≤ n → b ≡ true
is_true true n e l = refl
is_true false n e l = absurd (omega arith)

at_most : (b : Bool) → (if b then 1 else 0) ≤ 1
at_most true = omega arith
at_most false = omega arith

module _ (h : Heap) (views : List View) (places : Places h views) where
  -- a node in a seat's lists is of that seat
  pub seat_is : (i x : ℕ) (v : View) → IsViewOf views i v → 1 ≤ own_times x v.own + times x v.ready + times x v.used → x / 16 ≡ i
  seat_is i x v at l = eqb-true _ _ (is_true (x / 16 == i) (own_times x v.own + times x v.ready + times x v.used) (places.once i x v at) l)

  -- and stands there once
  pub only_once : (i x : ℕ) (v : View) → IsViewOf views i v → own_times x v.own + times x v.ready + times x v.used ≤ 1
  only_once i x v at = let e = places.once i x v at in let l = at_most (x / 16 == i) in omega arith

  -- two seats that have one node are one seat
  pub one_seat : (i j x : ℕ) (v u : View) → IsViewOf views i v → IsViewOf views j u
      → 1 ≤ own_times x v.own + times x v.ready + times x v.used → 1 ≤ own_times x u.own + times x u.ready + times x u.used
      → i ≡ j
  one_seat i j x v u at at' l l' = sym (seat_is i x v at l) ∙ seat_is j x u at' l'

  -- so a node that one seat has as its own isn't any seat's used node
  pub own_not_used : (i j x : ℕ) (v u : View) → IsViewOf views i v → IsViewOf views j u → own_times x v.own ≡ 1 → 1 ≤ times x u.used → ⊥
  own_not_used i j x v u at at' own used =
      let q = one_seat i j x v u at at' (omega arith) (omega arith) in
      let same : v ≡ u = same_view views i v u at (subst (λ a. IsViewOf views a u) (sym q) at') in
      let w = ap (λ (z : View). times x z.used) same in
      let l = only_once i x v at in omega arith

-- an own node that is used from now on stands there once
pub own_is_used : (v : View) (k : Listed) → v.own ≡ listed k → (h : Heap) (views : List View) (i : ℕ) → Places h views
    → IsViewOf views i v → times k.node (v.used ++ k.node ∷ []) ≡ 1
own_is_used v k own h views i places at = let a = counts_moved v k own k.node in let b = own_linked v k own in
    let l = only_once h views places i k.node v at in omega arith
