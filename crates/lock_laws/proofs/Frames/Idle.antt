-- A node that is ready or being filled is of one seat, and is neither used, linked nor in the chain.
use Rattle.std.proofs.Common.{◌≡◌, ℕ, ◌+◌, ◌≤◌, List, inl, inr, ⊎_elim, sym, ap, ◌∙◌, arith}
use Rattle.lock_core.specs.Counted.{times}
use Rattle.lock_core.specs.declared.views.View.{View}
use Rattle.lock_core.specs.Words.{Heap}
use Rattle.lock_core.specs.Nodes.{Listed, listed, own_times}
use Rattle.lock_laws.specs.Invariant.{IsViewOf, InChain, IsUsed, IsLinked, IsIdle, Places}
use Rattle.lock_core.proofs.ByView.{is_view}
use Rattle.lock_core.proofs.Counts.{own_filling, own_linked}
use Rattle.lock_laws.proofs.Seats.{only_once, one_seat}

-- an idle node is ready or the own node
pub idle_times : (v : View) (x : ℕ) → IsIdle v x → 1 ≤ own_times x v.own + times x v.ready
idle_times v x (inl r) = omega (arith, r)
idle_times v x (inr g) = let o = ap (λ a. own_times a v.own) (sym g.2) ∙ own_filling v g.0 g.1 in omega (arith, o)

module _ (h : Heap) (views : List View) (places : Places h views) where
  -- a node that is idle in some view is used in none
  pub idle_not_used : (i j x : ℕ) (v u : View) → IsViewOf views i v → IsViewOf views j u → IsIdle v x → times x u.used ≡ 1 → ⊥
  idle_not_used i j x v u at at' idle used =
      let a = idle_times v x idle in
      let same = is_view views i j v u at at' (sym (one_seat h views places i j x v u at at' (omega (arith, a)) (omega (arith, used)))) in
      let t = ap (λ (z : View). times x z.used) same in
      let l = only_once h views places i x v at in
      omega (arith, a, used, t, l)

  -- a node that is idle in some view is linked in none
  pub idle_not_linked : (i j x : ℕ) (v u : View) (k : Listed) → IsViewOf views i v → IsViewOf views j u → IsIdle v x → u.own ≡ listed k → k.node ≡ x → ⊥
  idle_not_linked i j x v u k at at' idle own is =
      let a = idle_times v x idle in
      let o = ap (λ a. own_times a u.own) (sym is) ∙ own_linked u k own in
      let same = is_view views i j v u at at' (sym (one_seat h views places i j x v u at at' (omega (arith, a)) (omega (arith, o)))) in
      by_idle idle (sym (ap (λ (z : View). z.own) (sym same)) ∙ own)
    where
      by_idle : IsIdle v x → v.own ≡ listed k → ⊥
      by_idle (inl r) e = let o = ap (λ a. own_times a v.own) (sym is) ∙ own_linked v k e in let l = only_once h views places i x v at in omega (arith, o, l, r)
      by_idle (inr g) e = let f = g.1 in cc

  -- an idle node is in no chain
  pub idle_not_chain : (i x : ℕ) (v : View) → IsViewOf views i v → IsIdle v x → InChain h x → ⊥
  idle_not_chain i x v at idle r =
      ⊎_elim
      (λ (t : _ × IsUsed views x). idle_not_used i t.1.seat x v t.1.view at t.1.at idle t.1.used)
      (λ (t : _ × IsLinked views x). idle_not_linked i t.1.seat x v t.1.view t.1.own at t.1.at idle t.1.is t.1.node)
      (places.chain x r)

  -- a node that one seat fills or has ready isn't idle at another seat
  pub idle_seat : (i j x : ℕ) (v u : View) → IsViewOf views i v → IsViewOf views j u → IsIdle v x → IsIdle u x → i ≡ j
  idle_seat i j x v u at at' a b = let p = idle_times v x a in let q = idle_times u x b in
      one_seat h views places i j x v u at at' (omega (arith, p)) (omega (arith, q))
