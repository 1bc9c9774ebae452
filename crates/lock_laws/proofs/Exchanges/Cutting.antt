-- A node is taken out of the list from behind a cell: what that does to the paths and to their order.
use Rattle.std.proofs.Common.{◌≡◌, ◌≢◌, ℕ, suc, ◌%◌, List, inr, ⊎_elim, sym, ap, ◌∙◌, subst, arith}
use Rattle.std.proofs.lemmas.Bool.{cases_eq}
use Rattle.lock_core.specs.declared.views.View.{View}
use Rattle.lock_laws.specs.Paths.{Reach, here}
use Rattle.lock_core.specs.Words.{Heap, to, IsUnmarked}
use Rattle.lock_laws.specs.Invariant.{InChain, IsBefore}
use Rattle.lock_laws.proofs.Paths.{Cuts, cut_adds, cut_ends, cut_keeps, cut_keeps_from, cut_adds_from, cut_ends_from, cut_gone, no_cycle}
use Rattle.lock_laws.proofs.Along.{reach_next}
use Rattle.lock_laws.proofs.Judging.{before_same, before_on}
use Rattle.lock_laws.proofs.PathSteps.{Change}
use Rattle.lock_laws.proofs.Exchanges.Putting.{Exchange, IsLive, others, written, unmarked_on}

-- node y, which cell p names, is taken out: p names what y names
pub record Cut (h now : Heap) (p y : ℕ) : Type 0 where
  -- the cell named node y before
  pub was : to h p ≡ suc y
  -- afterwards it names what node y names
  pub is : to now p ≡ to h (suc y)
  -- the cell isn't that of node y
  pub apart : suc y ≢ p
  -- the cell is one that a step may write
  pub live : IsLive h p
  -- where it is a node's cell, that node has no mark afterwards
  pub even : (q : ℕ) → p ≡ suc q → now.next p % 2 ≡ 0

module _ {seats : ℕ} {h now : Heap} {views : List View} {s : ℕ} {v : View} {p w y : ℕ} (k : Exchange seats h now views s v p w) (c : Cut h now p y) where
  cuts : Cuts (to h) (to now) p y
  cuts = record { others = others k; was = c.was; is = c.is; apart = c.apart }

  edge : (x z : ℕ) → ((w : ℕ) → to h (suc x) ≡ suc w → IsBefore h x w)
      → (to h (suc x) ≡ suc y → (w : ℕ) → to h (suc y) ≡ suc w → IsBefore h y w) → to now (suc x) ≡ suc z → IsBefore now x z
  edge x z old on_y e =
      before_same h now k.wrote.lo k.wrote.hi x z
      (⊎_elim
      (λ (q : suc x ≡ p).
      let leads : to h (suc x) ≡ suc y = ap (to h) q ∙ c.was in before_on h x y z (old y leads) (on_y leads z (sym c.is ∙ sym (ap (to now) q) ∙ e)))
      (λ (d : suc x ≢ p). old z (sym (others k (suc x) d) ∙ e))
      (cases_eq (suc x) p))

  -- the paths lose node y and gain none, no node gets a mark, and the chain stays in order
  pub cut_change : Change h now (λ _. ⊥) (λ x. x ≡ y) (λ _. ⊥)
  cut_change = record {
    adds = λ x t r. inr (cut_adds cuts x t r);
    keeps = cut_keeps cuts;
    adds_from = λ x c r. inr (cut_adds_from cuts x c r);
    keeps_from = cut_keeps_from cuts;
    ordered = λ t o range. record {
      ends = cut_ends cuts t o.ends;
      sorted = λ x z r e. let b = cut_adds cuts x t r in edge x z (λ w. o.sorted x w b) (λ l w. o.sorted y w (reach_next h x y t b l)) e;
    };
    chain = let o = k.invariant.order.chain in record {
      ends = cut_ends_from cuts 0 o.ends;
      sorted = λ x z r e. let b = cut_adds_from cuts x 0 r in edge x z (λ w. o.sorted x w b) (λ l w. o.sorted y w (reach_next h x y (to h 0) b l)) e;
    };
    written = written k c.live;
    stays = λ x low. inr (unmarked_on k c.even x low);
    lo = k.wrote.lo;
    hi = k.wrote.hi;
    home = k.wrote.home;
  }

  -- the node was in the chain, and isn't any more
  pub cut_in_chain : InChain h y
  cut_in_chain =
      ⊎_elim
      (λ (e : p ≡ 0). subst (λ a. Reach (to h) y (to h a)) e (subst (Reach (to h) y) (sym c.was) here))
      (λ (q : (q : ℕ) × (p ≡ suc q) × InChain h q × IsUnmarked h q). reach_next h q.0 y (to h 0) q.2 (ap (to h) (sym q.1) ∙ c.was))
      c.live

  -- afterwards node y isn't in the chain
  pub cut_not_in_chain : InChain now y → ⊥
  cut_not_in_chain r =
      ⊎_elim
      (λ (e : p ≡ 0).
      let at : to now 0 ≡ to h (suc y) = ap (to now) (sym e) ∙ c.is in
      no_cycle (to h) y (to h 0) k.invariant.order.chain.ends cut_in_chain (cut_adds cuts y (to h (suc y)) (subst (Reach (to now) y) at r)))
      (λ (q : (q : ℕ) × (p ≡ suc q) × InChain h q × IsUnmarked h q).
      let at : to now 0 ≡ to h 0 = others k 0 (λ e. let e' = q.1 in omega arith) in
      cut_gone cuts q.0 (to h 0) q.1 k.invariant.order.chain.ends q.2 (subst (Reach (to now) y) at r))
      c.live
