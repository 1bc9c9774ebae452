-- QuickUnlink, where its exchange succeeds: the own node, which stands alone, is taken out of the list into the hand.
use Rattle.std.proofs.Common.{◌≡◌, ℕ, suc, ◌+◌, ◌*◌, ◌/◌, List, set, Some, None, inl, inr, ⊎_elim, refl, sym, ap, ◌∙◌, subst, arith}
use Rattle.lock_core.specs.declared.views.View.{View}
use Rattle.lock_core.specs.Words.{Heap, to}
use Rattle.lock_core.specs.Nodes.{Listed, listed}
use Rattle.lock_core.specs.Views.{quick_unlinked}
use Rattle.lock_laws.specs.Invariant.{InChain, MayReach, IsUsed, IsAlone}
use Rattle.lock_core.proofs.ByView.{new_view}
use Rattle.lock_core.proofs.Counts.{own_linked, counts_moved, used_or_own, used_grows}
use Rattle.lock_laws.proofs.Seats.{own_is_used}
use Rattle.lock_laws.proofs.PathSteps.{PathStep, listed_one}
use Rattle.lock_laws.proofs.Exchanges.Putting.{Exchange}
use Rattle.lock_laws.proofs.Exchanges.Cutting.{Cut, cut_change, cut_in_chain, cut_not_in_chain}
use Rattle.lock_laws.proofs.Exchanges.Linking.{own_apart}

-- what the step takes, and what it finds
pub record Case (seats : ℕ) (h now : Heap) (views : List View) (s : ℕ) (v : View) (g : Listed) : Type 0 where
  -- the head is the end afterwards
  pub by : Exchange seats h now views s v 0 0
  -- node g is linked
  pub own : v.own ≡ listed g
  -- nothing is in the hand
  pub empty : v.hand ≡ None
  -- the head names the own node with the low bit
  pub found : h.next 0 ≡ 2 * suc g.node + 1

module _ {seats : ℕ} {h now : Heap} {views : List View} {s : ℕ} {v : View} {g : Listed} (k : Case seats h now views s v g) where
  alone : IsAlone h views
  alone = k.by.invariant.fast_path.alone (let e = k.found in omega arith)

  is_mine : alone.node ≡ g.node
  is_mine = let a = alone.first in let e = k.found in omega arith

  cut : Cut h now 0 g.node
  cut = record {
    was = let e = k.found in omega arith;
    is = ap (λ w. w / 2) k.by.wrote.is ∙ sym (subst (λ a. to h (suc a) ≡ 0) is_mine alone.last);
    apart = λ e. omega arith;
    live = inl refl;
    even = λ q z. absurd (omega arith);
  }

  abbrev view_now : View
  view_now = quick_unlinked v g.node

  is_used : IsUsed (set views s view_now) g.node
  is_used = record { seat = s; view = view_now; at = new_view views s view_now v k.by.at; used = own_is_used v g k.own h views s k.by.invariant.places k.by.at }

  -- a QuickUnlink that succeeds loses the own node from the paths, and gains and marks none
  pub step : PathStep h now views s v view_now (λ _. ⊥) (λ x. x ≡ g.node) (λ _. ⊥)
  step = record {
    invariant = k.by.invariant;
    at = k.by.at;
    change = cut_change k.by cut;
    epochs = k.by.epochs;
    gained = λ x z. absurd z;
    gained_next = λ j n x u d e q m z. absurd z;
    lost_chain = λ x e. subst (InChain h) (sym e) (cut_in_chain k.by cut);
    lost_gone = λ x e r. cut_not_in_chain k.by cut (subst (InChain now) e r);
    lost_hand = λ x e. ap (λ (a : ℕ). Some a) (sym e);
    lost_used = λ x e. subst (IsUsed (set views s view_now)) (sym e) is_used;
    lost_seen = λ j x u d e q m l. inr (let same : x ≡ alone.node = l ∙ sym is_mine in
        alone.unseen j u d e q (subst (MayReach h d) same m) ∙ ap (λ a. 2 * suc a + 1) (sym same));
    apart = λ j u b d e own l. ⊎_elim (own_apart h views j s u v b.node g.node k.by.invariant.places e k.by.at (own_linked u b own)
        (own_linked v g k.own) d) (λ z. z) l;
    alone = λ odd. absurd (let e = k.by.wrote.is in omega arith);
    rest = refl;
    once = counts_moved v g k.own;
    used = λ x e. ⊎_elim (λ (q : x ≡ g.node). inr (inr q)) inl (used_or_own v g k.own x e);
    used_more = used_grows v g k.own;
    hand = λ x e. inr (let a : g.node ≡ x = cc in sym a);
    hand_more = λ x e. absurd (let a = k.empty in cc);
    fills = λ f e. absurd (cc);
    lists = λ b e. absurd (cc);
    listed_was = λ b own r. absurd (cut_not_in_chain k.by cut (subst (λ (a : Listed). InChain now a.node) (listed_one b g (sym own ∙ k.own)) r));
    cursor = λ d e. (d, e, inl refl);
    sees_own = λ b e. absurd (cc);
    as_reader = λ j u r b d e own. absurd (cc);
    as_writer = λ j u r b d e own own'. absurd (cc);
  }
