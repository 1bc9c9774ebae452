-- Mark: the own node gets its mark and is used from now on. No path changes.
use Rattle.std.proofs.Common.{◌≡◌, ◌≢◌, ℕ, suc, ◌+◌, ◌*◌, ◌/◌, ◌%◌, List, set, Some, inl, inr, ⊎_elim, refl, sym, ap, ◌∙◌, subst, arith}
use Rattle.std.proofs.lemmas.Bool.{cases_eq}
use Rattle.lock_core.specs.declared.views.View.{View}
use Rattle.lock_core.specs.declared.views.Cursor.{Cursor}
use Rattle.lock_laws.specs.Paths.{Reach, PathEnds}
use Rattle.lock_core.specs.Words.{Heap, to, IsMarked, IsUnmarked}
use Rattle.lock_core.specs.Nodes.{Listed, listed}
use Rattle.lock_core.specs.Views.{marked}
use Rattle.lock_laws.specs.Invariant.{InChain, MayReach, IsUsed, IsAlone}
use Rattle.lock_laws.proofs.Paths.{unreach, nothing_at_end}
use Rattle.lock_core.proofs.ByView.{new_view, each}
use Rattle.lock_core.proofs.Counts.{own_linked, counts_moved, used_or_own, used_grows}
use Rattle.lock_laws.proofs.Seats.{own_is_used}
use Rattle.lock_laws.proofs.Judging.{before_same}
use Rattle.lock_laws.proofs.PathSteps.{Change, PathStep, listed_one}
use Rattle.lock_laws.proofs.Exchanges.Putting.{Exchange, written}
use Rattle.lock_laws.proofs.Exchanges.Linking.{own_apart}

-- what the step takes, and what it finds
pub record Case (seats : ℕ) (h now : Heap) (views : List View) (s : ℕ) (v : View) (g : Listed) : Type 0 where
  -- the node's next word is one higher afterwards
  pub by : Exchange seats h now views s v (suc g.node) (h.next (suc g.node) + 1)
  -- node g is linked
  pub own : v.own ≡ listed g

module _ {seats : ℕ} {h now : Heap} {views : List View} {s : ℕ} {v : View} {g : Listed} (k : Case seats h now views s v g) where
  mine : InChain h g.node × IsUnmarked h g.node
  mine = k.by.invariant.places.linked s v g k.by.at k.own

  back : (c : ℕ) → to h c ≡ to now c
  back c = ⊎_elim (λ (e : c ≡ suc g.node). let a = ap now.next e in let b = ap h.next e in let w = k.by.wrote.is in let m = mine.1 in
      omega arith) (λ d. sym (ap (λ w. w / 2) (k.by.wrote.others c d))) (cases_eq c (suc g.node))

  -- so every target is as before
  same : to h ≡ to now
  same = λ z c. back c z

  change : Change h now (λ _. ⊥) (λ _. ⊥) (λ x. x ≡ g.node)
  change = record {
    adds = λ x t r. inr (subst (λ (f : ℕ → ℕ). Reach f x t) (sym same) r);
    keeps = λ x t r. inr (subst (λ (f : ℕ → ℕ). Reach f x t) same r);
    adds_from = λ x c r. inr (subst (λ (f : ℕ → ℕ). Reach f x (f c)) (sym same) r);
    keeps_from = λ x c r. inr (subst (λ (f : ℕ → ℕ). Reach f x (f c)) same r);
    ordered = λ t o range. record {
      ends = subst (λ (f : ℕ → ℕ). PathEnds f t) same o.ends;
      sorted = λ x y r e. before_same h now k.by.wrote.lo
          k.by.wrote.hi x y (o.sorted x y (subst (λ (f : ℕ → ℕ). Reach f x t) (sym same) r) (back (suc x) ∙ e));
    };
    chain = let o = k.by.invariant.order.chain in record {
      ends = subst (λ (f : ℕ → ℕ). PathEnds f (f 0)) same o.ends;
      sorted = λ x y r e. before_same h now k.by.wrote.lo k.by.wrote.hi x y
          (o.sorted x y (subst (λ (f : ℕ → ℕ). Reach f x (f 0)) (sym same) r) (back (suc x) ∙ e));
    };
    written = written k.by (inr (g.node, refl, mine.0, mine.1));
    stays = λ x low. ⊎_elim inl (λ (d : x ≢ g.node). inr (ap (λ w. w % 2) (k.by.wrote.others (suc x) (λ e. d (omega arith))) ∙ low)) (cases_eq x g.node);
    lo = k.by.wrote.lo;
    hi = k.by.wrote.hi;
    home = k.by.wrote.home;
  }

  abbrev view_now : View
  view_now = marked v g.node

  is_marked : IsMarked now g.node
  is_marked = let w = k.by.wrote.is in let m = mine.1 in omega arith

  is_used : IsUsed (set views s view_now) g.node
  is_used = record { seat = s; view = view_now; at = new_view views s view_now v k.by.at; used = own_is_used v g k.own h views s k.by.invariant.places k.by.at }

  may_back : (d : Cursor) (x : ℕ) → MayReach now d x → MayReach h d x
  may_back d x m = record { target = m.target; named = m.named; reach = subst (λ (f : ℕ → ℕ). Reach f x m.target) (sym same) m.reach }

  -- where one node stands alone it is the own one
  alone : now.next 0 % 2 ≡ 1 → IsAlone now (set views s view_now)
  alone odd =
      let a = k.by.invariant.fast_path.alone (ap (λ w. w % 2) (sym (k.by.wrote.others 0 (λ e. omega arith))) ∙ odd) in
      let mine_is : g.node ≡ a.node = ⊎_elim (λ e. e)
      (λ (r : Reach (to h) g.node (to h (suc a.node))). absurd
      (nothing_at_end (to h) g.node (subst (Reach (to h) g.node) a.last r)))
      (unreach (to h) g.node a.node (subst (Reach (to h) g.node) a.first mine.0)) in
      record {
        node = a.node;
        first = sym (back 0) ∙ a.first;
        last = sym (back (suc a.node)) ∙ a.last;
        rest = inl (subst (IsMarked now) mine_is is_marked);
        unseen = λ i u d e q m. each views s view_now (λ i u. (d : Cursor) → u.cursor ≡ Some d → MayReach now d a.node → d.cur ≡ 2 * suc a.node + 1)
            (λ d q m. a.unseen s v d k.by.at q (may_back d a.node m))
            (λ j u _ e d q m. a.unseen j u d e q (may_back d a.node m))
            i u e d q m;
      }

  -- a Mark gains and loses no node for the paths, and marks the own node
  pub step : PathStep h now views s v view_now (λ _. ⊥) (λ _. ⊥) (λ x. x ≡ g.node)
  step = record {
    invariant = k.by.invariant;
    at = k.by.at;
    change = change;
    epochs = k.by.epochs;
    gained = λ x z. absurd z;
    gained_next = λ j n x u d e q m z. absurd z;
    lost_chain = λ x l. absurd l;
    lost_gone = λ x l r. l;
    lost_hand = λ x l. absurd l;
    lost_used = λ x l. absurd l;
    lost_seen = λ j x u d e q m l. absurd l;
    apart = λ j u b d e own l. ⊎_elim (λ z. z) (own_apart h views j s u v b.node g.node k.by.invariant.places e k.by.at
        (own_linked u b own) (own_linked v g k.own) d) l;
    alone = alone;
    rest = refl;
    once = counts_moved v g k.own;
    used = λ x e. ⊎_elim (λ (q : x ≡ g.node). inr
        (inl (subst (λ a. InChain now a × IsMarked now a) (sym q) (subst (λ (f : ℕ → ℕ). Reach f g.node (f 0)) same mine.0, is_marked)))) inl
        (used_or_own v g k.own x e);
    used_more = used_grows v g k.own;
    hand = λ x e. inl e;
    hand_more = λ x e. e;
    fills = λ f e. absurd (cc);
    lists = λ b e. absurd (cc);
    listed_was = λ b own r. let q = listed_one g b (sym k.own ∙ own) in
        inl (subst (λ (a : Listed). IsMarked now a.node × IsUsed (set views s view_now) a.node) q (is_marked, is_used));
    cursor = λ d e. (d, e, inl refl);
    sees_own = λ b e. absurd (cc);
    as_reader = λ j u r b d e own. absurd (cc);
    as_writer = λ j u r b d e own own'. absurd (cc);
  }
