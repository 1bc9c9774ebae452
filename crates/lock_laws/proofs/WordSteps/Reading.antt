-- Walk of a cursor that is at a node, and ReadLo: a word of the cursor's node becomes known.
use Rattle.std.proofs.Common.{◌≡◌, ◌⊎◌, ℕ, suc, ◌/◌, ◌%◌, List, Some, None, inl, inr, ⊎_elim, refl, sym, ap, ◌∙◌, subst, arith}
use Rattle.std.specs.Prelude.{Option, slice_set}
use Rattle.lock_core.specs.declared.views.View.{View}
use Rattle.lock_core.specs.declared.views.Cursor.{Cursor}
use Rattle.lock_laws.specs.Paths.{Reach, here, there}
use Rattle.lock_core.specs.Words.{Heap, to, IsUnmarked}
use Rattle.lock_core.specs.Nodes.{Listed}
use Rattle.lock_core.specs.Views.{walked, lo_read}
use Rattle.lock_core.specs.StepTable.{IsAtPlace}
use Rattle.lock_laws.specs.Invariant.{IsViewOf, InChain, Names, MayReach, IsOrdered, IsAlone, HasToSee, SeesFrom}
use Rattle.lock_laws.proofs.Frames.Owns.{same_some}
use Rattle.lock_laws.proofs.Paths.{unreach}
use Rattle.lock_laws.proofs.Frames.Parts.{Parts, IsCursorKept}
use Rattle.lock_laws.proofs.Frames.Moving.{moves_kept}
use Rattle.lock_laws.proofs.Frames.Seeing.{calm_same, rival_chain}
use Rattle.lock_laws.proofs.WordSteps.Walking.{ordered_behind}

module _ (h : Heap) (views : List View) (s : ℕ) (v : View) (c : Cursor) (y : ℕ) (parts : Parts h views) (at : IsViewOf views s v)
    (has : v.cursor ≡ Some c) (even : c.cur % 2 ≡ 0) (cur : c.cur / 2 ≡ suc y) where
  kept : IsCursorKept h v.own c
  kept = (parts.each s v at).cursor c has

  -- an epoch that goes with a cursor is odd
  odd : v.epoch % 2 ≡ 0 → ⊥
  odd e = let n = (parts.each s v at).even e in cc

  -- where a view may reach no more than before, and its word has no low bit, it may not reach a node that stands alone
  pub not_alone : (a : IsAlone h views) → MayReach h c a.node → ⊥
  not_alone a m = let e = a.unseen s v c at has m in omega (arith, e, even)

  -- ---- the next word

  abbrev w : ℕ
  w = h.next (suc y)

  abbrev d : Cursor
  d = record c { next = Some w; lo = None }

  next_is : (n : ℕ) → d.next ≡ Some n → w ≡ n
  next_is n e = same_some w n e

  names_next : (t : ℕ) → Names d t → Names c t ⊎ (t ≡ to h (suc y))
  names_next t (inl e) = inl (inl e)
  names_next t (inr (inl e)) = inl (inr (inl e))
  names_next t (inr (inr n)) = inr (n.2 ∙ ap (λ a. a / 2) (sym (next_is n.0 n.1)))

  may_next : (x : ℕ) → MayReach h d x → MayReach h c x
  may_next x m = ⊎_elim
      (λ (n : Names c m.target). record { target = m.target; named = n; reach = m.reach })
      (λ (e : m.target ≡ to h (suc y)). record {
        target = c.cur / 2;
        named = inr (inl refl);
        reach = subst (Reach (to h) x) (sym cur) (there_from (subst (Reach (to h) x) e m.reach));
      })
      (names_next m.target m.named)
    where
      there_from : Reach (to h) x (to h (suc y)) → Reach (to h) x (suc y)
      there_from r = there r

  kept_next : IsCursorKept h v.own d
  kept_next = record {
    seen = λ t n. ⊎_elim
        (λ (o : Names c t). kept.seen t o)
        (λ (e : t ≡ to h (suc y)). subst (IsOrdered h) (sym e)
        (ordered_behind h y (suc y) (subst (IsOrdered h) cur (kept.seen (c.cur / 2) (inr (inl refl)))) here))
        (names_next t n);
    read = record {
      next_node = λ n e z. omega (arith, cur, z);
      lo_node = λ l e. absurd (cc);
      lo = λ l x e q. absurd (cc);
      marked = λ n e q. sym (next_is n e) ∙ ap h.next (sym cur);
      next = λ n x e ch un r. subst (λ a. Reach (to h) x (to h a)) (sym cur) (subst (λ a. Reach (to h) x (a / 2)) (sym (next_is n e)) r);
    };
    range = λ x m. kept.range x (may_next x m);
    kept = λ x m. kept.kept x (may_next x m);
    low = λ e. absurd (omega (arith, even, e));
    past = kept.past;
    stop = λ f lo hi x e1 e2 e3 place q. absurd (no_place place);
  }
    where
      no_place : IsAtPlace d → ⊥
      no_place (inl e) = omega (arith, cur, e)
      no_place (inr t) = t.1 refl

  -- what a validation had to see it sees from the next word on
  sees_next : (k : Listed) (x : ℕ) → InChain h x → IsUnmarked h x → HasToSee h k v.cursor x → HasToSee h k (Some d) x
  sees_next k x ch un see = from c.next refl (subst (λ (o : Option Cursor). HasToSee h k o x) has see)
    where
      from : (o : Option ℕ) → c.next ≡ o → SeesFrom h c.cur o x → (c.cur / 2 ≡ suc x) ⊎ Reach (to h) x (w / 2)
      from None e r = ⊎_elim
          (λ (q : x ≡ y). inl (cur ∙ ap suc (sym q)))
          (λ (q : Reach (to h) x (to h (suc y))). inr q)
          (unreach (to h) x y (subst (Reach (to h) x) cur r))
      from (Some n) e (inl q) = inl q
      from (Some n) e (inr r) = inr (subst (λ a. Reach (to h) x (to h a)) cur (kept.read.next n x e ch un r))

  -- all that the invariant says is so after a Walk that loads the next word of the cursor's node
  pub loads_next : Parts h (slice_set views s (walked v (Some c) w))
  loads_next = moves_kept h h views s v (walked v (Some c) w) parts at (calm_same h) (λ x. refl) (λ j w e. refl) (λ l. l) (record {
    rest = refl;
    own = inl refl;
    odd = λ e. absurd (odd e);
    cursor = λ b e. subst (IsCursorKept h v.own) (same_some d b e) kept_next;
    reach = λ b x e m. inr (c, has, may_next x (subst (λ z. MayReach h z x) (sym (same_some d b e)) m));
    sees = λ k g own r see. (refl, sees_next k g.node (rival_chain h views s v k g parts at own r) (parts.places.linked r.seat r.view g r.there r.own).1 see);
    to_see = λ k own e. let l = parts.places.linked s v k at own in sees_next k k.node l.0 l.1 ((parts.each s v at).to_see k own e);
    unseen = λ low a b e m. absurd (not_alone a (may_next a.node (subst (λ z. MayReach h z a.node) (sym (same_some d b e)) m)));
  })

  -- ---- the lower end

  pub reads_lo : (n : ℕ) → c.next ≡ Some n → Parts h (slice_set views s (lo_read v c (h.lo y)))
  reads_lo n next = moves_kept h h views s v (lo_read v c (h.lo y)) parts at (calm_same h) (λ x. refl) (λ j w e. refl) (λ l. l) (record {
    rest = refl;
    own = inl refl;
    odd = λ e. absurd (odd e);
    cursor = λ b e. subst (IsCursorKept h v.own) (same_some (record c { lo = Some (h.lo y) }) b e) (record {
      seen = kept.seen;
      read = record {
        next_node = kept.read.next_node;
        lo_node = λ l e z. omega (arith, cur, z);
        lo = λ l x e q. sym (same_some (h.lo y) l e) ∙ ap h.lo (let z : y ≡ x = omega (arith, cur, q) in z);
        marked = kept.read.marked;
        next = kept.read.next;
      };
      range = λ x m. kept.range x (same_may x m);
      kept = λ x m. kept.kept x (same_may x m);
      low = λ e. absurd (omega (arith, even, e));
      past = kept.past;
      stop = λ f lo hi x e1 e2 e3 place q. absurd (no_place place);
    });
    reach = λ b x e m. inr (c, has, same_may x (subst (λ z. MayReach h z x) (sym (same_some (record c { lo = Some (h.lo y) }) b e)) m));
    sees = λ k g own r see. (refl, subst (λ (o : Option Cursor). HasToSee h k o g.node) has see);
    to_see = λ k own e. subst (λ (o : Option Cursor). HasToSee h k o k.node) has ((parts.each s v at).to_see k own e);
    unseen = λ low a b e m. absurd (not_alone a (same_may a.node (subst (λ z. MayReach h z a.node) (sym (same_some (record c { lo = Some (h.lo y) }) b e)) m)));
  })
    where
      same_may : (x : ℕ) → MayReach h (record c { lo = Some (h.lo y) }) x → MayReach h c x
      same_may x m = record { target = m.target; named = m.named; reach = m.reach }

      no_place : IsAtPlace (record c { lo = Some (h.lo y) }) → ⊥
      no_place (inl e) = omega (arith, cur, e)
      no_place (inr t) = let a = t.0 in cc
