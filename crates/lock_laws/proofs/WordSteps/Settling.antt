-- Settle: the head loses its low bit, and the cursor that found it stands there as any other.
use Rattle.std.proofs.Common.{◌≡◌, ◌⊎◌, ℕ, suc, ◌-◌, ◌/◌, ◌%◌, List, Some, None, inl, inr, ⊎_elim, refl, sym, ap, ◌∙◌, subst, arith}
use Rattle.std.specs.Prelude.{Option, slice_set}
use Rattle.lock_core.specs.declared.views.View.{View}
use Rattle.lock_core.specs.declared.views.Cursor.{Cursor}
use Rattle.lock_laws.specs.Paths.{Reach}
use Rattle.lock_core.specs.Words.{Heap, to, cell_of}
use Rattle.lock_core.specs.Nodes.{Listed}
use Rattle.lock_core.specs.Views.{settled}
use Rattle.lock_core.specs.StepTable.{IsAtPlace}
use Rattle.lock_laws.specs.Invariant.{IsViewOf, InChain, Names, MayReach, IsOrdered, HasToSee, SeesFrom}
use Rattle.lock_laws.proofs.Frames.Owns.{same_some}
use Rattle.lock_core.proofs.Words.{WroteCell}
use Rattle.lock_laws.proofs.PathSteps.{nothing_read}
use Rattle.lock_laws.proofs.Frames.Parts.{Parts, IsCursorKept, IsChainKept}
use Rattle.lock_laws.proofs.Frames.Frame.{chain_now, chain_on, chain_back}
use Rattle.lock_laws.proofs.Frames.Quiet.{Calm, calm_step}
use Rattle.lock_laws.proofs.WordSteps.Homing.{AreSeats}
use Rattle.lock_laws.proofs.Frames.Moving.{moves_kept}
use Rattle.lock_laws.proofs.Frames.Seeing.{rival_chain}
use Rattle.lock_laws.proofs.WordSteps.Walking.{ordered_end}

module _ (seats : ℕ) (h now : Heap) (views : List View) (s : ℕ) (v : View) (c : Cursor) (few : AreSeats seats views)
    (parts : Parts h views) (at : IsViewOf views s v) (has : v.cursor ≡ Some c) (prev : c.prev ≡ None) (odd : c.cur % 2 ≡ 1)
    (found : h.next 0 ≡ c.cur) (wrote : WroteCell seats h now 0 (c.cur - 1)) where
  calm : Calm h now
  calm = record {
    head = let w = wrote.is in omega (arith, w, found, odd);
    next = λ x. wrote.others (suc x) (λ e. omega arith);
    lo = wrote.lo;
    hi = wrote.hi;
  }

  kept : IsCursorKept h v.own c
  kept = (parts.each s v at).cursor c has

  bare : (c.prev ≡ None) × (c.next ≡ None) × (c.lo ≡ None)
  bare = kept.low odd

  abbrev d : Cursor
  d = record c { cur = c.cur - 1 }

  cur_is : d.cur / 2 ≡ to now 0
  cur_is = sym (ap (λ a. a / 2) wrote.is)

  -- the targets that the cursor names are the end and that of the head
  named : (t : ℕ) → Names d t → (t ≡ 0) ⊎ (t ≡ to now 0)
  named t (inl e) = inl (e ∙ ap cell_of prev)
  named t (inr (inl e)) = inr (e ∙ cur_is)
  named t (inr (inr n)) = absurd (let a = n.1 in let b = bare.1 in cc)

  inside : (x : ℕ) → MayReach now d x → InChain now x
  inside x m = ⊎_elim
      (λ (e : m.target ≡ 0). absurd (let z : Reach (to now) x 0 = subst (Reach (to now) x) e m.reach in elim z [ ]))
      (λ (e : m.target ≡ to now 0). subst (Reach (to now) x) e m.reach)
      (named m.target m.named)

  chain : IsChainKept now
  chain = chain_now (calm_step s parts at calm)

  kept_now : IsCursorKept now v.own d
  kept_now = record {
    seen = λ t n. ⊎_elim
        (λ (e : t ≡ 0). subst (IsOrdered now) (sym e) (ordered_end now))
        (λ (e : t ≡ to now 0). subst (IsOrdered now) (sym e) chain.ordered)
        (named t n);
    read = nothing_read now d bare.1 bare.2;
    range = λ x m. chain.range x (inside x m);
    kept = λ x m. inl (inside x m);
    low = λ e. absurd (omega (arith, odd, e));
    past = λ f lo hi p e1 e2 e3 e4. absurd (let b = prev in cc);
    stop = λ f lo hi y e1 e2 e3 place q. absurd (no_place y place q);
  }
    where
      no_place : (y : ℕ) → IsAtPlace d → d.cur / 2 ≡ suc y → ⊥
      no_place y (inl e) q = omega (arith, e, q)
      no_place y (inr t) q = t.1 bare.2

  -- every node of the chain is still to see
  sees_all : (k : Listed) (x : ℕ) → InChain h x → HasToSee now k (Some d) x
  sees_all k x r = by_next c.next bare.1
    where
      by_next : (o : Option ℕ) → o ≡ None → SeesFrom now (c.cur - 1) o x
      by_next None e = subst (Reach (to now) x) (sym cur_is) (chain_on (calm_step s parts at calm) x r)
      by_next (Some n) e = absurd (cc)

  -- all that the invariant says is so after a Settle that succeeds
  pub settles : Parts now (slice_set views s (settled v c))
  settles = moves_kept h now views s v (settled v c) parts at calm wrote.home (λ j w e. wrote.epoch j (few j w e))
      (λ l. absurd (let w = wrote.is in omega (arith, w, odd, l))) (record {
        rest = refl;
        own = inl refl;
        odd = λ e. absurd (let n = (parts.each s v at).even e in cc);
        cursor = λ b e. subst (IsCursorKept now v.own) (same_some d b e) kept_now;
        reach = λ b x e m. inl (chain_back (calm_step s parts at calm) x
            (inside x (subst (λ z. MayReach now z x) (sym (same_some d b e)) m)));
        sees = λ k g own r see. (refl, sees_all k g.node (rival_chain h views s v k g parts at own r));
        to_see = λ k own e. sees_all k k.node (parts.places.linked s v k at own).0;
        unseen = λ low a b e m. absurd (let w = wrote.is in omega (arith, w, odd, low));
      })
