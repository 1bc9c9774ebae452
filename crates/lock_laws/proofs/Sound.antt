-- What a seat may rely on of its own view, and what its loads find, whatever other seats do.
use Rattle.std.proofs.Common.{◌≡◌, ◌≢◌, ◌⊎◌, ℕ, suc, ◌+◌, ◌*◌, ◌/◌, refl, sym, ap, ◌∙◌, subst, arith, inl, inr, ⊎_elim}
use Rattle.std.specs.Prelude.{slice_get, Option, Some, None}
use native.Mathlib.Decide.{ℕ_discrete}
use mathlib.Core.Logic.{dite}
use Rattle.lock_core.specs.Range.{IsRange}
use Rattle.lock_core.specs.declared.views.View.{View}
use Rattle.lock_core.specs.declared.views.Cursor.{Cursor}
use Rattle.lock_core.specs.declared.views.Todo.TheVariants.{FromHead}
use Rattle.lock_laws.specs.Paths.{Reach, here}
use Rattle.lock_core.specs.Words.{to, plain_node_of, IsMarked, IsUnmarked}
use Rattle.lock_core.specs.Nodes.{Listed, listed, own_times}
use Rattle.lock_core.specs.Machine.{Machine, heap}
use Rattle.lock_core.specs.Sizes.{IsViewSound}
use Rattle.lock_laws.specs.Invariant.{MayReach, HasToSee, SeesFrom, InChain, IsLinked}
use Rattle.lock_laws.specs.Laws.{IsLock}
use Rattle.lock_laws.proofs.Paths.{nothing_at_end}
use Rattle.lock_core.proofs.Counts.{own_linked}
use Rattle.lock_laws.proofs.Seats.{seat_is}
use Rattle.lock_core.proofs.ByView.{is_view}
use Rattle.lock_core.proofs.SizedSteps.{plain_is}

module _ (m : Machine) (l : IsLock m) (i : ℕ) (v : View) (at : slice_get m.views i ≡ Some v) where
  -- a writer that validates isn't at the end before it comes to its own node
  not_at_end : (k : Listed) (c : Cursor) → v.own ≡ listed k → k.todo ≡ FromHead → v.cursor ≡ Some c → c.cur / 2 ≢ 0
  not_at_end k c own todo is z = by_next c.next refl (subst (λ (o : Option Cursor). HasToSee (heap m) k o k.node) is (l.invariant.to_see i v k at own todo))
    where
      by_next : (o : Option ℕ) → c.next ≡ o → SeesFrom (heap m) c.cur o k.node → ⊥
      by_next None e r = nothing_at_end (to (heap m)) k.node (subst (Reach (to (heap m)) k.node) z r)
      by_next (Some n) e r = (l.invariant.fields.cursor i v c at is).next_node n e z

  -- the view of a seat of a lock is sound
  pub view_sound : IsViewSound m.seats i v
  view_sound = record {
    sized = l.sized.each i v at;
    outside = λ even. l.invariant.fields.even i v at even;
    at_head = λ c is odd. l.invariant.fast_path.cursor i v c at is odd;
    not_at_end = not_at_end;
    next_node = λ c n is next. (l.invariant.fields.cursor i v c at is).next_node n next;
    lo_node = λ c lo is low. (l.invariant.fields.cursor i v c at is).lo_node lo low;
  }

  module _ (c : Cursor) (is : v.cursor ≡ Some c) (y : ℕ) (node : plain_node_of c.cur ≡ Some y) where
    cur : c.cur ≡ 2 * suc y
    cur = plain_is c.cur y node

    reaches : MayReach (heap m) c y
    reaches = record { target = suc y; named = inr (inl (let e = cur in omega arith)); reach = here }

    -- a hi word that is read ends a range
    pub reads_range : (lo : ℕ) → c.lo ≡ Some lo → IsRange lo ((heap m).hi y / 2)
    reads_range lo low =
        let e : lo ≡ (heap m).lo y = (l.invariant.fields.cursor i v c at is).lo lo y low (let e = cur in omega arith) in
        subst (λ n. IsRange n ((heap m).hi y / 2)) (sym e) (l.invariant.fields.range i y v c at is reaches)

    -- a node that is found unmarked is another seat's, or the own linked one
    pub finds_other : IsUnmarked (heap m) y → (y / 16 ≢ i) ⊎ (k : Listed) × (v.own ≡ listed k) × (k.node ≡ y)
    finds_other even = ⊎_elim in_chain (λ t. absurd
        (⊎_elim (λ (marked : IsMarked (heap m) y). let a = even in omega arith) (λ (odd : c.cur ≡ 2 * suc y + 1). let e = cur in
        omega arith) t)) (l.invariant.fast_path.kept i y v c at is reaches)
      where
        linked : IsLinked m.views y → (y / 16 ≢ i) ⊎ (k : Listed) × (v.own ≡ listed k) × (k.node ≡ y)
        linked t = dite (ℕ_discrete t.seat i)
            (λ e. let same : t.view ≡ v = sym (is_view m.views i t.seat v t.view at t.at e) in inr (t.own, sym (ap (λ (x : View). x.own) same) ∙ t.is, t.node))
            (λ d. inl (λ mine.
            let one : own_times y t.view.own ≡ 1 = ap (λ n. own_times n t.view.own) (sym t.node) ∙ own_linked t.view t.own t.is in
            d (sym (seat_is (heap m) m.views l.invariant.places t.seat y t.view t.at (omega arith)) ∙ mine)))

        in_chain : InChain (heap m) y → (y / 16 ≢ i) ⊎ (k : Listed) × (v.own ≡ listed k) × (k.node ≡ y)
        in_chain r = ⊎_elim (λ t. absurd (let a = t.0 in let b = even in omega arith)) (λ t. linked t.1) (l.invariant.places.chain y r)
