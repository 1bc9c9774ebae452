-- The held ranges after a step: only the stepping seat's may change, and by its own node alone.
use Rattle.std.proofs.Common.{◌≡◌, ◌≢◌, eqb-true, ℕ, zero, suc, ◌-◌, ◌*◌, ◌+◌, Bool, true, false, List, [], ◌∷◌, map}
use Rattle.std.proofs.Common.{set, Some, None, inl, inr, ⊎_elim, refl, sym, ap, ◌∙◌}
use Rattle.std.specs.Prelude.{slice_get, slice_index, Option, ◌==◌, if◌then◌else◌}
use Rattle.std.proofs.lemmas.Bool.{eqb-false}
use Rattle.std.proofs.lemmas.List.{map-set}
use Rattle.lock_core.specs.declared.range.Mode.{Mode}
use Rattle.lock_core.specs.declared.range.Mode.TheVariants.{Reader, Writer}
use Rattle.lock_core.specs.declared.range.Held.{Held}
use Rattle.lock_core.specs.declared.views.View.{View}
use Rattle.lock_core.specs.declared.views.Own.{Own}
use Rattle.lock_core.specs.declared.views.Own.TheVariants.{Linked}
use Rattle.lock_core.specs.declared.views.Todo.{Todo}
use Rattle.lock_core.specs.declared.views.Todo.TheVariants.{Forward, FromHead, Done}
use Rattle.lock_core.specs.declared.steps.Step.{Step}
use Rattle.lock_core.specs.declared.steps.Step.TheVariants.{Walk, ReadHi, Link, Unlink, Mark, QuickLink, QuickUnlink}
use Rattle.lock_core.specs.Words.{cell_place, cell_of}
use Rattle.lock_core.specs.Nodes.{Listed, listed, listed_of}
use Rattle.lock_core.specs.Views.{todo_of, own_at, dropped, unlinked, quick_linked, quick_unlinked}
use Rattle.lock_core.specs.StepTable.{Plan, IsLine, link, unlink, mark, quick_link, quick_unlink}
use Rattle.lock_core.specs.Machine.{Machine, carried_out, held_at, held_by_seat}
use Rattle.lock_laws.specs.HeldSteps.{OwnHeld, HoldsOn, Gains, GivesBack, Where, Arrives, FindsEmpty, StandsAlone, IsHolding, MayGiveBack}
use Rattle.lock_core.proofs.ByView.{set_there, new_view, same_view}
use Rattle.lock_laws.proofs.Coming.{CameHome, coming, done}

-- what a seat holds stands at its number
pub held_there : (l : List View) (s : ℕ) (v : View) → slice_get l s ≡ Some v → slice_get (map (λ (u : View). held_at u.own) l) s ≡ Some (held_at v.own)
held_there [] s v e = absurd (cc)
held_there (x ∷ xs) zero v e = let same : x ≡ v = cc in ap (λ (u : View). Some (held_at u.own)) same
held_there (x ∷ xs) (suc s) v e = held_there xs s v e

-- the held ranges after a plan was carried out
pub held_after : (m : Machine) (s : ℕ) (p : Plan)
    → held_by_seat (carried_out m s p) ≡ set (held_by_seat m) s (held_at (p.view (slice_index m.words p.place)).own)
held_after m s p = map-set (λ (v : View). held_at v.own) m.views s (p.view (slice_index m.words p.place))

-- the seat gains exactly where its validation comes to its end, and otherwise no grant changes
abbrev pub Arrived : Machine → Machine → ℕ → Type 0
Arrived m next s = Where (Arrives m next s) (Gains m next s) (HoldsOn m next)

-- the same of a plan as it is carried out
abbrev pub Arriving : Machine → ℕ → Plan → Type 0
Arriving m s p = Arrived m (carried_out m s p) s

-- what a step of each kind does to the held ranges, without that what it gains is free
abbrev pub Does : Step → Machine → Machine → ℕ → Type 0
Does Walk m next s = Arrived m next s
Does ReadHi m next s = Arrived m next s
Does Unlink m next s = Arrived m next s
Does QuickLink m next s = Where (FindsEmpty m) (Gains m next s) (HoldsOn m next)
Does Mark m next s = MayGiveBack (IsHolding m s) m next s
Does QuickUnlink m next s = MayGiveBack (StandsAlone m s) m next s
Does _ m next s = HoldsOn m next

-- a linked node whose validation isn't done holds nothing
pub undone : (k : Listed) → k.todo ≢ Done → held_at (listed k) ≡ None
undone k d = by_todo k.todo d
  where
    by_todo : (t : Todo) → t ≢ Done → held_at (Linked k.node k.range k.mode t) ≡ None
    by_todo Done d = absurd (d refl)
    by_todo _ d = refl

-- a validation that comes to its end wasn't done before
pub came_undone : (own : Own) (w : ℕ) (c : CameHome own w (own_at own w)) → c.was.todo ≢ Done
came_undone own w c is = ⊎_elim
    (λ (t : (c.was.todo ≡ Forward) × (w ≡ 0)). absurd (let e = sym t.0 ∙ is in cc))
    (λ (t : (c.was.todo ≡ FromHead) × (w ≡ 2 * suc c.was.node)). absurd (let e = sym t.0 ∙ is in cc))
    c.way

-- where no grant changes no validation comes to its end
not_arrived : (m next : Machine) (s : ℕ) → HoldsOn m next → Arrives m next s → ⊥
not_arrived m next s q a =
    let before = held_there m.views s a.before a.at ∙ ap (λ (o : Own). Some (held_at o)) a.was ∙ ap (λ (o : Option Held). Some o) (undone a.own a.todo) in
    let after = held_there next.views s a.view a.now ∙ ap (λ (o : Own). Some (held_at o)) a.is in
    let same : ◌≡◌ {A = Option (Option Held)} (Some (Some (record { range = a.own.range; mode = a.own.mode }))) (Some None) =
    sym after ∙ ap (λ l. slice_get l s) q ∙ before in cc

module _ (m : Machine) (s : ℕ) (v : View) (at : slice_get m.views s ≡ Some v) where
  -- where the own view holds what it held, nothing changes
  pub holds_on : (p : Plan) → held_at (p.view (slice_index m.words p.place)).own ≡ held_at v.own → HoldsOn m (carried_out m s p)
  holds_on p e = held_after m s p ∙ ap (set (held_by_seat m) s) e ∙ set_there (held_by_seat m) s (held_at v.own) (held_there m.views s v at)

  -- a plan that leaves the own node holding its range, where nothing was held, gains that range
  pub gains : (p : Plan) (h : Held) → OwnHeld v.own h → held_at v.own ≡ None
      → held_at (p.view (slice_index m.words p.place)).own ≡ Some h → Gains m (carried_out m s p) s
  gains p h own nothing e = record {
    view = v;
    at = at;
    held = h;
    own = own;
    nothing = held_there m.views s v at ∙ ap (λ (o : Option Held). Some o) nothing;
    gained = held_after m s p ∙ ap (set (held_by_seat m) s) e;
  }

  -- a plan that leaves the own view holding nothing leaves its seat without a grant
  pub gives_back : (p : Plan) → held_at (p.view (slice_index m.words p.place)).own ≡ None → GivesBack m (carried_out m s p) s
  gives_back p e = held_after m s p ∙ ap (set (held_by_seat m) s) e

  -- of an exchange the view is the one that it leaves where it succeeds, or the other
  view_is : (place old : ℕ) (won lost : View) (b : Bool) → (slice_index m.words place == old) ≡ b
      → held_at (if slice_index m.words place == old then won else lost).own ≡ held_at (if b then won else lost).own
  view_is place old won lost b e = ap (λ (b : Bool). held_at (if b then won else lost).own) e

  -- the own node's holding stays, and so does every grant
  pub stays : (p : Plan) → held_at (p.view (slice_index m.words p.place)).own ≡ held_at v.own → Arriving m s p
  stays p e = let q = holds_on p e in inr (not_arrived m (carried_out m s p) s q, q)

  -- the validation of the own node comes to its end
  pub arrives : (p : Plan) (k : Listed) → v.own ≡ listed k → k.todo ≢ Done → (p.view (slice_index m.words p.place)).own ≡ listed (done k) → Arriving m s p
  arrives p k own todo e = inl (
    record {
      before = v;
      at = at;
      view = p.view (slice_index m.words p.place);
      now = new_view m.views s (p.view (slice_index m.words p.place)) v at;
      own = k;
      was = own;
      todo = todo;
      is = e;
    },
    gains p (record { range = k.range; mode = k.mode }) (inl (k, own, refl)) (ap held_at own ∙ undone k todo) (ap held_at e),
  )

  -- a Link changes no grant
  pub link_holds : (p : Plan) → IsLine m.seats s v Link p → HoldsOn m (carried_out m s p)
  link_holds p (link f c lo hi eo ec el eh ea low place) = holds_on p (split (slice_index m.words (cell_place m.seats (cell_of c.prev)) == c.cur) f.mode)
    where
      split : (b : Bool) (mode : Mode)
          → held_at (if b then record v { own = Linked f.node (record { lo = lo; hi = hi }) mode (todo_of mode); cursor = None }
          else record v { cursor = None }).own ≡ held_at v.own
      split false mode = refl
      split true Reader = sym (ap held_at eo)
      split true Writer = sym (ap held_at eo)

  -- an Unlink gains exactly where it brings the own validation to its end
  pub unlink_gains : (p : Plan) → IsLine m.seats s v Unlink p → Arriving m s p
  unlink_gains p (unlink c y n ec ey en odd empty) = split _ refl
    where
      split : (b : Bool) → (slice_index m.words (cell_place m.seats (cell_of c.prev)) == c.cur) ≡ b → Arriving m s p
      split false e = stays p (view_is (cell_place m.seats (cell_of c.prev)) c.cur (unlinked v c y (n - 1)) (dropped v) false e)
      split true e = ⊎_elim
          (λ (q : own_at v.own (n - 1) ≡ v.own). stays p
          (view_is (cell_place m.seats (cell_of c.prev)) c.cur (unlinked v c y (n - 1)) (dropped v) true e ∙ ap held_at q))
          (λ (q : CameHome v.own (n - 1) (own_at v.own (n - 1))). arrives p q.was q.is (came_undone v.own (n - 1) q)
          (ap (λ (b : Bool). (if b then unlinked v c y (n - 1) else dropped v).own) e ∙ q.now))
          (coming v.own (n - 1))

  -- a Mark gives back exactly where something is held
  pub mark_gives_back : (p : Plan) → IsLine m.seats s v Mark p → MayGiveBack (IsHolding m s) m (carried_out m s p) s
  mark_gives_back p (mark k eo) = by_held (held_at v.own) refl
    where
      by_held : (o : Option Held) → held_at v.own ≡ o → MayGiveBack (IsHolding m s) m (carried_out m s p) s
      by_held None e = inr (
        (λ t. let same : ◌≡◌ {A = Option (Option Held)} (Some (Some t.0)) (Some None) = sym t.1
            ∙ held_there m.views s v at ∙ ap (λ (o : Option Held). Some o) e in cc),
        holds_on p (sym e),
      )
      by_held (Some h) e = inl ((h, held_there m.views s v at ∙ ap (λ (o : Option Held). Some o) e), gives_back p refl)

  -- a QuickLink gains exactly where the list is empty
  pub quick_link_gains : (p : Plan) → IsLine m.seats s v QuickLink p → Where (FindsEmpty m) (Gains m (carried_out m s p) s) (HoldsOn m (carried_out m s p))
  quick_link_gains p (quick_link f lo hi eo el eh ea even) = split _ refl
    where
      split : (b : Bool) → (slice_index m.words 0 == 0) ≡ b → Where (FindsEmpty m) (Gains m (carried_out m s p) s) (HoldsOn m (carried_out m s p))
      split false e = inr (eqb-false _ _ e, holds_on p (view_is 0 0 (quick_linked v f.node lo hi f.mode) v false e))
      split true e = inl (
        eqb-true _ _ e,
        gains p (record { range = record { lo = lo; hi = hi }; mode = f.mode })
            (inr (f, lo, hi, eo, el, eh, refl)) (ap held_at eo) (view_is 0 0 (quick_linked v f.node lo hi f.mode) v true e),
      )

  -- a QuickUnlink gives back exactly where the own node stands alone
  pub quick_unlink_gives_back : (p : Plan) → IsLine m.seats s v QuickUnlink p → MayGiveBack (StandsAlone m s) m (carried_out m s p) s
  quick_unlink_gives_back p (quick_unlink k eo done empty) = split _ refl
    where
      split : (b : Bool) → (slice_index m.words 0 == 2 * suc k.node + 1) ≡ b → MayGiveBack (StandsAlone m s) m (carried_out m s p) s
      split false e = inr (
        (λ (t : StandsAlone m s).
            let own : listed k ≡ listed t.own = sym eo ∙ ap (λ (x : View). x.own) (same_view m.views s v t.view at t.at) ∙ t.is in
            let node : ◌≡◌ {A = Option Listed} (Some k) (Some t.own) = ap listed_of own in
            let same : k ≡ t.own = cc in
            eqb-false _ _ e (t.head ∙ ap (λ (x : Listed). 2 * suc x.node + 1) (sym same))),
        holds_on p (view_is 0 (2 * suc k.node + 1) (quick_unlinked v k.node) v false e),
      )
      split true e = inl (
        record { view = v; at = at; own = k; is = eo; head = eqb-true _ _ e },
        gives_back p (view_is 0 (2 * suc k.node + 1) (quick_unlinked v k.node) v true e),
      )
