-- What a hand's view is asked when a trial runs, where the answer names the own node.
use Rattle.std.proofs.Common.{◌≡◌, ◌≢◌, inr, ℕ, Bool, true, false, Some, None, refl, sym, ◌∙◌, subst}
use Rattle.std.specs.Prelude.{Option, is_some, IfSome}
use Rattle.std.specs.Bool.{OnTrue}
use Rattle.lock_core.specs.declared.views.View.{View}
use Rattle.lock_core.specs.declared.views.Own.{Own}
use Rattle.lock_core.specs.declared.views.Todo.{Todo}
use Rattle.lock_core.specs.declared.views.Todo.TheVariants.{Forward, Done}
use Rattle.lock_core.specs.declared.views.Cursor.{Cursor}
use Rattle.lock_core.specs.declared.views.Own.TheVariants.{Linked}
use Rattle.lock_core.specs.Nodes.{Filled, Listed, filling, listed}
use Rattle.lock_core.specs.Views.{todo_of}
use Rattle.marked_list.specs.Order.{HasEnds, MayFill, OwnMayWalk, IsInside, IsAhead, StandsInConflict, MayValidate}
use Rattle.test_list.specs.declared.kept.Kept.{Kept}
use Rattle.test_list.specs.declared.kept.Kept.TheVariants.{Held, Met, Stuck}
use Rattle.test_list.specs.Calls.{IsDue, IsHeld, IsAtKnownNode, IsKept}

known : (o : Option ℕ) → OnTrue (is_some o) ((n : ℕ) × (o ≡ Some n))
known None = tt
known (Some n) = (n, refl)

known_by : (o : Option ℕ) → is_some o ≡ true → (n : ℕ) × (o ≡ Some n)
known_by o e = subst (λ (b : Bool). OnTrue b ((n : ℕ) × (o ≡ Some n))) e (known o)

-- where both ends of a node that is being filled were found to be known, the node has its ends
pub ends_if : (own : Own) (f : Filled) (b : Bool) → own ≡ filling f → OnTrue b ((is_some f.lo ≡ true) × (is_some f.hi ≡ true)) → OnTrue b (HasEnds own)
ends_if own f false is h = tt
ends_if own f true is h =
    let lo = known_by f.lo h.0 in let hi = known_by f.hi h.1 in record { node = f; is = is; lo = lo.0; hi = hi.0; low = lo.1; high = hi.1 }

-- where a node that is being filled was found to be aimed at nothing, it may be filled
pub fresh_if : (v : View) (f : Filled) (o : Option ℕ) → v.own ≡ filling f → v.cursor ≡ None
    → IfSome o (λ n. (n ≡ f.node) × (f.aimed ≡ None)) → IfSome o (λ n. MayFill v n)
fresh_if v f None is none h = tt
fresh_if v f (Some n) is none h = record { own = f; is = is; node = sym h.0; aimed = h.1; cursor = none }

-- where the first validation of a linked node was found to be still to do, it is due
pub due_if : (own : Own) (k : Listed) (o : Option Todo) → own ≡ listed k
    → IfSome o (λ t. (t ≡ k.todo) × (k.todo ≡ todo_of k.mode)) → IfSome o (λ t. IsDue own t)
due_if own k None is h = tt
due_if own k (Some t) is h = record { node = k; is = is; first = h.1; due = h.0 }

-- where a linked node was found to have nothing left to do, its range is held
pub held_if : (own : Own) (k : Listed) (b : Bool) → own ≡ listed k → OnTrue b (k.todo ≡ Done) → OnTrue b (IsHeld own)
held_if own k false is h = tt
held_if own k true is h = record { node = k; is = is; done = h }

-- an answer that isn't that the range is held says nothing of the view
pub kept_if : (k : Kept) (v : View) → k ≢ Held → IsKept k v
kept_if Held v d = absurd (d refl)
kept_if Met v d = tt
kept_if Stuck v d = tt

module _ (seats : ℕ) (v : View) (t : Todo) (d : IsDue v.own t) (inside : IsInside v) where
  -- a reader looks at the same node again
  validates_again : (c : Cursor) → v.cursor ≡ Some c → t ≡ Forward → IsAtKnownNode seats c → MayValidate seats v
  validates_again c is forward at =
      let todo : d.node.todo ≡ Forward = sym d.due ∙ forward in
      let ahead : IsAhead v.own at.node = subst (λ (o : Own). IsAhead o at.node) (sym d.is)
      (subst (λ (x : Todo). IsAhead (Linked d.node.node d.node.range d.node.mode x) at.node) (sym todo) tt) in
      let stands : StandsInConflict seats v = record {
        word = at.word;
        knows = record {
          stands = record { inside = inside; own = subst OwnMayWalk (sym d.is) d.first; cursor = c; is = is; node = at.node; at = at.at; ahead = ahead };
          next = at.next;
        };
        few = at.few;
      } in record { inside = inside; own = record { node = d.node; is = d.is; todo = d.first }; begins = inr (todo, stands) }

  -- where that is asked when a trial runs
  pub validates_if : (c : Cursor) (b : Bool) → v.cursor ≡ Some c → t ≡ Forward → OnTrue b (IsAtKnownNode seats c) → OnTrue b (MayValidate seats v)
  validates_if c false is forward at = tt
  validates_if c true is forward at = validates_again c is forward at
