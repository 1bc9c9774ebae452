-- Steps that leave the own node and the cursor of the stepping seat as they are, and every word of every node but its
-- home word.
use Rattle.std.proofs.Common.{◌≡◌, ◌≢◌, ◌⊎◌, ℕ, suc, ◌%◌, ◌≤◌, List, Some, None, inr, refl, sym, ◌∙◌, subst}
use Rattle.std.specs.Prelude.{Option}
use Rattle.lock_core.specs.Counted.{times}
use Rattle.lock_core.specs.declared.views.View.{View}
use Rattle.lock_core.specs.declared.views.Cursor.{Cursor}
use Rattle.lock_core.specs.declared.views.Own.{Own}
use Rattle.lock_core.specs.Words.{Heap, to}
use Rattle.lock_core.specs.Nodes.{Filled, Listed}
use Rattle.lock_laws.specs.Invariant.{IsViewOf, InChain, MayReach, IsKnown, IsWritten, HasToSee, IsOut, IsIdle}
use Rattle.lock_laws.proofs.Frames.Parts.{Parts, IsCursorKept, IsViewKept}
use Rattle.lock_laws.proofs.Frames.Frame.{StepAside, still_cursor, back_cursor, sees_still}
use Rattle.lock_laws.proofs.Frames.Steady.{Mine}

-- the words of every node but its home word stay, and the head names what it named
pub record Calm (h now : Heap) : Type 0 where
  -- the head names what it named
  pub head : to now 0 ≡ to h 0
  -- each node's next word stays
  pub next : (x : ℕ) → now.next (suc x) ≡ h.next (suc x)
  -- each lower end stays
  pub lo : (x : ℕ) → now.lo x ≡ h.lo x
  -- each hi word stays
  pub hi : (x : ℕ) → now.hi x ≡ h.hi x

-- what stays for every node stays for those that aren't idle in a view
pub calm_step : {h now : Heap} {views : List View} {v : View} (s : ℕ) → Parts h views → IsViewOf views s v → Calm h now → StepAside h now views s v
calm_step s parts at c = record { parts = parts; at = at; aside = record { head = c.head; next = λ x d. c.next x; lo = λ x d. c.lo x; hi = λ x d. c.hi x } }

-- what was known of a node that is being filled is still so
pub known_on : {h now : Heap} {f : Filled} → Calm h now → IsKnown h f → IsKnown now f
known_on {f = f} c k = record {
  lo = λ a e. c.lo f.node ∙ k.lo a e;
  hi = λ a e. c.hi f.node ∙ k.hi a e;
  aimed = λ a e. c.next f.node ∙ k.aimed a e;
  in_order = k.in_order;
}

-- the words of a linked node still have its range and mode
pub written_on : {h now : Heap} {k : Listed} → Calm h now → IsWritten h k → IsWritten now k
written_on {k = k} c w = record { lo = c.lo k.node ∙ w.lo; hi = c.hi k.node ∙ w.hi }

module _ {h now : Heap} {views : List View} {s : ℕ} {v : View} (u : View) (step : StepAside h now views s v) (calm : Calm h now)
    (own : u.own ≡ v.own) (cursor : u.cursor ≡ v.cursor) where
  -- what is kept of a view alone is so of the new one, where its epoch is that of the words
  kept_quiet : u.epoch ≡ now.epoch s → (u.epoch % 2 ≡ 0 → u.cursor ≡ None) → IsViewKept now s u
  kept_quiet epoch even = let k = step.parts.each s v step.at in record {
    epoch = epoch;
    even = even;
    filled = λ f e. known_on calm (k.filled f (sym own ∙ e));
    linked = λ g e. written_on calm (k.linked g (sym own ∙ e));
    cursor = λ c e. subst (λ (o : Own). IsCursorKept now o c) (sym own) (still_cursor step s v c step.at (sym cursor ∙ e));
    to_see = λ g e todo. let e' = sym own ∙ e in
        subst (λ (o : Option Cursor). HasToSee now g o g.node) (sym cursor) (sees_still step s v g g.node step.at e' (k.to_see g e' todo));
  }

  -- all that a step has to say of the stepping seat's view, from its idle nodes, its homes and the epochs alone
  pub mine_quiet : u.epoch ≡ now.epoch s → (u.epoch % 2 ≡ 0 → u.cursor ≡ None)
      → ((x : ℕ) → IsIdle u x → (InChain h x → ⊥) × ((j : ℕ) (w : View) (c : Cursor) → IsViewOf views j w → w.cursor ≡ Some c → MayReach h c x → ⊥))
      → ((j x : ℕ) (w : View) (c : Cursor) → (j ≡ s → now.epoch s ≡ h.epoch s) → 1 ≤ times x u.homes → IsOut now u j
      → IsViewOf views j w → w.cursor ≡ Some c → MayReach h c x → ⊥)
      → (now.next 0 % 2 ≡ 1 → h.next 0 % 2 ≡ 1)
      → ((j : ℕ) (w : View) → IsViewOf views j w → j ≢ s → now.epoch j ≡ h.epoch j)
      → (now.epoch s ≡ h.epoch s) ⊎ (u.cursor ≡ None)
      → Mine h now views s v u
  mine_quiet epoch_is even idle out low epochs epoch = record {
    kept = kept_quiet epoch_is even;
    reach = λ d x e m. let e' = sym cursor ∙ e in inr (d, e', back_cursor step s v d x step.at e' m);
    idle = idle;
    out = out;
    looks = λ k e. let e' = sym own ∙ e in record {
      old = k;
      own = e';
      node = refl;
      range = refl;
      mode = refl;
      sees = λ g r q. (refl, subst (λ (o : Option Cursor). HasToSee now k o g.node) (sym cursor) (sees_still step s v k g.node step.at e' q));
    };
    held = λ k e done. own ∙ e;
    unseen = λ odd a d e m. let e' = sym cursor ∙ e in a.unseen s v d step.at e' (back_cursor step s v d a.node step.at e' m);
    low = low;
    epochs = epochs;
    epoch = epoch;
  }
