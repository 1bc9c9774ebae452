-- The entries of one caller among those of a history.
use Rattle.std.proofs.Common.{◌≡◌, ℕ, zero, suc, ◌+◌, Bool, true, false, cond, eqb, List, [], ◌∷◌, sym, refl, ap, ◌∙◌, eq-eqb}
use Rattle.std.proofs.lemmas.Bool.{eqb-true}
use mathlib.Core.Option.{some, some-injective, some-ne-none}
use lib.ListN.{get_elem?}
use Rattle.space_model.specs.declared.areas.Area.{Area}
use Rattle.space_model.specs.declared.entries.Entry.{Entry}
use Rattle.space_model.proofs.Histories.{numbered_at}
use Rattle.area_guard.specs.History.{Runs, entries_of}

-- in a run from number n the entry at place i has the number n + i
pub runs_number : (history : List Entry) (n : ℕ) (A B : List Area) (i : ℕ) (e : Entry) → Runs n A history B → get_elem? history i ≡ some e → e.number ≡ n + i
runs_number history n A B i e r at = numbered_at n history i e r.0 at

own_here : (worker : ℕ) (x : Entry) (xs mine : List Entry) (b : Bool) → eqb x.worker worker ≡ b
    → ((j : ℕ) (e : Entry) → get_elem? mine j ≡ some e → (i : ℕ) × (get_elem? xs i ≡ some e) × (e.worker ≡ worker))
    → (j : ℕ) (e : Entry) → get_elem? (cond b (x ∷ mine) mine) j ≡ some e → (i : ℕ) × (get_elem? (x ∷ xs) i ≡ some e) × (e.worker ≡ worker)
own_here worker x xs mine true is rest zero e at = (0, at, ap (λ (y : Entry). y.worker) (sym (some-injective x e at)) ∙ eqb-true x.worker worker is)
own_here worker x xs mine true is rest (suc j) e at = let r = rest j e at in (suc r.0, r.1, r.2)
own_here worker x xs mine false is rest j e at = let r = rest j e at in (suc r.0, r.1, r.2)

-- an entry of a caller stands in the history
pub own_at : (worker : ℕ) (history : List Entry) (j : ℕ) (e : Entry) → get_elem? (entries_of worker history) j ≡ some e
    → (i : ℕ) × (get_elem? history i ≡ some e) × (e.worker ≡ worker)
own_at worker [] j e at = absurd (some-ne-none e (sym at))
own_at worker (x ∷ xs) j e at = own_here worker x xs (entries_of worker xs) (eqb x.worker worker) refl (own_at worker xs) j e at

-- an entry of the history stands among those of its caller
pub at_own : (worker : ℕ) (history : List Entry) (i : ℕ) (e : Entry) → get_elem? history i ≡ some e → e.worker ≡ worker
    → (j : ℕ) × (get_elem? (entries_of worker history) j ≡ some e)
at_own worker [] i e at is = absurd (some-ne-none e (sym at))
at_own worker (x ∷ xs) zero e at is = (
  0,
  ap (λ b. get_elem? (cond b (x ∷ entries_of worker xs) (entries_of worker xs)) 0)
      (eq-eqb x.worker worker (ap (λ (y : Entry). y.worker) (some-injective x e at) ∙ is)) ∙ at,
)
at_own worker (x ∷ xs) (suc i) e at is =
    let r = at_own worker xs i e at is in
    elim (eqb x.worker worker) as (λ b. (j : ℕ) × (get_elem? (cond b (x ∷ entries_of worker xs) (entries_of worker xs)) j ≡ some e))
    [ true ↦ (suc r.0, r.1) | false ↦ r ]
