-- Seats of the lock put together with those of the event count, one after another.
use Rattle.std.specs.Prelude.{replicate}
use Rattle.std.proofs.Common.{◌≡◌, ℕ, zero, suc, List, [], ◌∷◌, ◌++◌, length, arith, sym, ap, refl, ◌∙◌, subst}
use Rattle.std.proofs.lemmas.List.{append-nil}
use mathlib.Core.Option.{some, some-injective, some-ne-none}
use lib.ListN.{get_elem?}
use Rattle.event_count.specs.Calls.{SeatView}
use Rattle.queue_guard.specs.declared.passes.QueuePass.{QueuePass}
use Rattle.range_rw.specs.Contract.{SeatState}
use Rattle.range_wait.specs.Seats.{WaitState, both, seats_of}

module _ {A : Type 0} (R : A → Type 0) (l : List A) (a : A) (rest : List A) (p : l ≡ a ∷ rest)
    (h : (k : ℕ) (x : A) → get_elem? l k ≡ some x → R x) where
  -- what holds of each element holds of the first
  pub head_is : R a
  head_is = h zero a (ap (λ (m : List A). get_elem? m zero) p)

  -- and of the others
  pub tail_are : (k : ℕ) (x : A) → get_elem? rest k ≡ some x → R x
  tail_are k x at = h (suc k) x (ap (λ (m : List A). get_elem? m (suc k)) p ∙ at)

-- what holds of an element holds of each copy of it
pub copies_are : {A : Type 0} (R : A → Type 0) (a : A) (n : ℕ) → R a → (k : ℕ) (x : A) → get_elem? (replicate n a) k ≡ some x → R x
copies_are R a zero r k x at = absurd (some-ne-none x (sym at))
copies_are R a (suc n) r zero x at = subst R (some-injective a x at) r
copies_are R a (suc n) r (suc k) x at = copies_are R a n r k x at

-- a list without elements
pub none_left : {A : Type 0} (l : List A) → length l ≡ 0 → l ≡ []
none_left [] e = refl
none_left (x ∷ xs) e = absurd (omega arith)

module _ {P : Type 0} where
  -- the first pair, and then the others
  pub pairs_on : (locks rest : List (SeatState (QueuePass P))) (events left : List SeatView) (l : SeatState (QueuePass P)) (e : SeatView)
      → locks ≡ l ∷ rest → events ≡ e ∷ left → seats_of locks events ≡ both l e ∷ seats_of rest left
  pairs_on locks rest events left l e p q = λ i. seats_of (p i) (q i)

  -- none is left
  pub pairs_end : (made all : List (WaitState P)) (locks : List (SeatState (QueuePass P))) (events : List SeatView) → locks ≡ []
      → made ++ seats_of locks events ≡ all → made ≡ all
  pairs_end made all locks events p is = sym (append-nil made) ∙ ((λ i. made ++ seats_of (sym p i) events) ∙ is)
