-- Lists read by place: what is at a place after a removal of the first or an append. What is so of every list is in
-- `lock_core`, `word_rows` and std; these are the rest.
use Rattle.std.proofs.Common.{◌≡◌, ℕ, zero, suc, ◌+◌, ◌<◌, List, [], ◌∷◌, ◌++◌, get_or, length, sym, refl, ap, ◌∙◌, arith, ◌⊎◌, inl, inr, ⊎_elim}
use Rattle.std.specs.Prelude.{remove}
use mathlib.Core.Option.{some, some-injective, some-ne-none}
use lib.ListN.{get_elem?}

module _ {A : Type 0} where
  -- the list without its first
  pub at_removed : (l : List A) (k : ℕ) → get_elem? (remove l 0) k ≡ get_elem? l (suc k)
  at_removed [] k = refl
  at_removed (x ∷ xs) k = refl

  -- a list that isn't empty is its first and the others
  pub first_of_list : (l : List A) (a : A) → 0 < length l → a ≡ get_or l 0 a → l ≡ a ∷ remove l 0
  first_of_list [] a h e = absurd (omega arith)
  first_of_list (x ∷ xs) a h e = λ i. sym e i ∷ xs

  -- what is in one list after another is in one of the two
  pub append_at : (l m : List A) (k : ℕ) (a : A) → get_elem? (l ++ m) k ≡ some a → (get_elem? l k ≡ some a) ⊎ ((j : ℕ) × (get_elem? m j ≡ some a))
  append_at [] m k a e = inr (k, e)
  append_at (x ∷ xs) m zero a e = inl e
  append_at (x ∷ xs) m (suc k) a e = append_at xs m k a e

  -- what is behind one list is what is in the other
  pub at_behind : (l m : List A) (k : ℕ) → get_elem? (l ++ m) (length l + k) ≡ get_elem? m k
  at_behind [] m k = let z : 0 + k ≡ k = omega arith in ap (get_elem? m) z
  at_behind (x ∷ xs) m k = let z : suc (length xs) + k ≡ suc (length xs + k) = omega arith in ap (get_elem? (x ∷ (xs ++ m))) z ∙ at_behind xs m k

  -- below its length a list has something at each place
  pub at_there : (l : List A) (k : ℕ) → k < length l → (a : A) × (get_elem? l k ≡ some a)
  at_there [] k less = absurd (omega arith)
  at_there (x ∷ xs) zero less = (x, refl)
  at_there (x ∷ xs) (suc k) less = at_there xs k (omega arith)

  -- what is in a list with one item more is in the list, or is that item, behind it
  pub last_at : (l : List A) (p x : A) (k : ℕ) → get_elem? (l ++ p ∷ []) k ≡ some x → (get_elem? l k ≡ some x) ⊎ ((x ≡ p) × (k ≡ length l))
  last_at [] p x zero e = inr (sym (some-injective p x e), refl)
  last_at [] p x (suc k) e = absurd (some-ne-none x (sym e))
  last_at (y ∷ ys) p x zero e = inl e
  last_at (y ∷ ys) p x (suc k) e = ⊎_elim (λ a. inl a) (λ b. inr (b.0, ap suc b.1)) (last_at ys p x k e)
