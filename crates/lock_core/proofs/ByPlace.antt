-- Lists read by place, over any element type: what stands at a place lies below the end, and what stands at a place of
-- a list that grew, or of one element many times. `get_elem?` and `slice_get` read the same. Crates above cite these
-- from their definitions and their proofs; what `atomic_table.proofs.Lists` has stands there, and std has
-- `length-map`, `append-nil`, `length-set` and `length-append`.
use Rattle.std.proofs.Common.{◌≡◌, ℕ, zero, suc, ◌<◌, List, [], ◌∷◌, ◌++◌, get_or, length, sym, refl, ap, arith, ◌⊎◌, inl, inr, ⊎_elim}
use Rattle.std.specs.Prelude.{slice_get, replicate, Some}
use mathlib.Core.Option.{some, some-injective, some-ne-none}
use lib.ListN.{get_elem?}

module _ {A : Type 0} where
  -- what stands at a place lies below the end, and below the end something stands
  pub below : (l : List A) (i : ℕ) (a : A) → get_elem? l i ≡ some a → i < length l
  below [] i a e = absurd (some-ne-none a (sym e))
  below (x ∷ xs) zero a e = omega arith
  below (x ∷ xs) (suc i) a e = let r = below xs i a e in omega arith

  -- below the end of a list something stands
  pub there : (l : List A) (i : ℕ) → i < length l → (a : A) × (get_elem? l i ≡ some a)
  there [] i h = absurd (omega arith)
  there (x ∷ xs) zero h = (x, refl)
  there (x ∷ xs) (suc i) h = there xs i (omega arith)

  -- the element at a place, whatever the default, and below the end with any default
  pub at_or : (l : List A) (i : ℕ) (a d : A) → get_elem? l i ≡ some a → get_or l i d ≡ a
  at_or [] i a d e = absurd (some-ne-none a (sym e))
  at_or (x ∷ xs) zero a d e = some-injective x a e
  at_or (x ∷ xs) (suc i) a d e = at_or xs i a d e

  -- below the end the default doesn't matter
  pub same_or : (l : List A) (i : ℕ) (d e : A) → i < length l → get_or l i d ≡ get_or l i e
  same_or [] i d e h = absurd (omega arith)
  same_or (x ∷ xs) zero d e h = refl
  same_or (x ∷ xs) (suc i) d e h = same_or xs i d e (omega arith)

  -- what stands in a list with one element more stands in the list, or is the new one at its end
  pub snoc_at : (l : List A) (a b : A) (j : ℕ) → get_elem? (l ++ a ∷ []) j ≡ some b → (get_elem? l j ≡ some b) ⊎ ((j ≡ length l) × (a ≡ b))
  snoc_at [] a b zero e = inr (refl, some-injective a b e)
  snoc_at [] a b (suc j) e = absurd (some-ne-none b (sym e))
  snoc_at (x ∷ xs) a b zero e = inl e
  snoc_at (x ∷ xs) a b (suc j) e = ⊎_elim (λ t. inl t) (λ t. inr (ap suc t.0, t.1)) (snoc_at xs a b j e)

  -- what stands in a list of one element many times is that element, and it stands at each place
  pub at_replicate : (n : ℕ) (a b : A) (i : ℕ) → get_elem? (replicate n a) i ≡ some b → a ≡ b
  at_replicate zero a b i e = absurd (some-ne-none b (sym e))
  at_replicate (suc n) a b zero e = some-injective a b e
  at_replicate (suc n) a b (suc i) e = at_replicate n a b i e

  -- at each place of a list of one element many times that element stands
  pub replicate_there : (n : ℕ) (a : A) (i : ℕ) → i < n → get_elem? (replicate n a) i ≡ some a
  replicate_there zero a i h = absurd (omega arith)
  replicate_there (suc n) a zero h = refl
  replicate_there (suc n) a (suc i) h = replicate_there n a i (omega arith)

  -- two lists of one length are the same where one has at each place what the other has
  pub same_lists : (l m : List A) → length l ≡ length m → ((k : ℕ) (a : A) → get_elem? m k ≡ some a → get_elem? l k ≡ some a) → l ≡ m
  same_lists [] [] e all = refl
  same_lists [] (y ∷ ys) e all = absurd (omega arith)
  same_lists (x ∷ xs) [] e all = absurd (omega arith)
  same_lists (x ∷ xs) (y ∷ ys) e all = let h = some-injective x y (all 0 y refl) in
      let t = same_lists xs ys (omega arith) (λ k a at. all (suc k) a at) in λ i. h i ∷ t i

  -- the two ways to read a place
  pub to_get : (l : List A) (i : ℕ) (a : A) → get_elem? l i ≡ some a → slice_get l i ≡ Some a
  to_get [] i a e = absurd (some-ne-none a (sym e))
  to_get (x ∷ xs) zero a e = ap (λ (y : A). Some y) (some-injective x a e)
  to_get (x ∷ xs) (suc i) a e = to_get xs i a e

  -- a place that reads by `slice_get` reads the same by `get_elem?`
  pub from_get : (l : List A) (i : ℕ) (a : A) → slice_get l i ≡ Some a → get_elem? l i ≡ some a
  from_get [] i a e = absurd (cc)
  from_get (x ∷ xs) zero a e = let same : x ≡ a = cc in ap some same
  from_get (x ∷ xs) (suc i) a e = from_get xs i a e
