-- The views after one of them changed. What holds of the changed view, and of each other one as it was, holds of each
-- view after the step; the same for two views.
use Rattle.std.proofs.Common.{◌≡◌, ◌≢◌, ◌⊎◌, ℕ, zero, suc, List, [], ◌∷◌, set, Some, inl, inr, ⊎_elim, refl, sym, ap, subst, arith}
use Rattle.std.specs.Prelude.{slice_get}

-- a view after the change is the new one at the place that changed, or another one as it was
pub set_view : {A : Type 0} (l : List A) (i j : ℕ) (a b : A) → slice_get (set l i a) j ≡ Some b → ((j ≡ i) × (a ≡ b)) ⊎ ((j ≢ i) × (slice_get l j ≡ Some b))
set_view [] i j a b e = absurd (cc)
set_view (x ∷ xs) zero zero a b e = inl (refl, cc)
set_view (x ∷ xs) zero (suc j) a b e = inr ((λ h. omega arith), e)
set_view (x ∷ xs) (suc i) zero a b e = inr ((λ h. omega arith), e)
set_view (x ∷ xs) (suc i) (suc j) a b e = ⊎_elim (λ t. inl (ap suc t.0, t.1)) (λ t. let n = t.0 in inr ((λ h. n (omega arith)), t.1)) (set_view xs i j a b e)

-- to put what stands there already changes nothing
pub set_there : {A : Type 0} (l : List A) (i : ℕ) (a : A) → slice_get l i ≡ Some a → set l i a ≡ l
set_there [] i a e = refl
set_there (x ∷ xs) zero a e = let same : x ≡ a = cc in ap (λ b. b ∷ xs) (sym same)
set_there (x ∷ xs) (suc i) a e = ap (λ l. x ∷ l) (set_there xs i a e)

-- a view that was there is there, or is the one that changed
pub kept_view : {A : Type 0} (l : List A) (i j : ℕ) (a b : A) → j ≢ i → slice_get l j ≡ Some b → slice_get (set l i a) j ≡ Some b
kept_view [] i j a b d e = e
kept_view (x ∷ xs) zero zero a b d e = absurd (d refl)
kept_view (x ∷ xs) zero (suc j) a b d e = e
kept_view (x ∷ xs) (suc i) zero a b d e = e
kept_view (x ∷ xs) (suc i) (suc j) a b d e = kept_view xs i j a b (λ h. d (ap suc h)) e

-- at the place that changed the new view stands
pub new_view : {A : Type 0} (l : List A) (i : ℕ) (a b : A) → slice_get l i ≡ Some b → slice_get (set l i a) i ≡ Some a
new_view [] i a b e = absurd (cc)
new_view (x ∷ xs) zero a b e = refl
new_view (x ∷ xs) (suc i) a b e = new_view xs i a b e

-- one place has one view
pub same_view : {A : Type 0} (l : List A) (i : ℕ) (a b : A) → slice_get l i ≡ Some a → slice_get l i ≡ Some b → a ≡ b
same_view l i a b e e' = cc

-- the view of seat i is the one that is known of it
pub is_view : {A : Type 0} (l : List A) (i j : ℕ) (a b : A) → slice_get l i ≡ Some a → slice_get l j ≡ Some b → j ≡ i → a ≡ b
is_view l i j a b e e' q = same_view l i a b e (subst (λ k. slice_get l k ≡ Some b) q e')

module _ {A : Type 0} (l : List A) (i : ℕ) (a : A) where
  -- what holds of each view after the step
  pub each : (P : ℕ → A → Type 0) → P i a → ((j : ℕ) (b : A) → j ≢ i → slice_get l j ≡ Some b → P j b) → (j : ℕ) (b : A)
      → slice_get (set l i a) j ≡ Some b → P j b
  each P mine rest j b e =
      ⊎_elim
      (λ (t : (j ≡ i) × (a ≡ b)). subst (λ (z : ℕ × A). P z.0 z.1) (λ z. (sym t.0 z, t.1 z)) mine)
      (λ (t : (j ≢ i) × (slice_get l j ≡ Some b)). rest j b t.0 t.1)
      (set_view l i j a b e)

  -- and of each two
  pub each_two : (P : ℕ → A → ℕ → A → Type 0) → P i a i a → ((j : ℕ) (b : A) → j ≢ i → slice_get l j ≡ Some b → P i a j b × P j b i a) →
      ((j : ℕ) (b : A) (k : ℕ) (c : A) → j ≢ i → slice_get l j ≡ Some b → k ≢ i → slice_get l k ≡ Some c → P j b k c) →
      (j k : ℕ) (b c : A) → slice_get (set l i a) j ≡ Some b → slice_get (set l i a) k ≡ Some c → P j b k c
  each_two P both mine rest j k b c e e' =
      each (λ j b. (k : ℕ) (c : A) → slice_get (set l i a) k ≡ Some c → P j b k c)
      (each (λ k c. P i a k c) both (λ k c d q. (mine k c d q).0))
      (λ j b d q. each (λ k c. P j b k c) (mine j b d q).1 (λ k c d' q'. rest j b k c d q d' q'))
      j b e k c e'
