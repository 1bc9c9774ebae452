-- Numbers in a set, one more at a time.
use Rattle.std.proofs.Common.{◌≡◌, ◌⊎◌, ℕ, zero, suc, Bool, true, false, cond, eqb, [], ◌∷◌, refl, sym, ap, subst, ◌∙◌, inl, inr, arith}
use Rattle.std.specs.Prelude.{◌↔◌, Contains, nat_lt}
use Rattle.std.specs.BTreeMap.{is_at}
use Rattle.std.specs.BTreeSet.{BTreeSet, contains, Updates}
use Rattle.std.specs.Ordering.{nat_cmp, is_eq}
use Rattle.std.specs.declared.cmp.Ordering.TheVariants.{Less, Equal, Greater}
use Rattle.std.proofs.lemmas.Bool.{eqb-true, eq-eqb}
use Rattle.std.proofs.lemmas.Bool.Decides.{nat_tests}
use Rattle.raw_logs.specs.Stages.{Has}

-- ---- a number more

key_test : (l e : Bool) → (l ≡ true → e ≡ false) → is_eq (cond l Less (cond e Equal Greater)) ≡ e
key_test true true h = let f = h refl in absurd cc
key_test false true h = refl
key_test l e h = refl

below_not_same : (p q : ℕ) → nat_lt p q ≡ true → eqb p q ≡ false
below_not_same p q h = grind (arith, nat_tests)

-- a key of numbers is found where it is the same
pub key_is : (p q : ℕ) → is_at (nat_cmp p) q ≡ eqb p q
key_is p q = key_test (nat_lt p q) (eqb p q) (below_not_same p q)

-- a test isn't true and false at once
pub not_both : (b : Bool) → b ≡ true → b ≡ false → ⊥
not_both b e f = absurd cc

has_by : (old new : BTreeSet ℕ) (pid q : ℕ) (b : Bool) → eqb pid q ≡ b → contains nat_cmp new q ≡ cond b true (contains nat_cmp old q)
    → Has new q ↔ (Has old q ⊎ (q ≡ pid))
has_by old new pid q true d e = ((λ h. inr (sym (eqb-true pid q d))), (λ h. e))
has_by old new pid q false d e = ((λ h. inl (sym e ∙ h)), back)
  where
    back : Has old q ⊎ (q ≡ pid) → Has new q
    back (inl h) = e ∙ h
    back (inr same) = absurd (not_both (eqb pid q) (eq-eqb pid q (sym same)) d)

-- a set into which a number was put has it and those before
pub has_more : (old new : BTreeSet ℕ) (pid : ℕ) → Updates nat_cmp old new pid true → (q : ℕ) → Has new q ↔ (Has old q ⊎ (q ≡ pid))
has_more old new pid u q =
    has_by old new pid q (eqb pid q) refl (u.0 q ∙ ap (λ (x : Bool). cond x true (contains nat_cmp old q)) (key_is pid q))

-- the only item of a list
pub only_item : {A : Type 0} (x y : A) → Contains (x ∷ []) y → x ≡ y
only_item x y (zero, k, e) = e
only_item x y (suc n, k, e) = absurd (omega (arith, k))

-- ---- a number more, by what it is

-- where nothing more is so, the set is as it was
pub more_none : (old more : ℕ → Type 0) → ((pid : ℕ) → ¬ more pid) → (q : ℕ) → old q ↔ (old q ⊎ more q)
more_none old more none q = ((λ h. inl h), back)
  where
    back : old q ⊎ more q → old q
    back (inl h) = h
    back (inr h) = absurd (none q h)

-- where one number more is so, it is put in
pub more_one : (old new more : ℕ → Type 0) (p : ℕ) → more p → ((q : ℕ) → more q → q ≡ p) → ((q : ℕ) → new q ↔ (old q ⊎ (q ≡ p))) → (q : ℕ)
    → new q ↔ (old q ⊎ more q)
more_one old new more p is one put q = ((λ h. forth ((put q).0 h)), back)
  where
    forth : old q ⊎ (q ≡ p) → old q ⊎ more q
    forth (inl h) = inl h
    forth (inr e) = inr (subst more (sym e) is)

    back : old q ⊎ more q → new q
    back (inl h) = (put q).1 (inl h)
    back (inr h) = (put q).1 (inr (one q h))
