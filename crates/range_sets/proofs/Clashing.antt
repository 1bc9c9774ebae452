-- Pairs of wants that conflict, in order of the first place and then of the second.
use Rattle.std.proofs.Common.{◌≡◌, ◌⊎◌, ℕ, ◌+◌, ◌<◌, ◌≤◌, List, length, Some, sym, subst, ◌∙◌, inl, inr, ⊎_elim, arith, get_or}
use Rattle.std.specs.Prelude.{slice_get}
use Rattle.std.proofs.lemmas.Option.{slice_get_within, get_or_from_slice_get, slice_get-get_or}
use mathlib.Core.Logic.{dite}
use native.Mathlib.Decide.{ℕ_discrete}
use Rattle.lock_core.specs.Grants.{Conflicts}
use Rattle.range_sets.specs.declared.wants.Want.{Want}
use Rattle.range_sets.specs.Wants.{AreClashing, NoClash, want_held}

-- where no pair has an earlier first place than i, each is behind i or begins at i, behind which its second place is
pub first_pairs : (wants : List Want) (i : ℕ) → ((k m : ℕ) → k < m → AreClashing wants k m → i ≤ k) → (k m : ℕ) → k < m
    → AreClashing wants k m → (i < k) ⊎ ((i ≡ k) × (i + 1 ≤ m))
first_pairs wants i from k m lt clash =
    let low = from k m lt clash in
    dite (ℕ_discrete i k) (λ e. inr (e, omega arith)) (λ differ. inl (omega arith))

-- where the pair at i and j doesn't conflict, each that does is behind i, or begins at i and is behind j
pub next_pair : (wants : List Want) (i j : ℕ) (a b : Want) → slice_get wants i ≡ Some a → slice_get wants j ≡ Some b → ¬ (Conflicts (want_held a) (want_held b))
    → ((k m : ℕ) → k < m → AreClashing wants k m → (i < k) ⊎ ((i ≡ k) × (j ≤ m))) → (k m : ℕ) → k < m → AreClashing wants k m
    → (i < k) ⊎ ((i ≡ k) × (j + 1 ≤ m))
next_pair wants i j a b ei ej apart from k m lt clash = ⊎_elim inl (λ p. let e = p.0 in let low = p.1 in
    dite (ℕ_discrete j m)
    (λ same. let c = clash in
    let ea : c.0 ≡ a = sym (get_or_from_slice_get wants k c.0 a c.2) ∙ get_or_from_slice_get wants k a a (subst (λ n. slice_get wants n ≡ Some a) e ei) in
    let eb : c.1 ≡ b = sym (get_or_from_slice_get wants m c.1 a c.3) ∙ get_or_from_slice_get wants m b a (subst (λ n. slice_get wants n ≡ Some b) same ej) in
    absurd (apart (subst (λ y. Conflicts (want_held a) (want_held y)) eb (subst (λ x. Conflicts (want_held x) (want_held c.1)) ea c.4))))
    (λ differ. inr (e, omega arith))) (from k m lt clash)

-- where all second places behind i were asked, no pair that conflicts begins at i or before
pub next_first : (wants : List Want) (i j : ℕ) → length wants ≤ j → ((k m : ℕ) → k < m → AreClashing wants k m → (i < k) ⊎ ((i ≡ k) × (j ≤ m))) → (k m : ℕ) → k
    < m → AreClashing wants k m → i + 1 ≤ k
next_first wants i j end from k m lt clash = ⊎_elim (λ low. omega arith) (λ p. let low = p.1 in
    let within = slice_get_within wants m clash.1 clash.3 in absurd (omega arith)) (from k m lt clash)

-- where no pair that conflicts begins at any place, no two wants conflict
pub no_pair : (wants : List Want) (n : ℕ) → length wants ≤ n → ((k m : ℕ) → k < m → AreClashing wants k m → n ≤ k) → NoClash wants
no_pair wants n end from i j d lt within conflict = let low = from i j lt
    (get_or wants i d, get_or wants j d, slice_get-get_or wants i d (omega arith), slice_get-get_or wants j d within, conflict) in omega arith

-- wants of which two conflict aren't apart
pub breaks : (wants : List Want) (i j : ℕ) → i < j → NoClash wants → AreClashing wants i j → ⊥
breaks wants i j lt apart clash = let c = clash in let ea = get_or_from_slice_get wants i c.0 c.0 c.2 in let eb = get_or_from_slice_get wants j c.1 c.0 c.3 in
    apart i j c.0 lt (slice_get_within wants j c.1 c.3) (subst (λ y. Conflicts (want_held (get_or wants i c.0)) (want_held y)) (sym eb) (subst
    (λ x. Conflicts (want_held x) (want_held c.1)) (sym ea) c.4))
