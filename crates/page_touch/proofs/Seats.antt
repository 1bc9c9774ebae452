-- Seats in a list, as calls by several threads leave them.
use Rattle.std.proofs.Common.{◌≡◌, ℕ, suc, ◌<◌, List, [], ◌∷◌, length, get_or, sum_by, refl, ap, ◌∙◌, arith}
use Rattle.std.proofs.lemmas.List.{get_or_default}
use Rattle.std.proofs.lemmas.List.Sums.{sum_by-cons}
use Rattle.page_touch.specs.Touches.{TouchView, seat_quota}

-- where each number of one list is that of another one at its place, the sums are equal
pub sums_same : {A B : Type 0} (f : A → ℕ) (g : B → ℕ) (l : List A) (m : List B) → length l ≡ length m
    → ((k : ℕ) (a : A) (b : B) → k < length l → f (get_or l k a) ≡ g (get_or m k b)) → sum_by f l ≡ sum_by g m
sums_same f g [] [] long same = refl
sums_same f g [] (y ∷ ys) long same = absurd (omega arith)
sums_same f g (x ∷ xs) [] long same = absurd (omega arith)
sums_same f g (x ∷ xs) (y ∷ ys) long same =
    let one : f x ≡ g y = same 0 x y (omega arith) in
    let rest = sums_same f g xs ys (omega arith) (λ k a b lt. same (suc k) a b (omega arith)) in
    let p = sum_by-cons f x xs in let q = sum_by-cons g y ys in omega arith

-- seats that keep their quotas have the same quotas together
pub quotas_kept : (old new : List TouchView) → length new ≡ length old
    → ((k : ℕ) (d : TouchView) → k < length old → (get_or new k d).quota ≡ (get_or old k d).quota) → sum_by seat_quota new ≡ sum_by seat_quota old
quotas_kept old new long same = sums_same seat_quota seat_quota new old long (λ k a b lt. ap seat_quota (get_or_default new k a b lt) ∙ same k b (omega arith))
