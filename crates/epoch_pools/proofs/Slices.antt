-- The words of list i are a slice of the table's words. A change of a word in one slice is one in that slice alone, and
-- the slices of two lists lie apart.
use Rattle.std.proofs.Common.{◌≡◌, ◌≢◌, ◌⊎◌, ℕ, suc, ◌+◌, ◌-◌, ◌*◌, ◌<◌, ◌≤◌, List, take, drop, set, get_or, ap, ◌∙◌, arith, inl, inr, ⊎_elim}
use Rattle.std.proofs.Common.{mul-le-mul_right, suc-mul}
use lib.Seq.{take-set-lt, take-set-le}
use Rattle.std.proofs.lemmas.List.{drop-set-lt, drop-set-add, get_or-take, get_or-drop}
use mathlib.Core.Logic.{dite}
use native.Mathlib.Decide.{dec_le}

-- another slice stays
pub other_slice : (n a b x : ℕ) (l : List ℕ) (v : ℕ) → (a + n ≤ b) ⊎ (b + n ≤ a) → x < n → take n (drop b (set l (a + x) v)) ≡ take n (drop b l)
other_slice n a b x l v apart low = ⊎_elim (λ before. ap (take n) (drop-set-lt b l (a + x) v (omega arith)))
    (λ behind. let at : a + x ≡ b + ((a - b) + x) = omega arith in
    ap (λ k. take n (drop b (set l k v))) at ∙ (ap (take n) (drop-set-add b l ((a - b) + x) v) ∙ take-set-le n (drop b l) ((a - b) + x) v (omega arith))) apart

-- the slice in which the word lies
pub this_slice : (n a x : ℕ) (l : List ℕ) (v : ℕ) → x < n → take n (drop a (set l (a + x) v)) ≡ set (take n (drop a l)) x v
this_slice n a x l v low = ap (take n) (drop-set-add a l x v) ∙ take-set-lt n (drop a l) x v low

-- a word of a slice
pub slice_word : (n a x : ℕ) (l : List ℕ) → x < n → get_or (take n (drop a l)) x 0 ≡ get_or l (a + x) 0
slice_word n a x l low = get_or-take n (drop a l) x 0 low ∙ get_or-drop a l x 0

-- what is behind a slice stays
pub behind_slices : (n a b x : ℕ) (l : List ℕ) (v : ℕ) → a + n ≤ b → x < n → drop b (set l (a + x) v) ≡ drop b l
behind_slices n a b x l v le low = drop-set-lt b l (a + x) v (omega arith)

-- a later slice begins where an earlier one has ended
pub further : (x y n : ℕ) → x < y → x * n + n ≤ y * n
further x y n h = let a : suc x * n ≤ y * n = mul-le-mul_right n h in omega (arith, suc-mul x n)

-- the slices of two lists lie apart
pub slices_apart : (i j n : ℕ) → i ≢ j → (i * n + n ≤ j * n) ⊎ (j * n + n ≤ i * n)
slices_apart i j n differ = dite (dec_le (suc i) j) (λ less. inl (further i j n less))
    (λ no. dite (dec_le (suc j) i) (λ less. inr (further j i n less))
    (λ neither. absurd (differ (omega arith))))
