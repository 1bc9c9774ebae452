-- Sums over views and words, and how often a number is in a list.
use Rattle.std.proofs.Common.{◌≡◌, ◌≢◌, ℕ, zero, suc, ◌+◌, ◌<◌, ◌≤◌, List, [], ◌∷◌, length, get_or, cond, sum_by, refl, sym, ap, subst, ◌∙◌, ⊎_elim, arith}
use Rattle.std.proofs.lemmas.Bool.Decides.{eqb_tells}
use Rattle.std.proofs.lemmas.List.Sums.{sum_by-cons}
use mathlib.Core.Option.{some, some-injective, some-ne-none}
use lib.ListN.{get_elem?}
use Rattle.page_touch.specs.Touched.{one_if, times, full_word}

-- equal numbers count 1
pub one_same : {x y : ℕ} → y ≡ x → one_if x y ≡ 1
one_same {x} {y} e = ⊎_elim (λ t. ap (λ b. cond b 1 0) t.0) (λ t. absurd (t.1 e)) (eqb_tells y x)

-- unequal numbers count 0
pub one_other : (x y : ℕ) → y ≢ x → one_if x y ≡ 0
one_other x y n = ⊎_elim (λ t. absurd (n t.1)) (λ t. ap (λ b. cond b 1 0) t.0) (eqb_tells y x)

-- a word that has a page counts 1
pub full_some : (w : ℕ) → w ≢ 0 → full_word w ≡ 1
full_some w n = ⊎_elim (λ t. absurd (n t.1)) (λ t. ap (λ b. cond b 0 1) t.0) (eqb_tells w 0)

-- a free word counts 0
pub full_none : {w : ℕ} → w ≡ 0 → full_word w ≡ 0
full_none {w} e = ⊎_elim (λ t. ap (λ b. cond b 0 1) t.0) (λ t. absurd (t.1 e)) (eqb_tells w 0)

-- adding 1 to both keeps whether two numbers are equal
pub one_behind : (p q : ℕ) → one_if (p + 1) (q + 1) ≡ one_if p q
one_behind p q = ⊎_elim (λ t. one_same {x = p + 1} {y = q + 1} (let e = t.1 in omega arith) ∙ sym (one_same t.1))
    (λ t. one_other (p + 1) (q + 1) (λ e. t.1 (omega arith)) ∙ sym (one_other p q t.1)) (eqb_tells q p)

-- as many full words as words, where each is full
pub all_full : (words : List ℕ) → ((i : ℕ) → i < length words → get_or words i 0 ≢ 0) → sum_by full_word words ≡ length words
all_full [] h = refl
all_full (w ∷ ws) h =
    let one = full_some w (h 0 (omega arith)) in let rest = all_full ws (λ i lt. h (suc i) (omega arith)) in let c = sum_by-cons full_word w ws in omega arith

-- a sum is at most another one, where each of its numbers is
pub sums_below : {A : Type 0} (f g : A → ℕ) (l : List A) → ((k : ℕ) (a : A) → get_elem? l k ≡ some a → f a ≤ g a) → sum_by f l ≤ sum_by g l
sums_below f g [] h = omega arith
sums_below f g (x ∷ xs) h =
    let one = h 0 x refl in let rest = sums_below f g xs (λ k a at. h (suc k) a at) in let p = sum_by-cons f x xs in let q = sum_by-cons g x xs in omega arith

-- a sum is below another one, where each of its numbers is at most the other and one is below it
pub sums_strict : {A : Type 0} (f g : A → ℕ) (l : List A) (id : ℕ) (me : A) → get_elem? l id ≡ some me
    → f me + 1 ≤ g me → ((k : ℕ) (a : A) → get_elem? l k ≡ some a → f a ≤ g a) → sum_by f l + 1 ≤ sum_by g l
sums_strict f g [] id me at less h = absurd (some-ne-none me (sym at))
sums_strict f g (x ∷ xs) zero me at less h =
    let one : f x + 1 ≤ g x = subst (λ a. f a + 1 ≤ g a) (sym (some-injective x me at)) less in
    let rest = sums_below f g xs (λ k a e. h (suc k) a e) in let p = sum_by-cons f x xs in let q = sum_by-cons g x xs in omega arith
sums_strict f g (x ∷ xs) (suc id) me at less h =
    let one = h 0 x refl in let rest = sums_strict f g xs id me at less (λ k a e. h (suc k) a e) in
    let p = sum_by-cons f x xs in let q = sum_by-cons g x xs in omega arith

-- a number that stands nowhere in a list is there 0 times
pub never_there : (x : ℕ) (l : List ℕ) → ((i : ℕ) → i < length l → get_or l i 0 ≢ x) → times x l ≡ 0
never_there x [] h = refl
never_there x (y ∷ ys) h =
    let one = one_other x y (h 0 (omega arith)) in let rest = never_there x ys (λ i lt. h (suc i) (omega arith)) in
    let c = sum_by-cons (one_if x) y ys in omega arith

-- a number that stands at no two places is at most once in a list
pub at_most_one : (x : ℕ) (l : List ℕ) → ((i j : ℕ) → i < length l → j < length l → get_or l i 0 ≡ x → get_or l j 0 ≡ x → i ≡ j) → times x l ≤ 1
at_most_one x [] h = omega arith
at_most_one x (y ∷ ys) h =
    let c = sum_by-cons (one_if x) y ys in ⊎_elim (λ t. let one = one_same t.1 in
    let none = never_there x ys (λ i lt e. let z = h 0 (suc i) (omega arith) (omega arith) t.1 e in omega arith) in omega arith)
    (λ t. let one = one_other x y t.1 in
    let rest = at_most_one x ys (λ i j a b p q. let z = h (suc i) (suc j) (omega arith) (omega arith) p q in omega arith) in omega arith) (eqb_tells y x)
