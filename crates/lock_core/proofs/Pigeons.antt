-- A list of different numbers of an interval is no longer than the interval; so a list of different nodes of one seat
-- has at most sixteen.
use Rattle.std.proofs.Common.{◌≡◌, ◌≢◌, ℕ, zero, suc, ◌+◌, ◌*◌, ◌/◌, ◌<◌, ◌≤◌, Bool, true, false, List, [], ◌∷◌, length}
use Rattle.std.proofs.Common.{⊎_elim, refl, ap, ◌∙◌, arith, eqb-true, eq-eqb}
use Rattle.std.specs.Prelude.{◌==◌, if◌then◌else◌}
use Rattle.std.proofs.lemmas.Bool.{cases_eq}
use Rattle.view_lists.specs.Counted.{times}

-- the list without the number b
abbrev others : ℕ → List ℕ → List ℕ
others b [] = []
others b (y ∷ ys) = if y == b then others b ys else y ∷ others b ys

-- it is shorter by the times of b
others_length : (b : ℕ) (l : List ℕ) → length l ≡ times b l + length (others b l)
others_length b [] = refl
others_length b (y ∷ ys) = step (y == b) (others_length b ys)
  where
    step : (c : Bool) → length ys ≡ times b ys + length (others b ys)
        → suc (length ys) ≡ (if c then 1 else 0) + times b ys + length (if c then others b ys else y ∷ others b ys)
    step true ih = omega arith
    step false ih = omega arith

-- no number stands there more often
others_times : (b x : ℕ) (l : List ℕ) → times x (others b l) ≤ times x l
others_times b x [] = omega arith
others_times b x (y ∷ ys) = step (y == b) (others_times b x ys)
  where
    step : (c : Bool) → times x (others b ys) ≤ times x ys → times x (if c then others b ys else y ∷ others b ys) ≤ (if y == x then 1 else 0) + times x ys
    step true ih = omega arith
    step false ih = omega arith

-- and b doesn't stand there
others_none : (b : ℕ) (l : List ℕ) → times b (others b l) ≡ 0
others_none b [] = refl
others_none b (y ∷ ys) = step (y == b) refl (others_none b ys)
  where
    step : (c : Bool) → (y == b) ≡ c → times b (others b ys) ≡ 0 → times b (if c then others b ys else y ∷ others b ys) ≡ 0
    step true e ih = ih
    step false e ih = ap (λ (d : Bool). (if d then 1 else 0) + times b (others b ys)) e ∙ omega arith

-- a number that stands first in a list is counted
pub first_counts : (b : Bool) (n : ℕ) → b ≡ true → 1 ≤ (if b then 1 else 0) + n
first_counts true n e = omega arith
first_counts false n e = absurd (cc)

-- a list of numbers of an interval, none of them twice, is no longer than the interval
pub pigeons : (low n : ℕ) (l : List ℕ) → ((x : ℕ) → times x l ≤ 1) → ((x : ℕ) → 1 ≤ times x l → (low ≤ x) × (x < low + n)) → length l ≤ n
pigeons low zero [] once within = omega arith
pigeons low zero (x ∷ xs) once within = let w = within x (first_counts (x == x) (times x xs) (eq-eqb x x refl)) in absurd (omega arith)
pigeons low (suc n) l once within =
    let ih = pigeons low n (others (low + n) l)
    (λ x. omega (arith, others_times (low + n) x l, once x))
    (λ x m.
    let w = within x (omega (arith, others_times (low + n) x l)) in
    ⊎_elim
    (λ (e : x ≡ low + n). let none = others_none (low + n) l in let a = ap (λ b. times b (others (low + n) l)) e in absurd (omega arith))
    (λ (d : x ≢ low + n). (w.0, omega arith))
    (cases_eq x (low + n))) in
    omega (arith, others_length (low + n) l, once (low + n))

at_most_one : (b : Bool) (n : ℕ) → n ≤ (if b then 1 else 0) → n ≤ 1
at_most_one true n l = l
at_most_one false n l = omega arith

-- a test that bounds a number above 0 is met
pub some_true : (b : Bool) (n : ℕ) → n ≤ (if b then 1 else 0) → 1 ≤ n → b ≡ true
some_true true n l g = refl
some_true false n l g = absurd (omega arith)

-- different nodes of one seat are at most sixteen
pub few_of_seat : (i : ℕ) (l : List ℕ) → ((x : ℕ) → times x l ≤ (if x / 16 == i then 1 else 0)) → length l ≤ 16
few_of_seat i l few =
    pigeons (16 * i) 16 l
    (λ x. at_most_one (x / 16 == i) (times x l) (few x))
    (λ x g. let e = eqb-true _ _ (some_true (x / 16 == i) (times x l) (few x) g) in (omega arith, omega arith))
