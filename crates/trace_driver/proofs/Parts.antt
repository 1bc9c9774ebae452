-- Items that are dealt out by a number: together the parts are as long as the whole.
use Rattle.std.proofs.Common.{◌≡◌, ◌≢◌, ℕ, zero, suc, ◌+◌, ◌<◌, ◌≤◌, Bool, true, false, cond, List, [], ◌∷◌, length, refl, sym, ap, ◌∙◌, inl, inr, arith}
use Rattle.std.specs.Prelude.{◌==◌}
use Rattle.std.specs.List.{filter}
use Rattle.std.proofs.lemmas.Bool.{cases_eq, cases_lt}
use Rattle.std.proofs.lemmas.Bool.Decides.{eqb_tells}

-- the sum of what each number below a bound has
abbrev pub total : ℕ → (ℕ → ℕ) → ℕ
total zero f = 0
total (suc n) f = f n + total n f

-- sums of the same parts are the same
pub total_same : (n : ℕ) (f g : ℕ → ℕ) → ((k : ℕ) → k < n → f k ≡ g k) → total n f ≡ total n g
total_same zero f g same = refl
total_same (suc n) f g same = let last = same n (omega arith) in let rest = total_same n f g (λ k below. same k (omega arith)) in omega arith

total_sum : (n : ℕ) (f g h : ℕ → ℕ) → ((k : ℕ) → h k ≡ f k + g k) → total n h ≡ total n f + total n g
total_sum zero f g h is = refl
total_sum (suc n) f g h is = let last = is n in let rest = total_sum n f g h is in omega arith

-- 1 at one number, and 0 at each other
abbrev one_at : ℕ → ℕ → ℕ
one_at key k = cond (key == k) 1 0

one_here : (n : ℕ) → one_at n n ≡ 1
one_here n = elim (eqb_tells n n) [ inl h ↦ ap (λ b. cond b 1 0) h.0 | inr h ↦ absurd (h.1 refl) ]

none_there : (key k : ℕ) → key ≢ k → one_at key k ≡ 0
none_there key k apart = elim (eqb_tells key k) [ inl h ↦ absurd (apart h.1) | inr h ↦ ap (λ b. cond b 1 0) h.0 ]

total_none : (n key : ℕ) → n ≤ key → total n (one_at key) ≡ 0
total_none zero key above = refl
total_none (suc n) key above =
    let here : one_at key n ≡ 0 = none_there key n (λ e. omega (arith, e)) in
    let rest : total n (one_at key) ≡ 0 = total_none n key (omega arith) in omega arith

total_one : (n key : ℕ) → key < n → total n (one_at key) ≡ 1
total_one zero key below = absurd (omega arith)
total_one (suc n) key below = elim (cases_eq key n) [
  | inl e ↦
      let here : one_at key n ≡ 1 = ap (λ k. one_at key k) (sym e) ∙ one_here key in
      let rest : total n (one_at key) ≡ 0 = total_none n key (omega (arith, e)) in omega arith
  | inr apart ↦
      let here : one_at key n ≡ 0 = none_there key n apart in let rest : total n (one_at key) ≡ 1 = total_one n key (omega (arith, apart)) in omega arith
]

module _ {X : Type 0} (key : X → ℕ) where
  -- the items of a number
  abbrev pub part : List X → ℕ → List X
  part xs k = filter (λ x. key x == k) xs

  -- no item has a number that isn't below a bound
  abbrev pub NoneAbove : ℕ → List X → Type 0
  NoneAbove n xs = (k : ℕ) → n ≤ k → part xs k ≡ []

  part_length : (x : X) (xs : List X) (k : ℕ) → length (part (x ∷ xs) k) ≡ one_at (key x) k + length (part xs k)
  part_length x xs k = elim (key x == k) as (λ b. length (cond b (x ∷ part xs k) (part xs k)) ≡ cond b 1 0 + length (part xs k))
      [ true ↦ omega arith | false ↦ omega arith ]

  cond_none : (b : Bool) (x : X) (xs : List X) → cond b (x ∷ xs) xs ≡ [] → (b ≡ false) × (xs ≡ [])
  cond_none true x xs e = absurd cc
  cond_none false x xs e = (refl, e)

  -- where no item has such a number none of the others has
  pub rest_none : (n : ℕ) (x : X) (xs : List X) → NoneAbove n (x ∷ xs) → NoneAbove n xs
  rest_none n x xs none k above = (cond_none (key x == k) x (part xs k) (none k above)).1

  -- and the number of the first is below the bound
  pub first_below : (n : ℕ) (x : X) (xs : List X) → NoneAbove n (x ∷ xs) → key x < n
  first_below n x xs none = elim (cases_lt (key x) n) [
    | inl below ↦ below
    | inr above ↦ elim (eqb_tells (key x) (key x)) [
      | inl h ↦ absurd (let no = (cond_none (key x == key x) x (part xs (key x)) (none (key x) above)).0 in let yes = h.0 in cc)
      | inr h ↦ absurd (h.1 refl)
    ]
  ]

  -- the parts are together as long as the whole
  pub parts_whole : (n : ℕ) (xs : List X) → NoneAbove n xs → total n (λ k. length (part xs k)) ≡ length xs
  parts_whole n [] none = total_same n (λ k. 0) (λ k. 0) (λ k below. refl) ∙ total_zero n
    where
      total_zero : (m : ℕ) → total m (λ k. 0) ≡ 0
      total_zero zero = refl
      total_zero (suc m) = let rest = total_zero m in omega arith
  parts_whole n (x ∷ xs) none =
      let rest = parts_whole n xs (rest_none n x xs none) in let one = total_one n (key x) (first_below n x xs none) in
      let sum = total_sum n (one_at (key x)) (λ k. length (part xs k)) (λ k. length (part (x ∷ xs) k)) (part_length x xs) in omega arith

  -- where every number is below the bound
  pub none_above : (n : ℕ) → ((x : X) → key x < n) → (xs : List X) → NoneAbove n xs
  none_above n below [] k above = refl
  none_above n below (x ∷ xs) k above = elim (eqb_tells (key x) k) [
    | inl h ↦ absurd (omega (arith, below x, h.1))
    | inr h ↦ ap (λ b. cond b (x ∷ part xs k) (part xs k)) h.0 ∙ none_above n below xs k above
  ]

  -- where all items have the number 0, its part is the whole
  pub part_whole : (xs : List X) → NoneAbove 1 xs → part xs 0 ≡ xs
  part_whole [] none = refl
  part_whole (x ∷ xs) none =
      let zero_is : key x < 1 = first_below 1 x xs none in
      let rest : part xs 0 ≡ xs = part_whole xs (rest_none 1 x xs none) in
      elim (eqb_tells (key x) 0) [ inl h ↦ ap (λ b. cond b (x ∷ part xs 0) (part xs 0)) h.0 ∙ ap (λ l. x ∷ l) rest | inr h ↦ absurd (h.1 (omega arith)) ]
