-- How many of the first lists a range takes: one more behind a list that it takes, as many behind one that it doesn't,
-- and no other number.
use Rattle.std.proofs.Common.{◌≡◌, ℕ, zero, suc, ◌+◌, ◌-◌, ◌*◌, ◌<◌, ◌≤◌, ◌⊎◌, inl, inr, ⊎_elim, refl, sym, ap, ◌∙◌, subst, arith}
use Rattle.std.proofs.Math.Nat.{mul-suc, mul-zero}
use Rattle.std.proofs.lemmas.Nat.{mul-le}
use mathlib.Core.Logic.{dite}
use native.Mathlib.Decide.{ℕ_discrete}
use Rattle.lock_core.specs.Range.{Interval}
use Rattle.list_cuts.specs.Cut.{Regions, list_count, list_of, Takes, TakesOne}
use Rattle.list_cuts.proofs.Cutting.{takes_own, takes_there}
use Rattle.range_rw.specs.Contract.{TakesBelow, TakesMany, try_steps}
use Rattle.range_rw.specs.Several.{TakesAlone, TakesNone}

module _ (c : Regions) (range : Interval) where
  -- no more of them up to a list before which it takes none
  pub below_none : (at up m : ℕ) → at ≤ up → TakesNone c range at up → TakesBelow c range at m → TakesBelow c range up m
  below_none at zero m le none b = let e : at ≡ 0 = omega arith in subst (λ n. TakesBelow c range n m) e b
  below_none at (suc up) m le none b = dite (ℕ_discrete at (suc up))
      (λ e. subst (λ n. TakesBelow c range n m) e b)
      (λ far. inr (none up (omega arith) (omega arith), below_none at up m (omega arith) (λ list from to t. none list from (omega arith) t) b))

  -- one more behind a list that it takes
  pub below_one : (at m : ℕ) → Takes c range at → TakesBelow c range at m → TakesBelow c range (suc at) (suc m)
  below_one at m t b = inl (t, (m, refl, b))

  -- there is one such number
  same_below : (n m k : ℕ) → TakesBelow c range n m → TakesBelow c range n k → m ≡ k
  same_below zero m k a b = a ∙ sym b
  same_below (suc n) m k a b = ⊎_elim
      (λ (x : Takes c range n × ((l : ℕ) × (m ≡ suc l) × TakesBelow c range n l)). ⊎_elim
      (λ (y : Takes c range n × ((l : ℕ) × (k ≡ suc l) × TakesBelow c range n l)).
      x.1.1 ∙ (ap suc (same_below n x.1.0 y.1.0 x.1.2 y.1.2) ∙ sym y.1.1))
      (λ (y : (Takes c range n → ⊥) × TakesBelow c range n k). absurd (y.0 x.0)) b)
      (λ (x : (Takes c range n → ⊥) × TakesBelow c range n m). ⊎_elim
      (λ (y : Takes c range n × ((l : ℕ) × (k ≡ suc l) × TakesBelow c range n l)). absurd (x.0 y.0))
      (λ (y : (Takes c range n → ⊥) × TakesBelow c range n k). same_below n m k x.1 y.1) b) a

  -- fewer lists have no more of them
  pub fewer_below : (at n m k : ℕ) → at ≤ n → TakesBelow c range at m → TakesBelow c range n k → m ≤ k
  fewer_below at zero m k le a b = let e : at ≡ 0 = omega arith in let s = same_below 0 m k (subst (λ n. TakesBelow c range n m) e a) b in omega arith
  fewer_below at (suc n) m k le a b = dite (ℕ_discrete at (suc n))
      (λ e. let s = same_below (suc n) m k (subst (λ i. TakesBelow c range i m) e a) b in omega arith)
      (λ far. ⊎_elim
      (λ (y : Takes c range n × ((l : ℕ) × (k ≡ suc l) × TakesBelow c range n l)).
      let s = fewer_below at n m y.1.0 (omega arith) a y.1.2 in let e = y.1.1 in omega arith)
      (λ (y : (Takes c range n → ⊥) × TakesBelow c range n k). fewer_below at n m k (omega arith) a y.1) b)

  -- a list that it takes is one of them
  pub some_below : (n k i : ℕ) → i < n → Takes c range i → TakesBelow c range n k → 1 ≤ k
  some_below zero k i less t b = absurd (omega arith)
  some_below (suc n) k i less t b = ⊎_elim
      (λ (y : Takes c range n × ((l : ℕ) × (k ≡ suc l) × TakesBelow c range n l)). let e = y.1.1 in omega arith)
      (λ (y : (Takes c range n → ⊥) × TakesBelow c range n k). dite (ℕ_discrete i n)
      (λ e. absurd (y.0 (subst (Takes c range) e t)))
      (λ far. some_below n k i (omega arith) t y.1)) b

  -- of a range that takes one list alone: none up to that list, and one behind it
  none_before : (at n : ℕ) → n ≤ at → TakesOne c range at → TakesBelow c range n 0
  none_before at zero le one = refl
  none_before at (suc n) le one = inr ((λ t. let e = one.alone n t in absurd (omega arith)), none_before at n (omega arith) one)

  one_at_most : (at n : ℕ) → TakesOne c range at → (k : ℕ) × TakesBelow c range n k × (k ≤ 1)
  one_at_most at zero one = (0, refl, omega arith)
  one_at_most at (suc n) one = dite (ℕ_discrete at n)
      (λ e. (1, inl (subst (Takes c range) e one.takes, (0, refl, none_before at n (omega arith) one)), omega arith))
      (λ far. let before = one_at_most at n one in (before.0, inr ((λ t. far (sym (one.alone n t))), before.1), before.2))

  -- so its try makes the steps of one list
  pub alone_steps : (seats : ℕ) → TakesAlone c range → (k : ℕ) × TakesMany c range k × (try_steps seats k ≡ 64 + 386 * seats)
  alone_steps seats alone = let many = one_at_most alone.0 (list_count c) alone.1 in let none : many.0 - 1 ≡ 0 = let few = many.2 in omega arith in
      let more : (55 + 193 * seats) * (many.0 - 1) ≡ 0 = ap (λ n. (55 + 193 * seats) * n) none ∙ mul-zero (55 + 193 * seats) in (many.0, many.1, omega arith)

  -- whether one of so many numbers, from the first of them on, is of a list
  is_among : (list lo n : ℕ) → ((m : ℕ) × (lo ≤ m) × (m < lo + n) × (list_of c m ≡ list)) ⊎ ((m : ℕ) → lo ≤ m → m < lo + n → list_of c m ≡ list → ⊥)
  is_among list lo zero = inr (λ m from below at. absurd (omega arith))
  is_among list lo (suc n) = dite (ℕ_discrete (list_of c (lo + n)) list)
      (λ e. inl (lo + n, omega arith, omega arith, e))
      (λ far. ⊎_elim
      (λ (x : (m : ℕ) × (lo ≤ m) × (m < lo + n) × (list_of c m ≡ list)). inl (x.0, x.1, (let b = x.2 in omega arith), x.3))
      (λ (none : (m : ℕ) → lo ≤ m → m < lo + n → list_of c m ≡ list → ⊥). inr (λ m from below at. dite (ℕ_discrete m (lo + n))
      (λ e. far (subst (λ k. list_of c k ≡ list) e at))
      (λ other. none m from (omega arith) at))) (is_among list lo n))

  -- whether a range takes a list
  takes_or_not : (list : ℕ) → Takes c range list ⊎ (Takes c range list → ⊥)
  takes_or_not list = ⊎_elim
      (λ (x : (m : ℕ) × (range.lo ≤ m) × (m < range.lo + (range.hi - range.lo)) × (list_of c m ≡ list)).
      inl (record { number = x.0; low = x.1; high = (let a = x.1 in let b = x.2 in omega arith); is = x.3 }))
      (λ (none : (m : ℕ) → range.lo ≤ m → m < range.lo + (range.hi - range.lo) → list_of c m ≡ list → ⊥).
      inr (λ t. none t.number t.low (let a = t.low in let b = t.high in omega arith) t.is)) (is_among list range.lo (range.hi - range.lo))

  -- each range takes some number of the first lists
  pub some_many : (n : ℕ) → (k : ℕ) × TakesBelow c range n k × (k ≤ n)
  some_many zero = (0, refl, omega arith)
  some_many (suc n) =
      let before = some_many n in
      ⊎_elim
      (λ (t : Takes c range n). (suc before.0, inl (t, (before.0, refl, before.1)), (let few = before.2 in omega arith)))
      (λ (none : Takes c range n → ⊥). (before.0, inr (none, before.1), (let few = before.2 in omega arith))) (takes_or_not n)

  -- so a bound by the lists that a range takes is one by all lists
  pub wide_steps : (seats after before : ℕ) → 0 < c.count → ((k : ℕ) → TakesMany c range k → after ≤ before + try_steps seats k)
      → after ≤ before + (64 + 386 * seats) * list_count c
  wide_steps seats after before some each = let many = some_many (list_count c) in let few = many.2 in let one : 1 ≤ list_count c = omega arith in
      let le : (55 + 193 * seats) * (many.0 - 1) ≤ (64 + 386 * seats) * (list_count c - 1) = mul-le _ _ _ _ (omega arith) (omega arith) in
      let whole : list_count c ≡ suc (list_count c - 1) = omega arith in let all : (64 + 386 * seats) * list_count c ≡ (64 + 386 * seats) * (list_count c - 1) +
      (64 + 386 * seats) = ap (λ n. (64 + 386 * seats) * n) whole ∙ mul-suc (64 + 386 * seats) (list_count c - 1) in let b = each many.0 many.1 in omega arith

-- with one list each range takes it, and no other
pub takes_first : (c : Regions) (range : Interval) → 0 < c.count → list_count c ≡ 1 → range.lo < range.hi → TakesOne c range 0
takes_first c range some one less = let own : Takes c range (list_of c range.lo) = takes_own c range range.lo (omega arith) less in
    let first : (i : ℕ) → Takes c range i → i ≡ 0 = λ i t. let e = takes_there c range i some t in omega arith in
    record { takes = subst (Takes c range) (first (list_of c range.lo) own) own; alone = λ other t. first other t }
