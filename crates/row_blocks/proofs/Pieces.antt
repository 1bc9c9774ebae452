-- Lists one behind the other: how long they are, where an item stands, and what one that changes, comes or goes makes
-- of the whole.
use Rattle.std.proofs.Common.{◌≡◌, ◌≢◌, ℕ, zero, suc, ◌+◌, ◌-◌, ◌<◌, ◌≤◌, List, [], ◌++◌, length, get_or, take, drop}
use Rattle.std.proofs.Common.{sym, refl, ap, ◌∙◌, subst, arith, inl, inr}
use Rattle.std.proofs.lemmas.Bool.{cases_lt}
use Rattle.std.proofs.lemmas.List.{append_assoc, append-nil, length-append, take_at, take-append-le, drop-append-le, drop_all}
use Rattle.std.proofs.lemmas.List.{get_or_append_left, get_or-append_right}
use Rattle.std.specs.Prelude.{All}
use Rattle.std.proofs.lemmas.List.Elements.{All-nil, All-append, All-get_or, All-from_get_or}
use Rattle.row_blocks.specs.Blocks.{pieces}

-- lists that are the same one by one are the same together
pub same_pieces : (f g : ℕ → List ℕ) (n : ℕ) → ((i : ℕ) → i < n → g i ≡ f i) → pieces g n ≡ pieces f n
same_pieces f g zero same = refl
same_pieces f g (suc n) same =
    let front = same_pieces f g n (λ i l. same i (omega arith)) in
    let here = same n (omega arith) in
    cc

-- fewer are no longer
pub fewer_pieces : (f : ℕ → List ℕ) (k n : ℕ) → k ≤ n → length (pieces f k) ≤ length (pieces f n)
fewer_pieces f k zero le = let e : k ≡ 0 = omega arith in subst (λ (m : ℕ). length (pieces f m) ≤ 0) (sym e) (omega arith)
fewer_pieces f k (suc n) le = elim (cases_lt k (suc n)) [
  | inl lt ↦ let l = length-append (pieces f n) (f n) in let r = fewer_pieces f k n (omega arith) in omega arith
  | inr ge ↦ let e : k ≡ suc n = omega arith in subst (λ (m : ℕ). length (pieces f m) ≤ length (pieces f (suc n))) (sym e) (omega arith)
]

-- and one ends before the whole does
pub piece_ends : (f : ℕ → List ℕ) (k n : ℕ) → k < n → length (pieces f k) + length (f k) ≤ length (pieces f n)
piece_ends f k n lt = let l = length-append (pieces f k) (f k) in let r = fewer_pieces f (suc k) n (omega arith) in omega arith

-- item j of list k stands behind all before
pub at_piece : (f : ℕ → List ℕ) (k n j : ℕ) → k < n → j < length (f k) → get_or (pieces f n) (length (pieces f k) + j) 0 ≡ get_or (f k) j 0
at_piece f k zero j lt below = absurd (omega arith)
at_piece f k (suc n) j lt below = elim (cases_lt k n) [
  | inl less ↦ let e = piece_ends f k n less in
      get_or_append_left (pieces f n) (f n) 0 (length (pieces f k) + j) (omega arith) ∙ at_piece f k n j less below
  | inr ge ↦ let e : k ≡ n = omega arith in
      subst (λ (m : ℕ). get_or (pieces f n ++ f n) (length (pieces f m) + j) 0 ≡ get_or (f m) j 0) (sym e)
      (get_or-append_right (pieces f n) (f n) (length (pieces f n)) (length (pieces f n) + j) 0 refl (omega arith)
      ∙ ap (λ (i : ℕ). get_or (f n) i 0) (let z : length (pieces f n) + j - length (pieces f n) ≡ j = omega arith in z))
]

-- each item is one of some list
pub record StandsAt (f : ℕ → List ℕ) (n r : ℕ) : Type 0 where
  pub k : ℕ
  pub j : ℕ
  pub there : k < n
  pub below : j < length (f k)
  pub at : r ≡ length (pieces f k) + j

-- its list and its place there
pub stands_at : {f : ℕ → List ℕ} (n : ℕ) {r : ℕ} → r < length (pieces f n) → StandsAt f n r
stands_at zero lt = absurd (omega arith)
stands_at {f} (suc n) {r} lt = elim (cases_lt r (length (pieces f n))) [
  | inl less ↦ let s = stands_at n less in record { k = s.k; j = s.j; there = omega arith; below = s.below; at = s.at }
  | inr ge ↦ let l = length-append (pieces f n) (f n) in
      record { k = n; j = r - length (pieces f n); there = omega arith; below = omega arith; at = omega arith }
]

-- where one list changes, the whole is the front, the list, and what was behind it
pub one_changes : (f g : ℕ → List ℕ) (k n : ℕ) → k < n → ((i : ℕ) → i < n → i ≢ k → g i ≡ f i)
    → pieces g n ≡ take (length (pieces f k)) (pieces f n) ++ (g k ++ drop (length (pieces f k) + length (f k)) (pieces f n))
one_changes f g k zero lt same = absurd (omega arith)
one_changes f g k (suc n) lt same = elim (cases_lt k n) [
  | inl less ↦
      let ends = piece_ends f k n less in
      let before : pieces g n ≡ take (length (pieces f k)) (pieces f n) ++ (g k ++ drop (length (pieces f k) + length (f k)) (pieces f n))
      = one_changes f g k n less (λ i l d. same i (omega arith) d) in
      let here : g n ≡ f n = same n (omega arith) (λ e. omega arith) in
      let front = take-append-le (length (pieces f k)) (pieces f n) (f n) (omega arith) in
      let back = drop-append-le (length (pieces f k) + length (f k)) (pieces f n) (f n) (omega arith) in
      rw (before, here, front, back) (simp append_assoc)
  | inr ge ↦
      let e : k ≡ n = omega arith in
      let before : pieces g n ≡ pieces f n = same_pieces f g n (λ i l. same i (omega arith) (λ q. omega arith)) in
      let wide = length-append (pieces f n) (f n) in
      let front : take (length (pieces f n)) (pieces f n ++ f n) ≡ pieces f n = take_at (pieces f n) (f n) (length (pieces f n)) refl in
      let back : drop (length (pieces f n) + length (f n)) (pieces f n ++ f n) ≡ [] =
      drop_all (length (pieces f n) + length (f n)) (pieces f n ++ f n) (omega arith) in
      let goal : pieces g n ++ g n ≡ take (length (pieces f n)) (pieces f n ++ f n) ++ (g n ++ drop (length (pieces f n) + length (f n)) (pieces f n ++ f n))
      = rw (before, front, back, append-nil) refl in
      subst (λ (m : ℕ). pieces g n ++ g n ≡ take (length (pieces f m)) (pieces f n ++ f n)
      ++ (g m ++ drop (length (pieces f m) + length (f m)) (pieces f n ++ f n))) (sym e) goal
]

-- what is so of all items of each list is so of all, and the other way
pub all_pieces : (P : ℕ → Type 0) (f : ℕ → List ℕ) (n : ℕ) → ((k : ℕ) → k < n → All P (f k)) → All P (pieces f n)
all_pieces P f zero all = All-nil P
all_pieces P f (suc n) all = All-append P (pieces f n) (f n) (all_pieces P f n (λ k lt. all k (omega arith))) (all n (omega arith))

-- and the other way
pub all_of_piece : (P : ℕ → Type 0) (f : ℕ → List ℕ) (k n : ℕ) → k < n → All P (pieces f n) → All P (f k)
all_of_piece P f k n lt all =
    let ends = piece_ends f k n lt in
    All-from_get_or P (f k) 0 (λ j below. subst P (at_piece f k n j lt below) (All-get_or P (pieces f n) (length (pieces f k) + j) 0 (omega arith) all))
