-- One more seat, and what is so of each element of a list with one more.
use Rattle.std.proofs.Common.{◌≡◌, ℕ, ◌+◌, List, [], ◌∷◌, ◌++◌, length, sym, zero, suc, arith, subst}
use mathlib.Core.Option.{some, some-injective, some-ne-none}
use lib.ListN.{get_elem?}
use Rattle.atomic_table.specs.Seated.{TableId}
use Rattle.atomic_table.specs.declared.shared.Seat.{Seat}
use Rattle.word_rows.specs.Rows.{IsSeated}

module _ {S : Type 0} where
  -- what is so of each element by its place, and of one more at the end, is so of each of the longer list
  pub snoc_all : (P : ℕ → S → Type 0) (l : List S) (a : S) (n : ℕ) → length l ≡ n
      → ((k : ℕ) (s : S) → get_elem? l k ≡ some s → P k s) → P n a → (k : ℕ) (s : S) → get_elem? (l ++ a ∷ []) k ≡ some s → P k s
  snoc_all P [] a n e all here zero s at = let m : 0 ≡ n = e in subst (λ x. P x s) (sym m) (subst (P n) (some-injective a s at) here)
  snoc_all P [] a n e all here (suc k) s at = absurd (some-ne-none s (sym at))
  snoc_all P (x ∷ xs) a zero e all here k s at = absurd (omega arith)
  snoc_all P (x ∷ xs) a (suc n) e all here zero s at = all 0 s at
  snoc_all P (x ∷ xs) a (suc n) e all here (suc k) s at = snoc_all (λ i. P (suc i)) xs a n (omega arith) (λ i t h. all (suc i) t h) here k s at

module _ {V : Type 0} where
  -- a seat of the table with the view of the next number, behind the seats of the numbers before, is one of them
  pub one_more : (id : TableId) (one : ℕ → V) (l : List (Seat (Unit {0}) V)) (a : Seat (Unit {0}) V) (n : ℕ) → length l ≡ n
      → IsSeated id one l → a.table_id ≡ id → a.me ≡ (one n, []) → IsSeated id one (l ++ a ∷ [])
  one_more id one l a n e all t v = snoc_all (λ k s. (s.table_id ≡ id) × (s.me ≡ (one k, []))) l a n e all (t, v)

  -- of no seats each is as it is to be
  pub none_yet : (id : TableId) (one : ℕ → V) → IsSeated id one []
  none_yet id one k s at = absurd (some-ne-none s (sym at))

  -- what is left for the last number is that number's own view
  pub last_view : (rest one : ℕ → List ℕ → List ℕ → ℕ → V) (ws shares : List ℕ) (seats n : ℕ)
      → ((ws shares : List ℕ) (s : ℕ) → rest (s + 1) ws shares s ≡ one (s + 1) ws shares s) → seats ≡ n + 1
      → rest seats ws shares n ≡ one seats ws shares n
  last_view rest one ws shares seats n law e = let P : ℕ → Type 0 = λ k. rest k ws shares n ≡ one k ws shares n in subst P (sym e) (law ws shares n)
