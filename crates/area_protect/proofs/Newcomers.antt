-- The callers of a new space of two, cut in two parts: each is of the space, holds nothing, and has as many numbers to
-- draw as were asked for it.
use Rattle.std.proofs.Common.{◌≡◌, ℕ, List, [], ◌∷◌, ◌++◌, get_or, length, refl, ap, subst, arith}
use Rattle.std.specs.Prelude.{None, slice_index}
use Rattle.area_rows.specs.Seated.{TableId}
use Rattle.area_rows.specs.Callers.{CallerView, AreNewCallers}
use Rattle.space_model.specs.declared.areas.Area.{Area}

-- a caller of the table that holds nothing and may draw so many numbers
pub record IsNew (table : TableId) (left : ℕ) (c : CallerView) : Type 0 where
  pub table_is : c.seat.table ≡ table
  pub free : c.seat.held ≡ None
  pub left_is : c.left ≡ left

parts_new : (table : TableId) (start : List Area) (calls : List ℕ) (first others : List CallerView) (a b : CallerView)
    → AreNewCallers table start calls (first ++ others) → length first ≡ 1 → length (first ++ others) ≡ 2
    → IsNew table (slice_index calls 0) (get_or first 0 a) × IsNew table (slice_index calls 1) (get_or others 0 b)
parts_new table start calls [] others a b new one two = absurd (omega arith)
parts_new table start calls (x ∷ y ∷ rest) others a b new one two = absurd (omega arith)
parts_new table start calls (x ∷ []) [] a b new one two = absurd (omega arith)
parts_new table start calls (x ∷ []) (y ∷ rest) a b new one two = let p = new 0 x refl in let q = new 1 y refl in (
  record { table_is = ap (λ (c : CallerView). c.seat.table) p; free = ap (λ (c : CallerView). c.seat.held) p; left_is = ap (λ (c : CallerView). c.left) p },
  record { table_is = ap (λ (c : CallerView). c.seat.table) q; free = ap (λ (c : CallerView). c.seat.held) q; left_is = ap (λ (c : CallerView). c.left) q },
)

-- of the two callers of a new space, cut into one and one, each is new with its own count of numbers
pub two_new : (table : TableId) (start : List Area) (calls : List ℕ) (callers first others : List CallerView) (a b : CallerView)
    → AreNewCallers table start calls callers → callers ≡ first ++ others → length first ≡ 1 → length callers ≡ 2
    → IsNew table (slice_index calls 0) (get_or first 0 a) × IsNew table (slice_index calls 1) (get_or others 0 b)
two_new table start calls callers first others a b new parts one two =
    parts_new table start calls first others a b (subst (λ l. AreNewCallers table start calls l) parts new) one
    (subst (λ (l : List CallerView). length l ≡ 2) parts two)
