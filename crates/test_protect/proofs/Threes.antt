-- The second and the third caller of a crew of three or more, read by place, before and after what was done to each.
use Rattle.std.proofs.Common.{◌≡◌, ℕ, zero, suc, List, [], ◌∷◌, ◌++◌, ◌≤◌, get_or, set, length, refl, subst, arith}
use Rattle.std.specs.Prelude.{None}
use mathlib.Core.Option.{some, some-injective}
use lib.ListN.{get_elem?}
use Rattle.atomic_table.specs.Seated.{TableId}
use Rattle.page_types.specs.declared.sets.Access.{Access}
use Rattle.area_rows.specs.Callers.{CallerView, AreIdle}
use Rattle.page_fault.specs.Faults.{IsTried}
use Rattle.page_fault.specs.declared.faults.TriedFault.{TriedFault}
use Rattle.test_crews.specs.Crews.{IsIdleAgain, IsCrew, OfCaller}
use Rattle.test_crews.proofs.Crews.{back_idle}

-- three callers at the head, of which the second and the third are each back
idle_three : (table : TableId) (w x y : CallerView) (rest : List CallerView) (a b : CallerView) → AreIdle table (w ∷ x ∷ y ∷ rest)
    → IsIdleAgain x a → IsIdleAgain y b
    → (k : ℕ) (c : CallerView) → get_elem? (w ∷ a ∷ b ∷ rest) k ≡ some c → (c.seat.table ≡ table) × (c.seat.number ≡ k) × (c.seat.held ≡ None)
idle_three table w x y rest a b idle p q zero c at = idle zero c at
idle_three table w x y rest a b idle p q (suc zero) c at =
    subst (λ (v : CallerView). (v.seat.table ≡ table) × (v.seat.number ≡ 1) × (v.seat.held ≡ None)) (some-injective a c at)
    (back_idle table 1 x a p (idle 1 x refl))
idle_three table w x y rest a b idle p q (suc (suc zero)) c at =
    subst (λ (v : CallerView). (v.seat.table ≡ table) × (v.seat.number ≡ 2) × (v.seat.held ≡ None)) (some-injective b c at)
    (back_idle table 2 y b q (idle 2 y refl))
idle_three table w x y rest a b idle p q (suc (suc (suc k))) c at = idle (suc (suc (suc k))) c at

three_split : (table : TableId) (seats : ℕ) (first others : List CallerView) (a b : CallerView) → length first ≡ 2
    → IsCrew table seats (first ++ others) → 3 ≤ seats
    → ((get_or first 1 a).seat.table ≡ table) × ((get_or first 1 a).seat.held ≡ None) × ((get_or others 0 b).seat.table ≡ table)
    × ((get_or others 0 b).seat.held ≡ None)
three_split table seats [] others a b two crew three = absurd (omega arith)
three_split table seats (w ∷ []) others a b two crew three = absurd (omega arith)
three_split table seats (w ∷ x ∷ v ∷ rest) others a b two crew three = absurd (omega arith)
three_split table seats (w ∷ x ∷ []) [] a b two crew three = absurd (let n = crew.count in omega arith)
three_split table seats (w ∷ x ∷ []) (y ∷ rest) a b two crew three = let i = crew.idle 1 x refl in let j = crew.idle 2 y refl in (i.0, i.2, j.0, j.2)

-- the last caller of a first part of two, and the first of the others, of a crew of three or more
pub three_of : (table : TableId) (seats : ℕ) (callers first others : List CallerView) (a b : CallerView)
    → callers ≡ first ++ others → length first ≡ 2 → IsCrew table seats callers → 3 ≤ seats
    → ((get_or first 1 a).seat.table ≡ table) × ((get_or first 1 a).seat.held ≡ None) × ((get_or others 0 b).seat.table ≡ table)
    × ((get_or others 0 b).seat.held ≡ None)
three_of table seats callers first others a b parts two crew three = three_split table seats first others a b two (subst (IsCrew table seats) parts crew) three

-- a crew of three or more whose second and third callers are each back
pub three_back : (table : TableId) (seats : ℕ) (first others : List CallerView) (x a y b : CallerView) → length first ≡ 2
    → IsCrew table seats (first ++ others) → 3 ≤ seats
    → IsIdleAgain (get_or first 1 x) a → IsIdleAgain (get_or others 0 y) b → IsCrew table seats (set first 1 a ++ set others 0 b)
three_back table seats [] others x a y b two crew three p q = absurd (omega arith)
three_back table seats (w ∷ []) others x a y b two crew three p q = absurd (omega arith)
three_back table seats (w ∷ u ∷ v ∷ rest) others x a y b two crew three p q = absurd (omega arith)
three_back table seats (w ∷ u ∷ []) [] x a y b two crew three p q = absurd (let n = crew.count in omega arith)
three_back table seats (w ∷ u ∷ []) (v ∷ rest) x a y b two crew three p q =
    record { count = crew.count; some = crew.some; idle = idle_three table w u v rest a b crew.idle p q }

-- the second caller's answer beside the third, told by places
pub second_of_three : (seats : ℕ) (first others : List CallerView) (w d n : CallerView) (line addr : ℕ) (access : Access)
    (answer : TriedFault) → length first ≡ 2 → IsTried seats (get_or first 1 d) line addr access answer n
    → OfCaller 1 (first ++ others) (set first 1 n ++ set others 0 w) (λ before after. IsTried seats before line addr access answer after)
second_of_three seats [] others w d n line addr access answer two is a b p q = absurd (omega arith)
second_of_three seats (x ∷ []) others w d n line addr access answer two is a b p q = absurd (omega arith)
second_of_three seats (x ∷ y ∷ v ∷ rest) others w d n line addr access answer two is a b p q = absurd (omega arith)
second_of_three seats (x ∷ y ∷ []) others w d n line addr access answer two is a b p q =
    subst (λ (z : CallerView × CallerView). IsTried seats z.0 line addr access answer z.1) (λ i. (some-injective y a p i, some-injective n b q i)) is
