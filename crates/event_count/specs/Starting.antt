-- What the seats begin with, and that one seat can be cut off. The lemmas are here, since the laws of the table's rule
-- cite them.
use Rattle.std.specs.Prelude.{◌≡◌, ℕ, zero, suc, ◌+◌, ◌-◌, ◌%◌, ◌^◌, ◌<◌, List, [], ◌∷◌, ◌++◌, length, sum_by, refl}
use Rattle.std.proofs.Common.{set, get_or, sym, ap, ◌∙◌, arith}
use Rattle.std.proofs.lemmas.List.Sums.{sum_by-set, sum_by_push}
use mathlib.Core.Option.{some, some-injective, some-ne-none}
use lib.ListN.{get_elem?}
use Rattle.atomic_table.specs.Table.{Splits}
use Rattle.event_count.specs.declared.records.Sleeper.{Sleeper}
use Rattle.event_count.specs.Events.{IsEventTable, begin, one_if_counted, wakes_of, places_of}

-- where a list has an element, the place is below its length
pub below : {A : Type 0} (l : List A) (i : ℕ) (a : A) → get_elem? l i ≡ some a → i < length l
below [] i a e = absurd (some-ne-none a (sym e))
below (x ∷ xs) zero a e = omega arith
below (x ∷ xs) (suc i) a e = let r = below xs i a e in omega arith

-- a read of that place gives the element, whatever the default is
pub at_or : {A : Type 0} (l : List A) (i : ℕ) (a d : A) → get_elem? l i ≡ some a → get_or l i d ≡ a
at_or [] i a d e = absurd (some-ne-none a (sym e))
at_or (x ∷ xs) zero a d e = some-injective x a e
at_or (x ∷ xs) (suc i) a d e = at_or xs i a d e

-- a sum after one element has become another
pub sum_after : {A : Type 0} (f : A → ℕ) (l : List A) (i : ℕ) (a b : A) → get_elem? l i ≡ some a → sum_by f (set l i b) + f a ≡ sum_by f l + f b
sum_after f l i a b at = ap (λ x. sum_by f (set l i b) + f x) (sym (at_or l i a a at)) ∙ sum_by-set f l i b a (below l i a at)

-- the first seat has all the others to spare
pub first_spare : (seats : ℕ) → begin (seats - 1) ≡ begin (seats - (0 + 1))
first_spare seats = refl

-- the last one has none
pub last_spare : (s : ℕ) → begin ((s + 1) - (s + 1)) ≡ begin 0
last_spare s = let z : (s + 1) - (s + 1) ≡ 0 = omega arith in ap begin z

-- one seat can be cut off
pub cuts : (seats s id : ℕ) → s + 1 < seats
    → Splits (IsEventTable seats) id (begin (seats - (s + 1))) (begin 0) (begin (seats - ((s + 1) + 1)))
cuts seats s id more st r at =
    let all : Sleeper = begin (seats - (s + 1)) in
    let left : Sleeper = begin (seats - ((s + 1) + 1)) in
    let later : List Sleeper = set st.views id (begin 0) ++ left ∷ [] in
    let sums : (f : Sleeper → ℕ) → f (begin 0) + f left ≡ f all → sum_by f later ≡ sum_by f st.views =
    λ f e. let a = sum_by_push f (set st.views id (begin 0)) left in let b = sum_after f st.views id all (begin 0) at in omega arith in
    record {
      few = r.few;
      places = sums places_of (omega arith) ∙ r.places;
      both = r.both ∙ (λ i. sym (sums one_if_counted refl) i ∷ (sym (sums wakes_of refl) i % 2 ^ 64) ∷ []);
    }
