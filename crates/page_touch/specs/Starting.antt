-- What the seats begin with, and that one seat can be cut off. The lemmas are here, since the laws of the table's rule
-- cite them.
use Rattle.std.specs.Prelude.{◌≡◌, ℕ, zero, suc, ◌+◌, ◌-◌, ◌<◌, List, [], ◌∷◌, ◌++◌, length, slice_index, sum_by, Contains, Some, refl}
use Rattle.std.proofs.Common.{set, get_or, sym, ap, ◌∙◌, subst, arith, ⊎_elim}
use Rattle.std.proofs.lemmas.List.Sums.{sum_by-set, sum_by_push}
use mathlib.Core.Option.{some, some-injective, some-ne-none}
use lib.ListN.{get_elem?}
use Rattle.atomic_table.specs.Table.{Splits}
use Rattle.atomic_table.proofs.Lists.{at_set, at_snoc}
use Rattle.page_touch.specs.declared.records.SeatRecord.{SeatRecord}
use Rattle.page_touch.specs.Touched.{IsTouchTable, IsWithin, IsIn, AreOthers, share_sum, begin, quota_of, first_count, first_times}

-- where a list has an element, the place is below its length
pub below : {A : Type 0} (l : List A) (i : ℕ) (a : A) → get_elem? l i ≡ some a → i < length l
below [] i a e = absurd (some-ne-none a (sym e))
below (x ∷ xs) zero a e = omega arith
below (x ∷ xs) (suc i) a e = let r = below xs i a e in omega arith

-- a read of that place gives the element, whatever the default is
pub at_or : {A : Type 0} (l : List A) (i : ℕ) (a d : A) → get_elem? l i ≡ some a → get_or l i d ≡ a
at_or [] i a d e = absurd (some-ne-none a (sym e))
at_or (x ∷ xs) zero a d e = some-injective x a e
at_or (x ∷ xs) (suc i) a d e = at_or xs i a d e

-- a sum after one element has become another
pub sum_after : {A : Type 0} (f : A → ℕ) (l : List A) (i : ℕ) (a b : A) → get_elem? l i ≡ some a → sum_by f (set l i b) + f a ≡ sum_by f l + f b
sum_after f l i a b at = ap (λ x. sum_by f (set l i b) + f x) (sym (at_or l i a a at)) ∙ sum_by-set f l i b a (below l i a at)

-- what is left for the last seat is its own quota
pub last_share : (shares : List ℕ) (s : ℕ) → begin (share_sum shares s ((s + 1) - s)) ≡ begin (share_sum shares s 1)
last_share shares s = let z : (s + 1) - s ≡ 1 = omega arith in ap (λ k. begin (share_sum shares s k)) z

-- what is left for the seats from s on is the first one's quota and what is left behind it
pub one_share : (shares : List ℕ) (s seats : ℕ) → s + 1 < seats
    → share_sum shares s (seats - s) ≡ share_sum shares s 1 + share_sum shares (s + 1) (seats - (s + 1))
one_share shares s seats more =
    let z : seats - s ≡ suc (seats - (s + 1)) = omega arith in
    let o : suc s ≡ s + 1 = omega arith in
    let one : share_sum shares s 1 ≡ slice_index shares s + 0 = refl in
    ap (share_sum shares s) z ∙ (ap (λ n. slice_index shares s + share_sum shares n (seats - (s + 1))) o ∙ omega arith)

-- an empty list has no element
pub none_in : {A : Type 0} (x : A) → Contains [] x → ⊥
none_in x h = let lt = h.1 in omega arith

-- a seat that has touched nothing is within its quota
pub begin_within : (quota : ℕ) → IsWithin (begin quota)
begin_within quota = record { quota = omega arith; firsts = omega arith; member = λ page h. absurd (none_in page h) }

-- one seat can be cut off
pub cuts : (room total : ℕ) (shares : List ℕ) (seats s id : ℕ) → s + 1 < seats
    → Splits (IsTouchTable room total) id (begin (share_sum shares s (seats - s))) (begin (share_sum shares s 1))
    (begin (share_sum shares (s + 1) (seats - (s + 1))))
cuts room total shares seats s id more st r at =
    let all : SeatRecord = begin (share_sum shares s (seats - s)) in
    let one : SeatRecord = begin (share_sum shares s 1) in
    let left : SeatRecord = begin (share_sum shares (s + 1) (seats - (s + 1))) in
    let split = one_share shares s seats more in
    let of_view : (P : SeatRecord → Type 0) → P one → P left
    → ((j : ℕ) (v : SeatRecord) → get_elem? st.views j ≡ some v → P v) → (j : ℕ) (v : SeatRecord)
    → get_elem? (set st.views id one ++ left ∷ []) j ≡ some v → P v =
    λ P p q old j v e. ⊎_elim (λ t. ⊎_elim (λ u. subst P u.1 p) (λ u. old j v u.1) (at_set st.views id j one v t))
    (λ t. subst P t q) (at_snoc (set st.views id one) left v j e) in
    let sums : (f : SeatRecord → ℕ) → f one + f left ≡ f all → sum_by f (set st.views id one ++ left ∷ []) ≡ sum_by f st.views =
    λ f e. let a = sum_by_push f (set st.views id one) left in let b = sum_after f st.views id all one at in omega arith in
    record {
      wide = r.wide;
      some_room = r.some_room;
      enough = r.enough;
      shares = sums quota_of (sym split) ∙ r.shares;
      within = of_view IsWithin (begin_within _) (begin_within _) r.within;
      full = r.full ∙ sym (sums first_count refl);
      told = λ page. sums (first_times page) refl ∙ r.told page;
      alone = r.alone;
      probed = r.probed;
      looked = λ j v l e is. of_view (λ w. w.looking ≡ Some l
          → AreOthers room st.words l.page l.count) (λ i. absurd cc) (λ i. absurd cc) (λ k w a i. r.looked k w l a i) j v e is;
      kept = λ j page v e has. of_view (λ w. Contains w.touched page
          → IsIn room st.words page) (λ i. absurd (none_in page i)) (λ i. absurd (none_in page i)) (λ k w a i. r.kept k page w a i) j v e has;
    }
