-- Tests of a list by counts, and a list without another in parts.
use Rattle.std.proofs.Common.{◌≡◌, ℕ, zero, suc, ◌+◌, ◌≤◌, Bool, true, false, List, [], ◌∷◌, ◌++◌, Some, length, take}
use Rattle.std.proofs.Common.{drop, remove, ◌<◌, refl, sym, ap, subst, ◌∙◌, arith, zero-add, eqb-true, eq-eqb}
use Rattle.std.proofs.Common.{append_assoc}
use Rattle.std.specs.Prelude.{◌==◌, ◌||◌, not, if◌then◌else◌, slice_get, get_or}
use Rattle.std.specs.Bool.{OnTrue}
use Rattle.std.specs.List.{list_any, All}
use Rattle.std.proofs.lemmas.Bool.Decides.{nat_tests}
use Rattle.std.proofs.lemmas.List.Elements.{All-take, All-drop, All-append}
use Rattle.std.proofs.lemmas.Option.{slice_get-get_or}
use Rattle.view_lists.specs.Counted.{times, without}

-- the test of a list for a node, by counts
pub any_times : (node : ℕ) (l : List ℕ) → list_any (λ y. y == node) l ≡ not (times node l == 0)
any_times node [] = refl
any_times node (y ∷ ys) = split (y == node) (any_times node ys)
  where
    split : (b : Bool) → list_any (λ z. z == node) ys ≡ not (times node ys == 0)
        → (b || list_any (λ z. z == node) ys) ≡ not ((if b then 1 else 0) + times node ys == 0)
    split true e = grind (arith, nat_tests)
    split false e = e ∙ ap (λ n. not (n == 0)) (sym (zero-add (times node ys)))

-- a node that stands at a place is counted
pub place_counts : (l : List ℕ) (i node : ℕ) → slice_get l i ≡ Some node → 1 ≤ times node l
place_counts [] i node e = absurd (cc)
place_counts (y ∷ ys) zero node e =
    let one : ◌≡◌ {A = ℕ} (if y == node then 1 else 0) 1 = ap (λ (b : Bool). if b then 1 else 0) (eq-eqb y node cc) in omega arith
place_counts (y ∷ ys) (suc i) node e = let more = place_counts ys i node e in omega arith

counted_in : (front l : List ℕ) (node : ℕ) → 1 ≤ times node (front ++ node ∷ l)
counted_in [] l node =
    let one : ◌≡◌ {A = ℕ} (if node == node then 1 else 0) 1 = ap (λ (b : Bool). if b then 1 else 0) (eq-eqb node node refl) in omega arith
counted_in (y ∷ front) l node = let more = counted_in front l node in omega arith

-- a list without a longer one that ends as it does: nothing is left
without_longer : (front l : List ℕ) → without (front ++ l) l ≡ []
without_longer front [] = refl
without_longer front (y ∷ ys) = gone (times y (front ++ y ∷ ys) == 0) refl (without_longer (front ++ y ∷ []) ys)
  where
    gone : (b : Bool) → (times y (front ++ y ∷ ys) == 0) ≡ b → without ((front ++ y ∷ []) ++ ys) ys ≡ []
        → (if b then y ∷ without (front ++ y ∷ ys) ys else without (front ++ y ∷ ys) ys) ≡ []
    gone true e rest = let none = eqb-true (times y (front ++ y ∷ ys)) 0 e in let some = counted_in front ys y in absurd (omega arith)
    gone false e rest = subst (λ l. without l ys ≡ []) (append_assoc front (y ∷ []) ys) rest

-- of a list without itself nothing is left
pub without_itself : (l : List ℕ) → without l l ≡ []
without_itself l = without_longer [] l

-- a node at its place, by the test that finds it there
pub when_equal : (l : List ℕ) (i d there node : ℕ) → i < length l → there ≡ get_or l i d → OnTrue (there == node) (1 ≤ times node l)
when_equal l i d there node less at = by (there == node) refl
  where
    by : (b : Bool) → (there == node) ≡ b → OnTrue b (1 ≤ times node l)
    by true e = place_counts l i node (slice_get-get_or l i d less ∙ ap Some (sym at ∙ eqb-true there node e))
    by false e = tt

-- a node that no node of a list comes up to isn't in it
pub none_above : (node top : ℕ) (l : List ℕ) → All (λ x. x ≤ top) l → top < node → times node l ≡ 0
none_above node top [] low above = refl
none_above node top (y ∷ ys) low above = by (y == node) refl (none_above node top ys (λ k d less. low (suc k) d (omega arith)) above)
  where
    by : (b : Bool) → (y == node) ≡ b → times node ys ≡ 0 → (if b then 1 else 0) + times node ys ≡ 0
    by true e rest = let same = eqb-true y node e in let first = low zero 0 (omega arith) in absurd (omega arith)
    by false e rest = zero-add (times node ys) ∙ rest

-- a list that lost one node isn't higher than it was
pub All-removed : (top : ℕ) (xs new : List ℕ) (i : ℕ) → All (λ x. x ≤ top) xs → new ≡ remove xs i → All (λ x. x ≤ top) new
All-removed top xs new i low is = subst (All (λ x. x ≤ top)) (sym is) (removed xs i low)
  where
    removed : (ys : List ℕ) (k : ℕ) → All (λ x. x ≤ top) ys → All (λ x. x ≤ top) (remove ys k)
    removed ys k all = All-append (λ x. x ≤ top) (take k ys) (drop (suc k) ys) (All-take (λ x. x ≤ top) k ys all) (All-drop (λ x. x ≤ top) (suc k) ys all)

-- to take a node of the first list out of another, at its place, changes nothing of what is left without the first
pub removed_done : (gone xs : List ℕ) (i x : ℕ) → i < length xs → x ≡ get_or xs i x → not (times x gone == 0) ≡ true
    → take i (remove xs i) ++ without gone (drop i (remove xs i)) ≡ take i xs ++ without gone (drop i xs)
removed_done gone [] i x less at some = absurd (omega arith)
removed_done gone (y ∷ ys) zero x less at some = by (times y gone == 0) refl
  where
    by : (b : Bool) → (times y gone == 0) ≡ b → without gone ys ≡ (if b then y ∷ without gone ys else without gone ys)
    by true e = let same : x ≡ y = at in absurd (cc)
    by false e = refl
removed_done gone (y ∷ ys) (suc i) x less at some = ap (λ l. y ∷ l) (removed_done gone ys i x (omega arith) at some)
