-- The state before any step: its lists, its sizes, and what is held in it.
use Rattle.std.proofs.Common.{◌≡◌, ◌≢◌, ℕ, zero, suc, ◌+◌, ◌*◌, ◌/◌, ◌<◌, ◌≤◌, Bool, true, false, List, [], ◌∷◌, ◌++◌}
use Rattle.std.proofs.Common.{length, map, take, Some, None, refl, sym, ap, ◌∙◌, subst, ⊎_elim, arith, append_assoc}
use Rattle.std.proofs.Common.{append-nil, length-take-le, eqb-true}
use Rattle.std.proofs.lemmas.Bool.{eqb-false, cases_lt}
use Rattle.std.proofs.lemmas.List.{length-replicate, length-map, map-append, take_more}
use Rattle.std.proofs.lemmas.Option.{slice_get_within, get_or_from_slice_get}
use Rattle.std.specs.Prelude.{Option, ◌==◌, if◌then◌else◌, slice_get, slice_index, replicate}
use Rattle.view_lists.specs.Counted.{times}
use Rattle.lock_core.specs.declared.range.Held.{Held}
use Rattle.lock_core.specs.declared.views.View.{View}
use Rattle.lock_core.specs.Words.{word_count, cell_place}
use Rattle.lock_core.specs.Machine.{numbers_from, start_view, start, heap, grant_of, grants_from, held_at}
use Rattle.lock_core.specs.Sizes.{IsOwnEven, IsViewSized, IsSized}
use Rattle.lock_core.proofs.Sizing.{nothing_sized}

-- a run of so many numbers is so long
pub numbers_length : (a k : ℕ) → length (numbers_from a k) ≡ k
numbers_length a zero = refl
numbers_length a (suc k) = ap suc (numbers_length (a + 1) k)

-- a run with its next number at the end is the run of one number more
pub numbers_more : (a k : ℕ) → numbers_from a k ++ (a + k) ∷ [] ≡ numbers_from a (suc k)
numbers_more a zero = ap (λ n. n ∷ []) (omega arith)
numbers_more a (suc k) = let e : a + suc k ≡ a + 1 + k = omega arith in ap (λ l. a ∷ l) (ap (λ n. numbers_from (a + 1) k ++ n ∷ []) e ∙ numbers_more (a + 1) k)

-- one number more
pub map_more : {B : Type 0} (f : ℕ → B) (k : ℕ) → map f (numbers_from 0 k) ++ f k ∷ [] ≡ map f (numbers_from 0 (k + 1))
map_more f k =
    let e : k ≡ 0 + k = omega arith in let one : suc k ≡ k + 1 = omega arith in let more = ap (numbers_from 0) one in
    sym (map-append f (numbers_from 0 k) (k ∷ [])) ∙ ap (map f) (ap (λ n. numbers_from 0 k ++ n ∷ []) e ∙ numbers_more 0 k ∙ more)

-- the grants of one list of held ranges behind another
pub grants-append : (s : ℕ) (os ps : List (Option Held)) → grants_from s (os ++ ps) ≡ grants_from s os ++ grants_from (s + length os) ps
grants-append s [] ps = ap (λ n. grants_from n ps) (omega arith)
grants-append s (o ∷ os) ps =
    let ih = grants-append (s + 1) os ps in
    let e : s + 1 + length os ≡ s + suc (length os) = omega arith in
    ap (λ l. grant_of s o ++ l) (ih ∙ ap (λ n. grants_from (s + 1) os ++ grants_from n ps) e)
    ∙ sym (append_assoc (grant_of s o) (grants_from (s + 1) os) (grants_from (s + suc (length os)) ps))

-- where the numbers of a run of numbers stand
times_before : (x a k : ℕ) → x < a → times x (numbers_from a k) ≡ 0
times_before x a zero l = refl
times_before x a (suc k) l = step (a == x) refl (times_before x (a + 1) k (omega arith))
  where
    step : (b : Bool) → (a == x) ≡ b → times x (numbers_from (a + 1) k) ≡ 0 → (if b then 1 else 0) + times x (numbers_from (a + 1) k) ≡ 0
    step true e ih = let q = eqb-true a x e in absurd (omega arith)
    step false e ih = omega arith

times_behind : (x a k : ℕ) → a + k ≤ x → times x (numbers_from a k) ≡ 0
times_behind x a zero l = refl
times_behind x a (suc k) l = step (a == x) refl (times_behind x (a + 1) k (omega arith))
  where
    step : (b : Bool) → (a == x) ≡ b → times x (numbers_from (a + 1) k) ≡ 0 → (if b then 1 else 0) + times x (numbers_from (a + 1) k) ≡ 0
    step true e ih = let q = eqb-true a x e in absurd (omega arith)
    step false e ih = omega arith

times_inside : (x a k : ℕ) → a ≤ x → x < a + k → times x (numbers_from a k) ≡ 1
times_inside x a zero l g = absurd (omega arith)
times_inside x a (suc k) l g = step (a == x) refl (λ (d : a ≢ x). times_inside x (a + 1) k (omega arith) (omega arith))
  where
    step : (b : Bool) → (a == x) ≡ b → (a ≢ x → times x (numbers_from (a + 1) k) ≡ 1) → (if b then 1 else 0) + times x (numbers_from (a + 1) k) ≡ 1
    step true e ih = let q = eqb-true a x e in let z = times_before x (a + 1) k (omega arith) in omega arith
    step false e ih = let z = ih (eqb-false a x e) in omega arith

-- each node of a seat is ready once
pub start_once : (i x : ℕ) → times x (numbers_from (16 * i) 16) ≡ (if x / 16 == i then 1 else 0)
start_once i x = step (x / 16 == i) refl
  where
    step : (b : Bool) → (x / 16 == i) ≡ b → times x (numbers_from (16 * i) 16) ≡ (if b then 1 else 0)
    step true e = let q = eqb-true _ _ e in times_inside x (16 * i) 16 (omega arith) (omega arith)
    step false e =
        let d = eqb-false _ _ e in
        ⊎_elim
        (λ (l : x < 16 * i). times_before x (16 * i) 16 l)
        (λ (l : 16 * i ≤ x). times_behind x (16 * i) 16 (omega arith))
        (cases_lt x (16 * i))

-- every word is 0
pub zeros : (n i : ℕ) → slice_index (replicate n 0) i ≡ 0
zeros zero i = refl
zeros (suc n) zero = refl
zeros (suc n) (suc i) = zeros n i

-- a view is that of its seat
started_from : (seats a k i : ℕ) (v : View) → slice_get (map (start_view seats) (numbers_from a k)) i ≡ Some v → start_view seats (a + i) ≡ v
started_from seats a zero i v e = absurd (cc)
started_from seats a (suc k) zero v e = let same : start_view seats a ≡ v = cc in ap (start_view seats) (omega arith) ∙ same
started_from seats a (suc k) (suc i) v e = let n : a + suc i ≡ a + 1 + i = omega arith in ap (start_view seats) n ∙ started_from seats (a + 1) k i v e

-- a view of the state before any step is the one with which its seat begins
pub started : (seats i : ℕ) (v : View) → slice_get (start seats).views i ≡ Some v → start_view seats i ≡ v
started seats i v e = let n : i ≡ 0 + i = omega arith in ap (start_view seats) n ∙ started_from seats 0 seats i v e

start_view_sized : (seats i : ℕ) → IsViewSized seats i (start_view seats i)
start_view_sized seats i = record {
  notes = length-replicate seats None;
  passed = length-replicate seats false;
  nodes = record { nodes = λ x. let e = start_once i x in omega arith; homes_used = λ x. omega arith };
  own = nothing_sized seats;
  hand = λ x q. absurd (cc);
  cursor = λ c q. absurd (cc);
}

-- the state before any step has its sizes, for 1 to 16 seats
pub start_sized : (seats : ℕ) → 0 < seats → seats ≤ 16 → IsSized (start seats)
start_sized seats some few = record {
  some = some;
  few = few;
  words = length-replicate (word_count seats) 0;
  views = length-map (numbers_from 0 seats) (start_view seats) ∙ numbers_length 0 seats;
  cells = λ c l. let z = ap (λ n. n / 2) (zeros (word_count seats) (cell_place seats c)) in omega arith;
  each = λ i v e. subst (IsViewSized seats i) (started seats i v e) (start_view_sized seats i);
  even = λ i v e. subst (λ (u : View). IsOwnEven (heap (start seats)) u.own) (started seats i v e) (λ n q. absurd (cc));
}

-- one view more in the list of grants
pub grants_more : (views : List View) (i : ℕ) (v : View) → slice_get views i ≡ Some v →
    grants_from 0 (map (λ (u : View). held_at u.own) (take i views)) ++ grant_of i (held_at v.own) ≡ grants_from 0
    (map (λ (u : View). held_at u.own) (take (i + 1) views))
grants_more views i v at =
    let within = slice_get_within views i v at in
    let more = take_more views i v within ∙ ap (λ (u : View). take i views ++ u ∷ []) (get_or_from_slice_get views i v v at) in
    let held : View → Option Held = λ u. held_at u.own in
    let long : 0 + length (map held (take i views)) ≡ i = let l = length-map (take i views) held in
    let t = length-take-le i views (omega arith) in omega arith in
    sym (ap (λ l. grants_from 0 (map held l)) more ∙ ap (grants_from 0) (map-append held (take i views) (v ∷ []))
    ∙ grants-append 0 (map held (take i views)) (held v ∷ [])
    ∙ ap (λ n. grants_from 0 (map held (take i views)) ++ grants_from n (held v ∷ [])) long
    ∙ ap (λ l. grants_from 0 (map held (take i views)) ++ l) (append-nil (grant_of i (held v))))
