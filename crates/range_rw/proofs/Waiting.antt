-- What the nodes at home wait for: none at the opening, and later each seat that isn't passed, with its note.
use Rattle.std.proofs.Common.{◌≡◌, ℕ, zero, suc, ◌+◌, Bool, true, false, List, [], ◌∷◌, refl, ap, ◌∙◌, arith, eq-eqb, ne_eqb}
use Rattle.std.specs.Prelude.{Option, Some, None, ◌==◌, if◌then◌else◌, unwrap_or, slice_get, find, replicate}
use Rattle.range_rw.specs.Contract.{Waited}
use Rattle.range_rw.specs.Seats.{waits_at, waits_from}

-- where no epoch is noted the homes wait for nobody
pub no_waits : (n k : ℕ) (passed : List Bool) → waits_from k (replicate n None) passed ≡ []
no_waits zero k passed = refl
no_waits (suc n) k passed = no_waits n (suc k) passed

-- a seat behind the first one is looked for in the rest
behind : (k n : ℕ) (noted : Option ℕ) (passed : Bool) (rest : List Waited) → (k == n) ≡ false
    → find (λ w. w.seat == n) (waits_at k noted passed rest) ≡ find (λ w. w.seat == n) rest
behind k n None passed rest far = refl
behind k n (Some epoch) true rest far = refl
behind k n (Some epoch) false rest far = ap (λ (b : Bool). if b then Some (record { seat = k; epoch = epoch }) else find (λ w. w.seat == n) rest) far

here : (k n epoch : ℕ) (noted : Option ℕ) (passed : Bool) (rest : List Waited) → k ≡ n → noted ≡ Some epoch → passed ≡ false
    → find (λ w. w.seat == n) (waits_at k noted passed rest) ≡ Some (record { seat = n; epoch = epoch })
here k n epoch noted passed rest same is out = (λ i. find (λ w. w.seat == n) (waits_at k (is i) (out i) rest)) ∙ (ap (λ (b : Bool). if b then Some
    (record { seat = k; epoch = epoch }) else find (λ w. w.seat == n) rest) (eq-eqb k n same) ∙ (λ i. Some (record { seat = same i; epoch = epoch })))

-- a seat that isn't passed, and of which an epoch is noted, is found among those that are waited for
pub waits_found : (notes : List (Option ℕ)) (passed : List Bool) (k j n epoch : ℕ) → n ≡ k + j → unwrap_or (slice_get notes j) None ≡ Some epoch → unwrap_or
    (slice_get passed n) false ≡ false → find (λ w. w.seat == n) (waits_from k notes passed) ≡ Some (record { seat = n; epoch = epoch })
waits_found [] passed k j n epoch at is out = absurd (let z : ◌≡◌ {A = Option ℕ} None (Some epoch) = is in cc)
waits_found (noted ∷ notes) passed k zero n epoch at is out = let same : k ≡ n = omega arith in here k n epoch noted (unwrap_or (slice_get passed k) false)
    (waits_from (suc k) notes passed) same is (ap (λ m. unwrap_or (slice_get passed m) false) same ∙ out)
waits_found (noted ∷ notes) passed k (suc j) n epoch at is out = behind k n noted (unwrap_or (slice_get passed k) false) (waits_from (suc k) notes passed)
    (ne_eqb k n (λ e. absurd (omega arith))) ∙ waits_found notes passed (suc k) j n epoch (omega arith) is out
