-- Turnstiles with nobody inside: at the opening, and after what threads did to each seat.
use Rattle.std.proofs.Common.{◌≡◌, ℕ, ◌<◌, List, [], ◌∷◌, get_or, length, sym, refl, ap, ◌∙◌, arith, inr}
use Rattle.std.specs.Prelude.{false}
use Rattle.std.proofs.lemmas.Bool.{false≢true}
use Rattle.range_rw.specs.Contract.{SeatState, first_passes}
use Rattle.range_rw.proofs.SeatLists.{at_firsts}
use Rattle.lock_core.proofs.ByPlace.{below as at_below, at_or}
use Rattle.lock_core.specs.Grants.{Grants}
use Rattle.test_lock.specs.declared.turnstile.Visits.{Visits}
use Rattle.test_lock.specs.Turnstile.{IsInside, IsCounted}
use Rattle.test_lock.specs.Turns.{IsOutside}

-- nobody is inside where each seat came back with nobody inside
pub outside_after : (old new : List (SeatState Visits)) → length new ≡ length old
    → ((k : ℕ) (d : SeatState Visits) → k < length old → (b : SeatState Visits) × (b.pass.inside ≡ false) × (b ≡ get_or new k d)) → IsOutside new
outside_after old new same each k s at =
    let lt = at_below new k s at in let e = each k s (omega arith) in let now : e.0 ≡ s = e.2 ∙ at_or new k s s at in
    sym (ap (λ (x : SeatState Visits). x.pass.inside) now) ∙ e.1

-- a turnstile with nobody inside
pub nobody_yet : (first : ℕ → Visits) (grants : Grants) (seats : ℕ) → ((k : ℕ) → (first k).inside ≡ false)
    → IsCounted grants (0 ∷ []) (first_passes first 0 seats)
nobody_yet first grants seats out =
    let none_in : (n : ℕ) → ¬ (IsInside (first_passes first 0 seats) n) = λ n inside. let m = at_firsts first 0 seats n inside.0 inside.1 in
    false≢true (sym (ap (λ (v : Visits). v.inside) m.1 ∙ out m.0) ∙ inside.2) in
    record { word = omega arith; inside = λ n inside. absurd (none_in n inside); count = inr (refl, none_in) }
