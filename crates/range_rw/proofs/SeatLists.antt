-- Lists of seats for the crates above: before and after what threads did to each, and the two seats of a new table.
-- Then the passes with which the seats of a new table begin, and the steps of a try in a table of one list.
use Rattle.std.proofs.Common.{◌≡◌, ℕ, zero, suc, ◌+◌, ◌<◌, List, [], ◌∷◌, map, get_or, length, sym, refl, ap, ◌∙◌, subst, arith}
use Rattle.std.specs.Prelude.{remove}
use mathlib.Core.Option.{some, some-injective, some-ne-none}
use lib.ListN.{get_elem?}
use Rattle.atomic_table.specs.Seated.{TableId}
use Rattle.atomic_table.proofs.Lists.{at_index}
use Rattle.lock_core.proofs.ByPlace.{below as at_below, at_or, same_or}
use Rattle.range_rw.specs.Contract.{SeatState, AreNewSeats, AreNewSeatsIn, AreIdleSeats, IsGivenBack, first_passes, new_seat, new_seat_in, pass_in}

-- idle seats of which each is back are idle seats again
pub seats_back : {P : Type 0} (table : TableId) (old new : List (SeatState P)) → length new ≡ length old → AreIdleSeats table old → ((k : ℕ) (d : SeatState P) →
    k < length old → (a : SeatState P) × (b : SeatState P) × (a ≡ get_or old k d) × IsGivenBack a b × (b ≡ get_or new k d)) → AreIdleSeats table new
seats_back table old new same idle each k s at = let lt = at_below new k s at in let e = each k s (omega arith) in
    let was : get_elem? old k ≡ some e.0 = at_index old k e.0 (omega arith) (e.2 ∙ same_or old k s e.0 (omega arith)) in let i = idle k e.0 was in
    let now : e.1 ≡ s = e.4 ∙ at_or new k s s at in let back = e.3 in
    (sym (ap (λ x. x.table) now) ∙ (back.table ∙ i.0), sym (ap (λ x. x.number) now) ∙ (back.number ∙ i.1), sym (ap (λ x. x.held) now) ∙ back.held)

module _ {P : Type 0} (table : TableId) where
  -- the first seat of a new table of so many lists, and the second of two
  pub first_new_in : (lists : ℕ) (first : ℕ → P) (seats : List (SeatState P)) (s : SeatState P) → 0 < length seats
      → AreNewSeatsIn lists table first seats → s ≡ get_or seats 0 s → s ≡ new_seat_in lists table first 0
  first_new_in lists first seats s more new is = new 0 s (at_index seats 0 s more is)

  pub second_in : (lists : ℕ) (first : ℕ → P) (seats left : List (SeatState P)) (s : SeatState P) → 1 < length seats
      → AreNewSeatsIn lists table first seats → left ≡ remove seats 0 → s ≡ get_or left 0 s → s ≡ new_seat_in lists table first 1
  second_in lists first [] left s two new rest is = absurd (omega arith)
  second_in lists first (x ∷ []) left s two new rest is = absurd (omega arith)
  second_in lists first (x ∷ y ∷ zs) left s two new rest is = new 1 s (ap some (sym (is ∙ ap (λ l. get_or l 0 s) rest)))

  -- the same of just two
  pub second_new_in : (lists : ℕ) (first : ℕ → P) (seats left : List (SeatState P)) (s : SeatState P) → length seats ≡ 2
      → AreNewSeatsIn lists table first seats → left ≡ remove seats 0 → s ≡ get_or left 0 s → s ≡ new_seat_in lists table first 1
  second_new_in lists first seats left s two = second_in lists first seats left s (omega arith)

  -- and the third of three
  pub third_new_in : (lists : ℕ) (first : ℕ → P) (seats rest left : List (SeatState P)) (s : SeatState P) → length seats ≡ 3 → AreNewSeatsIn lists table first
      seats → rest ≡ remove seats 0 → left ≡ remove rest 0 → s ≡ get_or left 0 s → s ≡ new_seat_in lists table first 2
  third_new_in lists first [] rest left s three new one two is = absurd (omega arith)
  third_new_in lists first (x ∷ []) rest left s three new one two is = absurd (omega arith)
  third_new_in lists first (x ∷ y ∷ []) rest left s three new one two is = absurd (omega arith)
  third_new_in lists first (x ∷ y ∷ z ∷ zs) rest left s three new one two is =
      new 2 s (ap some (sym (is ∙ ap (λ l. get_or l 0 s) (two ∙ ap (λ l. remove l 0) one))))

  -- the same of a table of one list
  pub first_new : (first : ℕ → P) (seats : List (SeatState P)) (s : SeatState P) → 0 < length seats → AreNewSeats table first seats
      → s ≡ get_or seats 0 s → s ≡ new_seat table first 0
  first_new = first_new_in 1

  pub second_new : (first : ℕ → P) (seats left : List (SeatState P)) (s : SeatState P) → length seats ≡ 2 → AreNewSeats table first seats
      → left ≡ remove seats 0 → s ≡ get_or left 0 s → s ≡ new_seat table first 1
  second_new = second_new_in 1

module _ {P : Type 0} where
  -- what is so of each seat before and after is so at each place of the two lists
  pub seats_each : (R : ℕ → SeatState P → SeatState P → Type 0) (old new : List (SeatState P)) → ((k : ℕ) (d : SeatState P) → k < length old → (a : SeatState P)
      × (b : SeatState P) × (a ≡ get_or old k d) × R k a b × (b ≡ get_or new k d)) → (k : ℕ) (a b : SeatState P) → get_elem? old k ≡ some a → get_elem? new k ≡
      some b → R k a b
  seats_each R old new each k a b at_a at_b = let e = each k a (at_below old k a at_a) in let was : e.0 ≡ a = e.2 ∙ at_or old k a a at_a in
      let now : e.1 ≡ b = e.4 ∙ at_or new k b a at_b in subst (λ (z : SeatState P × SeatState P). R k z.0 z.1) (λ i. (was i, now i)) e.3

  -- the pass of a new table's seat is one with which a seat begins
  pub at_firsts : (first : ℕ → P) (n k i : ℕ) (p : P) → get_elem? (first_passes first n k) i ≡ some p → (m : ℕ) × (p ≡ first m)
  at_firsts first n zero i p e = absurd (some-ne-none p (sym e))
  at_firsts first n (suc k) zero p e = (n, sym (some-injective (first n) p e))
  at_firsts first n (suc k) (suc i) p e = at_firsts first (suc n) k i p e

  passes_from : (first : ℕ → P) (n : ℕ) (seats : List (SeatState P)) → ((k : ℕ) (s : SeatState P) → get_elem? seats k ≡ some s → s.pass ≡ first (n + k)) → map
      pass_in seats ≡ first_passes first n (length seats)
  passes_from first n [] all = refl
  passes_from first n (s ∷ rest) all = let head : s.pass ≡ first n = let z : n + 0 ≡ n = omega arith in all 0 s refl ∙ ap first z in
      let more = passes_from first (suc n) rest (λ k t at. let z : n + suc k ≡ suc n + k = omega arith in all (suc k) t at ∙ ap first z) in λ i. head i ∷ more i

  -- the passes of a new table's seats are those with which its seats begin
  pub new_passes : (table : TableId) (first : ℕ → P) (seats : List (SeatState P)) → AreNewSeats table first seats
      → map pass_in seats ≡ first_passes first 0 (length seats)
  new_passes table first seats new = passes_from first 0 seats (λ k s at. let z : k ≡ 0 + k = omega arith in
      ap (λ (x : SeatState P). x.pass) (new k s at) ∙ ap first z)
