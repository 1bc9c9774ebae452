-- The rule holds when the two words are 0, and the seats are handed out as they are cut off.
use Rattle.std.proofs.Common.{◌≡◌, ℕ, suc, ◌+◌, ◌-◌, ◌<◌, ◌≤◌, List, [], ◌∷◌, ◌++◌, length, get_or, remove, replicate}
use Rattle.std.proofs.Common.{refl, sym, ap, ◌∙◌, arith, length-append}
use Rattle.std.proofs.lemmas.List.{replicate_more}
use mathlib.Core.Option.{some}
use lib.ListN.{get_elem?}
use Rattle.atomic_table.specs.Table.{opening}
use Rattle.atomic_table.specs.Seated.{TableId}
use Rattle.atomic_table.specs.declared.shared.Seat.{Seat}
use Rattle.atomic_table.proofs.Lists.{at_index}
use Rattle.event_count.specs.declared.records.Sleeper.{Sleeper}
use Rattle.event_count.specs.Events.{IsEventTable, begin}
use Rattle.event_count.specs.Calls.{SeatView, new_seat}

-- the rule of two words that are 0, with one seat that has all others to spare
pub begins : {key_seats seats : ℕ} → key_seats ≡ seats → 0 < seats → seats ≤ 16
    → IsEventTable key_seats (opening (0 ∷ 0 ∷ []) [] (begin (seats - (0 + 1))))
begins e lo hi = record { few = omega arith; places = omega arith; both = refl }

-- all seats of a new table are alike
abbrev pub Waiting : TableId → List (Seat (Unit {0}) Sleeper) → Type 0
Waiting table opened = (k : ℕ) (s : Seat (Unit {0}) Sleeper) → get_elem? opened k ≡ some s → (s.table_id ≡ table) × (s.me ≡ (begin 0, []))

pub next_seat : (table : TableId) (opened : List (Seat (Unit {0}) Sleeper)) {s : Seat (Unit {0}) Sleeper} → Waiting table opened → 0 < length opened
    → s ≡ get_or opened 0 s → (s.table_id ≡ table) × (s.me ≡ (begin 0, []))
next_seat table opened {s} wait more is = wait 0 s (at_index opened 0 s more is)

pub wait_on : (table : TableId) (opened : List (Seat (Unit {0}) Sleeper)) {left : List (Seat (Unit {0}) Sleeper)} → Waiting table opened
    → left ≡ remove opened 0 → Waiting table left
wait_on table opened wait is k s at = wait (suc k) s (moved opened k ∙ (ap (λ l. get_elem? l k) (sym is) ∙ at))
  where
    moved : (l : List (Seat (Unit {0}) Sleeper)) (k : ℕ) → get_elem? l (suc k) ≡ get_elem? (remove l 0) k
    moved [] k = refl
    moved (x ∷ xs) k = refl

-- one seat more
pub more_seats : (table : TableId) {made now : List SeatView} {s : SeatView} → made ≡ replicate (length made) (new_seat table) → s ≡ new_seat table
    → now ≡ made ++ s ∷ [] → now ≡ replicate (length now) (new_seat table)
more_seats table {made} {now} {s} is e more =
    let longer : length made + 1 ≡ length now = sym (ap (λ (l : List SeatView). length l) more ∙ length-append made (s ∷ [])) in
    more ∙ ((λ i. is i ++ e i ∷ []) ∙ (replicate_more (length made) (new_seat table) ∙ ap (λ n. replicate n (new_seat table)) longer))
