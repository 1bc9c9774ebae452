-- The places for seats that were given back: what is so of each is so of the one that was found; a seat that was taken
-- from one is free; and a free seat fits each of them.
use Rattle.std.proofs.Common.{arith, ◌≡◌, ℕ, ◌+◌, ◌<◌, ◌≤◌, ◌∙◌, None, List, [], ◌∷◌, ◌++◌, length, slice_index_or, sym, ap, subst}
use Rattle.std.specs.List.{All}
use Rattle.atomic_table.specs.Seated.{TableId}
use mathlib.Core.Option.{some-ne-none}
use Rattle.list_cuts.specs.Cut.{list_count}
use Rattle.range_rw.specs.Contract.{new_seat_in, AreNewSeatsIn}
use Rattle.range_c.specs.declared.state.Lock.{Lock}
use Rattle.range_c.specs.Recording.{begun}
use Rattle.range_c.specs.Behind.{Behind, RecordingSeat, IsFreeIn, FitsPlace, IsFromPlace, IsPlaceOf}
use Rattle.range_c.proofs.Rows.{Row, behind, taken, longer, fewer}

-- what is so of each element of a list is so of one that was found in a slice of it
pub of_all : {A : Type 0} (P : A → Type 0) {l found : List A} (k : ℕ) {a : A} → found ≡ l → k < length found → a ≡ slice_index_or found k a → All P l → P a
of_all P {found} k {a} same below e all = subst P (sym e) (let h : All P found = subst (All P) (sym same) all in h k a below)

-- places that were made by one seat are for the seats of its table
pub places_of : {t : TableId} {seats : ℕ} {words : List ℕ} (highest : RecordingSeat) (places : List RecordingSeat) → highest.table ≡ t
    → highest.number + 1 ≡ seats → highest.pass.opened ≡ words → All (λ (p : RecordingSeat). p ≡ highest) places → All (IsPlaceOf t seats words) places
places_of {t} {seats} {words} highest places table number opened all k d below =
    let is = all k d below in subst (IsPlaceOf t seats words) (sym is) (record { table = table; number = number; opened = opened })

-- a free seat fits each place of its table
pub fits_all : {t : TableId} {seats number : ℕ} {mine seat : RecordingSeat} (places : List RecordingSeat) → mine.table ≡ t → IsFreeIn seats mine seat
    → seat.number ≡ number → All (IsPlaceOf t seats mine.pass.opened) places → All (λ (p : RecordingSeat). FitsPlace p seat number) places
fits_all {seat} places at free own all k d below =
    let of = all k d below in (
      record {
        table = free.table ∙ (at ∙ sym of.table);
        number = subst (λ n. seat.number < n) (sym of.number) free.number;
        held = free.held;
        scan = free.scan;
        opened = free.opened ∙ sym of.opened;
      },
      own,
    )

-- a seat that was taken from a place of its table is free
pub from_place : {t : TableId} {seats : ℕ} (number : ℕ) (mine seat : RecordingSeat) (places : List RecordingSeat) → mine.table ≡ t
    → All (IsPlaceOf t seats mine.pass.opened) places → IsFromPlace places seat number → IsFreeIn seats mine seat
from_place {t} {seats} number mine seat places at all from =
    let of = subst (IsPlaceOf t seats mine.pass.opened) (sym from.3) (all from.0 from.1 from.2) in
    let free = from.4.0 in
    record {
      table = free.table ∙ (of.table ∙ sym at);
      number = subst (λ n. seat.number < n) of.number free.number;
      held = free.held;
      scan = free.scan;
      opened = free.opened ∙ of.opened;
    }

-- a new seat is free
pub new_free : (lists : ℕ) {seats : ℕ} (k : ℕ) {t : TableId} (mine : RecordingSeat) {seat : RecordingSeat} → mine.table ≡ t → k < seats
    → seat ≡ new_seat_in lists t (begun mine.pass.opened) k → IsFreeIn seats mine seat
new_free lists {seats} k mine at below is = record {
  table = ap (λ (s : RecordingSeat). s.table) is ∙ sym at;
  number = subst (λ (s : RecordingSeat). s.number < seats) (sym is) below;
  held = ap (λ (s : RecordingSeat). s.held) is;
  scan = ap (λ (s : RecordingSeat). s.scan) is;
  opened = ap (λ (s : RecordingSeat). s.pass.opened) is;
}

-- what is behind a handle, over the table of which it has a part
abbrev pub IsOver : Lock → RecordingSeat → ℕ → ℕ → Row → Type 0
IsOver l seat number words spare = (seat.table ≡ l.table.table) × AreNewSeatsIn (list_count l.table.cut) l.table.table (begun seat.pass.opened) spare
    × (l.table.client ≡ words) × (seat.number ≡ number) × (length spare ≤ number) × (number < l.table.seats)
    × All (IsPlaceOf l.table.table l.table.seats seat.pass.opened) l.shelf.places.items × (seat.scan ≡ None)

-- with the last of the seats that are left taken out it is so still
pub over_popped : (l : Lock) (seat : RecordingSeat) (number words : ℕ) {old : Row} (new : Row) (s : RecordingSeat) → old ≡ new ++ s ∷ []
    → IsOver l seat number words old → IsOver l seat number words new
over_popped l seat number words new s e i = (
  i.0,
  (taken (list_count l.table.cut) l.table.table seat.pass.opened new s e i.1).1,
  i.2,
  i.3,
  fewer (longer new s e) i.4,
  i.5,
  i.6,
  i.7,
)

-- the last of the seats that are left to share fits each place
pub last_fits : (lists seats number : ℕ) {len : ℕ} {t : TableId} (mine s : RecordingSeat) {old : Row} (new : Row) (places : List RecordingSeat)
    → mine.table ≡ t → old ≡ new ++ s ∷ [] → AreNewSeatsIn lists t (begun mine.pass.opened) old → length old ≤ number → number < seats → len ≡ length new
    → All (IsPlaceOf t seats mine.pass.opened) places → All (λ (p : RecordingSeat). FitsPlace p s len) places
last_fits lists seats number {t} mine s new places at e all most top count of =
    let is = (taken lists t mine.pass.opened new s e all).0 in let one = longer new s e in
    let below : length new < seats = omega arith in
    fits_all places at (new_free lists (length new) mine at below is) (ap (λ (x : RecordingSeat). x.number) is ∙ sym count) of
