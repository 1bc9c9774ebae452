-- Seats of a new list's hands, one after another, and the hands of seats that hold nothing.
use Rattle.std.proofs.Common.{◌≡◌, ℕ, zero, suc, ◌+◌, ◌-◌, ◌<◌, ◌≤◌, List, [], ◌∷◌, ◌++◌, map, get_or, length, inl, refl, sym, ap, ◌∙◌, subst, arith}
use Rattle.std.proofs.lemmas.List.{map-append}
use Rattle.std.specs.Prelude.{remove, replicate, false, None}
use mathlib.Core.Option.{some}
use lib.ListN.{get_elem?}
use Rattle.atomic_table.specs.Seated.{TableId}
use Rattle.atomic_table.proofs.Lists.{at_index}
use Rattle.lock_core.specs.declared.views.Own.TheVariants.{Nothing}
use Rattle.lock_core.specs.Machine.{held_at, numbers_from, start_view}
use Rattle.lock_core.specs.declared.views.View.{View}
use Rattle.epoch_pools.specs.declared.views.SeatPart.{SeatPart}
use Rattle.epoch_pools.specs.Beside.{core_at, shown, shown_core}
use Rattle.epoch_pools.specs.Hands.{HandState, IsResting, fresh, new_hand, pass_in as hand_pass}
use Rattle.epoch_pools.proofs.Opening.{first_core}
use Rattle.epoch_pools.proofs.Turning.{core_shown}
use Rattle.range_rw.specs.Contract.{SeatState, first_pools, new_seat_in, pass_in}
use Rattle.epoch_pools.specs.declared.views.Beside.{Beside}
use Rattle.range_rw.specs.Seats.{IsBetween, IsSeated, pools_of, is_fast, seat_of, seat_state_of}
use Rattle.range_rw.proofs.Seated.{seated_grant, free_shown, rests_closed}
use Rattle.range_rw.proofs.Waiting.{no_waits}
use Rattle.range_rw.proofs.Lists.{at_removed, first_of_list, append_one}

-- each of so many views is the one that was put there
own_replicate : (k j : ℕ) (v : View) → v.own ≡ Nothing → (core_at j (replicate k v)).own ≡ Nothing
own_replicate zero j v none = refl
own_replicate (suc k) zero v none = none
own_replicate (suc k) (suc j) v none = own_replicate k j v none

module _ {P : Type 0} (table : TableId) (first : ℕ → P) (lists seats : ℕ) where
  -- the hands from number n on of a new list
  abbrev pub IsNewFrom : ℕ → List (HandState (Beside P)) → Type 0
  IsNewFrom n hands = (k : ℕ) (h : HandState (Beside P)) → get_elem? hands k ≡ some h → h ≡ new_hand table first lists seats (n + k)

  abbrev new_part : ℕ → SeatPart (Beside P)
  new_part n = shown lists 0 (fresh (first n) lists seats n)

  -- what a new hand shows of each list is the first view
  new_shows : (n : ℕ) → (j : ℕ) → j < lists → shown_core (new_part n) j ≡ start_view seats n
  new_shows n j less = core_shown lists 0 (fresh (first n) lists seats n) j ∙ first_core lists j seats n less

  new_part_seated : (n : ℕ) → 0 < lists → IsSeated (new_part n)
  new_part_seated n more =
      let core : (new_part n).core ≡ start_view seats n = first_core lists 0 seats n more in
      record {
        there = more;
        current = subst IsBetween (sym core) (record { own = tt; hand = refl; cursor = inl refl });
        others = λ j away. ap (λ (v : View). v.own) (core_shown lists 0 (fresh (first n) lists seats n) j) ∙ own_replicate lists j (start_view seats n) refl;
        counts = λ held. absurd (held (ap (λ (v : View). held_at v.own) core));
        free = λ none. refl;
        one = λ e. refl;
      }

  -- a new hand is behind a seat between two calls
  pub new_seated : (n : ℕ) (h : HandState (Beside P)) → 0 < lists → h ≡ new_hand table first lists seats n → IsSeated h.part
  new_seated n h more e = subst (λ (x : HandState (Beside P)). IsSeated x.part) (sym e) (new_part_seated n more)

  new_pools : (n : ℕ) → pools_of (start_view seats n) ≡ first_pools n
  new_pools n = λ i. record (first_pools n) { waits = no_waits seats 0 (replicate seats false) i }

  new_further : (n from many : ℕ) → from + many ≤ lists
      → map (λ j. pools_of (shown_core (new_part n) j)) (numbers_from from many) ≡ replicate many (first_pools n)
  new_further n from zero le = refl
  new_further n from (suc many) le = λ i. (ap pools_of (new_shows n from (omega arith)) ∙ new_pools n) i ∷ new_further n (from + 1) many (omega arith) i

  -- the seat of a new hand is a new seat
  pub seat_is : (n : ℕ) (h : HandState (Beside P)) → 0 < lists → h ≡ new_hand table first lists seats n → seat_state_of h ≡ new_seat_in lists table first n
  seat_is n h more e = ap seat_state_of e
      ∙ (λ i. record (new_seat_in lists table first n) {
        held =
            (seated_grant (new_part n) (new_part_seated n more) ∙ ap (λ (v : View). held_at v.own) (first_core lists 0 seats n more)) i;
        pools = (ap pools_of (new_shows n 0 more) ∙ new_pools n) i;
        further = new_further n 1 (lists - 1) (omega arith) i;
        scan = rests_closed (new_part n)
            (subst IsResting (sym (first_core lists 0 seats n more)) (record { outside = refl; cursor = refl; hand = refl })) i;
      })

  -- the hand that comes next, and that it has no node of its own
  pub next_hand : (n : ℕ) (hands : List (HandState (Beside P))) (h : HandState (Beside P)) → IsNewFrom n hands → 0 < length hands
      → h ≡ get_or hands 0 h → h ≡ new_hand table first lists seats n
  next_hand n hands h rest more is = let z : n + 0 ≡ n = omega arith in rest 0 h (at_index hands 0 h more is) ∙ ap (new_hand table first lists seats) z

  -- the seat of the hand that comes next is a new one
  pub next_new : (n : ℕ) (hands : List (HandState (Beside P))) (h : HandState (Beside P)) → 0 < lists → IsNewFrom n hands → 0 < length hands
      → h ≡ get_or hands 0 h → seat_of (is_fast false h) h ≡ new_seat_in lists table first n
  next_new n hands h there rest more is = let z : n + 0 ≡ n = omega arith in
      let new = seat_is n h there (rest 0 h (at_index hands 0 h more is) ∙ ap (new_hand table first lists seats) z) in
      free_shown h false (ap (λ (s : SeatState P). s.held) new) ∙ new

  -- without the first the rest are those from the next number on
  pub new_on : (n : ℕ) (hands left : List (HandState (Beside P))) → IsNewFrom n hands → left ≡ remove hands 0 → IsNewFrom (n + 1) left
  new_on n hands left rest is k h at = let z : n + suc k ≡ (n + 1) + k = omega arith in
      rest (suc k) h (sym (at_removed hands k) ∙ (ap (λ l. get_elem? l k) (sym is) ∙ at)) ∙ ap (new_hand table first lists seats) z

module _ {P : Type 0} (table : TableId) where
  -- the seats from number n on, which hold nothing
  abbrev pub IsIdleFrom : ℕ → List (SeatState P) → Type 0
  IsIdleFrom n seats = (k : ℕ) (s : SeatState P) → get_elem? seats k ≡ some s → (s.table ≡ table) × (s.number ≡ n + k) × (s.held ≡ None)

  -- the seat that comes next is of the table, has the next number and holds nothing
  pub next_idle : (n : ℕ) (seats : List (SeatState P)) (s : SeatState P) → IsIdleFrom n seats → 0 < length seats → s ≡ get_or seats 0 s
      → (s.table ≡ table) × (s.number ≡ n) × (s.held ≡ None)
  next_idle n seats s rest more is = let i = rest 0 s (at_index seats 0 s more is) in let z : n + 0 ≡ n = omega arith in (i.0, i.1 ∙ z, i.2)

  -- without the first the rest are those from the next number on
  pub idle_on : (n : ℕ) (seats left : List (SeatState P)) → IsIdleFrom n seats → left ≡ remove seats 0 → IsIdleFrom (n + 1) left
  idle_on n seats left rest is k s at = let z : n + suc k ≡ (n + 1) + k = omega arith in
      let i = rest (suc k) s (sym (at_removed seats k) ∙ (ap (λ l. get_elem? l k) (sym is) ∙ at)) in (i.0, i.1 ∙ z, i.2)

-- taking one seat's hand keeps the passes of the hands that are made and the seats that are left
pub passes_on : {P : Type 0} (hands : List (HandState (Beside P))) (h : HandState (Beside P)) (seats left : List (SeatState P)) (s : SeatState P) (all : List P)
    → map hand_pass hands ++ map pass_in seats ≡ all → 0 < length seats → s ≡ get_or seats 0 s → left ≡ remove seats 0 → h.part.pass.pass ≡ s.pass → map
    hand_pass (hands ++ h ∷ []) ++ map pass_in left ≡ all
passes_on {P} hands h seats left s all before more is rest same = let whole : seats ≡ s ∷ left = first_of_list seats s more is ∙ ap (λ l. s ∷ l) (sym rest) in
    ap (λ l. l ++ map pass_in left) (map-append hand_pass hands (h ∷ [])) ∙ (append_one (map hand_pass hands) h.part.pass.pass (map pass_in left) ∙ (ap (λ
    (q : P). map hand_pass hands ++ q ∷ map pass_in left) same ∙ (ap (λ l. map hand_pass hands ++ map pass_in l) (sym whole) ∙ before)))
