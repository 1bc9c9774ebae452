-- A step on one of the two words keeps the rule: what a word becomes is what the seats' counts come to.
use Rattle.std.proofs.Common.{◌≡◌, ℕ, ◌+◌, ◌-◌, ◌%◌, ◌^◌, ◌<◌, ◌≤◌, Bool, true, false, List, [], ◌∷◌, get_or, set, cond}
use Rattle.std.proofs.Common.{refl, sym, ap, subst, ◌∙◌, arith}
use Rattle.std.proofs.lemmas.List.Sums.{get_or-le-sum_by, sum_by-le-sum_by}
use Rattle.std.proofs.Math.Nat.{mod-add-mod}
use mathlib.Core.Option.{some}
use lib.ListN.{get_elem?}
use Rattle.atomic_table.specs.Table.{Me, keeps, Allows}
use Rattle.event_count.specs.declared.records.Sleeper.{Sleeper}
use Rattle.event_count.specs.declared.records.EventStep.TheVariants.{Counted, Read, Left, Asked, Advanced}
use Rattle.event_count.specs.Events.{Ruled, IsEventTable, CountsEachSleeper, after_step, one_if_counted, wakes_of, places_of, sleepers, advances}
use Rattle.event_count.specs.Events.{counts_play, reads_play, leaves_play, asks_play, advances_play}
use Rattle.event_count.specs.Starting.{below, at_or, sum_after}

-- a seat that is counted is one
one_of : (v : Sleeper) (b : Bool) → v.counted ≡ b → one_if_counted v ≡ cond b 1 0
one_of v b e = ap (λ (x : Bool). cond x 1 0) e

small_by : (b : Bool) → cond b 1 0 ≤ 1
small_by true = omega arith
small_by false = omega arith

-- as many are counted as there are seats at most
few_sleepers : {seats : ℕ} {words : List ℕ} {views : List Sleeper} → Ruled seats words views → sleepers views ≤ 16
few_sleepers {views} r =
    let le = sum_by-le-sum_by one_if_counted places_of views (λ v. let s = small_by v.counted in omega arith) in
    let a = r.places in let b = r.few in omega arith

-- one more may be counted, if this one isn't
room_for : {seats : ℕ} {words : List ℕ} {views : List Sleeper} (id : ℕ) (v : Sleeper) → Ruled seats words views
    → get_elem? views id ≡ some v → v.counted ≡ false → sleepers views < 16
room_for {views} id v r at out =
    let w : Sleeper = after_step (Counted 0) v in
    let s = sum_after one_if_counted views id v w at in
    let p = sum_after places_of views id v w at in
    let le = sum_by-le-sum_by one_if_counted places_of (set views id w) (λ u. let t = small_by u.counted in omega arith) in
    let o = one_of v false out in let a = r.places in let b = r.few in omega arith

-- who is counted is among those who are
some_sleeper : (views : List Sleeper) (id : ℕ) (v : Sleeper) → get_elem? views id ≡ some v → v.counted ≡ true → 0 < sleepers views
some_sleeper views id v at counted =
    let lt = below views id v at in let le = get_or-le-sum_by one_if_counted views id v lt in
    let one : one_if_counted (get_or views id v) ≡ 1 = ap one_if_counted (at_or views id v v at) ∙ one_of v true counted in omega arith

-- the rule after a step of seat id, by what the two words are then
after : {seats : ℕ} {words : List ℕ} {views : List Sleeper} (id : ℕ) (v w : Sleeper) → Ruled seats words views → get_elem? views id ≡ some v
    → w.spare ≡ v.spare → (a b : ℕ) → a ≡ sleepers (set views id w) → b ≡ advances (set views id w) % 2 ^ 64
    → Ruled seats (a ∷ b ∷ []) (set views id w)
after {views} id v w r at spare a b one other = record {
  few = r.few;
  places = (let s = sum_after places_of views id v w at in omega arith) ∙ r.places;
  both = λ i. one i ∷ other i ∷ [];
}

-- a step that leaves a seat counted, or not, leaves the count
same_count : (views : List Sleeper) (id : ℕ) (v w : Sleeper) → get_elem? views id ≡ some v → w.counted ≡ v.counted
    → sleepers views ≡ sleepers (set views id w)
same_count views id v w at same =
    let s = sum_after one_if_counted views id v w at in
    let e : one_if_counted w ≡ one_if_counted v = ap (λ (x : Bool). cond x 1 0) same in omega arith

same_advances : (views : List Sleeper) (id : ℕ) (v w : Sleeper) → get_elem? views id ≡ some v → w.wakes ≡ v.wakes
    → advances views % 2 ^ 64 ≡ advances (set views id w) % 2 ^ 64
same_advances views id v w at same =
    let s = sum_after wakes_of views id v w at in
    let e : advances views ≡ advances (set views id w) = omega arith in ap (λ n. n % 2 ^ 64) e

-- one less, as a word of 64 bits takes it
less_one : (n : ℕ) → 0 < n → n ≤ 16 → (n + (2 ^ 64 - 1)) % 2 ^ 64 ≡ n - 1
less_one n lo hi = omega arith

more_one : (n : ℕ) → n < 16 → (n + 1) % 2 ^ 64 ≡ n + 1
more_one n lo = omega arith

-- a seat that isn't counted may count itself
pub count_allows : (seats slots id : ℕ) (me : Me (Unit {0}) Sleeper) → me.0.counted ≡ false
    → Allows (IsEventTable seats) slots id me 0 (λ n. (n + 1) % 2 ^ 64) (counts_play me)
count_allows seats slots id me out s r _ at small =
    let v : Sleeper = me.0 in
    let n : ℕ = sleepers s.views in
    let P : List ℕ → Type 0 = λ ws. (w : Sleeper) × Ruled seats (set ws 0 ((get_or ws 0 0 + 1) % 2 ^ 64)) (set s.views id w)
    × (w ≡ after_step (Counted (get_or ws 0 0)) v) × (get_or ws 0 0 < 16) in
    let w : Sleeper = after_step (Counted n) v in
    let lt = room_for id v r at out in
    let sum = sum_after one_if_counted s.views id v w at in let o = one_of v false out in
    let done : P (n ∷ (advances s.views % 2 ^ 64) ∷ []) = (
      w,
      after id v w r at refl ((n + 1) % 2 ^ 64) (advances s.views % 2 ^ 64) (more_one n lt ∙ omega arith) (same_advances s.views id v w at refl),
      refl,
      lt,
    ) in
    let got = subst P (sym r.both) done in (got.0, keeps, tt, got.1, (refl, got.2, got.3))

-- a seat that is counted may count itself out
pub leave_allows : (seats slots id : ℕ) (me : Me (Unit {0}) Sleeper) → me.0.counted ≡ true
    → Allows (IsEventTable seats) slots id me 0 (λ n. (n + (2 ^ 64 - 1)) % 2 ^ 64) (leaves_play me)
leave_allows seats slots id me counted s r _ at small =
    let v : Sleeper = me.0 in
    let n : ℕ = sleepers s.views in
    let P : List ℕ → Type 0 = λ ws. (w : Sleeper) × Ruled seats (set ws 0 ((get_or ws 0 0 + (2 ^ 64 - 1)) % 2 ^ 64)) (set s.views id w)
    × (w ≡ after_step (Left (get_or ws 0 0)) v) × (0 < get_or ws 0 0) in
    let w : Sleeper = after_step (Left n) v in
    let some_one = some_sleeper s.views id v at counted in
    let sum = sum_after one_if_counted s.views id v w at in let o = one_of v true counted in
    let done : P (n ∷ (advances s.views % 2 ^ 64) ∷ []) = (
      w,
      after id v w r at refl ((n + (2 ^ 64 - 1)) % 2 ^ 64) (advances s.views % 2 ^ 64) (less_one n some_one (few_sleepers r) ∙ omega arith)
          (same_advances s.views id v w at refl),
      refl,
      some_one,
    ) in
    let got = subst P (sym r.both) done in (got.0, keeps, tt, got.1, (refl, got.2, got.3))

-- any seat may load the event word
pub read_allows : (seats slots id : ℕ) (me : Me (Unit {0}) Sleeper) → Allows (IsEventTable seats) slots id me 1 (λ n. n) (reads_play me)
read_allows seats slots id me s r _ at small =
    let v : Sleeper = me.0 in
    let e : ℕ = advances s.views % 2 ^ 64 in
    let P : List ℕ → Type 0 = λ ws. (w : Sleeper) × Ruled seats (set ws 1 (get_or ws 1 0)) (set s.views id w)
    × (w ≡ after_step (Read (get_or ws 1 0)) v) in
    let w : Sleeper = after_step (Read e) v in
    let done : P (sleepers s.views ∷ e ∷ []) = (
      w,
      after id v w r at refl (sleepers s.views) e (same_count s.views id v w at refl) (same_advances s.views id v w at refl),
      refl,
    ) in
    let got = subst P (sym r.both) done in (got.0, keeps, tt, got.1, (refl, got.2))

-- any seat may load the count
pub ask_allows : (seats slots id : ℕ) (me : Me (Unit {0}) Sleeper) → Allows (IsEventTable seats) slots id me 0 (λ n. n) (asks_play me)
ask_allows seats slots id me s r _ at small =
    let v : Sleeper = me.0 in
    let n : ℕ = sleepers s.views in
    let P : List ℕ → Type 0 = λ ws. (w : Sleeper) × Ruled seats (set ws 0 (get_or ws 0 0)) (set s.views id w)
    × (w ≡ after_step (Asked (get_or ws 0 0)) v) × (get_or ws 0 0 ≤ 16) in
    let w : Sleeper = after_step (Asked n) v in
    let done : P (n ∷ (advances s.views % 2 ^ 64) ∷ []) = (
      w,
      after id v w r at refl n (advances s.views % 2 ^ 64) (same_count s.views id v w at refl) (same_advances s.views id v w at refl),
      refl,
      few_sleepers r,
    ) in
    let got = subst P (sym r.both) done in (got.0, keeps, tt, got.1, (refl, got.2, got.3))

-- any seat may advance the event word
pub advance_allows : (seats slots id : ℕ) (me : Me (Unit {0}) Sleeper)
    → Allows (IsEventTable seats) slots id me 1 (λ n. (n + 1) % 2 ^ 64) (advances_play me)
advance_allows seats slots id me s r _ at small =
    let v : Sleeper = me.0 in
    let e : ℕ = advances s.views % 2 ^ 64 in
    let P : List ℕ → Type 0 = λ ws. (w : Sleeper) × Ruled seats (set ws 1 ((get_or ws 1 0 + 1) % 2 ^ 64)) (set s.views id w)
    × (w ≡ after_step (Advanced (get_or ws 1 0)) v) in
    let w : Sleeper = after_step (Advanced e) v in
    let sum = sum_after wakes_of s.views id v w at in
    let more : advances s.views + 1 ≡ advances (set s.views id w) = omega arith in
    let done : P (sleepers s.views ∷ e ∷ []) = (
      w,
      after id v w r at refl (sleepers s.views) ((e + 1) % 2 ^ 64) (same_count s.views id v w at refl)
          (mod-add-mod (advances s.views) (2 ^ 64) 1 ∙ ap (λ n. n % 2 ^ 64) more),
      refl,
    ) in
    let got = subst P (sym r.both) done in (got.0, keeps, tt, got.1, (refl, got.2))

-- the rule says what the words are
pub counts_each : CountsEachSleeper
counts_each seats s r =
    record {
      count = ap (λ ws. get_or ws 0 0) r.both;
      found = λ id v at counted. let e = ap (λ ws. get_or ws 0 0) r.both in let lt = some_sleeper s.views id v at counted in omega arith;
      event = ap (λ ws. get_or ws 1 0) r.both;
    }
