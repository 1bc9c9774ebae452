-- The rule holds when the table is opened, and each seat begins with its quota.
use Rattle.std.proofs.Common.{◌≡◌, ℕ, zero, suc, ◌+◌, ◌-◌, ◌<◌, ◌≤◌, List, [], ◌∷◌, ◌++◌, map, take, length, get_or, replicate, remove, sum, sum_by, Contains}
use Rattle.std.proofs.Common.{Some, refl, sym, ap, subst, ◌∙◌, arith, slice_index}
use Rattle.std.proofs.lemmas.List.{get_or-replicate, length-replicate, take_more, map-append}
use Rattle.std.proofs.lemmas.List.Sums.{sum_by-cons}
use Rattle.std.proofs.lemmas.List.Folds.{sum_by-replicate}
use mathlib.Core.Option.{some, some-injective, some-ne-none}
use lib.ListN.{get_elem?}
use Rattle.atomic_table.specs.Table.{opening}
use Rattle.atomic_table.specs.Seated.{TableId}
use Rattle.atomic_table.specs.declared.shared.Seat.{Seat}
use Rattle.atomic_table.proofs.Lists.{at_index}
use Rattle.page_touch.specs.declared.records.SeatRecord.{SeatRecord}
use Rattle.page_touch.specs.Touched.{Ruled, IsTouchTable, IsWithin, share_sum, begin, full_word}
use Rattle.page_touch.specs.Touches.{TouchView, new_seat}
use Rattle.page_touch.specs.Starting.{begin_within, none_in}
use Rattle.page_touch.proofs.Counting.{never_there}

only : {A : Type 0} (x y : A) (i : ℕ) → get_elem? (x ∷ []) i ≡ some y → x ≡ y
only x y zero e = some-injective x y e
only x y (suc i) e = absurd (some-ne-none y (sym e))

-- quotas behind the first
later_shares : (x : ℕ) (xs : List ℕ) (s k : ℕ) → share_sum (x ∷ xs) (suc s) k ≡ share_sum xs s k
later_shares x xs s zero = refl
later_shares x xs s (suc k) = ap (λ n. slice_index xs s + n) (later_shares x xs (suc s) k)

-- the quotas from the first one on are all of them
pub all_shares : (shares : List ℕ) → share_sum shares 0 (length shares) ≡ sum shares
all_shares [] = refl
all_shares (x ∷ xs) = ap (λ n. x + n) (later_shares x xs 0 (length xs) ∙ all_shares xs) ∙ sym (sum_by-cons (λ (n : ℕ). n) x xs)

zeros : {words : List ℕ} (room : ℕ) → words ≡ replicate room 0 → (i : ℕ) → i < length words → get_or words i 0 ≡ 0
zeros {words} room is i lt = let wide : length words ≡ room = ap (λ (w : List ℕ). length w) is
    ∙ length-replicate room 0 in ap (λ (w : List ℕ). get_or w i 0) is ∙ get_or-replicate room i 0 0 (omega arith)

-- the rule of words that are 0, with one seat that has all quotas
pub begins : {room total : ℕ} {words : List ℕ} → words ≡ replicate room 0 → 0 < room → total ≤ room → Ruled room total words (begin total ∷ [])
begins {room} {total} {words} is some_room enough =
    let wide : length words ≡ room = ap (λ w. length w) is ∙ length-replicate room 0 in let zero_at = zeros room is in
    let of_view : (P : SeatRecord → Type 0) → P (begin total) → (j : ℕ) (v : SeatRecord)
    → get_elem? (begin total ∷ []) j ≡ some v → P v = λ P p j v e. subst P (only (begin total) v j e) p in
    record {
      wide = wide;
      some_room = some_room;
      enough = enough;
      shares = omega arith;
      within = of_view IsWithin (begin_within total);
      full = ap (sum_by full_word) is ∙ (sum_by-replicate full_word room 0 ∙ omega arith);
      told = λ page. sym (never_there (page + 1) words (λ i lt e. let z = zero_at i lt in omega arith));
      alone = λ i j a b same other. absurd (other (zero_at i (omega arith)));
      probed = λ i page a e. absurd (let z = zero_at i (omega arith) in omega arith);
      looked = λ j v l e some_l. absurd (of_view (λ w. w.looking ≡ Some l → ⊥) (λ z. absurd cc) j v e some_l);
      kept = λ j page v e has. absurd (of_view (λ w. Contains w.touched page → ⊥) (λ z. none_in page z) j v e has);
    }

-- the rule, for a key with these words and quotas
pub opens : {key_seats seats : ℕ} (room : ℕ) {key_words words key_shares shares : List ℕ} → key_seats ≡ seats → key_words ≡ words → key_shares ≡ shares
    → words ≡ replicate room 0 → 0 < room → seats ≡ length shares → sum shares ≤ room
    → IsTouchTable (length key_words) (share_sum key_shares 0 (key_seats - 0)) (opening words [] (begin (share_sum shares 0 (seats - 0))))
opens {key_seats} {seats} room {key_words} {words} {key_shares} {shares} e f h is some_room count enough =
    let all : share_sum shares 0 (seats - 0) ≡ sum shares = let z : seats - 0 ≡ length shares = omega arith in ap (share_sum shares 0) z ∙ all_shares shares in
    let wide : length key_words ≡ room = ap (λ w. length w) (f ∙ is) ∙ length-replicate room 0 in
    let total : share_sum key_shares 0 (key_seats - 0) ≡ share_sum shares 0 (seats - 0) = λ i. share_sum (h i) 0 (e i - 0) in
    subst (λ (z : ℕ × ℕ). Ruled z.0 z.1 words (begin (share_sum shares 0 (seats - 0)) ∷ []))
    (λ i. (sym wide i, sym total i)) (begins {room = room} {total = share_sum shares 0 (seats - 0)} is some_room (omega arith))

module _ (table : TableId) (quotas : List ℕ) where
  -- the seats that are still to be handed out are those from number n on
  abbrev pub Waiting : ℕ → List (Seat (Unit {0}) SeatRecord) → Type 0
  Waiting n opened = (k : ℕ) (s : Seat (Unit {0}) SeatRecord) → get_elem? opened k ≡ some s
      → (s.table_id ≡ table) × (s.me ≡ (begin (share_sum quotas (n + k) 1), []))

  -- the next one begins with its own quota
  pub next_seat : (n : ℕ) (opened : List (Seat (Unit {0}) SeatRecord)) {s : Seat (Unit {0}) SeatRecord} → Waiting n opened → 0 < length opened
      → s ≡ get_or opened 0 s → (s.table_id ≡ table) × (s.me ≡ (begin (get_or quotas n 0), []))
  next_seat n opened {s} wait more is =
      let t = wait 0 s (at_index opened 0 s more is) in let z : n + 0 ≡ n = omega arith in
      let one : share_sum quotas n 1 ≡ get_or quotas n 0 = let e : share_sum quotas n 1 ≡ get_or quotas n 0 + 0 = refl in omega arith in
      (t.0, t.1 ∙ (ap (λ m. (begin (share_sum quotas m 1), [])) z ∙ ap (λ q. (begin q, [])) one))

  -- when it is taken away, those behind it are left
  pub wait_on : (n : ℕ) (opened : List (Seat (Unit {0}) SeatRecord)) {left : List (Seat (Unit {0}) SeatRecord)} → Waiting n opened → left ≡ remove opened 0
      → Waiting (n + 1) left
  wait_on n opened wait is k s at =
      let z : n + suc k ≡ n + 1 + k = omega arith in
      let r = wait (suc k) s (moved opened k ∙ (ap (λ l. get_elem? l k) (sym is) ∙ at)) in (r.0, r.1 ∙ ap (λ m. (begin (share_sum quotas m 1), [])) z)
    where
      moved : (l : List (Seat (Unit {0}) SeatRecord)) (k : ℕ) → get_elem? l (suc k) ≡ get_elem? (remove l 0) k
      moved [] k = refl
      moved (x ∷ xs) k = refl

-- one seat more
pub more_seats : (table : TableId) (quotas : List ℕ) (n : ℕ) {made : List TouchView} {s : TouchView} → n < length quotas
    → made ≡ map (new_seat table) (take n quotas) → s ≡ new_seat table (get_or quotas n 0) → made ++ s ∷ [] ≡ map (new_seat table) (take (n + 1) quotas)
more_seats table quotas n lt is e = (λ i. is i ++ e i ∷ []) ∙ (sym (map-append (new_seat table) (take n quotas) (get_or quotas n 0 ∷ []))
    ∙ ap (map (new_seat table)) (sym (take_more quotas n 0 lt)))
