-- The rule of a queue holds when its table is opened, and each seat of it is one that has announced nothing.
use Rattle.std.specs.Prelude.{Some, None, slice_index, sum_by, replicate, remove, if◌then◌else◌}
use Rattle.std.proofs.Common.{◌≡◌, ◌≢◌, ℕ, zero, suc, ◌+◌, ◌<◌, ◌≤◌, List, [], ◌∷◌, ◌++◌}
use Rattle.std.proofs.Common.{length, map, drop, set, get_or, sym, refl, ap, ◌∙◌, subst, arith}
use Rattle.std.proofs.Common.{length-set, get_or-set_same}
use Rattle.std.proofs.lemmas.List.{length-append, length-replicate, get_or-replicate, get_or_append_left, get_or-set_other, drop_at}
use Rattle.std.proofs.lemmas.List.Sums.{sum_by-cons}
use mathlib.Core.Option.{some, some-injective, some-ne-none}
use lib.ListN.{get_elem?}
use Rattle.lock_core.specs.Grants.{Grants}
use Rattle.range_rw.specs.Contract.{SeatState, AreNewSeatsIn, first_passes}
use Rattle.atomic_table.specs.Seated.{TableId}
use Rattle.lock_core.specs.declared.range.Held.{Held}
use Rattle.queue_laws.specs.declared.places.Telling.{Telling}
use Rattle.queue_laws.specs.declared.places.Look.TheVariants.{Idle, At}
use Rattle.queue_guard.specs.declared.passes.QueuePass.{QueuePass}
use Rattle.queue_guard.specs.Places.{seats_place, next_place, ticket_place, queue_words}
use Rattle.queue_guard.specs.Rule.{IsQueue, IsPart, HasQueue, counts, inner_of, first_pass}
use Rattle.range_rw.proofs.Lists.{at_removed}
use Rattle.atomic_table.proofs.Lists.{at_index}
use Rattle.range_queue.specs.Opening.{IsQuiet, AreQuietFrom, first_words}
use Rattle.range_queue.specs.Settled.{IsSettled, IsToldBy}

-- the passes of the opening, by their numbers
passes_at : {A : Type 0} (f : ℕ → A) (n m k : ℕ) (p : A) → get_elem? (first_passes f n m) k ≡ some p → (f (n + k) ≡ p) × (k < m)
passes_at f n zero k p e = absurd (some-ne-none p (sym e))
passes_at f n (suc m) zero p e = let z : n + 0 ≡ n = omega arith in (ap f z ∙ some-injective (f n) p e, omega arith)
passes_at f n (suc m) (suc k) p e = let r = passes_at f (suc n) m k p e in let z : n + suc k ≡ suc n + k = omega arith in
    (ap f z ∙ r.0, let lt = r.1 in omega arith)

passes_many : {A : Type 0} (f : ℕ → A) (n m : ℕ) → length (first_passes f n m) ≡ m
passes_many f n zero = refl
passes_many f n (suc m) = ap suc (passes_many f (suc n) m)

none_sum : {A : Type 0} (f : A → ℕ) (l : List A) → ((k : ℕ) (a : A) → get_elem? l k ≡ some a → f a ≡ 0) → sum_by f l ≡ 0
none_sum f [] h = refl
none_sum f (x ∷ xs) h = let one = h 0 x refl in let rest = none_sum f xs (λ k a at. h (suc k) a at) in let c = sum_by-cons f x xs in omega arith

module _ (seats : ℕ) (client : List ℕ) where
  pub wide : length (set (set (replicate queue_words 0) seats_place seats) next_place 1) ≡ queue_words
  wide = length-set (set (replicate queue_words 0) seats_place seats) next_place 1
      ∙ (length-set (replicate queue_words 0) seats_place seats ∙ length-replicate {A = ℕ} queue_words 0)

  in_front : (i : ℕ) → i < 152 → slice_index (first_words seats client) i ≡ get_or (set (set (replicate queue_words 0) seats_place seats) next_place 1) i 0
  in_front i lt = get_or_append_left (set (set (replicate queue_words 0) seats_place seats) next_place 1) client 0 i (let w = wide in omega arith)

  other_zero : (i : ℕ) → i < 152 → i ≢ 0 → i ≢ 16 → slice_index (first_words seats client) i ≡ 0
  other_zero i lt a b = in_front i lt
      ∙ (get_or-set_other (set (replicate queue_words 0) seats_place seats) next_place i 1 0 b
      ∙ (get_or-set_other (replicate queue_words 0) seats_place i seats 0 a ∙ get_or-replicate queue_words i 0 0 lt))

  seats_there : slice_index (first_words seats client) seats_place ≡ seats
  seats_there = in_front 0 (omega arith)
      ∙ (get_or-set_other (set (replicate queue_words 0) seats_place seats) next_place 0 1 0 (λ e. omega arith)
      ∙ get_or-set_same (replicate queue_words 0) seats_place seats 0 (let w = length-replicate {A = ℕ} queue_words 0 in omega arith))

  next_there : slice_index (first_words seats client) next_place ≡ 1
  next_there = in_front 16 (omega arith)
      ∙ get_or-set_same (set (replicate queue_words 0) seats_place seats) next_place 1 0
      (let w = length-set (replicate queue_words 0) seats_place seats in let v = length-replicate {A = ℕ} queue_words 0 in omega arith)

  pub behind_first : drop queue_words (first_words seats client) ≡ client
  behind_first = drop_at (set (set (replicate queue_words 0) seats_place seats) next_place 1) client queue_words wide

module _ {P : Type 0} (first : List ℕ → ℕ → P) (seats : ℕ) (client : List ℕ) where
  inner_passes : (n m : ℕ) → map inner_of (first_passes (first_pass first (first_words seats client)) n m) ≡ first_passes (first client) n m
  inner_passes n zero = refl
  inner_passes n (suc m) = λ i. first (behind_first seats client i) n ∷ inner_passes (suc n) m i

  -- the rule of the queue at the opening
  start_queue : seats ≤ 16 → IsQueue (first_words seats client) (first_passes (first_pass first (first_words seats client)) 0 seats)
  start_queue few =
      let words = first_words seats client in
      let passes = first_passes (first_pass first words) 0 seats in
      let many = passes_many (first_pass first words) 0 seats in
      let at : (k : ℕ) (p : QueuePass P) → get_elem? passes k ≡ some p → (first_pass first words (0 + k) ≡ p) × (k < seats) =
      passes_at (first_pass first words) 0 seats in
      record {
        wide = let l = length-append (set (set (replicate queue_words 0) seats_place seats) next_place 1) client in let w = wide seats client in omega arith;
        few = omega arith;
        seats = λ k p e. ap (λ (x : QueuePass P). x.seats) (sym (at k p e).0) ∙ (seats_there seats client ∙ sym many);
        count = other_zero seats client 8 (omega arith) (λ e. omega arith) (λ e. omega arith)
            ∙ sym (none_sum counts passes (λ k p e. ap counts (sym (at k p e).0)));
        first = let n = next_there seats client in omega arith;
        last = let n = next_there seats client in omega arith;
        parts = λ k p e. let low = (at k p e).1 in subst (IsPart words k) (at k p e).0 (record {
          ticket = other_zero seats client (ticket_place k) (omega arith) (λ z. omega arith) (λ z. omega arith);
          drawn = λ n h. absurd h;
          lo = λ v h. absurd cc;
          hi = λ v h. absurd cc;
          told = tt;
        });
        reads = λ k p e asked j ticket look. absurd (first_look (first_pass first words (0 + k)) p refl (at k p e).0 asked j ticket look);
      }
    where
      first_look : (q p : QueuePass P) → q.look ≡ Idle → q ≡ p → (asked : Held) (j ticket : ℕ) → p.look ≡ At asked j (Some ticket) → ⊥
      first_look q p idle same asked j ticket look =
          let never : Idle ≡ At asked j (Some ticket) = sym idle ∙ (ap (λ (x : QueuePass P). x.look) same ∙ look) in absurd cc

  -- so does the whole rule, where that of the guard behind the queue does
  pub starts : (holds : Grants → List ℕ → List P → Type 0) → seats ≤ 16
      → holds (replicate seats None) client (first_passes (first client) 0 seats)
      → HasQueue holds (replicate seats None) (first_words seats client) (first_passes (first_pass first (first_words seats client)) 0 seats)
  starts holds few met = (
    start_queue few,
    subst (λ (z : List ℕ × List P). holds (replicate seats None) z.0 z.1) (λ i. (sym (behind_first seats client) i, sym (inner_passes 0 seats) i)) met,
  )

  -- the seats of a new table have announced nothing
  pub new_quiet : (lists : ℕ) (table : TableId) (items : List (SeatState (QueuePass P)))
      → AreNewSeatsIn lists table (first_pass first (first_words seats client)) items → AreQuietFrom seats 0 items
  new_quiet lists table items new k s at = let e = new k s at in let z : k ≡ 0 + k = omega arith in record {
    number = ap (λ (x : SeatState (QueuePass P)). x.number) e ∙ z;
    seats_are = ap (λ (x : SeatState (QueuePass P)). x.pass.seats) e ∙ seats_there seats client;
    telling = ap (λ (x : SeatState (QueuePass P)). x.pass.telling) e;
    scan = ap (λ (x : SeatState (QueuePass P)). x.scan) e;
  }

module _ {P : Type 0} (seats : ℕ) where
  -- the seat that comes next
  pub next_quiet : (n : ℕ) (items : List (SeatState (QueuePass P))) (s : SeatState (QueuePass P)) → AreQuietFrom seats n items → 0 < length items
      → s ≡ get_or items 0 s → IsQuiet seats n s
  next_quiet n items s quiet more is = let z : n + 0 ≡ n = omega arith in
      subst (λ (m : ℕ). IsQuiet seats m s) z (quiet 0 s (at_index items 0 s more is))

  -- without the first the rest are those from the next number on
  pub quiet_on : (n : ℕ) (items left : List (SeatState (QueuePass P))) → AreQuietFrom seats n items → left ≡ remove items 0 → AreQuietFrom seats (n + 1) left
  quiet_on n items left quiet is k s at = let z : n + suc k ≡ (n + 1) + k = omega arith in
      subst (λ (m : ℕ). IsQuiet seats m s) z (quiet (suc k) s (sym (at_removed items k) ∙ (ap (λ l. get_elem? l k) (sym is) ∙ at)))

  -- a quiet seat is one between two calls, without an announcement
  pub quiet_settled : (n : ℕ) (s : SeatState (QueuePass P)) → IsQuiet seats n s → n < seats → seats ≤ 16 → IsSettled n seats None s
  quiet_settled n s q low few = record {
    is_number = q.number;
    low = low;
    few = few;
    seats_are = q.seats_are;
    told = subst (λ (t : Telling). IsToldBy t None) (sym q.telling) refl;
    free = λ t e. absurd (none_some t e);
    outside = q.scan;
  }
    where
      none_some : (t : ℕ) → None ≡ Some t → ⊥
      none_some t e = absurd cc

-- how many words there are
pub words_many : (seats : ℕ) (client : List ℕ) → length (first_words seats client) ≡ queue_words + length client
words_many seats client =
    let l = length-append (set (set (replicate queue_words 0) seats_place seats) next_place 1) client in let w = wide seats client in omega arith
