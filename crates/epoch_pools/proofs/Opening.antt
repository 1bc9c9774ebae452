-- The rule holds at the opening: the words and views of each list are the first state of a lock, nothing counts, and
-- the client words meet the guard with no grant. The seats come in order, each with its own first views.
use Rattle.std.proofs.Common.{◌≡◌, ◌≢◌, ℕ, zero, suc, ◌+◌, ◌-◌, ◌*◌, ◌^◌, ◌<◌, ◌≤◌, Bool, true, false, List, [], ◌∷◌, ◌++◌, map, take, drop, get_or}
use Rattle.std.proofs.Common.{length, replicate, sym, refl, ap, ◌∙◌, subst, arith, length-append, ne_eqb}
use Rattle.std.specs.Prelude.{Option, Some, None, remove, slice_get, slice_set, unwrap_or, ◌==◌, if◌then◌else◌}
use Rattle.std.proofs.lemmas.List.{length-map, length-replicate, length-set, take-append-le, drop-append-le, take-replicate, drop-replicate}
use lib.Seq.{drop-append_seam}
use mathlib.Core.Option.{some, some-injective, some-ne-none}
use lib.ListN.{get_elem?}
use Rattle.atomic_table.specs.Table.{opening}
use Rattle.atomic_table.specs.Seated.{TableId}
use Rattle.atomic_table.specs.declared.shared.Seat.{Seat}
use Rattle.atomic_table.proofs.Lists.{at_index}
use Rattle.word_rows.specs.Rows.{IsSeated}
use Rattle.lock_core.specs.Grants.{Grants}
use Rattle.list_cuts.specs.Cut.{Regions, IsCut, list_count}
use Rattle.lock_core.specs.Words.{word_count}
use Rattle.lock_core.specs.declared.range.Held.{Held}
use Rattle.lock_core.specs.declared.views.View.{View}
use Rattle.lock_core.specs.Machine.{held_at, numbers_from, start, start_view}
use Rattle.lock_core.proofs.ByPlace.{replicate_there, to_get}
use Rattle.lock_core.proofs.Opening.{numbers_length}
use Rattle.lock_laws.specs.Laws.{IsLock}
use Rattle.lock_laws.proofs.Starting.{start_lock}
use Rattle.lock_laws.proofs.Sound.{view_sound}
use Rattle.epoch_pools.specs.declared.views.SeatLists.{SeatLists}
use Rattle.epoch_pools.specs.declared.views.ListView.{ListView}
use Rattle.epoch_pools.specs.declared.views.Standing.TheVariants.{Free, Narrow, Wide}
use Rattle.epoch_pools.specs.Beside.{blank, core_at, grant_in, shown}
use Rattle.epoch_pools.specs.Running.{cores_of, pass_of, grants_in, view, IsOwned, IsRunningList}
use Rattle.epoch_pools.specs.Hands.{cut_of, IsTable, IsSeatCount, IsHandView, IsOther, AreOthers, IsSeatOf, slot_of, fresh, first_passes}
use Rattle.epoch_pools.specs.Starting.{begin, parts_from, parts_at, at_parts, length-parts_from}
use Rattle.epoch_pools.proofs.Lists.{at_removed}
use Rattle.epoch_pools.proofs.Slices.{further}
use Rattle.epoch_pools.proofs.Frames.{core_else}

-- the view of a list among as many first views
pub first_core : (lists i seats n : ℕ) → i < lists → core_at i (replicate lists (start_view seats n)) ≡ start_view seats n
first_core lists i seats n less = ap (λ (o : Option View). unwrap_or o blank)
    (to_get (replicate lists (start_view seats n)) i (start_view seats n) (replicate_there lists (start_view seats n) i less))

module _ {P : Type 0} (f : ℕ → P) (lists seats : ℕ) where
  cores_are : (i a k : ℕ) → i < lists → map (core_at i) (map cores_of (parts_from (λ n. fresh (f n) lists seats n) a k)) ≡ map (start_view seats)
      (numbers_from a k)
  cores_are i a zero less = refl
  cores_are i a (suc k) less = let z : suc a ≡ a + 1 = omega arith in
      let one : core_at i (replicate lists (start_view seats a)) ≡ start_view seats a = first_core lists i seats a less in
      let rest = cores_are i (suc a) k less ∙ ap (λ n. map (start_view seats) (numbers_from n k)) z in λ j. one j ∷ rest j

  grants_are : (a k : ℕ) → 0 < lists → grants_in lists (parts_from (λ n. fresh (f n) lists seats n) a k) ≡ replicate k None
  grants_are a zero more = refl
  grants_are a (suc k) more = let nothing : grant_in lists (fresh (f a) lists seats a) ≡ None =
      ap (λ (v : View). if lists == 1 then held_at v.own else None) (first_core lists 0 seats a more) ∙ either (lists == 1) in
      let rest = grants_are (suc a) k more in λ j. nothing j ∷ rest j
    where
      either : (b : Bool) → ◌≡◌ {A = Option Held} (if b then None else None) None
      either true = refl
      either false = refl

  passes_are : (a k : ℕ) → map pass_of (parts_from (λ n. fresh (f n) lists seats n) a k) ≡ first_passes f a k
  passes_are a zero = refl
  passes_are a (suc k) = ap (λ l. f a ∷ l) (passes_are (suc a) k)

  -- each part is a fresh one
  part_is : (n : ℕ) (p : SeatLists P) → get_elem? (parts_from (λ n. fresh (f n) lists seats n) 0 seats) n ≡ some p → p ≡ fresh (f (0 + n)) lists seats (0 + n)
  part_is n p at = (parts_at (λ n. fresh (f n) lists seats n) 0 seats n p at).1

owned_first : {P : Type 0} (f : ℕ → SeatLists P) (seats : ℕ) → ((n : ℕ) → (f n).number ≡ n)
    → IsOwned (view (parts_from f 0 (seats - 0)) ∷ []) (parts_from f 0 seats) (λ _. 0)
owned_first {P} f seats numbered (suc id) v at k p there = absurd (some-ne-none v (sym at))
owned_first {P} f seats numbered zero v at k p there = let all : seats - 0 ≡ seats = omega arith in
    let e : get_elem? (parts_from f 0 seats) k ≡ some p = ap (λ n. get_elem? (parts_from f 0 n) k) (sym all)
    ∙ subst (λ (z : ListView P). get_elem? z.parts k ≡ some p) (sym (some-injective _ _ at)) there in
    let q = parts_at f 0 seats k p e in
    let num : p.number ≡ k = let z : 0 + k ≡ k = omega arith in ap (λ (x : SeatLists P). x.number) q.1 ∙ (numbered (0 + k) ∙ z) in
    (ap (get_elem? (parts_from f 0 seats)) num ∙ e, refl)

-- a slice of the zeros
slice_zero : (w a n : ℕ) (client : List ℕ) → a + w ≤ n → take w (drop a (replicate n 0 ++ client)) ≡ replicate w 0
slice_zero w a n client le = let long : length (replicate {A = ℕ} n 0) ≡ n = length-replicate n 0 in
    let rest : length (replicate {A = ℕ} (n - a) 0) ≡ n - a = length-replicate (n - a) 0 in
    ap (take w) (drop-append-le a (replicate n 0) client (omega arith) ∙ ap (λ l. l ++ client) (drop-replicate a n 0))
    ∙ (take-append-le w (replicate (n - a) 0) client (omega arith) ∙ take-replicate w (n - a) 0 (omega arith))

-- the client words of a table at its opening
back_words : (zeros : ℕ) (client : List ℕ) → drop zeros (replicate zeros 0 ++ client) ≡ client
back_words zeros client = ap (λ n. drop n (replicate zeros 0 ++ client)) (sym (length-replicate zeros 0)) ∙ drop-append_seam (replicate zeros 0) client

not_narrow : (i : ℕ) → Free ≡ Narrow i → ⊥
not_narrow i e = absurd (cc)

not_wide : (i : ℕ) → Free ≡ Wide i → ⊥
not_wide i e = absurd (cc)

-- the rule holds at the start
pub begins : {P : Type 0} (first : List ℕ → ℕ → P) (holds : Grants → List ℕ → List P → Type 0) (c : Regions) (seats : ℕ) (client : List ℕ)
    → 0 < c.count → 0 < seats → seats ≤ 16 → holds (replicate seats None) client (first_passes (first client) 0 seats)
    → IsRunningList c seats (length (replicate {A = ℕ} (list_count c * word_count seats) 0 ++ client) - list_count c * word_count seats) holds
    (opening (replicate (list_count c * word_count seats) 0 ++ client) []
    (view (parts_from (begin first (list_count c) seats (replicate (list_count c * word_count seats) 0 ++ client)) 0 (seats - 0))))
begins {P} first holds c seats client cut positive few h = let lists : ℕ = list_count c in
    let some_list : 0 < lists = omega arith in let all_words : ℕ = lists * word_count seats in
    let words : List ℕ = replicate all_words 0 ++ client in let pass : ℕ → P = first (drop all_words words) in
    let f : ℕ → SeatLists P = begin first lists seats words in
    let len : length (replicate {A = ℕ} all_words 0) ≡ all_words = length-replicate all_words 0 in
    let all = length-append (replicate {A = ℕ} all_words 0) client in
    let back : drop all_words words ≡ client = back_words all_words client in (
      parts_from f 0 seats,
      (λ n. 0),
      record {
        cut = cut;
        count = length-parts_from f 0 seats;
        wide = omega arith;
        owned = owned_first f seats (λ n. refl);
        stands = λ n lt. let z : 0 + n ≡ n = omega arith in
            record {
              holder = view (parts_from f 0 (seats - 0));
              at = refl;
              place = n;
              part = f n;
              has = at_parts f 0 (seats - 0) n (omega arith) ∙ ap (λ m. some (f m)) z;
              number = refl;
            };
        same = λ n p at. ap (λ (x : SeatLists P). x.seats) (part_is pass lists seats n p at);
        lists_are = record {
          apart = record {
            many = λ n p at. ap (λ (x : SeatLists P). length x.cores) (part_is pass lists seats n p at) ∙ length-replicate lists (start_view seats (0 + n));
            locks = λ i less. subst IsLock (λ k. record {
              seats = seats;
              words = sym (slice_zero (word_count seats) (i * word_count seats) all_words client (further i lists (word_count seats) less)) k;
              views = sym (cores_are pass lists seats i 0 seats less) k;
            }) (start_lock seats positive few);
            narrow_one = λ n i p at is. absurd (not_narrow i (ap (λ (x : SeatLists P). x.standing) (sym (part_is pass lists seats n p at)) ∙ is));
            wide_one = λ n i p at is. absurd (not_wide i (ap (λ (x : SeatLists P). x.standing) (sym (part_is pass lists seats n p at)) ∙ is));
            passed = λ a b i p x y g h differ at_a at_b narrow_a wide_b below held_a held_b taken conflict.
                not_narrow i (ap (λ (z : SeatLists P). z.standing) (sym (part_is pass lists seats a x at_a)) ∙ narrow_a);
          };
          guard = subst (λ (z : Grants × (List ℕ × List P)). holds z.0 z.1.0 z.1.1) (λ i. (
            sym (grants_are pass lists seats 0 seats some_list) i,
            (sym back i, sym (passes_are pass lists seats 0 seats ∙ ap (λ w. first_passes (first w) 0 seats) back) i),
          )) h;
        };
      },
    )

-- the rule, for a key with the shares, the number of seats and the words that the table is opened with
pub opens : {P : Type 0} (first : List ℕ → ℕ → P) (holds : Grants → List ℕ → List P → Type 0) (c : Regions) (lists seats key_seats : ℕ)
    (shares key_shares client key_words now : List ℕ)
    → 0 < c.count → 0 < seats → seats ≤ 16 → cut_of shares ≡ c → lists ≡ list_count c → key_seats ≡ seats → key_words ≡ now → key_shares ≡ shares
    → now ≡ replicate (lists * word_count seats) 0 ++ client → holds (replicate seats None) client (first_passes (first client) 0 seats)
    → IsRunningList (cut_of key_shares) key_seats (length key_words - list_count (cut_of key_shares) * word_count key_seats) holds
    (opening now [] (view (parts_from (begin first (list_count (cut_of shares)) seats now) 0 (seats - 0))))
opens first holds c lists seats key_seats shares key_shares client key_words now cut positive few is many e f s w h =
    let now_is : now ≡ replicate (list_count c * word_count seats) 0 ++ client = w ∙ ap (λ n. replicate (n * word_count seats) 0 ++ client) many in
    subst (λ (k : (ℕ × (List ℕ × List ℕ)) × (Regions × Regions)). IsRunningList k.1.0 k.0.0 (length k.0.1.0 - list_count k.1.0 * word_count k.0.0) holds
    (opening k.0.1.1 [] (view (parts_from (begin first (list_count k.1.1) seats k.0.1.1) 0 (seats - 0)))))
    (λ i. ((sym e i, (sym (f ∙ now_is) i, sym now_is i)), (sym (ap cut_of s ∙ is) i, sym is i))) (begins first holds c seats client cut positive few h)

module _ {P : Type 0} (first : List ℕ → ℕ → P) (table : TableId) (lists seats : ℕ) (client : List ℕ) where
  -- the seats that are still to be numbered are those of the numbers from n on
  abbrev pub Waiting : ℕ → List (Seat (Unit {0}) (ListView P)) → Type 0
  Waiting n opened = (k : ℕ) (s : Seat (Unit {0}) (ListView P)) → get_elem? opened k ≡ some s
      → (s.table_id ≡ table) × (s.me ≡ (view (begin first lists seats (replicate (lists * word_count seats) 0 ++ client) (n + k) ∷ []), []))

  -- before the first hand is made all seats wait
  pub first_waiting : (c : Regions) (shares now : List ℕ) (opened : List (Seat (Unit {0}) (ListView P)))
      → IsSeated table (λ s. view (begin first (list_count (cut_of shares)) seats now s ∷ [])) opened
      → cut_of shares ≡ c → lists ≡ list_count c → now ≡ replicate (lists * word_count seats) 0 ++ client → Waiting 0 opened
  first_waiting c shares now opened seated is many w k s at = let r = seated k s at in let z : 0 + k ≡ k = omega arith in
      let count : list_count (cut_of shares) ≡ lists = ap list_count is ∙ sym many in
      (r.0, r.1 ∙ (λ j. (view (begin first (count j) seats (w j) (sym z j) ∷ []), [])))

  -- the first of them is the one of number n
  pub next_seat : (n : ℕ) (opened : List (Seat (Unit {0}) (ListView P))) (s : Seat (Unit {0}) (ListView P)) → Waiting n opened
      → 0 < length opened → s ≡ get_or opened 0 s → (s.table_id ≡ table) × (s.me ≡ (view (fresh (first client n) lists seats n ∷ []), []))
  next_seat n opened s wait more is = let t = wait 0 s (at_index opened 0 s more is) in
      let z : n + 0 ≡ n = omega arith in (
        t.0,
        t.1 ∙ ap (λ m. (view (begin first lists seats (replicate (lists * word_count seats) 0 ++ client) m ∷ []), [])) z
            ∙ ap (λ w. (view (fresh (first w n) lists seats n ∷ []), [])) (back_words (lists * word_count seats) client),
      )

  -- the others wait on
  pub wait_on : (n : ℕ) (opened left : List (Seat (Unit {0}) (ListView P))) → Waiting n opened → left ≡ remove opened 0 → Waiting (n + 1) left
  wait_on n opened left wait is k s at = let z : n + suc k ≡ n + 1 + k = omega arith in
      let r = wait (suc k) s (sym (at_removed opened k) ∙ (ap (λ l. get_elem? l k) (sym is) ∙ at)) in
      (r.0, r.1 ∙ ap (λ m. (view (begin first lists seats (replicate (lists * word_count seats) 0 ++ client) m ∷ []), [])) z)

less_first : (a b k : ℕ) → k ≡ a + b → k - a ≡ b
less_first a b k e = omega arith

-- how many words a new table has: those of its lists, and the client's
pub words_long : (c : Regions) (lists seats words : ℕ) (client now : List ℕ) → lists ≡ list_count c
    → now ≡ replicate (lists * word_count seats) 0 ++ client → words ≡ length now → words ≡ list_count c * word_count seats + length client
words_long c lists seats words client now many w wide = wide ∙ (ap length w ∙ (length-append (replicate (lists * word_count seats) 0) client
    ∙ ap (λ n. n + length client) (length-replicate (lists * word_count seats) 0 ∙ ap (λ n. n * word_count seats) many)))

-- the key, the words and the slots of a new table are those of its shape
pub new_table : (c : Regions) (lists seats : ℕ) (shares key_shares client key_words now : List ℕ) (key_seats words slots clients start : ℕ)
    → cut_of shares ≡ c → IsCut c.count c.bits → lists ≡ list_count c → IsSeatCount seats → length client ≤ 2 ^ 20
    → key_shares ≡ shares → key_seats ≡ seats → key_words ≡ now → now ≡ replicate (lists * word_count seats) 0 ++ client
    → words ≡ length now → slots ≡ 0 → clients ≡ length client → start ≡ lists * word_count seats → start ≤ 17697
    → IsTable key_shares key_seats (length key_words) words slots c seats clients start
new_table c lists seats shares key_shares client key_words now key_seats words slots clients start is cut many count few s e f w wide none clients_are
    starts low = let all_words : ℕ = list_count c * word_count seats in
    let long : length now ≡ all_words + length client = words_long c lists seats (length now) client now many w refl in
    let same_words = less_first all_words (length client) (length key_words) (ap length f ∙ long) ∙ sym clients_are in
    let wide_is = wide ∙ (long ∙ ap (λ (n : ℕ). all_words + n) (sym clients_are)) in
    let client_count = subst (λ (n : ℕ). n ≤ 2 ^ 20) (sym clients_are) few in
    assumption (ap cut_of s ∙ is, starts ∙ ap (λ (n : ℕ). n * word_count seats) many)

-- how many words there are with one list
pub words_of_one : (c : Regions) (n m : ℕ) → c ≡ record { count = 1; bits = 62 } → list_count c * n + m ≡ n + m
words_of_one c n m is = let one : list_count c ≡ 1 = ap list_count is in let e : 1 * n + m ≡ n + m = omega arith in ap (λ k. k * n + m) one ∙ e

-- the words of all lists are there
pub lock_there : (all_words : ℕ) (table : TableId) (client : List ℕ) (id : TableId) → id ≡ table
    → table.words ≡ length (replicate {A = ℕ} all_words 0 ++ client) → all_words ≤ id.words
lock_there all_words table client id same wide = let all : id.words ≡ all_words + length client = ap (λ (t : TableId). t.words) same
    ∙ (wide ∙ (length-append (replicate all_words 0) client ∙ ap (λ k. k + length client) (length-replicate all_words 0))) in
    omega arith

numbers_at : {A : Type 0} (f : ℕ → A) (a k n : ℕ) → n < k → slice_get (map f (numbers_from a k)) n ≡ Some (f (a + n))
numbers_at f a zero n h = absurd (omega arith)
numbers_at f a (suc k) zero h = let z : a ≡ a + 0 = omega arith in ap (λ i. Some (f i)) z
numbers_at f a (suc k) (suc n) h = let z : a + 1 + n ≡ a + suc n = omega arith in numbers_at f (a + 1) k n (omega arith) ∙ ap (λ i. Some (f i)) z

-- what is made of each number from n on, without the first
pub made_on : {A : Type 0} (f : ℕ → A) (seats n : ℕ) (now : List A) → n < seats → now ≡ remove (map f (numbers_from n (seats - n))) 0
    → now ≡ map f (numbers_from (n + 1) (seats - (n + 1)))
made_on f seats n now less is = let z : seats - n ≡ suc (seats - (n + 1)) = omega arith in is ∙ ap (λ k. remove (map f (numbers_from n k)) 0) z

-- the first of them is that of number n
pub made_first : {A : Type 0} (f : ℕ → A) (seats n : ℕ) (a : A) → n < seats → a ≡ get_or (map f (numbers_from n (seats - n))) 0 a → a ≡ f n
made_first f seats n a less is = let z : seats - n ≡ suc (seats - (n + 1)) = omega arith in is ∙ ap (λ k. get_or (map f (numbers_from n k)) 0 a) z

-- while seats wait, something is left of what was made of the numbers from n on
pub more_made : {A : Type 0} (f : ℕ → A) (seats n left k : ℕ) (now : List A) → 0 < left → n + left ≡ seats → now ≡ map f (numbers_from n (seats - n))
    → k ≡ length now → 0 < k
more_made f seats n left k now more sum is long =
    let e : length now ≡ seats - n = ap length is ∙ (length-map (numbers_from n (seats - n)) f ∙ numbers_length n (seats - n)) in
    omega arith

-- what may be relied on of a first view
first_sound : (seats n : ℕ) → 0 < seats → seats ≤ 16 → n < seats → IsOther seats n (start_view seats n)
first_sound seats n positive few less = let z : 0 + n ≡ n = omega arith in
    let at : slice_get (start seats).views n ≡ Some (start_view seats n) = numbers_at (start_view seats) 0 seats n less
    ∙ ap (λ i. Some (start_view seats i)) z in let lock = start_lock seats positive few in
    record {
      sound = view_sound (start seats) lock n (start_view seats n) at;
      pooled = record { whole = λ x. lock.invariant.places.once n x (start_view seats n) at; alone = λ _. refl };
      resting = record { outside = refl; cursor = refl; hand = refl };
    }

-- what a hand may rely on before its first step
pub first_hand : {P : Type 0} (pass : P) (lists seats n : ℕ) → 0 < lists → 0 < seats → seats ≤ 16 → n < seats → IsHandView (shown lists 0
    (fresh pass lists seats n))
first_hand pass lists seats n more positive few less =
    let core : start_view seats n ≡ core_at 0 (replicate lists (start_view seats n)) = sym (first_core lists 0 seats n more) in
    let s = first_sound seats n positive few less in
    subst (λ (v : View). IsHandView (record {
      number = n;
      seats = seats;
      core = v;
      pass = (shown lists 0 (fresh pass lists seats n)).pass;
      trace = (fresh pass lists seats n).trace;
    })) core (record { sound = s.sound; pooled = s.pooled; looked = λ c e. absurd (cc) })

-- and of its other lists
pub first_others_are : (lists seats n : ℕ) → 0 < lists → 0 < seats → seats ≤ 16 → n < seats
    → AreOthers seats n lists 0 (slice_set (replicate lists (start_view seats n)) 0 blank) (replicate (lists - 1) (start_view seats n))
first_others_are lists seats n more positive few less = let v : View = start_view seats n in
    let long : length (replicate {A = View} (lists - 1) v) ≡ lists - 1 = length-replicate (lists - 1) v in
    let core : (j : ℕ) → j < lists → j ≢ 0 → core_at j (slice_set (replicate lists v) 0 blank) ≡ v = λ j there differ.
    core_else 0 j (replicate lists v) blank differ ∙ first_core lists j seats n there in
    record {
      count = omega arith;
      full = length-set (replicate lists v) 0 blank ∙ length-replicate lists v;
      blank_at = first_blank lists v more;
      there = λ j there differ. let slot : slot_of 0 j ≡ j - 1 = ap (λ (b : Bool). (if b then 0 else j) - 1) (ne_eqb j 0 differ) in
          ap (slice_get (replicate (lists - 1) v)) slot
          ∙ (to_get (replicate (lists - 1) v) (j - 1) v (replicate_there (lists - 1) v (j - 1) (omega arith)) ∙ ap (λ (x : View). Some x) (sym
          (core j there differ)));
      rest = λ j there differ. subst (IsOther seats n) (sym (core j there differ)) (first_sound seats n positive few less);
    }
  where
    first_blank : (k : ℕ) (v : View) → 0 < k → slice_get (slice_set (replicate k v) 0 blank) 0 ≡ Some blank
    first_blank zero v more = absurd (omega arith)
    first_blank (suc k) v more = refl

-- what a token says of its seat before its first step
pub first_seat : {P : Type 0} (pass : P) (lists seats n words : ℕ) (p : SeatLists P) → 0 < lists → lists ≤ 17 → seats ≤ 16 → n < seats
    → p ≡ fresh pass lists seats n → lists * word_count seats ≤ words → IsSeatOf p n seats lists 0 0 words
first_seat {P} pass lists seats n words p more most few less is there =
    let begins : 0 ≡ 0 * word_count seats = omega arith in let low : 0 ≤ 16656 = omega arith in
    let full = ap (λ (x : SeatLists P). length x.cores) is ∙ length-replicate lists (start_view seats n) in
    assumption (ap (λ (x : SeatLists P). x.number) is, ap (λ (x : SeatLists P). x.seats) is)
