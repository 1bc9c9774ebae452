-- A space at its opening: its words and its callers meet the guard, and the callers come in order.
use Rattle.std.proofs.Common.{Bool, true, false, eqb, ◌≡◌, ℕ, zero, suc, ◌+◌, ◌-◌, ◌<◌, ◌≤◌, List, [], ◌∷◌, ◌++◌, length, get_or, ◌*◌, ◌/◌, ◌%◌, ◌^◌}
use Rattle.std.proofs.Common.{drop, sym, refl, ap, ◌∙◌, subst}
use Rattle.std.proofs.Common.{arith, inl}
use Rattle.std.proofs.lemmas.List.Elements.{All-nil}
use Rattle.std.proofs.lemmas.List.Sums.{sum_by-cons}
use Rattle.std.specs.Prelude.{All, None, remove, slice_index, sum}
use mathlib.Core.Option.{some}
use lib.ListN.{get_elem?}
use Rattle.atomic_table.specs.Seated.{TableId}
use Rattle.atomic_table.proofs.Lists.{at_index}
use Rattle.page_types.specs.declared.TheConstants.{LIMIT, ROWS}
use Rattle.page_types.specs.Named.{IsNamedCall, IsNamedReply}
use Rattle.space_model.specs.declared.areas.Area.{Area}
use Rattle.space_model.specs.declared.entries.Entry.{Entry}
use Rattle.space_model.specs.Areas.{IsAreaList, HasNamedKinds, kind_at, row_count}
use Rattle.space_model.proofs.AreaKinds.{above_zero}
use Rattle.lock_core.specs.Grants.{Grants}
use Rattle.range_rw.specs.Contract.{SeatState, new_seat_in, first_passes}
use Rattle.range_rw.proofs.Lists.{at_removed}
use Rattle.range_rw.proofs.SeatLists.{at_firsts}
use Rattle.word_rows.proofs.Rowing.{snoc_all as pushed_all}
use Rattle.area_guard.specs.declared.guard.Pass.{Pass}
use Rattle.area_guard.specs.declared.guard.Pending.TheVariants.{AtRest}
use Rattle.area_guard.specs.Parts.{none_is}
use Rattle.area_guard.specs.Reads.{StillStands}
use Rattle.area_guard.specs.Slots.{slots_as}
use Rattle.area_guard.specs.Rows.{nb_in, keeps_by, blocks_by, rows_in, RowsShow, number_place}
use Rattle.area_guard.specs.History.{IsPart, own_planned, planned_calls, planned_count, ShowsBefore, IsShown, IsRunningSpace, IsBacked, AreBacked, HasRoom}
use Rattle.area_guard.specs.History.{HasHistory, own_count, entry_count, own_most, most_count, newcomer}
use Rattle.row_plans.specs.RowWords.{row_start}
use Rattle.row_plans.specs.RowLists.{rows_from, areas_from, ShowFrom, IsBareGap}
use Rattle.row_plans.proofs.RowLists.{length-rows, shows_from, areas_back, bare_from}
use Rattle.row_blocks.specs.Blocks.{IsLaidOut, blocks_of, rows_of, rows_in as rows_by}
use Rattle.row_blocks.specs.Gaps.{GapsTold}
use Rattle.row_blocks.proofs.Slots.{length-slots_in, length-rows_in}
use Rattle.area_rows.specs.Callers.{CallerView, AreNewCallersIn, new_pass}
use Rattle.area_rows.specs.Opening.{IsOpening, told_of}
use Rattle.area_rows.proofs.Moments.{starts_below}

-- the number of all words of a table tells how many blocks there are, where it was chosen so
pub blocks_told : (table : TableId) {words : ℕ} (nb : ℕ) (keeps : Bool) → table.words ≡ words → words % 514 ≡ told_of nb keeps → nb % 8 ≡ 0 → nb ≤ 2048
    → nb ≡ blocks_by table
unfolding blocks_by
blocks_told table nb true is tells eights few = omega arith
blocks_told table nb false is tells eights few = omega arith

-- and whether the space keeps its history
pub keeps_told : (table : TableId) {words : ℕ} (nb : ℕ) (keeps : Bool) → table.words ≡ words → words % 514 ≡ told_of nb keeps → nb ≤ 2048
    → keeps ≡ keeps_by table
unfolding keeps_by
keeps_told table {words} nb true is tells few = let e : (table.words / 257) % 2 ≡ 0 = omega arith in ap (λ (n : ℕ). eqb n 0) (sym e)
keeps_told table {words} nb false is tells few = let e : (table.words / 257) % 2 ≡ 1 = omega arith in ap (λ (n : ℕ). eqb n 0) (sym e)

-- so a table has few words beside those of the lock and of the blocks
pub few_words : {all : ℕ} (lock : ℕ) {client nb : ℕ} (spare : ℕ) {told : ℕ} → all ≡ lock + client → client ≡ 36 + 129 * nb + spare → spare < 514 → nb ≡ told
    → all ≤ lock + 549 + 129 * told
few_words lock spare is wide few same = omega arith

some_rows : (rows : List ℕ) (kinds : _) → ShowFrom 0 rows kinds → 0 < length rows
some_rows [] kinds s = absurd (omega arith)
some_rows (w ∷ rest) kinds s = omega arith

shows : (start : List Area) → IsAreaList start → HasNamedKinds start → ShowFrom 0 (rows_from 0 start) (kind_at start)
shows start areas named = shows_from 0 start (kind_at start) (omega arith) areas (above_zero start) named (λ p from. refl)

-- an area list has a row
pub some_start : (start : List Area) → IsAreaList start → HasNamedKinds start → 0 < length (rows_from 0 start)
some_start start areas named = some_rows (rows_from 0 start) (kind_at start) (shows start areas named)

-- and each starts at or below the limit
pub start_low : (start : List Area) → IsAreaList start → HasNamedKinds start → All (λ w. row_start w ≤ LIMIT) (rows_from 0 start)
start_low start areas named = starts_below 0 (rows_from 0 start) (kind_at start) (shows start areas named)

module _ {start : List Area} {calls : List ℕ} {nb : ℕ} {keeps : Bool} {words : List ℕ} (o : IsOpening start calls nb keeps words) (areas : IsAreaList start)
    (named : HasNamedKinds start) where
  rows_back : rows_in words ≡ rows_from 0 start
  rows_back = ap (λ (n : ℕ). rows_by n (drop 3 words)) o.blocks ∙ o.rows

  back : nb ≡ nb_in words
  back = sym o.blocks

  opens_rows : row_count start ≤ ROWS → RowsShow words (kind_at start)
  opens_rows few =
      let s = shows start areas named in let more = some_rows (rows_from 0 start) (kind_at start) s in let l = length-rows start in let blocks = o.blocks in
      let wide = o.wide in let count = o.count in
      let room : 36 + 129 * nb_in words ≤ length words = omega arith in
      let laid : IsLaidOut (nb_in words) (drop 3 words) = subst (λ (n : ℕ). IsLaidOut n (drop 3 words)) back o.laid in
      record {
        room = room;
        some = omega arith;
        few = omega arith;
        show = subst (λ rows. ShowFrom 0 rows (kind_at start)) (sym rows_back) s;
        gaps = subst (All IsBareGap) (sym rows_back) (bare_from 0 start named);
        laid = laid;
        counted = o.count ∙ (sym l ∙ (sym (ap length rows_back) ∙ (length-rows_in (nb_in words) (drop 3 words) laid
            ∙ (sym (length-slots_in (nb_in words) (drop 3 words)) ∙ sym (ap length (slots_as words room laid))))));
        free = subst (λ (n : ℕ). blocks_of n (drop 3 words) < n) back o.free;
        short = subst (λ (n : ℕ). rows_of n (drop 3 words) 0 < 64) back o.short;
        told = subst (λ (n : ℕ). GapsTold n (drop 3 words)) back o.told;
      }

  -- a newcomer over the opening's words has the pass that a new caller has
  pub began : (n : ℕ) → n < length calls → newcomer words n ≡ new_pass start nb keeps (slice_index calls n)
  began n lt =
      let a : areas_from (rows_in words) ≡ start = ap areas_from rows_back ∙ areas_back (rows_from 0 start) start (shows start areas named) areas in
      let b = o.blocks in let k = o.kept in let m = o.quotas n lt in
      λ i. new_pass (a i) (b i) (k i) (m i)

-- the passes with which so many callers begin
abbrev pub first_of : List Area → List ℕ → ℕ → Bool → ℕ → Pass
first_of start calls room keeps n = new_pass start room keeps (slice_index calls n)

-- two ways to begin that are the same for each number
same_firsts : (f g : ℕ → Pass) (n k : ℕ) → ((i : ℕ) → n ≤ i → i < n + k → f i ≡ g i) → first_passes f n k ≡ first_passes g n k
same_firsts f g n zero same = refl
same_firsts f g n (suc k) same = λ j. same n (omega arith) (omega arith) j ∷ same_firsts f g (suc n) k (λ i from below. same i (omega arith) (omega arith)) j

length-passes : (f : ℕ → Pass) (n k : ℕ) → length (first_passes f n k) ≡ k
length-passes f n zero = refl
length-passes f n (suc k) = ap suc (length-passes f (suc n) k)

no_entries : (f : ℕ → Pass) (n k : ℕ) → ((i : ℕ) → length (f i).mine ≡ 0) → entry_count (first_passes f n k) ≡ 0
no_entries f n zero none = refl
no_entries f n (suc k) none =
    let z = none n in let r = no_entries f (suc n) k none in
    let c = sum_by-cons own_count (f n) (first_passes f (suc n) k) in omega arith

no_plans : (f : ℕ → Pass) (n k : ℕ) → ((i : ℕ) → (f i).pending ≡ AtRest) → planned_count (first_passes f n k) ≡ 0
no_plans f n zero rest = refl
no_plans f n (suc k) rest =
    let z = ap planned_calls (rest n) in let r = no_plans f (suc n) k rest in
    let c = sum_by-cons own_planned (f n) (first_passes f (suc n) k) in omega arith

-- what callers may have together is the sum of what each may
most_firsts : (f : ℕ → Pass) (n : ℕ) (l : List ℕ) → ((i : ℕ) → i < length l → (f (n + i)).most ≡ slice_index l i)
    → most_count (first_passes f n (length l)) ≡ sum l
most_firsts f n [] same = refl
most_firsts f n (x ∷ l) same =
    let here : n + 0 ≡ n = omega arith in
    let h : (f n).most ≡ x = subst (λ k. (f k).most ≡ x) here (same 0 (omega arith)) in
    let r = most_firsts f (suc n) l (λ i lt. let on : n + suc i ≡ suc n + i = omega arith in
    subst (λ k. (f k).most ≡ slice_index l i) on (same (suc i) (omega arith))) in
    let c = sum_by-cons own_most (f n) (first_passes f (suc n) (length l)) in
    let d = sum_by-cons (λ (k : ℕ). k) x l in omega arith

most_new : (start : List Area) (calls : List ℕ) (room : ℕ) (keeps : Bool)
    → most_count (first_passes (first_of start calls room keeps) 0 (length calls)) ≡ sum calls
most_new start calls room keeps = most_firsts (first_of start calls room keeps) 0 calls (λ i lt. ap (slice_index calls) (let z : 0 + i ≡ i = omega arith in z))

-- nothing lags behind at the opening
shown_new : (start : List Area) (calls : List ℕ) (room : ℕ) (keeps : Bool) (callers : ℕ)
    → IsShown start (first_passes (first_of start calls room keeps) 0 callers) (kind_at start)
shown_new start calls room keeps callers = record {
  lagging = λ worker pass at. let f = at_firsts (first_of start calls room keeps) 0 callers worker pass at in
      subst (λ (q : Pass). ShowsBefore q.pending (kind_at start)) (sym f.1) tt;
  elsewhere = λ page free. refl;
}

runs_new : {start : List Area} {calls : List ℕ} {nb : ℕ} {keeps : Bool} {words : List ℕ} → IsOpening start calls nb keeps words → IsAreaList start
    → HasNamedKinds start → row_count start ≤ ROWS → length calls ≤ 16 → HasRoom nb (row_count start) (sum calls) → sum calls < 2 ^ 62
    → IsRunningSpace start [] start words (first_passes (first_of start calls nb keeps) 0 (length calls))
runs_new {start} {calls} {nb} {keeps} {words} o areas named few callers enough small =
    let first = first_of start calls nb keeps in let most = most_new start calls nb keeps in
    let sequence = o.sequence in let blocks = o.blocks in let wide = o.wide in
    record {
      callers = let l = length-passes first 0 (length calls) in omega arith;
      runs = (tt, refl);
      calls = All-nil (λ (e : Entry). IsNamedCall e.call);
      replies = All-nil (λ (e : Entry). IsNamedReply e.reply);
      in_order = areas;
      named = named;
      limit = few;
      grown = omega arith;
      number = λ _. ap (λ (n : ℕ). slice_index words (number_place n)) o.blocks ∙ o.number;
      sequence = let z = no_plans first 0 (length calls) (λ i. refl) in omega arith;
      small = omega arith;
      room = subst (λ (z : ℕ × ℕ). HasRoom z.0 (row_count start) z.1) (λ i. (sym o.blocks i, sym most i)) enough;
      rows = λ none. (kind_at start, shown_new start calls nb keeps (length calls), opens_rows o areas named few);
      parts = λ worker pass at.
          let f = at_firsts first 0 (length calls) worker pass at in
          subst (λ (q : Pass). IsPart start [] words worker q) (sym f.1) (record {
            began = refl;
            seen = ([], refl);
            mine = refl;
            few = omega arith;
            room = (sym o.blocks, omega arith, sym o.kept);
            owed = tt;
            laid = λ l e. absurd (none_is l e);
            sequence = λ n e. absurd (none_is n e);
          });
      no_other = λ worker le. refl;
      total = sym (no_entries first 0 (length calls) (λ i. refl));
    }

backs_new : (grants : Grants) (words : List ℕ) (start : List Area) (calls : List ℕ) (room : ℕ) (keeps : Bool) (callers : ℕ)
    → AreBacked grants words start (first_passes (first_of start calls room keeps) 0 callers)
backs_new grants words start calls room keeps callers worker pass at =
    let f = at_firsts (first_of start calls room keeps) 0 callers worker pass at in
    subst (λ (q : Pass). IsBacked grants words start worker q) (sym f.1)
    (record { reads = inl (refl, refl, refl); rows = λ held has. All-nil (StillStands held words); pending = tt })

-- the words of an opening meet the guard
pub opens : (grants : Grants) {start : List Area} {calls : List ℕ} {nb : ℕ} {keeps : Bool} {words : List ℕ} → IsOpening start calls nb keeps words
    → IsAreaList start
    → HasNamedKinds start → row_count start ≤ ROWS → length calls ≤ 16 → HasRoom nb (row_count start) (sum calls) → sum calls < 2 ^ 62
    → HasHistory grants words (first_passes (newcomer words) 0 (length calls))
opens grants {start} {calls} {nb} {keeps} {words} o areas named few callers enough small =
    let first = first_of start calls nb keeps in
    let all : first_passes (newcomer words) 0 (length calls) ≡ first_passes first 0 (length calls) =
    same_firsts (newcomer words) first 0 (length calls) (λ n from below. began o areas named n (omega arith)) in
    subst (HasHistory grants words) (sym all) (
      start,
      [],
      start,
      runs_new o areas named few callers enough small,
      backs_new grants words start calls nb keeps (length calls),
    )

-- a caller with this seat and these rows, no rows that go, and no change of one row
abbrev pub caller_with : SeatState Pass → ℕ → List ℕ → CallerView
caller_with s left more = record {
  seat = s;
  left = left;
  count = 0;
  cut = record { at = record { block = 0; place = 0 }; gone = 0 };
  more = more;
  change = None;
}

-- before the first caller all seats wait
pub first_seats : (lists : ℕ) (table : TableId) (p : ℕ → Pass) (seats : List (SeatState Pass)) → ((k : ℕ) (x : SeatState Pass) → get_elem? seats k ≡ some x
    → x ≡ new_seat_in lists table p k) → (k : ℕ) (x : SeatState Pass) → get_elem? seats k ≡ some x → x ≡ new_seat_in lists table p (0 + k)
first_seats lists table p seats all k x at = let z : k ≡ 0 + k = omega arith in all k x at ∙ ap (new_seat_in lists table p) z

-- the seat that is next
pub next_seat : (lists : ℕ) (table : TableId) (p : ℕ → Pass) (worker : ℕ) (seats : List (SeatState Pass)) {s : SeatState Pass} → ((k : ℕ) (x : SeatState Pass)
    → get_elem? seats k ≡ some x → x ≡ new_seat_in lists table p (worker + k)) → 0 < length seats → s ≡ get_or seats 0 s → s ≡ new_seat_in lists table p worker
next_seat lists table p worker seats {s} rest more is = let z : worker + 0 ≡ worker = omega arith in
    rest 0 s (at_index seats 0 s more is) ∙ ap (new_seat_in lists table p) z

-- the seats that are left, after the first one was taken, go on with the next number
pub seats_on : (lists : ℕ) (table : TableId) (p : ℕ → Pass) (worker : ℕ) (seats : List (SeatState Pass)) {left : List (SeatState Pass)}
    → ((k : ℕ) (x : SeatState Pass) → get_elem? seats k ≡ some x → x ≡ new_seat_in lists table p (worker + k)) → left ≡ remove seats 0
    → (k : ℕ) (x : SeatState Pass) → get_elem? left k ≡ some x → x ≡ new_seat_in lists table p (worker + 1 + k)
seats_on lists table p worker seats rest is k x at =
    let z : worker + suc k ≡ worker + 1 + k = omega arith in
    rest (suc k) x (sym (at_removed seats k) ∙ (ap (λ l. get_elem? l k) (sym is) ∙ at)) ∙ ap (new_seat_in lists table p) z

-- a caller with a new seat and an empty list
pub new_caller : {s t : SeatState Pass} (left : ℕ) {more : List ℕ} → s ≡ t → more ≡ [] → caller_with s left more ≡ caller_with t left []
new_caller left e p = λ k. caller_with (e k) left (p k)

-- one caller more behind those that were made, with the next number, keeps them all new
pub one_caller : (lists : ℕ) (table : TableId) (start : List Area) (calls : List ℕ) (made : List CallerView) {c : CallerView} {n : ℕ}
    → length made ≡ n → AreNewCallersIn lists table start calls made → c ≡ record {
      seat = new_seat_in lists table (λ k. new_pass start (blocks_by table) (keeps_by table) (slice_index calls k)) n;
      left = slice_index calls n;
      count = 0;
      cut = record { at = record { block = 0; place = 0 }; gone = 0 };
      more = [];
      change = None;
    } → AreNewCallersIn lists table start calls (made ++ c ∷ [])
one_caller lists table start calls made {c} {n} e all is =
    pushed_all (λ k x. x ≡ record {
      seat = new_seat_in lists table (λ j. new_pass start (blocks_by table) (keeps_by table) (slice_index calls j)) k;
      left = slice_index calls k;
      count = 0;
      cut = record { at = record { block = 0; place = 0 }; gone = 0 };
      more = [];
      change = None;
    }) made c n e all is
