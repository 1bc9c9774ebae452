-- The history is what the callers stored, each entry at the place of its number.
use Rattle.std.proofs.Common.{◌≡◌, ℕ, zero, suc, ◌+◌, ◌<◌, ◌≤◌, List, [], ◌∷◌, ◌++◌, drop, length, map, get_or, set, sym, refl, ap, ◌∙◌, subst, arith, add-one}
use Rattle.std.proofs.Common.{drop-cons, append_assoc, inl, inr}
use Rattle.std.proofs.lemmas.Bool.{cases_lt}
use Rattle.std.proofs.lemmas.List.{append-nil, length-map, drop_all}
use Rattle.std.specs.Prelude.{Option, Some, None, replicate}
use mathlib.Core.Logic.{dite}
use mathlib.Core.Option.{some, some-injective, some-ne-none}
use native.Mathlib.Decide.{ℕ_discrete}
use lib.ListN.{get_elem?}
use Rattle.atomic_table.proofs.Lists.{at_map, set_here, set_else}
use Rattle.space_model.specs.declared.areas.Area.{Area}
use Rattle.space_model.specs.declared.entries.Entry.{Entry}
use Rattle.space_model.specs.Areas.{kind_at, row_count}
use Rattle.lock_core.proofs.ByPlace.{below, there, same_lists, at_replicate}
use Rattle.lock_core.specs.declared.range.Held.{Held}
use Rattle.area_guard.specs.declared.guard.Pass.{Pass}
use Rattle.area_guard.specs.declared.guard.Pending.{Pending}
use Rattle.area_guard.specs.declared.guard.Pending.TheVariants.{AtRest, Planned, OneRow}
use Rattle.area_guard.specs.Rows.{nb_in, rows_in, room_of, RowsShow}
use Rattle.area_guard.specs.Parts.{rows_fit, none_is}
use Rattle.area_guard.specs.Slots.{rows_many}
use Rattle.area_guard.specs.Reads.{everything}
use Rattle.area_guard.specs.Changes.{alone}
use Rattle.area_guard.proofs.Entries.{runs_number, own_at, at_own}
use Rattle.area_guard.specs.History.{Runs, planned_calls, LagsAt, RowsStandFor, IsRunningSpace, Backs, AreBacked, HasHistory}
use Rattle.area_rows.specs.declared.close.Kept.{Kept}
use Rattle.area_rows.specs.Callers.{CallerView, IsWhole}
use Rattle.area_rows.proofs.Moments.{none_planned, row_list, rows_agree}
use Rattle.area_rows.specs.Closing.{AllStand, AgreesAt, ArePlaced, AreBelow, AreKept, callers_count, caller_pass}
use Rattle.row_plans.specs.RowLists.{areas_from, rows_start, with_row}
use Rattle.row_plans.specs.Plans.{PlanShows}
use Rattle.row_plans.specs.RowWords.{row_start, row_kind}
use Rattle.row_plans.proofs.PlanLeft.{counted_rows}
use Rattle.row_plans.proofs.RowLists.{areas_back}
use Rattle.row_blocks.specs.Blocks.{IsLaidOut}
use Rattle.page_types.specs.declared.calls.Kind.{Kind}

kept_at : (kept : List Kept) (callers : List CallerView) (k : ℕ) (c : Kept) → AreKept kept callers → get_elem? kept k ≡ some c
    → (v : CallerView) × (get_elem? callers k ≡ some v) × (c.mine.items ≡ v.seat.pass.mine)
kept_at [] callers k c all at = absurd (some-ne-none c (sym at))
kept_at (x ∷ xs) [] k c all at = absurd all
kept_at (x ∷ xs) (y ∷ ys) zero c all at = (y, refl, subst (λ (z : Kept). z.mine.items ≡ y.seat.pass.mine) (some-injective x c at) all.0)
kept_at (x ∷ xs) (y ∷ ys) (suc k) c all at = kept_at xs ys k c all.1 at

at_kept : (kept : List Kept) (callers : List CallerView) (k : ℕ) (v : CallerView) → AreKept kept callers
    → get_elem? callers k ≡ some v → (c : Kept) × (get_elem? kept k ≡ some c) × (c.mine.items ≡ v.seat.pass.mine)
at_kept [] [] k v all at = absurd (some-ne-none v (sym at))
at_kept [] (y ∷ ys) k v all at = absurd all
at_kept (x ∷ xs) [] k v all at = absurd all
at_kept (x ∷ xs) (y ∷ ys) zero v all at = (x, refl, subst (λ (z : CallerView). x.mine.items ≡ z.seat.pass.mine) (some-injective y v at) all.0)
at_kept (x ∷ xs) (y ∷ ys) (suc k) v all at = at_kept xs ys k v all.1 at

-- where nobody holds anything nothing is to be written
nobody_holds : (n worker : ℕ) (h : Held) → get_elem? (replicate {A = Option Held} n None) worker ≡ some (Some h) → ⊥
nobody_holds n worker h at = none_is h (at_replicate n None (Some h) worker at)

idle_rest : (n : ℕ) (state : List Area) (worker : ℕ) (pending : Pending) → Backs (replicate n None) state worker pending → planned_calls pending ≡ 0
idle_rest n state worker AtRest b = refl
idle_rest n state worker (Planned plan) b = absurd (nobody_holds n worker everything b.0)
idle_rest n state worker (OneRow c) b = refl

idle_shown : (n : ℕ) (state : List Area) (worker page : ℕ) (pending : Pending) → Backs (replicate n None) state worker pending → LagsAt pending page → ⊥
idle_shown n state worker page AtRest b lags = lags
idle_shown n state worker page (Planned plan) b lags = lags
idle_shown n state worker page (OneRow c) b lags = nobody_holds n worker (alone c.span) b.0

-- and the rows show the state
pub idle_rows : (n : ℕ) {start : List Area} {history : List Entry} {state : List Area} {words : List ℕ} {passes : List Pass}
    → IsRunningSpace start history state words passes → AreBacked (replicate n None) words state passes → RowsShow words (kind_at state)
idle_rows n {state} {words} {passes} r backed =
    let none = none_planned passes (λ other x at. idle_rest n state other x.pending (backed other x at).pending) in
    let s : RowsStandFor state passes words = r.rows none in
    rows_agree (kind_at state)
    (λ page low. sym (s.1.elsewhere page (λ other x at lags. idle_shown n state other page x.pending (backed other x at).pending lags))) s.2

module _ {start : List Area} {history : List Entry} {state : List Area} {words : List ℕ} (callers : List CallerView)
    (r : IsRunningSpace start history state words (map caller_pass callers)) where
  -- each caller's entries stand at the places of their numbers
  own_stand : (k : ℕ) (c : CallerView) → get_elem? callers k ≡ some c → AllStand history c.seat.pass.mine
  own_stand k c at j e there =
      let part = r.parts k c.seat.pass (at_map caller_pass callers k c at) in
      let f = own_at k history j e (ap (λ l. get_elem? l j) part.mine ∙ there) in
      let n : e.number ≡ f.0 = runs_number history 0 start state f.0 e r.runs f.1 ∙ omega arith in
      ap (get_elem? history) n ∙ f.1

  -- every entry is of one of the callers
  its_caller : (i : ℕ) (e : Entry) → get_elem? history i ≡ some e → e.worker < length callers
  its_caller i e at = elim (cases_lt e.worker (length callers)) [
    | inl lt ↦ lt
    | inr ge ↦
        let none = r.no_other e.worker (let l = length-map callers caller_pass in omega arith) in
        let o = at_own e.worker history i e at refl in
        absurd (some-ne-none e (sym (ap (λ l. get_elem? l o.0) (sym none) ∙ o.1)))
  ]

  -- the history is whole, with the areas that the rows stand for
  pub whole_of : RowsShow words (kind_at state) → IsWhole callers history (areas_from (rows_in words))
  whole_of rows =
      let s : areas_from (rows_in words) ≡ state = areas_back (rows_in words) state rows.show r.in_order in
      subst (IsWhole callers history) (sym s) (record {
        runs = λ k c at. subst (λ a. Runs 0 a history state) (sym (r.parts k c.seat.pass (at_map caller_pass callers k c at)).began) r.runs;
        calls = r.calls;
        replies = r.replies;
        in_order = r.in_order;
        named = r.named;
        mine = λ k c at. (r.parts k c.seat.pass (at_map caller_pass callers k c at)).mine;
        seen = λ k c at. (r.parts k c.seat.pass (at_map caller_pass callers k c at)).seen;
        no_other = λ k le. r.no_other k (let l = length-map callers caller_pass in omega arith);
      })

  module _ (kept : List Kept) (all : AreKept kept callers) where
    -- all that was kept of each caller stands in the history
    pub kept_stand : (k : ℕ) (c : Kept) → get_elem? kept k ≡ some c → AllStand history c.mine.items
    kept_stand k c at = let f = kept_at kept callers k c all at in subst (AllStand history) (sym f.2) (own_stand k f.0 f.1)

    -- and its numbers are below the count of all entries
    pub kept_below : (bound : ℕ) → bound ≡ callers_count callers → (k : ℕ) (c : Kept) → get_elem? kept k ≡ some c → AreBelow bound c.mine.items
    kept_below bound b k c at j e there = let t = r.total in let l = below history e.number e (kept_stand k c at j e there) in omega arith

    history_is : (out : List Entry) → length out ≡ length history
        → ((k : ℕ) (c : Kept) → get_elem? kept k ≡ some c → ArePlaced history c.mine.items out) → out ≡ history
    history_is out wide placed = same_lists out history wide (λ i e at.
        let v = there callers e.worker (its_caller i e at) in let c = at_kept kept callers e.worker v.0 all v.1 in
        let o = at_own e.worker history i e at refl in
        let part = r.parts e.worker v.0.seat.pass (at_map caller_pass callers e.worker v.0 v.1) in
        let n : e.number ≡ i = runs_number history 0 start state i e r.runs at ∙ omega arith in
        subst (AgreesAt history out) n (placed e.worker c.0 c.1 o.0 e (ap (λ l. get_elem? l o.0) (c.2 ∙ sym part.mine) ∙ o.1)) ∙ at)

    -- the whole history, and the state that the rows stand for
    pub whole : RowsShow words (kind_at state) → (out : List Entry) (areas : List Area) → length out ≡ callers_count callers → ((k : ℕ) (c : Kept)
        → get_elem? kept k ≡ some c → ArePlaced history c.mine.items out) → areas ≡ areas_from (rows_in words) → IsWhole callers out areas
    whole rows out areas wide placed is =
        let e : out ≡ history = history_is out (wide ∙ sym r.total) placed in
        subst (λ (z : List Entry × List Area). IsWhole callers z.0 z.1) (λ i. (sym e i, sym is i)) (whole_of rows)

-- one entry more at its place
pub place_keeps : (history out : List Entry) (e : Entry) (i : ℕ) → get_elem? history e.number ≡ some e → e.number < length out
    → AgreesAt history out i → AgreesAt history (set out e.number e) i
place_keeps history out e i stands lt old = dite (ℕ_discrete i e.number)
    (λ same. ap (get_elem? (set out e.number e)) same ∙ (set_here out e.number e lt ∙ (sym stands ∙ ap (get_elem? history) (sym same))))
    (λ other. set_else out e.number i e other ∙ old)

-- an entry that was put at the place of its number is that of the history there
pub place_there : (history out : List Entry) (e : Entry) → get_elem? history e.number ≡ some e → e.number < length out
    → AgreesAt history (set out e.number e) e.number
place_there history out e stands lt = set_here out e.number e lt ∙ sym stands

-- each entry so far is at its place, and now one more
pub place_step : (history mine out : List Entry) (j : ℕ) (e : Entry) → get_elem? mine j ≡ some e → AllStand history mine
    → e.number < length out → ((k : ℕ) (f : Entry) → k < j → get_elem? mine k ≡ some f → AgreesAt history out f.number)
    → (k : ℕ) (f : Entry) → k < j + 1 → get_elem? mine k ≡ some f → AgreesAt history (set out e.number e) f.number
place_step history mine out j e at all lt before k f le there = elim (cases_lt k j) [
  | inl less ↦ place_keeps history out e f.number (all j e at) lt (before k f less there)
  | inr ge ↦
      let same : k ≡ j = omega arith in
      let is : e ≡ f = some-injective e f (sym at ∙ (ap (get_elem? mine) (sym same) ∙ there)) in
      subst (λ (x : Entry). AgreesAt history (set out e.number e) x.number) is (place_there history out e (all j e at) lt)
]

-- each caller's entries so far are at their places, and now those of one more
pub caller_step : (history : List Entry) (kept : List Kept) (old new : List Entry) {mine : List Entry} (n : ℕ) (c : Kept) → get_elem? kept n ≡ some c
    → mine ≡ c.mine.items → ((k : ℕ) (d : Kept) → get_elem? kept k ≡ some d → AllStand history d.mine.items) → ((history : List Entry) (i : ℕ)
    → AllStand history mine → AgreesAt history old i → AgreesAt history new i) → ((history : List Entry) → AllStand history mine → ArePlaced history mine new)
    → ((k : ℕ) (d : Kept) → k < n → get_elem? kept k ≡ some d → ArePlaced history d.mine.items old) → (k : ℕ) (d : Kept) → k < n + 1 → get_elem? kept k ≡ some d
    → ArePlaced history d.mine.items new
caller_step history kept old new {mine} n c at is all keeps places before k d lt there j e inside =
    let stand : AllStand history mine = subst (AllStand history) (sym is) (all n c at) in
    elim (cases_lt k n) [
      | inl less ↦ keeps history e.number stand (before k d less there j e inside)
      | inr ge ↦
          let same : k ≡ n = omega arith in
          let which : c ≡ d = some-injective c d (sym at ∙ (ap (get_elem? kept) (sym same) ∙ there)) in
          places history stand j e (ap (λ l. get_elem? l j) (is ∙ ap (λ (x : Kept). x.mine.items) which) ∙ inside)
    ]

-- the areas of the rows that are left
drop_next : (l : List ℕ) (i : ℕ) → i < length l → drop i l ≡ get_or l i 0 ∷ drop (i + 1) l
drop_next l i lt = rw (add-one, drop-cons l i 0) refl

row_apart : (lo : ℕ) (kind : Option Kind) (hi : ℕ) (rest : List Area) → with_row lo kind hi rest ≡ with_row lo kind hi [] ++ rest
row_apart lo None hi rest = refl
row_apart lo (Some kind) hi rest = refl

-- the areas so far, with that of one row more, and those of the rows behind it are all the areas still
pub row_step : (rows : List ℕ) (i : ℕ) {lo hi : ℕ} {kind : Option Kind} (out : List Area) {new all : List Area} → i < length rows
    → lo ≡ row_start (get_or rows i 0) → kind ≡ row_kind (get_or rows i 0) → hi ≡ rows_start (drop (i + 1) rows) → new ≡ out ++ with_row lo kind hi []
    → out ++ areas_from (drop i rows) ≡ all → new ++ areas_from (drop (i + 1) rows) ≡ all
row_step rows i {lo} {hi} {kind} out lt l k h is before =
    let rest = areas_from (drop (i + 1) rows) in
    let head : drop i rows ≡ get_or rows i 0 ∷ drop (i + 1) rows = drop_next rows i lt in
    let one : with_row lo kind hi rest ≡ areas_from (drop i rows) = (λ j. with_row (l j) (k j) (h j) rest) ∙ sym (ap areas_from head) in
    ap (λ x. x ++ rest) is ∙ (append_assoc out (with_row lo kind hi []) rest ∙ (ap (λ x. out ++ x) (sym (row_apart lo kind hi rest) ∙ one) ∙ before))

-- where no row is left, the areas so far are all of them
pub rows_done : (rows : List ℕ) (i : ℕ) (out : List Area) {all : List Area} → ¬ (i < length rows) → out ++ areas_from (drop i rows) ≡ all → out ≡ all
rows_done rows i out not_more before = sym (append-nil out) ∙ (ap (λ l. out ++ areas_from l) (sym (drop_all i rows (omega arith))) ∙ before)

-- the rows behind a row start where the word of the next row says
pub next_start : (rows : List ℕ) (i : ℕ) → i + 1 < length rows → rows_start (drop (i + 1) rows) ≡ row_start (get_or rows (i + 1) 0)
next_start rows i lt = ap rows_start (drop_next rows (i + 1) lt)

-- the numbers of what was kept are below the number of all entries
pub closes_below : (n : ℕ) (words : List ℕ) (callers : List CallerView) (kept : List Kept) {passes : List Pass} {bound : ℕ} → passes ≡ map caller_pass callers
    → HasHistory (replicate n None) words passes → AreKept kept callers → bound ≡ callers_count callers → (k : ℕ) (c : Kept) → get_elem? kept k ≡ some c
    → AreBelow bound c.mine.items
closes_below n words callers kept {bound} is h all b =
    let r = subst (λ (ps : List Pass). HasHistory (replicate n None) words ps) is h in
    kept_below callers r.3 kept all bound b

-- the words of a closed table have so many blocks, as each caller says, and so many rows at most
pub closes_blocks : (n nb : ℕ) (words : List ℕ) (passes : List Pass) (h : HasHistory (replicate n None) words passes) → 0 < length passes → ((k : ℕ) (p : Pass)
    → get_elem? passes k ≡ some p → p.blocks ≡ nb) → (nb ≡ nb_in words) × IsLaidOut (nb_in words) (drop 3 words) × (length (rows_in words) ≤ room_of nb)
closes_blocks n nb words passes h some_pass all =
    let first = there passes 0 some_pass in
    let is : nb ≡ nb_in words = sym (all 0 first.0 first.1) ∙ (h.3.parts 0 first.0 first.1).room.0 in
    let rows = idle_rows n h.3 h.4 in let many = rows_many words (kind_at h.2) rows in let some_row = rows.some in let few = rows.few in
    let shows : PlanShows (rows_in words) (kind_at h.2) = record { some = omega arith; few = omega arith; show = rows.show; gaps = rows.gaps } in
    let back = areas_back (rows_in words) h.2 rows.show h.3.in_order in
    let counted = counted_rows (rows_in words) (row_list shows back) in
    let state = ap row_count back in let fits = rows_fit h.0 h.1 h.2 words passes h.3 in
    let room = ap room_of is in (is, rows.laid, omega arith)

-- each of the passes is a caller's
pub caller_at : (callers : List CallerView) (k : ℕ) (p : Pass) → get_elem? (map caller_pass callers) k ≡ some p
    → (c : CallerView) × (get_elem? callers k ≡ some c) × (caller_pass c ≡ p)
caller_at callers k p at =
    let lt = below (map caller_pass callers) k p at in let many = length-map callers caller_pass in let v = there callers k (omega arith) in
    (v.0, v.1, some-injective (caller_pass v.0) p (sym (at_map caller_pass callers k v.0 v.1) ∙ at))
