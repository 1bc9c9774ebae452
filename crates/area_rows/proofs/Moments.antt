-- What is so at a moment of the running space of a caller that holds pages: nobody else has a plan to write, and the
-- rows show the state at each held page.
use Rattle.std.proofs.Common.{◌≡◌, ℕ, suc, ◌+◌, ◌<◌, ◌≤◌, List, [], ◌∷◌, length, get_or, set, sym, refl, ap, ◌∙◌, subst, arith, ⊎_elim}
use Rattle.std.proofs.lemmas.Bool.{false≢true}
use Rattle.std.proofs.lemmas.List.Elements.{All-cons, All-head, All-nil, All-tail}
use Rattle.std.proofs.lemmas.List.Sums.{sum_by-cons}
use Rattle.std.specs.Prelude.{All, Option, Some, None, IsSome, slice_index}
use mathlib.Core.Option.{some, some-injective}
use mathlib.Core.Logic.{dite}
use native.Mathlib.Decide.{ℕ_discrete}
use lib.ListN.{get_elem?}
use Rattle.atomic_table.proofs.Lists.{at_set}
use Rattle.page_types.specs.declared.TheConstants.{LIMIT}
use Rattle.page_types.specs.declared.calls.Kind.{Kind}
use Rattle.lock_core.specs.declared.range.Held.{Held}
use Rattle.lock_core.specs.Grants.{Grants, Holds, IsExclusive}
use Rattle.lock_core.specs.Client.{Moment}
use Rattle.range_rw.specs.Contract.{SeatState}
use Rattle.space_model.specs.declared.areas.Area.{Area}
use Rattle.space_model.specs.declared.entries.Entry.{Entry}
use Rattle.space_model.specs.Areas.{kind_at}
use Rattle.area_guard.specs.declared.guard.ReadRow.{ReadRow}
use Rattle.area_guard.specs.declared.guard.Pass.{Pass}
use Rattle.area_guard.specs.declared.guard.Pending.{Pending}
use Rattle.area_guard.specs.declared.guard.Pending.TheVariants.{AtRest, Planned, OneRow}
use Rattle.area_guard.specs.Rows.{rows_in, RowsShow}
use Rattle.area_guard.specs.Slots.{rows_many, shows_others}
use Rattle.area_guard.specs.Reads.{everything, IsHeldPage, HasRead, StillStands}
use Rattle.area_guard.specs.History.{IsRunningSpace, HasHistory, HoldsPages, Backs, IsAtRest, Here, planned_calls, own_planned, planned_count, LagsAt, IsShown}
use Rattle.area_guard.specs.History.{RowsStandFor}
use Rattle.area_guard.specs.Parts.{planned_set}
use Rattle.area_guard.specs.Writes.{everything_pages, clash}
use Rattle.area_guard.specs.Beside.{apart_pages}
use Rattle.area_guard.specs.RowStores.{in_span}
use Rattle.row_plans.specs.RowWords.{row_start}
use Rattle.row_plans.specs.RowLists.{rows_start, ShowFrom, IsBareGap, areas_from}
use Rattle.row_plans.specs.Plans.{PlanShows, IsRowList}
use Rattle.row_plans.proofs.RowLists.{starts_low, areas_back}
use Rattle.area_rows.specs.Callers.{IsHeldPages, IsMoment}

-- what is held is a range
pub held_some : (held : Option Held) → IsSome held → (h : Held) × (held ≡ Some h)
held_some None s = absurd (false≢true s)
held_some (Some h) s = (h, refl)

-- a range that is known to be held has pages
pub held_pages : (grants : Grants) (seat : ℕ) (held : Option Held) → get_elem? grants seat ≡ some held → IsSome held → IsHeldPages held → HoldsPages grants seat
held_pages grants seat held at some_held pages = let h = held_some held some_held in (h.0, at ∙ ap some h.1, pages h.0 h.1)

-- the first of row words that show kinds starts at page 0
pub first_start : (rows : List ℕ) (kinds : ℕ → Option Kind) → ShowFrom 0 rows kinds → 0 < length rows → row_start (get_or rows 0 0) ≡ 0
first_start [] kinds s l = absurd (omega arith)
first_start (w ∷ rest) kinds s l = s.0

-- rows that show kinds show others that are the same below the limit
shows_agree : (page : ℕ) (rows : List ℕ) (kinds other : ℕ → Option Kind) → ((p : ℕ) → p < LIMIT → other p ≡ kinds p)
    → ShowFrom page rows kinds → ShowFrom page rows other
shows_agree page [] kinds other same s = s
shows_agree page (w ∷ rest) kinds other same s =
    let l = starts_low (rows_start rest) rest kinds s.4 in
    (s.0, s.1, s.2, λ p from below. same p (omega arith) ∙ s.3 p from below, shows_agree (rows_start rest) rest kinds other same s.4)

-- each of them starts at or below the limit
pub starts_below : (page : ℕ) (rows : List ℕ) (kinds : ℕ → Option Kind) → ShowFrom page rows kinds → All (λ w. row_start w ≤ LIMIT) rows
starts_below page [] kinds s = All-nil (λ (w : ℕ). row_start w ≤ LIMIT)
starts_below page (w ∷ rest) kinds s =
    let l = starts_low page (w ∷ rest) kinds s in let e = s.0 in
    All-cons (λ (v : ℕ). row_start v ≤ LIMIT) w rest (omega arith) (starts_below (rows_start rest) rest kinds s.4)

-- rows that show kinds show any others that are the same at each page below the limit
pub rows_agree : {words : List ℕ} {kinds : ℕ → Option Kind} (other : ℕ → Option Kind) → ((p : ℕ) → p < LIMIT → other p ≡ kinds p) → RowsShow words kinds
    → RowsShow words other
rows_agree {words} {kinds} other same s = shows_others words kinds s other (shows_agree 0 (rows_in words) kinds other same s.show)

-- rows that show the kinds of an area list are that list's
pub row_list : {rows : List ℕ} {A : List Area} → PlanShows rows (kind_at A) → areas_from rows ≡ A → IsRowList rows
row_list {rows} shows is = subst (λ (B : List Area). PlanShows rows (kind_at B)) (sym is) shows

-- a row that was read stands still
pub stands : (held : Option Held) (words : List ℕ) (rows : List ReadRow) (i w : ℕ) → All (StillStands held words) rows
    → HasRead rows i w → StillStands held words (record { index = i; word = w })
stands held words [] i w all h = absurd h
stands held words (r ∷ rest) i w all h = ⊎_elim (λ t. subst (λ (z : ℕ × ℕ). StillStands held words (record { index = z.0; word = z.1 })) (λ k. (t.0 k, t.1 k))
    (All-head (StillStands held words) r rest all)) (λ t. stands held words rest i w (All-tail (StillStands held words) r rest all) t) h

-- where no caller has a plan to write, their count is 0
pub none_planned : (passes : List Pass) → ((other : ℕ) (x : Pass) → get_elem? passes other ≡ some x → planned_calls x.pending ≡ 0) → planned_count passes ≡ 0
none_planned [] all = refl
none_planned (x ∷ xs) all = let a = all 0 x refl in let r = none_planned xs (λ other y at. all (suc other) y at) in
    let s = sum_by-cons own_planned x xs in omega arith

rest_of_other : (grants : Grants) (state : List Area) (worker other : ℕ) (pending : Pending) → IsExclusive grants
    → (other ≡ worker → ⊥) → HoldsPages grants worker → Backs grants state other pending → planned_calls pending ≡ 0
rest_of_other grants state worker other AtRest exclusive differ h b = refl
rest_of_other grants state worker other (Planned plan) exclusive differ h b = absurd (clash grants other worker exclusive (λ e. differ (sym e)) b.0 h)
rest_of_other grants state worker other (OneRow c) exclusive differ h b = refl

module _ {grants : Grants} {words : List ℕ} {passes : List Pass} {worker : ℕ} (here : Here grants words passes worker) where
  open here use {state, exclusive, backed, own}

  -- while a caller holds pages no other has a plan to write
  pub only_own_plan : HoldsPages grants worker → planned_count passes ≡ planned_calls here.pass.pending
  only_own_plan h =
      let rests : Pass = record here.pass { pending = AtRest } in
      let all : (other : ℕ) (x : Pass) → get_elem? (set passes worker rests) other ≡ some x → planned_calls x.pending ≡ 0 = λ other x there. ⊎_elim
      (λ t. ap (λ (z : Pass). planned_calls z.pending) (sym t.1))
      (λ t. rest_of_other grants state worker other x.pending exclusive t.0 h (backed other x t.1).pending) (at_set passes worker other rests x there) in
      let none = none_planned (set passes worker rests) all in
      let s : planned_count (set passes worker rests) + planned_calls here.pass.pending ≡ planned_count passes + 0 =
      planned_set passes worker here.pass rests own in
      omega arith

  -- while a caller at rest holds pages, nobody has a plan to write
  pub nobody_plans : IsAtRest here.pass → HoldsPages grants worker → planned_count passes ≡ 0
  nobody_plans rest h = only_own_plan h ∙ ap planned_calls rest

  -- no row of another lags behind at a page that a caller holds
  keeps_off : (held : Option Held) → get_elem? grants worker ≡ some held → (page : ℕ) → IsHeldPage held page
      → (other : ℕ) (pending : Pending) → (other ≡ worker → ⊥) → Backs grants state other pending → LagsAt pending page → ⊥
  keeps_off held has page at other AtRest differ b lags = lags
  keeps_off held has page at other (Planned plan) differ b lags = lags
  keeps_off held has page at other (OneRow c) differ b lags =
      apart_pages grants other worker c.span exclusive (λ e. differ (sym e)) b.0 held has page at (in_span c page b.1 lags)

  -- and none of its own where it is at rest, so the rows show the state there
  pub shows_held : IsAtRest here.pass → (held : Option Held) → get_elem? grants worker ≡ some held → {kinds : ℕ → Option Kind}
      → IsShown state passes kinds → (page : ℕ) → IsHeldPage held page → kinds page ≡ kind_at state page
  shows_held rest held has shown page at = shown.elsewhere page (λ other x there lags. dite (ℕ_discrete other worker) (λ same.
      let mine : x ≡ here.pass = some-injective x here.pass (sym there ∙ (ap (get_elem? passes) same ∙ own)) in
      subst (λ (z : Pending). LagsAt z page) (ap (λ (y : Pass). y.pending) mine ∙ rest) lags)
      (λ differ. keeps_off held has page at other x.pending differ (backed other x there).pending lags))

  -- where a caller at rest holds everything and knows all row words, they show the state
  pub rows_are : {rows : List ℕ} → Holds grants worker everything → IsAtRest here.pass → rows_in words ≡ rows
      → PlanShows rows (kind_at state) × (areas_from rows ≡ state)
  rows_are {rows} held rest is =
      let s : RowsStandFor state passes words = here.running.rows (nobody_plans rest (everything, held, everything_pages)) in
      let few = s.2.few in let some_row = s.2.some in
      let count : length rows ≡ slice_index words 2 = ap length (sym is) ∙ rows_many words s.0 s.2 in
      let agree : (page : ℕ) → page < LIMIT → kind_at state page ≡ s.0 page =
      λ page low. sym (shows_held rest (Some everything) held s.1 page (everything, refl, omega arith, low)) in
      let show : ShowFrom 0 rows (kind_at state) = shows_agree 0 rows s.0 (kind_at state) agree (subst (λ (l : List ℕ). ShowFrom 0 l s.0) is s.2.show) in
      let gaps : All IsBareGap rows = subst (All IsBareGap) is s.2.gaps in
      (record { some = omega arith; few = omega arith; show = show; gaps = gaps }, areas_back rows state show here.running.in_order)

-- a moment of a caller's seat is one of its worker
abbrev pub here_of : {seat : SeatState Pass} {start : List Area} {history : List Entry} {state : List Area} {words : List ℕ}
    (m : IsMoment seat start history state words) → Here m.grants words m.passes seat.number
here_of {start = start} {history} {state} m =
    record { start = start; history = history; state = state; pass = m.pass; running = m.running; backed = m.backed; exclusive = m.exclusive; own = m.own }

-- the moment of a step
abbrev pub here_at : {grants : Grants} {words : List ℕ} {passes : List Pass} {seat : ℕ} {held : Option Held} {pass : Pass}
    → Moment HasHistory seat held pass grants words passes → Here grants words passes seat
here_at {pass} m =
    record { start = m.met.0; history = m.met.1; state = m.met.2; pass = pass; running = m.met.3; backed = m.met.4; exclusive = m.exclusive; own = m.own }

-- the moment of a step, as its caller's seat has it
pub moment_of : {grants : Grants} {words : List ℕ} {passes : List Pass} {seat : ℕ} (here : Here grants words passes seat) (s : SeatState Pass)
    → get_elem? grants seat ≡ some s.held → s.number ≡ seat → here.pass ≡ s.pass → IsMoment s s.pass.start here.history here.state words
moment_of {grants} {words} {passes} {seat} here s granted n same = record {
  grants = grants;
  passes = passes;
  pass = here.pass;
  running = subst (λ a. IsRunningSpace a here.history here.state words passes)
      (sym (here.running.parts seat here.pass here.own).began ∙ ap (λ (x : Pass). x.start) same) here.running;
  backed = here.backed;
  exclusive = here.exclusive;
  granted = ap (get_elem? grants) n ∙ granted;
  own = ap (get_elem? passes) n ∙ here.own;
  read = record {
    laid = λ layout e. ap (λ (x : Pass). x.laid) same ∙ e;
    rows = λ index word h. subst (λ (x : Pass). HasRead x.rows index word) (sym same) h;
    sequence = λ k e. ap (λ (x : Pass). x.sequence) same ∙ e;
    pending = ap (λ (x : Pass). x.pending) same;
    blocks = ap (λ (x : Pass). x.blocks) same;
  };
}
