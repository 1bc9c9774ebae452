-- A caller that holds its area and a page on each side, and has read the rows round it, may store its change: what it
-- has read is so still, whatever other callers do beside its pages.
use Rattle.std.proofs.Common.{◌≡◌, ℕ, suc, ◌+◌, ◌-◌, ◌<◌, ◌≤◌, inl, inr, List, get_or, set, sym, refl, ap, ◌∙◌, subst, arith, ⊎_elim}
use Rattle.std.proofs.lemmas.Bool.{cases_lt}
use Rattle.std.specs.Prelude.{All, Option, None, Some, slice_index}
use mathlib.Core.Option.{some, some-injective}
use lib.ListN.{get_elem?}
use Rattle.page_types.specs.declared.TheConstants.{LIMIT}
use Rattle.page_types.specs.declared.calls.Kind.{Kind}
use Rattle.page_types.specs.declared.pages.Span.{Span}
use Rattle.page_types.specs.Named.{IsNamedKind}
use Rattle.lock_core.specs.declared.range.Held.{Held}
use Rattle.lock_core.specs.Client.{stores, IsAllowed, IsMade}
use Rattle.range_rw.specs.Contract.{SeatState, IsClientCall}
use Rattle.area_guard.specs.declared.guard.Change.{Change}
use Rattle.area_guard.specs.declared.guard.Note.{Note}
use Rattle.area_guard.specs.declared.guard.Pass.{Pass}
use Rattle.area_guard.specs.declared.guard.Pending.{Pending}
use Rattle.area_guard.specs.declared.guard.Pending.TheVariants.{OneRow}
use Rattle.area_guard.specs.declared.guard.ReadRow.{ReadRow}
use Rattle.area_guard.specs.Rows.{RowsShow, IsRowOf, layout_in, slots_of, slot_at, slots_in, rows_in, blocks_by, AreNeighbours, IsOneOf, IsSlot, IsNext}
use Rattle.area_guard.specs.Rows.{IsInReach}
use Rattle.area_guard.specs.Slots.{slots_many, rows_are, slots_apart, shows_set, slot_in as slot_below}
use Rattle.area_guard.specs.Reads.{IsHeldPage, HasRead, StillStands}
use Rattle.area_guard.specs.Changes.{IsIn, alone, new_word, with_change, MayReplace}
use Rattle.area_guard.specs.RowStores.{in_change, out_of_change}
use Rattle.area_guard.specs.Parts.{none_is, some_is}
use Rattle.area_guard.specs.Writes.{span_pages}
use Rattle.area_guard.specs.Keeping.{no_note}
use Rattle.area_guard.specs.History.{planned_calls, RowsStandFor, HasHistory, Allowed, MayWrite, after_change}
use Rattle.area_rows.specs.declared.row.Row.{Row}
use Rattle.area_rows.specs.OneStore.{IsOneStore, IsRound}
use Rattle.area_rows.specs.OneStore.IsOneStore.{whole, first_part, last_part}
use Rattle.area_rows.specs.Callers.{IsReadRound, IsClientStep, CallerView, HasToStore, IsHeldPages, RowIs, HasEnds, IsEndIn, IsReadIn, IsAsRead, IsReadBefore}
use Rattle.area_rows.specs.Callers.{IsReadBehind}
use Rattle.area_rows.proofs.Moments.{stands, only_own_plan, here_at}
use Rattle.area_rows.proofs.Neighbours.{row_there, next_same, none_next, word_says, end_is}
use Rattle.area_rows.proofs.Stepping.{step_of}
use Rattle.area_rows.proofs.Reading.{below_end, kind_now, row_is_still}
use Rattle.area_rows.proofs.OneRow.{IsRowIn, mapped_there, replaced_shows}
use Rattle.row_plans.specs.RowWords.{row_start, row_kind}
use Rattle.row_plans.specs.RowLists.{ShowFrom, areas_from}
use Rattle.row_plans.proofs.ReadBack.{start_back, kind_back}
use Rattle.row_plans.proofs.RowLists.{are_next, some_none}

-- at a moment, what was read of a row and of those beside it under the range that is held, in the slots of the moment
pub record IsAround (span : Span) (words : List ℕ) (read : List ReadRow) (row : Row) (next : ℕ) (before behind : Option Kind) : Type 0 where
  -- what was read stands
  pub stood : All (StillStands (Some (alone span)) words) read
  -- the range is round the row
  pub round : IsRound row span
  -- which has a page
  pub pages : row.lo < row.hi
  -- and lies below the limit
  pub limit : row.hi ≤ LIMIT
  -- it is as it was read
  pub in_slot : IsReadIn read (slots_in words) (slot_at (layout_in words) row.index) row
  -- so is the kind of the row before
  pub left : IsReadBefore read (slots_in words) (slot_at (layout_in words) row.index) before
  -- and of the one behind
  pub right : IsReadBehind read (slots_in words) (slot_at (layout_in words) row.index) next behind

-- what a caller has read round a row is so in the slots of a moment at which its layout stands
pub around_now : {span : Span} {words : List ℕ} {p : Pass} {row : Row} {next : ℕ} {before behind : Option Kind}
    → All (StillStands (Some (alone span)) words) p.rows → IsRound row span → row.lo < row.hi → row.hi ≤ LIMIT → (r : IsAsRead p row)
    → layout_in words ≡ r.layout → IsReadBefore p.rows (slots_of r.layout) (slot_at r.layout row.index) before
    → IsReadBehind p.rows (slots_of r.layout) (slot_at r.layout row.index) next behind → IsAround span words p.rows row next before behind
around_now {p = p} {row} {next} {before} {behind} stood round pages limit r laid left right = record {
  stood = stood;
  round = round;
  pages = pages;
  limit = limit;
  in_slot = subst (λ (l : List ℕ). IsReadIn p.rows (slots_of l) (slot_at l row.index) row) (sym laid) r.in_slot;
  left = subst (λ (l : List ℕ). IsReadBefore p.rows (slots_of l) (slot_at l row.index) before) (sym laid) left;
  right = subst (λ (l : List ℕ). IsReadBehind p.rows (slots_of l) (slot_at l row.index) next behind) (sym laid) right;
}

-- the row and its neighbours, at a moment at which the rows show kinds
module _ {span : Span} {words : List ℕ} {kinds : ℕ → Option Kind} (s : RowsShow words kinds) {read : List ReadRow} {row : Row} {next : ℕ}
    {before behind : Option Kind} (a : IsAround span words read row next before behind) where
  -- its slot, and its place in the list of all rows
  abbrev row_slot : ℕ
  row_slot = slot_at (layout_in words) row.index

  abbrev place : ℕ
  place = a.in_slot.there.0

  -- pages round the row are held
  is_held : (page : ℕ) → row.lo - 1 ≤ page → page ≤ row.hi → page < LIMIT → IsHeldPage (Some (alone span)) page
  is_held page from until low = let b = a.round.0 in let e = a.round.1 in (alone span, refl, omega arith, omega arith)

  held_pages_alone : IsHeldPages (Some (alone span))
  held_pages_alone h e = subst (λ (g : Held). (g.range.lo < g.range.hi) × (g.range.hi ≤ LIMIT)) (some_is (alone span) h e) (span_pages span)

  first_held : IsHeldPage (Some (alone span)) row.lo
  first_held = let p = a.pages in let l = a.limit in is_held row.lo (omega arith) (omega arith) (omega arith)

  -- by kinds, the row is as it was read
  row_now : RowIs (Some (alone span)) row.lo row words (areas_from (rows_in words))
  row_now = row_is_still (Some (alone span)) s row.lo a.stood a.in_slot first_held (omega arith) a.pages a.limit held_pages_alone (areas_from (rows_in words))
      (λ p h. sym ((are_next 0 (rows_in words) kinds s.show).same p (omega arith) (below_end (Some (alone span)) p held_pages_alone h)))

  ends_now : HasEnds words row
  ends_now = row_now.ends (alone span, refl, (let b = a.round.0 in omega arith), (let e = a.round.1 in omega arith))

  -- the word of the row starts where the row does
  pub starts_now : row_start (slice_index words (3 + slot_at (layout_in words) row.index)) ≡ row.lo
  starts_now = ends_now.0

  -- the row ends there still
  pub end_now : IsEndIn words (slot_at (layout_in words) row.index) row.hi
  end_now = ends_now.1

  -- and has its kind
  pub is_kind : row_kind (slice_index words (3 + slot_at (layout_in words) row.index)) ≡ row.kind
  is_kind = kind_now (Some (alone span)) s row.lo a.stood a.in_slot first_held (omega arith) a.pages a.limit held_pages_alone

  -- the row behind starts where this one ends
  pub starts_behind : (other : ℕ) → IsNext words (slot_at (layout_in words) row.index) other → row_start (slice_index words (3 + other)) ≡ row.hi
  starts_behind other after = ⊎_elim (λ t. ap (λ (n : ℕ). row_start (slice_index words (3 + n))) (next_same s row_slot other t.0 after t.1) ∙ t.2)
      (λ t. absurd (none_next s row_slot other t.0 after)) end_now

  -- the kind of the row before, as it is now
  before_now : (other : ℕ) → IsNext words other row_slot → (w : ℕ) → HasRead read other w → row_kind (slice_index words (3 + other)) ≡ row_kind w
  before_now other after w h =
      let up = (word_says s other (after.0, after.1)).rises row_slot after in
      let o = starts_now in let p = a.pages in let l = a.limit in
      (stands (Some (alone span)) words read other w a.stood h).kind (row.lo - 1) (is_held (row.lo - 1) (omega arith) (omega arith) (omega arith)) (record {
        there = (after.0, after.1);
        from = omega arith;
        last = λ n on. subst (λ (m : ℕ). row.lo - 1 < row_start (slice_index words (3 + m))) (next_same s other row_slot n after on) (omega arith);
      })

  -- and of the row behind, as it was read
  pub behind_now : (other : ℕ) → IsNext words (slot_at (layout_in words) row.index) other → (w : ℕ) → HasRead read other w
      → row_kind (slice_index words (3 + other)) ≡ row_kind w
  behind_now other after w h =
      let v = word_says s other (after.0 + 1, after.2) in let low = v.below in let begins = starts_behind other after in
      (stands (Some (alone span)) words read other w a.stood h).kind row.hi (is_held row.hi (omega arith) (omega arith) (omega arith))
      (record { there = (after.0 + 1, after.2); from = omega arith; last = λ n on. let up = v.rises n on in omega arith })

  -- the row stands in the list of the row words, between neighbours of these kinds
  pub row_in : IsRowIn (rows_in words) a.in_slot.there.0 row before behind
  row_in = record {
    there = row_there s place row_slot a.in_slot.there.1;
    lo = ap row_start (rows_are words kinds s place row_slot a.in_slot.there.1) ∙ starts_now;
    hi = end_is s place row_slot row.hi a.in_slot.there.1 end_now;
    kind = ap row_kind (rows_are words kinds s place row_slot a.in_slot.there.1) ∙ is_kind;
    left = ⊎_elim (λ t. inl (slots_apart words kinds s place 0 row_slot a.in_slot.there.1 t.0, t.1)) (λ t.
        let same = slots_apart words kinds s place (t.1.0 + 1) row_slot a.in_slot.there.1 t.1.2 in
        inr (t.1.0, omega arith, ap row_kind (rows_are words kinds s t.1.0 t.0 t.1.1) ∙ (before_now t.0 t.1 t.2 t.3 ∙ sym t.4))) a.left;
    right = ⊎_elim (λ t.
        let same = slots_apart words kinds s place t.0.0 row_slot a.in_slot.there.1 t.0.1 in
        let end = t.0.2 in let many = slots_many words kinds s in inl (omega arith, t.1)) (λ t.
        let same = slots_apart words kinds s place t.0.0 row_slot a.in_slot.there.1 t.0.1 in
        let z : suc place ≡ t.0.0 + 1 = omega arith in
        let on = row_there s (t.0.0 + 1) next t.0.2 in
        inr (
          omega arith,
          ap (λ (n : ℕ). row_kind (get_or (rows_in words) n 0)) z
              ∙ (ap row_kind (rows_are words kinds s (t.0.0 + 1) next t.0.2) ∙ (behind_now next t.0 t.1 t.2 ∙ sym t.3)),
        )) a.right;
  }

-- the pages of a change lie in the row
place_in : {slot next : ℕ} {c : Change} {row : Row} {before behind : Option Kind} → row.lo < row.hi → c.place.lo < c.place.hi
    → IsOneStore slot next row before behind c → (row.lo ≤ c.place.lo) × (c.place.hi ≤ row.hi)
place_in pages some_page (whole index at new lo hi not_before not_behind) = (omega arith, omega arith)
place_in pages some_page (first_part index at same_kind lo hi is_before) = (omega arith, omega arith)
place_in pages some_page (last_part index at new lo hi is_behind_new) = (omega arith, omega arith)

-- where the row behind has a kind, the next slot is behind that of the row, and the kind was read there
behind_there : (rows : List ReadRow) (slots : List ℕ) (slot next : ℕ) {behind : Option Kind} (kind : Kind) → IsReadBehind rows slots slot next behind
    → behind ≡ Some kind → AreNeighbours slots slot next × (word : ℕ) × HasRead rows next word × (behind ≡ row_kind word)
behind_there rows slots slot next {behind} kind read is = ⊎_elim (λ t. absurd (some_none kind behind t.1 is)) (λ t. t) read

-- a page is in a span, or isn't
in_or_out : (span : Span) (page : ℕ) (P : Type 0) → (IsIn span page → P) → ((IsIn span page → ⊥) → P) → P
in_or_out span page P yes_in no_in = elim (cases_lt page span.lo) [
  | inl lt ↦ no_in (λ i. absurd (omega arith))
  | inr ge ↦ elim (cases_lt page span.hi) [
    | inl less ↦ yes_in (ge, less)
    | inr over ↦ no_in (λ i. absurd (omega arith))
  ]
]

-- so the change may be stored
module _ (c : Change) {words : List ℕ} {kinds : ℕ → Option Kind} (s : RowsShow words kinds) {row : Row} {next : ℕ} {before behind : Option Kind}
    {read : List ReadRow} (a : IsAround c.span words read row next before behind) (named : IsNamedKind c.kind) (old : row.kind ≡ Some c.old)
    (from : row.lo ≤ c.place.lo) (until : c.place.hi ≤ row.hi) where
  abbrev own_slot : ℕ
  own_slot = slot_at (layout_in words) row.index

  named_word : row_start (new_word c) ≡ c.start
  named_word = start_back c.start (Some c.kind) named

  kind_word : row_kind (new_word c) ≡ Some c.kind
  kind_word = kind_back c.start (Some c.kind) named

  -- the row behind, where it has a kind
  after : (kind : Kind) → behind ≡ Some kind → IsNext words own_slot next × (word : ℕ) × HasRead read next word × (behind ≡ row_kind word)
  after kind is = behind_there read (slots_in words) own_slot next kind a.right is

  at_next : behind ≡ Some c.new → get_elem? (slots_in words) (suc a.in_slot.there.0) ≡ some next
  at_next is =
      let n = (after c.new is).0 in
      let same = slots_apart words kinds s a.in_slot.there.0 n.0 own_slot a.in_slot.there.1 n.1 in
      let z : suc a.in_slot.there.0 ≡ n.0 + 1 = omega arith in
      ap (get_elem? (slots_in words)) z ∙ n.2

  -- the rows with the new word show the changed kinds, whatever they show now
  replaced : {others : ℕ → Option Kind} → RowsShow words others → IsOneStore own_slot next row before behind c
      → (n : ℕ) × (get_elem? (slots_in words) n ≡ some c.index) × ShowFrom 0 (set (rows_in words) n (new_word c)) (with_change c others)
  replaced {others} o store = replaced_shows others c (new_word c) o.show (row_in s a) old named_word kind_word from c.place.ordered until (slots_in words)
      a.in_slot.there.1 at_next store

  shows_after : IsOneStore own_slot next row before behind c → (others : ℕ → Option Kind) → RowsShow words others
      → RowsShow (set words (3 + c.index) (new_word c)) (with_change c others)
  shows_after store others o =
      let r = replaced o store in
      let mapped = mapped_there others c (new_word c) o.show (row_in s a) old named_word kind_word from c.place.ordered until in
      shows_set words others o (with_change c others) r.0 c.index (new_word c) r.1
      (λ p low free. in_or_out c.place p (others p ≡ None) (λ i. absurd (none_is c.new (sym free ∙ in_change c others p i)))
      (λ out. sym (out_of_change c others p out) ∙ free))
      (λ p low free. in_or_out c.place p (with_change c others p ≡ None) (λ i. absurd (none_is c.old (sym free ∙ mapped p i)))
      (λ out. out_of_change c others p out ∙ free)) r.2
      (λ none. absurd (some_none c.kind (row_kind (new_word c)) none kind_word))

  used : IsOneStore own_slot next row before behind c → IsSlot words c.index
  used store = let r = replaced s store in (r.0, r.1)

  -- a page of the row, or next to it, is held
  in_round : (page : ℕ) → row.lo - 1 ≤ page → page < row.hi → IsIn c.span page
  in_round page low high = let b = a.round.0 in let e = a.round.1 in let l = a.limit in (omega arith, omega arith)

  -- a page of the row lies before its end
  before_end : {page : ℕ} → page < LIMIT → IsRowOf words page own_slot → page < row.hi
  before_end below is = ⊎_elim (λ t. let l = is.last t.0 t.1 in let e = t.2 in omega arith) (λ t. let e = t.1 in omega arith) (end_now s a)

  -- the row of the change may get its new word
  pub may_replace : IsOneStore (slot_at (layout_in words) row.index) next row before behind c → MayReplace words c
  may_replace (whole index at new lo hi not_before not_behind) =
      let store = whole index at new lo hi not_before not_behind in
      let at_index : row_start (slice_index words (3 + c.index)) ≡ row.lo = ap (λ (n : ℕ). row_start (slice_index words (3 + n))) index ∙ starts_now s a in
      let w = named_word in
      record {
        there = slot_below words kinds s c.index (used store);
        used = used store;
        up = λ page low high. absurd (omega arith);
        down = λ page low high. absurd (omega arith);
        stood = λ moves. absurd (moves (at_index ∙ (sym at ∙ sym named_word)));
        recoloured = λ differ page below is. in_round page (let f = is.from in omega arith) (before_end below (subst (IsRowOf words page) index is));
        shows = shows_after store;
      }
  may_replace (first_part index at same_kind lo hi is_before) =
      let store = first_part index at same_kind lo hi is_before in
      let at_index : row_start (slice_index words (3 + c.index)) ≡ row.lo = ap (λ (n : ℕ). row_start (slice_index words (3 + n))) index ∙ starts_now s a in
      let w = named_word in
      record {
        there = slot_below words kinds s c.index (used store);
        used = used store;
        up = λ page low high. in_round page (omega arith) (omega arith);
        down = λ page low high. absurd (let p = c.place.ordered in omega arith);
        stood = λ moves page beside. in_round page (⊎_elim (λ e. omega arith) (λ e. omega arith) beside) (let p = a.pages in
            ⊎_elim (λ e. omega arith) (λ e. omega arith) beside);
        recoloured = λ differ. absurd (differ (kind_word ∙ (ap Some same_kind ∙ (sym old ∙ (sym (is_kind s a)
            ∙ ap (λ (n : ℕ). row_kind (slice_index words (3 + n))) (sym index))))));
        shows = shows_after store;
      }
  may_replace (last_part index at new lo hi is_behind_new) =
      let store = last_part index at new lo hi is_behind_new in let on = after c.new is_behind_new in
      let at_index : row_start (slice_index words (3 + c.index)) ≡ row.hi =
      ap (λ (n : ℕ). row_start (slice_index words (3 + n))) index ∙ starts_behind s a next on.0 in
      let low_end = (word_says s c.index (used store)).below in let b = a.round.1 in let w = named_word in
      record {
        there = slot_below words kinds s c.index (used store);
        used = used store;
        up = λ page low high. absurd (let p = c.place.ordered in omega arith);
        down = λ page low high. in_round page (omega arith) (omega arith);
        stood = λ moves page beside. let l = a.round.0 in let p = a.pages in
            (⊎_elim (λ e. omega arith) (λ e. omega arith) beside, ⊎_elim (λ e. omega arith) (λ e. omega arith) beside);
        recoloured = λ differ. absurd (differ (kind_word ∙ (ap Some new ∙ (sym is_behind_new ∙ (on.3 ∙ (sym (behind_now s a next on.0 on.1 on.2)
            ∙ ap (λ (n : ℕ). row_kind (slice_index words (3 + n))) (sym index)))))));
        shows = shows_after store;
      }

low_start : {slot next : ℕ} {row : Row} {before behind : Option Kind} {c : Change} → row.lo < row.hi → row.hi ≤ LIMIT
    → IsOneStore slot next row before behind c → c.start < LIMIT
low_start p l (whole index at new lo hi not_before not_behind) = omega arith
low_start p l (first_part index at same_kind lo hi is_before) = omega arith
low_start {c} p l (last_part index at new lo hi is_behind) = let o = c.place.ordered in omega arith

-- the row of a change that was read round starts below the limit
pub start_low : {s : SeatState Pass} {c : Change} → IsReadRound s c → c.start < LIMIT
start_low r = low_start r.pages r.limit r.store

slot_in : (rows : List ReadRow) (slots : List ℕ) {slot next : ℕ} {row : Row} {before behind : Option Kind} {c : Change} → IsOneOf slots slot
    → IsReadBehind rows slots slot next behind → IsOneStore slot next row before behind c → IsOneOf slots c.index
slot_in rows slots there read (whole index at new lo hi not_before not_behind) = subst (IsOneOf slots) (sym index) there
slot_in rows slots there read (first_part index at same_kind lo hi is_before) = subst (IsOneOf slots) (sym index) there
slot_in rows slots {slot} {next} {c} there read (last_part index at new lo hi is_behind) =
    let n = (behind_there rows slots slot next c.new read is_behind).0 in subst (IsOneOf slots) (sym index) (n.0 + 1, n.2)

-- its slot is in reach
pub index_reach : {s : SeatState Pass} {c : Change} → IsReadRound s c → IsInReach (blocks_by s.table) c.index
index_reach {s} {c} r = r.reach c.index (slot_in s.pass.rows (slots_of r.read.layout) r.read.in_slot.there r.read_behind r.store)

-- the guard allows the store of a change
pub may_store_change : (note : Note) {s : SeatState Pass} {c : Change} → s.pass.pending ≡ OneRow c → IsReadRound s c → (index word : ℕ) → c.index ≡ index
    → word ≡ new_word c → IsAllowed HasHistory Allowed note s.number s.held s.pass (stores (3 + index) word)
may_store_change note {s} {c} pends r index word at is grants words passes m there small =
    let here = here_at m in
    let granted : get_elem? grants s.number ≡ some (Some (alone c.span)) = m.grant ∙ ap some r.held in
    let backed = here.backed s.number s.pass here.own in
    let none = only_own_plan here (alone c.span, granted, span_pages c.span) ∙ ap planned_calls pends in
    let rows : RowsStandFor here.state passes words = here.running.rows none in
    let stood : All (StillStands (Some (alone c.span)) words) s.pass.rows = backed.rows (Some (alone c.span)) granted in
    let laid = (here.running.parts s.number s.pass here.own).laid r.read.layout r.read.laid in
    let around = around_now stood r.round r.pages r.limit r.read laid r.read_before r.read_behind in
    let ends = place_in r.pages c.place.ordered r.store in
    let store = subst (λ (l : List ℕ). IsOneStore (slot_at l r.row.index) r.next r.row r.before r.behind c) (sym laid) r.store in (
      after_change s.pass,
      (
        here,
        subst (λ (q : Pending). MayWrite words q (3 + index) word s.pass (after_change s.pass)) (sym pends) (
          ap (λ n. 3 + n) (sym at),
          is,
          may_replace c rows.2 around r.named r.kind ends.0 ends.1 store,
          refl,
        ),
      ),
    )

-- what the store tells of the pass
row_changed : (words : List ℕ) {pending : Pending} (c : Change) (place word : ℕ) (p after : Pass) → pending ≡ OneRow c
    → MayWrite words pending place word p after → after ≡ after_change p
row_changed words c place word p after is may = (subst (λ (q : Pending). MayWrite words q place word p after) is may).3

-- the store of a change was one step of the seat, after which all is written
pub change_stored : {s u : SeatState Pass} (c : Change) (index word : ℕ) → s.pass.pending ≡ OneRow c → IsClientCall s (3 + index) u
    → ((found : ℕ) × IsMade HasHistory Allowed no_note s.number s.held s.pass (stores (3 + index) word) found u.pass)
    → IsClientStep s (3 + index) (after_change s.pass) u
change_stored {s} {u} c index word pends call made =
    let m = made.1.3 in let may = made.1.5 in let here = may.0 in
    let same : here.pass ≡ s.pass = some-injective here.pass s.pass (sym here.own ∙ m.own) in
    step_of call (row_changed made.1.1 c (3 + index) word here.pass u.pass (ap (λ (x : Pass). x.pending) same ∙ pends) may.1 ∙ ap after_change same)

-- so is the store of a caller that has its row to store, where the word is that of the change which it has chosen
pub chosen_store : {u v : CallerView} {c : Change} (d : Change) {index : ℕ} (word : ℕ) → u ≡ v → HasToStore v c → c.index ≡ index → u.change ≡ Some d
    → (d ≡ c → word ≡ new_word c) → (x : Change) × (u.seat.pass.pending ≡ OneRow x) × IsReadRound u.seat x × (x.index ≡ index) × (word ≡ new_word x)
chosen_store {u} {c} d word same has at own is =
    let h : HasToStore u c = subst (λ (x : CallerView). HasToStore x c) (sym same) has in
    let o = h.chosen in
    let e : d ≡ c = cc in
    (c, h.pending, h.round, at, is e)
