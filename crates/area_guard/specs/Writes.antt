-- That a caller of a call under everything keeps the rule while it stores the rows of its plan, their count, and raises
-- the sequence word: it holds everything, so no other caller has read anything. These are parts of the proofs in
-- `Keeping`; a reader who trusts the check may pass them over.
use Rattle.std.specs.Prelude.{All, Option, Some, slice_index}
use Rattle.std.proofs.Common.{◌≡◌, ◌≢◌, ℕ, suc, ◌+◌, ◌*◌, ◌%◌, ◌^◌, ◌<◌, inl, inr, List, length, set, sym, refl, ap, ◌∙◌, subst, arith, length-set, ⊎_elim}
use Rattle.std.proofs.lemmas.List.{get_or-set_same, get_or-set_other}
use Rattle.std.proofs.lemmas.List.Elements.{All-nil}
use mathlib.Core.Option.{some, some-injective}
use lib.ListN.{get_elem?}
use Rattle.atomic_table.proofs.Lists.{at_set}
use Rattle.page_types.specs.declared.calls.Kind.{Kind}
use Rattle.page_types.specs.declared.pages.Span.{Span}
use Rattle.space_model.specs.declared.areas.Area.{Area as Areas}
use Rattle.space_model.specs.declared.entries.Entry.{Entry}
use Rattle.space_model.specs.Areas.{IsAreaList, kind_at, row_count}
use Rattle.lock_core.specs.Grants.{Grants, Holds, IsExclusive}
use Rattle.lock_core.specs.Client.{adds, words_after}
use Rattle.lock_core.specs.declared.range.Held.{Held}
use Rattle.area_guard.specs.declared.guard.Pass.{Pass}
use Rattle.area_guard.specs.declared.guard.Pending.{Pending}
use Rattle.area_guard.specs.declared.guard.Splice.{Splice}
use Rattle.area_guard.specs.declared.guard.Pending.TheVariants.{AtRest, Planned, OneRow}
use Rattle.area_guard.specs.Rows.{nb_in, RowsShow}
use Rattle.row_plans.specs.Plans.{PlanShows}
use Rattle.row_plans.specs.RowLists.{areas_from}
use Rattle.row_plans.proofs.PlanLeft.{counted_rows}
use Rattle.row_plans.proofs.RowLists.{areas_back}
use Rattle.area_guard.specs.Reads.{everything, StillStands}
use Rattle.area_guard.specs.Changes.{alone}
use Rattle.area_guard.specs.History.{HasBlocks, IsPart, planned_calls, planned_count, ShowsBefore, IsShown, IsRunningSpace}
use Rattle.area_guard.specs.History.{HasPages, HoldsPages, HasReadNothing, Backs, IsBacked, AreBacked, after_layout, rows_after}
use Rattle.area_guard.specs.History.{after_store, after_raise, MayStore}
use Rattle.area_guard.specs.History.MayStore.{store_row, store_count, store_layout}
use Rattle.area_guard.specs.Stands.{nb_stays, room_stays, number_stays, all_stand, same_low, rows_beside, stored_all, laid_all}
use Rattle.area_guard.specs.Parts.{count_set, most_set, room_kept, no_wrap, whole_few, planned_set, planned_le, planned_of, blank_part}
use Rattle.area_guard.specs.Parts.{stored, stored_count, stored_layout, raised_after}

-- who holds everything as a writer holds pages alone, and nobody else does
pub everything_pages : HasPages everything
everything_pages = (omega arith, omega arith)

pub clash : (grants : Grants) (worker other : ℕ) → IsExclusive grants → other ≢ worker → Holds grants worker everything → HoldsPages grants other → ⊥
clash grants worker other exclusive differ held h = exclusive worker other everything h.0 (λ e. differ (sym e)) held h.1 ((omega arith, omega arith), inl refl)

-- a span that is held has pages alone
pub span_pages : (span : Span) → HasPages (alone span)
span_pages span = (span.ordered, span.in_range)

-- and nobody else has read anything
pub others_blank : (grants : Grants) (words : List ℕ) (state : List Areas) (worker other : ℕ) (x : Pass)
    → IsExclusive grants → other ≢ worker → Holds grants worker everything → IsBacked grants words state other x → HasReadNothing x
others_blank grants words state worker other x exclusive differ held b =
    ⊎_elim (λ n. n) (λ h. absurd (clash grants worker other exclusive differ held h)) b.reads

-- nobody else's pages lag behind
others_shown : (grants : Grants) (state : List Areas) (worker other : ℕ) (pending : Pending) (kinds : ℕ → Option Kind)
    → IsExclusive grants → other ≢ worker → Holds grants worker everything → Backs grants state other pending → ShowsBefore pending kinds
others_shown grants state worker other AtRest kinds exclusive differ held b = tt
others_shown grants state worker other (Planned plan) kinds exclusive differ held b = tt
others_shown grants state worker other (OneRow c) kinds exclusive differ held b =
    absurd (clash grants worker other exclusive differ held (alone c.span, b.0, span_pages c.span))

-- who has read nothing is backed whatever the words are
pub blank_backed : (grants : Grants) (words others : List ℕ) (state : List Areas) (worker : ℕ) (x : Pass) → HasReadNothing x
    → IsBacked grants words state worker x → IsBacked grants others state worker x
blank_backed grants words others state worker x n b = record {
  reads = inl n;
  rows = λ held at. subst (All (StillStands held others)) (sym n.1) (All-nil (StillStands held others));
  pending = b.pending;
}

-- what a caller holds
pub held_is : (grants : Grants) (worker : ℕ) (h : Held) (held : Option Held) → Holds grants worker h → get_elem? grants worker ≡ some held → held ≡ Some h
held_is grants worker h held holds at = some-injective held (Some h) (sym at ∙ holds)

-- rows that show an area list are as many as it has
pub plan_length : (rows : List ℕ) (state : List Areas) → IsAreaList state → PlanShows rows (kind_at state) → length rows ≡ row_count state
plan_length rows state in_order shows =
    let back : areas_from rows ≡ state = areas_back rows state shows.show in_order in
    counted_rows rows (subst (λ (A : List Areas). PlanShows rows (kind_at A)) (sym back) shows) ∙ ap row_count back

-- a store by the caller of an unwritten call under everything
module _ (grants : Grants) (start : List Areas) (history : List Entry) (state : List Areas) (words : List ℕ)
    (passes : List Pass) (worker : ℕ) (p : Pass) (plan : Splice)
    (r : IsRunningSpace start history state words passes) (backed : AreBacked grants words state passes)
    (exclusive : IsExclusive grants) (at : get_elem? passes worker ≡ some p) (pends : p.pending ≡ Planned plan) where
  plan_held : Holds grants worker everything × PlanShows (rows_after plan) (kind_at state)
  plan_held = subst (Backs grants state worker) pends (backed worker p at).pending

  own_rows : All (StillStands (Some everything) words) p.rows
  own_rows = (backed worker p at).rows (Some everything) plan_held.0

  other_blank : (other : ℕ) (x : Pass) → other ≢ worker → get_elem? passes other ≡ some x → HasReadNothing x
  other_blank other x differ there = others_blank grants words state worker other x exclusive differ plan_held.0 (backed other x there)

  -- there is room for the blocks
  wide : HasBlocks words p.blocks p.keeps
  wide = (r.parts worker p at).room

  other_part : (place value other : ℕ) (x : Pass) → place < 4 + 129 * nb_in words → other ≢ worker → get_elem? passes other ≡ some x
      → IsPart start history (set words place value) other x
  other_part place value other x low differ there = let part = r.parts other x there in
      blank_part start history words (set words place value) other x (other_blank other x differ there)
      (room_stays words x.blocks place value (omega arith) part.room) part

  store_keeps : (place value : ℕ) (q : Pass) → place ≢ 1 → place < 4 + 129 * nb_in words → IsPart start history (set words place value) worker q
      → length q.mine ≡ length p.mine → q.most ≡ p.most → q.pending ≡ p.pending
      → IsRunningSpace start history state (set words place value) (set passes worker q)
  store_keeps place value q other low part same may pended =
      let room = wide.1 in
      let many : length (set passes worker q) ≡ length passes = length-set passes worker q in
      let pending : planned_count (set passes worker q) ≡ planned_count passes = let s = planned_set passes worker p q at in
      let t = ap planned_calls pended in omega arith in
      let some_one : 0 < planned_count (set passes worker q) = let least = planned_le passes worker p at in
      let t = planned_of p.pending plan pends in omega arith in
      record {
        callers = omega arith;
        runs = r.runs;
        calls = r.calls;
        replies = r.replies;
        in_order = r.in_order;
        named = r.named;
        limit = r.limit;
        grown = r.grown;
        number = number_stays words place value (omega arith) (λ e. omega arith) r.number;
        sequence = ap (λ n. n + planned_count (set passes worker q)) (get_or-set_other words place 1 value 0 (λ e. other (sym e)))
            ∙ (ap (λ n. slice_index words 1 + n) pending ∙ r.sequence);
        small = let m = most_set passes worker p q at may in omega arith;
        room = room_kept words (set words place value) (row_count start) passes worker p q at may (nb_stays words place value (omega arith)) r.room;
        rows = λ none. absurd (omega arith);
        parts = λ other x there. ⊎_elim (λ t. subst (λ (z : ℕ × Pass). IsPart start history (set words place value) z.0 z.1) (λ i. (sym t.0 i, t.1 i)) part)
            (λ t. other_part place value other x low t.0 t.1) (at_set passes worker other q x there);
        no_other = λ other le. r.no_other other (omega arith);
        total = r.total ∙ (let s = count_set passes worker p q 0 at (omega arith) in omega arith);
      }

  -- the rule's part on grants: the own rows stand, and nobody else has read any
  store_backed : (others : List ℕ) (q : Pass) → All (StillStands (Some everything) others) q.rows
      → Backs grants state worker q.pending → AreBacked grants others state (set passes worker q)
  store_backed others q stands backs other x there = ⊎_elim
      (λ t. subst (λ (z : ℕ × Pass). IsBacked grants others state z.0 z.1) (λ i. (sym t.0 i, t.1 i)) (record {
        reads = inr (everything, plan_held.0, everything_pages);
        rows = λ held has. subst (λ (h : Option Held). All (StillStands h others) q.rows) (sym (held_is grants worker everything held plan_held.0 has)) stands;
        pending = backs;
      })) (λ t. blank_backed grants words others state other x (other_blank other x t.0 t.1) (backed other x t.1)) (at_set passes worker other q x there)

  pub stores_keep : (place value : ℕ) (after : Pass) → MayStore plan place value p after
      → IsRunningSpace start history state (set words place value) (set passes worker after)
      × AreBacked grants (set words place value) state (set passes worker after)
  stores_keep place value after (store_row index slot e v is) =
      let same = wide.0 in
      subst (λ (z : ℕ × Pass). IsRunningSpace start history state (set words z.0 value) (set passes worker z.1)
      × AreBacked grants (set words z.0 value) state (set passes worker z.1)) (λ i. (sym e i, sym is i)) (
        store_keeps (3 + index) value (after_store index value p) (λ e. omega arith) (omega arith)
            (stored start history state words worker p (r.parts worker p at) index value slot) refl refl refl,
        store_backed (set words (3 + index) value) (after_store index value p)
            (stored_all words index value (omega arith) wide.1 p.rows own_rows) (backed worker p at).pending,
      )
  stores_keep place value after (store_count e v is) =
      let room = wide.1 in
      subst (λ (z : ℕ × Pass). IsRunningSpace start history state (set words z.0 value) (set passes worker z.1)
      × AreBacked grants (set words z.0 value) state (set passes worker z.1)) (λ i. (sym e i, sym is i)) (
        store_keeps 2 value (after_layout 0 value p) (λ e. omega arith) (omega arith)
            (stored_count start history state words worker p (r.parts worker p at) value) refl refl refl,
        store_backed (set words 2 value) (after_layout 0 value p) (laid_all words 2 value p.rows (inl refl) (omega arith) own_rows)
            (backed worker p at).pending,
      )
  stores_keep place value after (store_layout index few e is) =
      let same = wide.0 in
      let room = wide.1 in
      let at_layout : ℕ = 3 + 128 * p.blocks + index in
      subst (λ (z : ℕ × Pass). IsRunningSpace start history state (set words z.0 value) (set passes worker z.1)
      × AreBacked grants (set words z.0 value) state (set passes worker z.1)) (λ i. (sym e i, sym is i)) (
        store_keeps at_layout value (after_layout (suc index) value p) (λ e. omega arith) (omega arith)
            (stored_layout start history state words worker p (r.parts worker p at) index value few) refl refl refl,
        store_backed (set words at_layout value) (after_layout (suc index) value p)
            (laid_all words at_layout value p.rows (inr (omega arith)) (omega arith) own_rows) (backed worker p at).pending,
      )

  -- the sequence word is raised where the rows are written: nothing lags behind then
  shown_after : IsShown state (set passes worker (after_raise p)) (kind_at state)
  shown_after = record {
    lagging = λ other x there. ⊎_elim (λ t. subst (λ (y : Pass). ShowsBefore y.pending (kind_at state)) t.1 tt)
        (λ t. others_shown grants state worker other x.pending (kind_at state) exclusive t.0 plan_held.0 (backed other x t.1).pending)
        (at_set passes worker other (after_raise p) x there);
    elsewhere = λ page free. refl;
  }

  pub raise_keeps : RowsShow words (kind_at state) → IsRunningSpace start history state (words_after words (adds 1 1)) (set passes worker (after_raise p))
  raise_keeps written =
      let q : Pass = after_raise p in
      let value = (slice_index words 1 + 1) % 2 ^ 64 in
      let room = wide.1 in
      let many : length (set passes worker q) ≡ length passes = length-set passes worker q in
      let there : 1 < length words = omega arith in
      let one = planned_of p.pending plan pends in
      let pending : planned_count (set passes worker q) + 1 ≡ planned_count passes = let s = planned_set passes worker p q at in omega arith in
      record {
        callers = omega arith;
        runs = r.runs;
        calls = r.calls;
        replies = r.replies;
        in_order = r.in_order;
        named = r.named;
        limit = r.limit;
        grown = r.grown;
        number = number_stays words 1 value (omega arith) (λ e. omega arith) r.number;
        sequence = let g : slice_index (set words 1 value) 1 ≡ value = get_or-set_same words 1 value 0 there in
            let s = r.sequence in let f = whole_few history in let w = no_wrap start history state words passes r in omega arith;
        small = let m = most_set passes worker p q at refl in omega arith;
        room = room_kept words (set words 1 value) (row_count start) passes worker p q at refl (nb_stays words 1 value (omega arith)) r.room;
        rows = λ none. (kind_at state, shown_after, rows_beside words 1 value (kind_at state) (inl (omega arith)) (omega arith) written);
        parts = λ other x there. ⊎_elim (λ t. subst (λ (z : ℕ × Pass). IsPart start history (set words 1 value) z.0 z.1) (λ i. (sym t.0 i, t.1 i))
            (raised_after start history state words worker p (r.parts worker p at) value)) (λ t. other_part 1 value other x (omega arith) t.0 t.1)
            (at_set passes worker other q x there);
        no_other = λ other le. r.no_other other (omega arith);
        total = r.total ∙ (let s = count_set passes worker p q 0 at (omega arith) in omega arith);
      }

  pub raise_backed : AreBacked grants (words_after words (adds 1 1)) state (set passes worker (after_raise p))
  raise_backed =
      let value = (slice_index words 1 + 1) % 2 ^ 64 in
      store_backed (set words 1 value) (after_raise p)
      (all_stand (Some everything) words (set words 1 value) (same_low words 1 value (omega arith) (let room = wide.1 in omega arith)) p.rows own_rows) tt
