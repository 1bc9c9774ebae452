-- That a caller of a call over its area keeps the rule when it draws its number and when it stores its row: meanwhile
-- the rows lag behind at the pages of the call, which no other caller holds. These are parts of the proofs in
-- `Keeping`; a reader who trusts the check may pass them over.
use Rattle.std.specs.Prelude.{All, Option, Some, slice_index}
use Rattle.std.proofs.Common.{◌≡◌, ℕ, ◌+◌, ◌<◌, ◌≤◌, ◌⊎◌, inl, inr, List, length, set, sym, refl, ap, ◌∙◌, subst, arith, length-set, ⊎_elim}
use Rattle.std.proofs.lemmas.Bool.{cases_lt}
use Rattle.std.proofs.lemmas.List.{get_or-set_other}
use Rattle.std.proofs.lemmas.List.Elements.{All-nil}
use mathlib.Core.Option.{some, some-injective}
use mathlib.Core.Logic.{dite}
use native.Mathlib.Decide.{ℕ_discrete}
use lib.ListN.{get_elem?}
use Rattle.atomic_table.proofs.Lists.{at_set, set_here, set_else}
use Rattle.lock_core.proofs.ByPlace.{below}
use Rattle.page_types.specs.declared.TheConstants.{LIMIT}
use Rattle.page_types.specs.declared.calls.Kind.{Kind}
use Rattle.page_types.specs.declared.pages.Span.{Span}
use Rattle.space_model.specs.declared.areas.Area.{Area as Areas}
use Rattle.space_model.specs.declared.entries.Entry.{Entry}
use Rattle.space_model.specs.Areas.{kind_at, row_count}
use Rattle.space_model.proofs.Changing.{within-before, within-inside, within-after}
use Rattle.lock_core.specs.Grants.{Grants, Holds, IsExclusive}
use Rattle.lock_core.specs.declared.range.Held.{Held}
use Rattle.area_guard.specs.declared.guard.Change.{Change}
use Rattle.area_guard.specs.declared.guard.Pass.{Pass}
use Rattle.area_guard.specs.declared.guard.Pending.{Pending}
use Rattle.area_guard.specs.declared.guard.Pending.TheVariants.{AtRest, Planned, OneRow}
use Rattle.area_guard.specs.Reads.{IsHeldPage, StillStands}
use Rattle.area_guard.specs.Changes.{IsIn, alone, new_word, IsInside, with_change, IsChange, MayReplace}
use Rattle.area_guard.specs.History.{IsPart, planned_calls, planned_count, LagsAt, ShowsBefore, IsShown, RowsStandFor}
use Rattle.area_guard.specs.History.{IsRunningSpace, Backs, IsBacked, AreBacked, HasReadNothing, after_change}
use Rattle.area_guard.specs.Stands.{nb_stays, room_stays, number_stays}
use Rattle.area_guard.specs.Parts.{some_is, count_set, most_set, room_kept, planned_set, beside_part, changed}
use Rattle.area_guard.specs.Writes.{span_pages, clash}
use Rattle.area_guard.specs.Beside.{apart_pages, all_stand_on}

-- a page is in a span, or isn't
in_or_out : (span : Span) (page : ℕ) (P : Type 0) → (IsIn span page → P) → ((IsIn span page → ⊥) → P) → P
in_or_out span page P yes_in no_in = elim (cases_lt page span.lo) [
  | inl lt ↦ no_in (λ i. absurd (omega arith))
  | inr ge ↦ elim (cases_lt page span.hi) [
    | inl less ↦ yes_in (ge, less)
    | inr over ↦ no_in (λ i. absurd (omega arith))
  ]
]

pub in_change : (c : Change) (kinds : ℕ → Option Kind) (page : ℕ) → IsIn c.place page → with_change c kinds page ≡ Some c.new
in_change c kinds page i = within-inside c.place.lo c.place.hi page (Some c.new) (kinds page) i.0 i.1

pub out_of_change : (c : Change) (kinds : ℕ → Option Kind) (page : ℕ) → (IsIn c.place page → ⊥) → with_change c kinds page ≡ kinds page
out_of_change c kinds page no_in = elim (cases_lt page c.place.lo) [
  | inl lt ↦ within-before c.place.lo c.place.hi page (Some c.new) (kinds page) lt
  | inr ge ↦ elim (cases_lt page c.place.hi) [
    | inl less ↦ absurd (no_in (ge, less))
    | inr over ↦ within-after c.place.lo c.place.hi page (Some c.new) (kinds page) over
  ]
]

-- the pages of a change are held
pub in_span : (c : Change) (page : ℕ) → IsInside c → IsIn c.place page → IsIn c.span page
in_span c page inside i = (omega arith, omega arith)

-- the pages of two callers' changes are apart
apart_lags : (grants : Grants) (state : List Areas) (worker other : ℕ) (span : Span) (pending : Pending)
    → IsExclusive grants → (other ≡ worker → ⊥) → Holds grants worker (alone span) → Backs grants state other pending
    → (page : ℕ) → LagsAt pending page → IsIn span page → ⊥
apart_lags grants state worker other span AtRest exclusive differ holds b page lags i = lags
apart_lags grants state worker other span (Planned plan) exclusive differ holds b page lags i = lags
apart_lags grants state worker other span (OneRow d) exclusive differ holds b page lags i =
    let in_d = in_span d page b.1 lags in
    apart_pages grants worker other span exclusive differ holds (Some (alone d.span)) b.0 page (alone d.span, refl, in_d.0, in_d.1) i

-- what rows show where they lag behind, by kinds that are the same there
shown_alike : (pending : Pending) (kinds others : ℕ → Option Kind) → ((page : ℕ) → LagsAt pending page → others page ≡ kinds page)
    → ShowsBefore pending kinds → ShowsBefore pending others
shown_alike AtRest kinds others same s = tt
shown_alike (Planned plan) kinds others same s = tt
shown_alike (OneRow d) kinds others same s = λ page i. same page i ∙ s page i

-- a caller that is at rest lags behind nowhere
rest_lags : (pending : Pending) (page : ℕ) → pending ≡ AtRest → LagsAt pending page → ⊥
rest_lags pending page rest lags = subst (λ (z : Pending). LagsAt z page) rest lags

-- the draw of a call over its area
module _ (grants : Grants) (state left : List Areas) (passes : List Pass) (worker : ℕ) (p q : Pass) (span : Span) (c : Change) (words : List ℕ)
    (backed : AreBacked grants words state passes) (exclusive : IsExclusive grants) (at : get_elem? passes worker ≡ some p)
    (holds : Holds grants worker (alone span)) (change : IsChange state span c left) where
  own_holds : Holds grants worker (alone c.span)
  own_holds = subst (λ (s : Span). Holds grants worker (alone s)) (sym change.held) holds

  own_at : (other : ℕ) (x : Pass) → other ≡ worker → get_elem? passes other ≡ some x → x ≡ p
  own_at other x is there = some-injective x p (sym there ∙ (ap (get_elem? passes) is ∙ at))

  -- at the pages of the change nothing lagged behind before
  none_lags : p.pending ≡ AtRest → (page : ℕ) → IsIn c.place page → (other : ℕ) (x : Pass) → get_elem? passes other ≡ some x → LagsAt x.pending page → ⊥
  none_lags rest page i other x there lags = dite (ℕ_discrete other worker)
      (λ is. rest_lags x.pending page (ap (λ (y : Pass). y.pending) (own_at other x is there) ∙ rest) lags)
      (λ differ. apart_lags grants state worker other c.span x.pending exclusive differ own_holds (backed other x there).pending
      page lags (in_span c page change.inside i))

  -- the rows show what they showed: they lag behind at the pages of the change
  pub shown_after_draw : (kinds : ℕ → Option Kind) → p.pending ≡ AtRest → q.pending ≡ OneRow c → IsShown state passes kinds
      → IsShown left (set passes worker q) kinds
  shown_after_draw kinds rest pends s = record {
    lagging = λ other x there. ⊎_elim (λ t. subst (λ (y : Pass). ShowsBefore y.pending kinds) t.1 (subst (λ (z : Pending). ShowsBefore z kinds) (sym pends)
        (λ page i. s.elsewhere page (none_lags rest page i) ∙ change.before page i))) (λ t. s.lagging other x t.1) (at_set passes worker other q x there);
    elsewhere = λ page free. s.elsewhere page (λ other x there lags. dite (ℕ_discrete other worker)
        (λ is. rest_lags x.pending page (ap (λ (y : Pass). y.pending) (own_at other x is there) ∙ rest) lags)
        (λ differ. free other x (set_else passes worker other q differ ∙ there) lags))
        ∙ sym (change.elsewhere page (λ i. free worker q (set_here passes worker q (below passes worker p at))
        (subst (λ (z : Pending). LagsAt z page) (sym pends) i)));
  }

  -- what others have to write is right for the state that is left
  pub others_back : (other : ℕ) (pending : Pending) → (other ≡ worker → ⊥) → Backs grants state other pending → Backs grants left other pending
  others_back other AtRest differ b = tt
  others_back other (Planned plan) differ b = absurd
      (clash grants other worker exclusive (λ e. differ (sym e)) b.0 (alone c.span, own_holds, span_pages c.span))
  others_back other (OneRow d) differ b = (
    b.0,
    b.1,
    λ page i. change.elsewhere page (λ j. apart_lags grants state worker other c.span (OneRow d) exclusive differ own_holds b page
        i (in_span c page change.inside j)) ∙ b.2 page i,
  )

-- a held page of a caller that has read something is below the limit
held_below : (grants : Grants) (words : List ℕ) (state : List Areas) (other : ℕ) (x : Pass) → IsBacked grants words state other x
    → (held : Option Held) → get_elem? grants other ≡ some held → HasReadNothing x ⊎ ((page : ℕ) → IsHeldPage held page → page < LIMIT)
held_below grants words state other x b held at = ⊎_elim (λ n. inl n) (λ h. inr (λ page i.
    let same : h.0 ≡ i.0 = some_is h.0 i.0 (some-injective (Some h.0) held (sym h.1 ∙ at) ∙ i.1) in
    let high : i.0.range.hi ≤ LIMIT = subst (λ (g : Held). g.range.hi ≤ LIMIT) same h.2.1 in
    omega arith)) b.reads

-- the store of the row
module _ (grants : Grants) (start : List Areas) (history : List Entry) (state : List Areas) (words : List ℕ)
    (passes : List Pass) (worker : ℕ) (p : Pass) (c : Change)
    (r : IsRunningSpace start history state words passes) (backed : AreBacked grants words state passes)
    (exclusive : IsExclusive grants) (at : get_elem? passes worker ≡ some p) (pends : p.pending ≡ OneRow c) where
  change_backs : Holds grants worker (alone c.span) × IsInside c × ((page : ℕ) → IsIn c.place page → kind_at state page ≡ Some c.new)
  change_backs = subst (Backs grants state worker) pends (backed worker p at).pending

  -- the rows show the state at the pages of the change
  shown_after_store : (kinds : ℕ → Option Kind) → IsShown state passes kinds → IsShown state (set passes worker (after_change p)) (with_change c kinds)
  shown_after_store kinds s = record {
    lagging = λ other x there. ⊎_elim (λ t. subst (λ (y : Pass). ShowsBefore y.pending (with_change c kinds)) t.1 tt)
        (λ t. shown_alike x.pending kinds (with_change c kinds)
        (λ page lags. out_of_change c kinds page (λ i. apart_lags grants state worker other c.span x.pending exclusive t.0
        change_backs.0 (backed other x t.1).pending page lags (in_span c page change_backs.1 i))) (s.lagging other x t.1))
        (at_set passes worker other (after_change p) x there);
    elsewhere = λ page free. in_or_out c.place page (with_change c kinds page ≡ kind_at state page)
        (λ i. in_change c kinds page i ∙ sym (change_backs.2 page i)) (λ out. out_of_change c kinds page out
        ∙ s.elsewhere page (λ other x there lags. dite (ℕ_discrete other worker) (λ is.
        let mine : x ≡ p = some-injective x p (sym there ∙ (ap (get_elem? passes) is ∙ at)) in
        out (subst (λ (z : Pending). LagsAt z page) (ap (λ (y : Pass). y.pending) mine ∙ pends) lags))
        (λ differ. free other x (set_else passes worker other (after_change p) differ ∙ there) lags)));
  }

  pub change_keeps : MayReplace words c → IsRunningSpace start history state (set words (3 + c.index) (new_word c)) (set passes worker (after_change p))
  change_keeps may =
      let q : Pass = after_change p in
      let value = new_word c in
      let room = (r.parts worker p at).room in
      let wide : length (set passes worker q) ≡ length passes = length-set passes worker q in
      let none : planned_calls p.pending ≡ 0 = ap planned_calls pends in
      let pending : planned_count (set passes worker q) ≡ planned_count passes = let s = planned_set passes worker p q at in omega arith in
      record {
        callers = let n = r.callers in omega arith;
        runs = r.runs;
        calls = r.calls;
        replies = r.replies;
        in_order = r.in_order;
        named = r.named;
        limit = r.limit;
        grown = r.grown;
        number = number_stays words (3 + c.index) value (omega arith) (λ e. omega arith) r.number;
        sequence = ap (λ n. n + planned_count (set passes worker q)) (get_or-set_other words (3 + c.index) 1 value 0 (λ e. omega arith))
            ∙ (ap (λ n. slice_index words 1 + n) pending ∙ r.sequence);
        small = let m = most_set passes worker p q at refl in omega arith;
        room = room_kept words (set words (3 + c.index) value) (row_count start) passes worker p q at refl
            (nb_stays words (3 + c.index) value (omega arith)) r.room;
        rows = λ no_plan. let s : RowsStandFor state passes words = r.rows (sym pending ∙ no_plan) in
            (with_change c s.0, shown_after_store s.0 s.1, may.shows s.0 s.2);
        parts = λ other x there. ⊎_elim (λ t. subst (λ (z : ℕ × Pass). IsPart start history (set words (3 + c.index) value) z.0 z.1) (λ i. (sym t.0 i, t.1 i))
            (changed start history state words worker p (r.parts worker p at) (set words (3 + c.index) value)
            (room_stays words p.blocks (3 + c.index) value (omega arith) room)))
            (λ t. beside_part start history words other c.index value x may.there (r.parts other x t.1)) (at_set passes worker other q x there);
        no_other = λ other le. r.no_other other (omega arith);
        total = r.total ∙ (let s = count_set passes worker p q 0 at (omega arith) in omega arith);
      }

  -- what others have read still stands
  stood_beside : MayReplace words c → (other : ℕ) (x : Pass) → (other ≡ worker → ⊥) → get_elem? passes other ≡ some x
      → IsBacked grants (set words (3 + c.index) (new_word c)) state other x
  stood_beside may other x differ there =
      let b = backed other x there in
      record {
        reads = b.reads;
        rows = λ held has. ⊎_elim (λ n. subst (All (StillStands held (set words (3 + c.index) (new_word c)))) (sym n.1)
            (All-nil (StillStands held (set words (3 + c.index) (new_word c))))) (λ low. all_stand_on held words c may (r.parts other x there).room.1 low
            (λ page h i. apart_pages grants worker other c.span exclusive differ change_backs.0 held has page h i) x.rows (b.rows held has))
            (held_below grants words state other x b held has);
        pending = b.pending;
      }

  pub change_backed : MayReplace words c → AreBacked grants (set words (3 + c.index) (new_word c)) state (set passes worker (after_change p))
  change_backed may other x there = ⊎_elim
      (λ t. subst (λ (z : ℕ × Pass). IsBacked grants (set words (3 + c.index) (new_word c)) state z.0 z.1) (λ i. (sym t.0 i, t.1 i)) (record {
        reads = inl (refl, refl, refl);
        rows = λ held has. All-nil (StillStands held (set words (3 + c.index) (new_word c)));
        pending = tt;
      })) (λ t. stood_beside may other x t.0 t.1) (at_set passes worker other (after_change p) x there)
