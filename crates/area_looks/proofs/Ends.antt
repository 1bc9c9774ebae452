-- A row that lies in what is held, with a page past each end, is an area of the state.
use Rattle.std.proofs.Common.{◌≡◌, ◌≢◌, ℕ, ◌+◌, ◌-◌, ◌<◌, ◌≤◌, List, Option, Some, None, inl, inr, sym, ◌∙◌, ap, subst, refl, arith}
use Rattle.std.proofs.lemmas.Bool.{cases_lt}
use Rattle.std.specs.Prelude.{min}
use Rattle.std.specs.List.{Contains}
use Rattle.page_types.specs.declared.TheConstants.{LIMIT}
use Rattle.page_types.specs.declared.calls.Kind.{Kind}
use Rattle.page_types.specs.declared.pages.Span.{Span}
use Rattle.space_model.specs.declared.areas.Area.{Area}
use Rattle.space_model.specs.Areas.{IsAreaList, kind_at}
use Rattle.space_model.specs.Laws.{IsMaximalRun}
use Rattle.space_model.proofs.Changing.{kind_at-limit}
use Rattle.space_model.proofs.MaximalRuns.{maximal_runs}
use Rattle.lock_core.specs.declared.range.Held.{Held}
use Rattle.lock_core.specs.declared.range.Mode.TheVariants.{Reader}
use Rattle.range_rw.specs.Contract.{SeatState}
use Rattle.area_guard.specs.declared.guard.Pass.{Pass}
use Rattle.area_rows.specs.declared.row.Row.{Row}
use Rattle.area_rows.specs.Reads.{IsHeldPage}
use Rattle.area_rows.specs.Callers.{RowIs, Shows, held_span}
use Rattle.area_looks.specs.declared.at.Found.{Found}
use Rattle.area_looks.specs.declared.at.Found.TheVariants.{Free, Whole, Wider}
use Rattle.area_looks.specs.Shown.{HasSeenSame, IsAreaAt}
use Rattle.area_looks.specs.Found.{IsFound, IsLast}
use Rattle.area_looks.proofs.Showing.{was_on}

-- a page of a span that is held
in_span : (wide : Span) (held : Option Held) (p : ℕ) → held ≡ Some (held_span wide Reader) → wide.lo ≤ p → p < wide.hi → IsHeldPage held p
in_span wide held p is low high = (held_span wide Reader, is, low, high)

-- the row is an area of the state
pub row_whole : (wide : Span) (held : Option Held) (page : ℕ) (row : Row) (kind : Kind) (words : List ℕ) (state : List Area)
    → held ≡ Some (held_span wide Reader) → row.kind ≡ Some kind → row.lo ≤ page → page < row.hi → row.hi ≤ LIMIT → wide.lo ≤ row.lo - 1
    → min (row.hi + 1) LIMIT ≤ wide.hi → IsAreaList state → RowIs held page row words state
    → IsAreaAt page (Some (record { lo = row.lo; hi = row.hi; kind = kind })) state
row_whole wide held page row kind words state is kind_is from until limit first last list r =
    let run : IsMaximalRun (kind_at state) (record { lo = row.lo; hi = row.hi; kind = kind }) = record {
      has_page = omega arith;
      one_kind = λ p low high. r.kind p (in_span wide held p is (omega arith) (omega arith)) low high ∙ kind_is;
      before = λ p next same.
          let at : p ≡ row.lo - 1 = omega arith in
          r.previous (omega arith) (in_span wide held (row.lo - 1) is (omega arith) (omega arith)) (ap (kind_at state) (sym at) ∙ (same ∙ sym kind_is));
      behind = λ same. elim (cases_lt row.hi LIMIT) [
        | inl below ↦ r.next (in_span wide held row.hi is (omega arith) (omega arith)) (same ∙ sym kind_is)
        | inr above ↦ none_some (sym (kind_at-limit state list row.hi above) ∙ same)
      ];
    } in
    ((maximal_runs state list (record { lo = row.lo; hi = row.hi; kind = kind })).1 run, from, until)
  where
    none_some : {k : Kind} → None ≡ Some k → ⊥
    none_some e = cc

-- so it is at every moment at which the caller goes on holding these pages
pub shows_whole : (seat : SeatState Pass) (wide : Span) (held : Option Held) (page : ℕ) (row : Row) (kind : Kind)
    → Shows seat (RowIs held page row) → held ≡ Some (held_span wide Reader) → row.kind ≡ Some kind → row.lo ≤ page → page < row.hi → row.hi ≤ LIMIT
    → wide.lo ≤ row.lo - 1 → min (row.hi + 1) LIMIT ≤ wide.hi
    → Shows seat (λ words state. IsAreaAt page (Some (record { lo = row.lo; hi = row.hi; kind = kind })) state)
shows_whole seat wide held page row kind shows is kind_is from until limit first last start history state words m =
    row_whole wide held page row kind words state is kind_is from until limit first last m.running.in_order (shows start history state words m)

-- and a page whose row is a gap isn't mapped
pub shows_free : (seat : SeatState Pass) (wide : Span) (held : Option Held) (page : ℕ) (row : Row) → Shows seat (RowIs held page row)
    → held ≡ Some (held_span wide Reader) → row.kind ≡ None → row.lo ≤ page → page < row.hi → wide.lo ≤ page → page < wide.hi
    → Shows seat (λ words state. IsAreaAt page None state)
shows_free seat wide held page row shows is kind_is from until first last start history state words m =
    (shows start history state words m).kind page (in_span wide held page is first last) from until ∙ kind_is

-- what a look came to is told from before what came before it
pub found_on : {a b : SeatState Pass} (wide : Span) (page : ℕ) (found : Found) → HasSeenSame a b → IsFound b page wide found → IsFound a page wide found
found_on wide page Free same is = was_on same is
found_on wide page (Whole area) same is = was_on same is
found_on wide page (Wider span) same is = is

-- what a look behind others came to is told from before all of them
pub found_last : (a b : SeatState Pass) (wide : Span) (page : ℕ) (found : Found) → HasSeenSame a b → IsFound b page wide found → IsLast a page found
found_last a b wide page Free same is = (wide, was_on same is)
found_last a b wide page (Whole area) same is = (wide, was_on same is)
found_last a b wide page (Wider span) same is = tt
