-- What a plan over an area says: at every moment at which its caller holds the area and has read the rows round it, the
-- area is one of the state, and the change is simple exactly where the area is sealed or one of the four ways was
-- chosen.
use Rattle.std.proofs.Common.{◌≡◌, ◌≢◌, ℕ, zero, suc, ◌-◌, ◌<◌, ◌≤◌, ◌⊎◌, inl, inr, List, drop, get_or, sym, refl, ap, ◌∙◌, subst, arith, ⊎_elim}
use Rattle.std.proofs.lemmas.Bool.{cases_lt, true≢false}
use Rattle.std.proofs.lemmas.List.{drop_all}
use Rattle.std.specs.Option.{option_map}
use Rattle.std.specs.Prelude.{◌↔◌, Option, Some, None, is_none, Bool, true, false, IsTrue, [], ◌∷◌}
use mathlib.Core.Option.{some}
use lib.ListN.{get_elem?}
use Rattle.page_types.specs.declared.TheConstants.{LIMIT}
use Rattle.page_types.specs.declared.calls.Kind.{Kind}
use Rattle.page_types.specs.declared.calls.Call.TheVariants.{Protect}
use Rattle.page_types.specs.declared.calls.Reply.{Reply}
use Rattle.page_types.specs.declared.calls.Reply.TheVariants.{Zero, Refused}
use Rattle.page_types.specs.declared.calls.Why.TheVariants.{Eperm}
use Rattle.page_types.specs.declared.pages.Span.{Span}
use Rattle.page_types.specs.declared.sets.Prot.{Prot}
use Rattle.page_types.specs.Named.{IsNamedKind}
use Rattle.page_types.specs.Pages.{page_of, end_page}
use Rattle.page_types.specs.PlainReply.{plain_reply}
use Rattle.space_model.specs.declared.areas.Area.{Area}
use Rattle.space_model.specs.declared.entries.Entry.{Entry}
use Rattle.space_model.specs.declared.entries.Under.TheVariants.{Nothing, Area as OverArea}
use Rattle.space_model.specs.Areas.{IsAreaList, kind_at}
use Rattle.space_model.specs.declared.paint.Paint.TheVariants.{Protects}
use Rattle.space_model.specs.declared.sorts.Sort.TheVariants.{Missing, Sealed as IsSealed}
use Rattle.space_model.specs.Effect.{protected_kind, patch}
use Rattle.space_model.specs.Sorts.{is_sort, NoneOf, IsLowest}
use Rattle.space_model.specs.Answers.Answers.{refused, done}
use Rattle.space_model.specs.Laws.{IsMaximalRun, FourCases}
use Rattle.space_model.proofs.AreaKinds.{only_one}
use Rattle.space_model.specs.Held.{LiesIn, kind_before, IsSimpleIn, IsSimple, FitsByState, FitsUnder}
use Rattle.space_model.proofs.MaximalRuns.{maximal_runs}
use Rattle.space_model.specs.Laws.FourCases.{nothing, whole as all_change, first_part as first_change, last_part as last_change}
use Rattle.space_model.proofs.Changing.{within-before, within-inside, within-after, kind_at-limit}
use Rattle.space_model.proofs.FourWays.{four_ways, keeps_rows, rows_of_way}
use Rattle.space_model.proofs.Simple.{KeepsCounts, simple_borders, keeps_counts}
use Rattle.range_rw.specs.Contract.{SeatState}
use Rattle.area_guard.specs.declared.guard.Change.{Change}
use Rattle.area_guard.specs.declared.guard.Pass.{Pass}
use Rattle.area_guard.specs.Rows.{slots_of, slot_at}
use Rattle.area_guard.specs.Reads.{IsHeldPage}
use Rattle.area_guard.specs.Changes.{alone, IsChange}
use Rattle.area_guard.specs.History.{RowsStandFor, IsAtRest, IsRight, Leaves, change_pending}
use Rattle.area_guard.specs.Writes.{span_pages}
use Rattle.area_rows.specs.declared.row.Row.{Row}
use Rattle.area_rows.specs.declared.area.AreaPlan.{AreaPlan}
use Rattle.area_rows.specs.OneStore.{IsOneStore, IsRound}
use Rattle.area_rows.specs.OneStore.IsOneStore.{whole, first_part, last_part}
use Rattle.area_rows.specs.Callers.{CallerView, MayNumber, Shows, IsMoment, AreInReach, IsAsRead, IsReadBefore, IsReadBehind, RowIs}
use Rattle.area_rows.proofs.Wholes.{match_none}
use Rattle.area_rows.specs.declared.area.AreaPlan.TheVariants.{NotSimple, Sealed, Same, SetKind, MoveStart}
use Rattle.area_rows.proofs.OneRow.{IsRowIn, shown_at, next_is}
use Rattle.area_rows.specs.AreaPlans.{IsOneKind, IsAmong, IsLike, IsChosen, planned_change, MayChange, IsAreaPlan}
use Rattle.area_rows.proofs.Moments.{first_start, nobody_plans, shows_held, here_of}
use Rattle.area_rows.proofs.Reading.{before_on, behind_on, as_read_on}
use Rattle.area_rows.proofs.ReplacingRows.{IsAround, around_now, row_in}
use Rattle.row_plans.specs.RowWords.{row_start}
use Rattle.row_plans.specs.RowLists.{rows_start, ShowFrom}
use Rattle.row_plans.proofs.RowLists.{row_says, some_none}

-- the kinds of the pages beside a row are those of the rows beside it
record IsBeside (kinds : ℕ → Option Kind) (row : Row) (before behind : Option Kind) : Type 0 where
  left : ((row.lo ≡ 0) × (before ≡ None)) ⊎ ((0 < row.lo) × (kinds (row.lo - 1) ≡ before))
  right : ((row.hi ≡ LIMIT) × (behind ≡ None)) ⊎ ((row.hi < LIMIT) × (kinds row.hi ≡ behind))

beside : {rows : List ℕ} (kinds : ℕ → Option Kind) {k : ℕ} {row : Row} {before behind : Option Kind} → ShowFrom 0 rows kinds
    → IsRowIn rows k row before behind → IsBeside kinds row before behind
beside {rows} kinds {k} {row} show f = record {
  left = ⊎_elim (λ t. inl (sym f.lo ∙ (ap (λ n. row_start (get_or rows n 0)) t.0 ∙ first_start rows kinds show (let h = f.there in omega arith)), t.1)) (λ t.
      let b = shown_at 0 rows kinds t.0 show (let h = f.there in let n = t.1 in omega arith) in let grows = b.grows in
      let e : rows_start (drop (suc t.0) rows) ≡ row.lo = ap (λ n. rows_start (drop n rows)) t.1 ∙ (next_is rows k f.there ∙ f.lo) in
      inr (omega arith, b.within (row.lo - 1) (omega arith) (omega arith) ∙ t.2)) f.left;
  right = ⊎_elim (λ t. inl (sym f.hi ∙ ap rows_start (drop_all (suc k) rows (let n = t.0 in omega arith)), t.1)) (λ t.
      let b = shown_at 0 rows kinds (suc k) show t.0 in let grows = b.grows in let low = (row_says 0 rows kinds (suc k) show t.0).below in
      let e : row_start (get_or rows (suc k) 0) ≡ row.hi = sym (next_is rows (suc k) t.0) ∙ f.hi in
      inr (omega arith, b.within row.hi (omega arith) (omega arith) ∙ t.1)) f.right;
}

-- one store is one of the four ways
pub four_of : (A : List Area) (a : Area) {slot next : ℕ} {row : Row} {before behind : Option Kind} {c : Change} → IsAmong A a row c.old before behind
    → IsOneStore slot next row before behind c → FourCases A a c.place.lo c.place.hi c.new
four_of A a g (whole index at new lo hi not_before not_behind) =
    all_change (lo ∙ sym g.lo) (hi ∙ sym g.hi) (λ e. not_before (sym g.left ∙ (ap (kind_before A) (sym lo) ∙ e)))
    (λ e. not_behind (sym g.right ∙ (ap (kind_at A) (sym hi) ∙ e)))
four_of A a g (first_part index at same_kind lo hi is_before) =
    first_change (lo ∙ sym g.lo) (let h = g.hi in omega arith) (ap (kind_before A) lo ∙ (g.left ∙ is_before))
four_of A a g (last_part index at new lo hi is_behind) = last_change (let l = g.lo in omega arith) (hi ∙ sym g.hi) (ap (kind_at A) hi ∙ (g.right ∙ is_behind))

-- no way leads to more rows or fewer
pub none_of : {A : List Area} {a : Area} (row : Row) (before behind : Option Kind) (c : Change) → IsAmong A a row c.old before behind → (c.new ≡ c.old → ⊥)
    → (c.place.lo ≡ row.lo → c.place.hi ≡ row.hi → (before ≡ Some c.new) ⊎ (behind ≡ Some c.new)) → (c.place.lo ≡ row.lo → c.place.hi < row.hi
    → before ≢ Some c.new) → (row.lo < c.place.lo → c.place.hi ≡ row.hi → behind ≢ Some c.new) → FourCases A a c.place.lo c.place.hi c.new → ⊥
none_of row before behind c g differ all first last (nothing same) = differ (same ∙ g.kind)
none_of {A} row before behind c g differ all first last (all_change lo hi not_before not_behind) = ⊎_elim
    (λ e. not_before (ap (kind_before A) (lo ∙ g.lo) ∙ (g.left ∙ e)))
    (λ e. not_behind (ap (kind_at A) (hi ∙ g.hi) ∙ (g.right ∙ e))) (all (lo ∙ g.lo) (hi ∙ g.hi))
none_of {A} row before behind c g differ all first last (first_change lo hi is_before) =
    first (lo ∙ g.lo) (let h = g.hi in omega arith) (sym g.left ∙ (ap (kind_before A) (sym (lo ∙ g.lo)) ∙ is_before))
none_of {A} row before behind c g differ all first last (last_change lo hi is_behind) =
    last (let l = g.lo in omega arith) (hi ∙ g.hi) (sym g.right ∙ (ap (kind_at A) (sym (hi ∙ g.hi)) ∙ is_behind))

-- the pages and kinds of a change are those of the call
pub record IsOf (c : Change) (span : Span) (kind : Kind) (addr len : ℕ) (prot : Prot) : Type 0 where
  -- it is made under this range
  pub span_is : c.span ≡ span
  -- its first page is the call's
  pub lo_is : c.place.lo ≡ page_of addr
  -- it ends where the call does
  pub hi_is : c.place.hi ≡ end_page addr len
  -- its pages had this kind
  pub old_is : c.old ≡ kind
  -- and get the one that the call leaves
  pub new_is : c.new ≡ protected_kind prot kind

module _ {c d : Change} (k : IsLike c d) where
  of_like : {span : Span} {kind : Kind} {addr len : ℕ} {prot : Prot} → IsOf c span kind addr len prot → IsOf d span kind addr len prot
  of_like o = record {
    span_is = k.span ∙ o.span_is;
    lo_is = ap (λ (s : Span). s.lo) k.place ∙ o.lo_is;
    hi_is = ap (λ (s : Span). s.hi) k.place ∙ o.hi_is;
    old_is = k.old ∙ o.old_is;
    new_is = k.new ∙ o.new_is;
  }

  other_kind : c.new ≢ c.old → d.new ≢ d.old
  other_kind differs = λ same. differs (sym k.new ∙ (same ∙ k.old))

-- a caller holds a row and a page on each side, and has read the rows round it, and nothing decides a call within it
pub record IsHeldRow (seat : SeatState Pass) (span : Span) (row : Row) (kind : Kind) (slot next : ℕ) (before behind : Option Kind) (addr len : ℕ)
    (prot : Prot) : Type 0 where
  pub held : seat.held ≡ Some (alone span)
  pub rest : IsAtRest seat.pass
  pub round : IsRound row span
  pub limit : row.hi ≤ LIMIT
  pub is_kind : row.kind ≡ Some kind
  pub read : IsAsRead seat.pass row
  pub slot_is : slot ≡ slot_at read.layout row.index
  pub reach : AreInReach seat.table (slots_of read.layout)
  pub read_before : IsReadBefore seat.pass.rows (slots_of read.layout) (slot_at read.layout row.index) before
  pub read_behind : IsReadBehind seat.pass.rows (slots_of read.layout) (slot_at read.layout row.index) next behind
  pub undecided : plain_reply (Protect addr len prot) ≡ None
  pub some_page : page_of addr < end_page addr len
  pub from : row.lo ≤ page_of addr
  pub until : end_page addr len ≤ row.hi
  pub shows : Shows seat (RowIs seat.held (page_of addr) row)
  pub named_kind : IsNamedKind kind
  pub named : IsNamedKind (protected_kind prot kind)

-- at a moment of such a caller
module _ {seat : SeatState Pass} {span : Span} {row : Row} {kind : Kind} {slot next : ℕ} {before behind : Option Kind} {addr len : ℕ} {prot : Prot}
    (r : IsHeldRow seat span row kind slot next before behind addr len prot) {start : List Area} {history : List Entry} {state : List Area} {words : List ℕ}
    (m : IsMoment seat start history state words) (is : RowIs seat.held (page_of addr) row words state) where
  open r use {held, rest, round, limit, is_kind, read, read_before, read_behind, undecided, some_page, from, until}

  -- the row as an area
  abbrev pub own : Area
  own = record { lo = row.lo; hi = row.hi; kind = kind }

  granted : get_elem? m.grants seat.number ≡ some (Some (alone span))
  granted = m.granted ∙ ap some held

  rested : IsAtRest m.pass
  rested = m.read.pending ∙ rest

  rows : RowsStandFor state m.passes words
  rows = m.running.rows (nobody_plans (here_of m) rested (alone span, granted, span_pages span))

  in_order : IsAreaList state
  in_order = m.running.in_order

  page_held : (page : ℕ) → row.lo - 1 ≤ page → page ≤ row.hi → page < LIMIT → IsHeldPage (Some (alone span)) page
  page_held page low high below = let a = round.0 in let b = round.1 in (alone span, refl, omega arith, omega arith)

  same_kinds : (page : ℕ) → row.lo - 1 ≤ page → page ≤ row.hi → page < LIMIT → rows.0 page ≡ kind_at state page
  same_kinds page low high below = shows_held (here_of m) rested (Some (alone span)) granted rows.1 page (page_held page low high below)

  at_held : (page : ℕ) → row.lo - 1 ≤ page → page ≤ row.hi → page < LIMIT → IsHeldPage seat.held page
  at_held page low high below = subst (λ h. IsHeldPage h page) (sym held) (page_held page low high below)

  around : IsAround span words m.pass.rows row next before behind
  around =
      let now = as_read_on m.read read in
      around_now ((m.backed seat.number m.pass m.own).rows (Some (alone span)) granted) round (omega arith) limit now
      ((m.running.parts seat.number m.pass m.own).laid now.layout now.laid)
      (before_on (slots_of read.layout) (slot_at read.layout row.index) before m.read read_before)
      (behind_on (slots_of read.layout) (slot_at read.layout row.index) next behind m.read read_behind)

  sides : IsBeside rows.0 row before behind
  sides = beside rows.0 rows.2.show (row_in rows.2 around)

  -- the pages of the row have its kind in the state
  of_kind : (page : ℕ) → row.lo ≤ page → page < row.hi → kind_at state page ≡ Some kind
  of_kind page low high = is.kind page (at_held page (omega arith) (omega arith) (omega arith)) low high ∙ is_kind

  left_kind : (lo : ℕ) → lo ≡ row.lo → kind_before state lo ≡ before
  left_kind zero e = ⊎_elim (λ t. sym t.1) (λ t. absurd (let more = t.0 in omega arith)) sides.left
  left_kind (suc q) e = ⊎_elim (λ t. absurd (let none = t.0 in omega arith)) (λ t. let back : row.lo - 1 ≡ q = omega arith in
      sym (same_kinds q (omega arith) (omega arith) (omega arith)) ∙ (ap rows.0 (sym back) ∙ t.1)) sides.left

  right_kind : kind_at state row.hi ≡ behind
  right_kind = ⊎_elim (λ t. kind_at-limit state in_order row.hi (let all = t.0 in omega arith) ∙ sym t.1)
      (λ t. sym (same_kinds row.hi (omega arith) (omega arith) t.0) ∙ t.1) sides.right

  -- the row is an area of the state, with the kinds that were read of the rows beside it
  pub among : IsAmong state own row kind before behind
  among = record { lo = refl; hi = refl; kind = refl; left = left_kind row.lo refl; right = right_kind }

  run : IsMaximalRun (kind_at state) own
  run = record {
    has_page = omega arith;
    one_kind = of_kind;
    before = λ page e same. is.previous (omega arith) (at_held (row.lo - 1) (omega arith) (omega arith) (omega arith))
        (ap (kind_at state) (let z : row.lo - 1 ≡ page = omega arith in z) ∙ (same ∙ sym is_kind));
    behind = λ same. elim (cases_lt row.hi LIMIT) [
      | inl low ↦ is.next (at_held row.hi (omega arith) (omega arith) low) (same ∙ sym is_kind)
      | inr ge ↦ some_none kind (kind_at state row.hi) (kind_at-limit state in_order row.hi ge) same
    ];
  }

  lies : LiesIn state own (page_of addr) (end_page addr len)
  lies = record { member = (maximal_runs state in_order own).1 run; from = from; within = until }

  -- the pages of the call are all mapped with the kind of the row
  pub one_kind : IsOneKind state (page_of addr) (end_page addr len)
  one_kind = (kind, λ page low high. of_kind page (omega arith) (omega arith))

  -- the area isn't sealed, and no way was left
  pub not_simple : kind.sealed ≡ false → (FourCases state own (page_of addr) (end_page addr len) (protected_kind prot kind) → ⊥)
      → IsSimple state (Protect addr len prot) → ⊥
  not_simple unsealed no_way simple =
      let borders = simple_borders state addr len prot (page_of addr) (end_page addr len) own refl refl in_order lies some_page simple in
      ⊎_elim (λ sealed. true≢false (sym sealed ∙ unsealed)) no_way
      ((four_ways state own addr len prot in_order undecided lies).0 ((keeps_rows state own addr len prot in_order undecided lies).1 borders))

  mapped : NoneOf (kind_at state) Missing (page_of addr) (end_page addr len)
  mapped page low high = ap is_none (of_kind page (omega arith) (omega arith))

  -- where the call is simple in the row's area the range that is held fits it
  fits_own : IsSimpleIn state (Protect addr len prot) own → FitsUnder state (Protect addr len prot) (OverArea span)
  fits_own simple = match_none (plain_reply (Protect addr len prot)) (FitsByState state (Protect addr len prot) (OverArea span))
      (λ (_ : Reply). OverArea span ≡ Nothing) undecided (inr (own, simple, span, refl, round.0, round.1))

  -- in a sealed area the call is refused for its first page, which is right under the range that is held
  pub sealed_right : IsTrue kind.sealed → IsRight state (Protect addr len prot) (Refused (Eperm (page_of addr))) (OverArea span) state
  sealed_right sealed =
      let lowest : IsLowest (kind_at state) IsSealed (page_of addr) (end_page addr len) (page_of addr) =
      record {
        from = omega arith;
        within = some_page;
        such = ap (is_sort IsSealed) (of_kind (page_of addr) from (omega arith)) ∙ sealed;
        none_below = λ page low high. absurd (omega arith);
      } in
      record {
        fits = fits_own (lies.member, lies.from, lies.within, inl sealed);
        answers = refused (Eperm (page_of addr)) undecided (inl (inr (mapped, inl (page_of addr, lowest, refl)))) refl refl;
      }

  -- in one that isn't sealed one of the four ways is simple, and right
  module _ (unsealed : kind.sealed ≡ false) (way : FourCases state own (page_of addr) (end_page addr len) (protected_kind prot kind)) where
    -- the call keeps the number of areas and of gaps
    pub done_list : (B : List Area) × KeepsCounts state (patch (page_of addr) (end_page addr len) (Protects prot)) B
    done_list = keeps_counts state prot (page_of addr) (end_page addr len) own in_order lies some_page (omega arith)
        (rows_of_way state own addr len prot in_order undecided lies way)

    counts : KeepsCounts state (patch (page_of addr) (end_page addr len) (Protects prot)) done_list.0
    counts = done_list.1

    none_sealed : NoneOf (kind_at state) IsSealed (page_of addr) (end_page addr len)
    none_sealed page low high = ap (is_sort IsSealed) (of_kind page (omega arith) (omega arith)) ∙ unsealed

    -- the call is right at this state, with the reply Zero and under the range that is held
    pub right : IsRight state (Protect addr len prot) Zero (OverArea span) done_list.0
    right = record {
      fits = fits_own (lies.member, lies.from, lies.within, inr (done_list.0, counts.changed, counts.areas, counts.gaps));
      answers = done (patch (page_of addr) (end_page addr len) (Protects prot) ∷ []) None undecided ((mapped, (none_sealed, tt)), refl) counts.changed
          (let a = counts.areas in let g = counts.gaps in let l = m.running.limit in omega arith);
    }

    kind_after : (page : ℕ) → page_of addr ≤ page → page < end_page addr len → kind_at done_list.0 page ≡ Some (protected_kind prot kind)
    kind_after page low high = counts.changed.kinds_are page
        ∙ (within-inside (page_of addr) (end_page addr len) page (option_map (protected_kind prot) (kind_at state page)) (kind_at state page) low high
        ∙ ap (option_map (protected_kind prot)) (of_kind page (omega arith) (omega arith)))

    -- a page of the call, or one that keeps its kind
    elsewhere_or : (page : ℕ) → (page_of addr ≤ page → page < end_page addr len
        → kind_at done_list.0 page ≡ kind_at state page) → kind_at done_list.0 page ≡ kind_at state page
    elsewhere_or page inside = elim (cases_lt page (page_of addr)) [
      | inl lt ↦ counts.changed.kinds_are page ∙ within-before (page_of addr) (end_page addr len) page
          (option_map (protected_kind prot) (kind_at state page)) (kind_at state page) lt
      | inr ge ↦ elim (cases_lt page (end_page addr len)) [
        | inl less ↦ inside ge less
        | inr over ↦ counts.changed.kinds_are page ∙ within-after (page_of addr) (end_page addr len) page
            (option_map (protected_kind prot) (kind_at state page)) (kind_at state page) over
      ]
    ]

    -- where the kind is the same nothing changes
    pub nothing_left : protected_kind prot kind ≡ kind → done_list.0 ≡ state
    nothing_left same = only_one done_list.0 state counts.changed.areas in_order (λ page. elsewhere_or page
        (λ low high. kind_after page low high ∙ (ap Some same ∙ sym (of_kind page (omega arith) (omega arith)))))

    -- the change of one row is what is left
    pub change_left : (c : Change) → IsOf c span kind addr len prot → IsChange state span c done_list.0
    change_left c o = record {
      held = o.span_is;
      inside = let a = round.0 in let b = round.1 in let e = ap (λ (x : Span). x.lo) o.span_is in let f = ap (λ (x : Span). x.hi) o.span_is in
          (omega arith, omega arith);
      before = λ page i. let a = i.0 in let b = i.1 in of_kind page (omega arith) (omega arith) ∙ ap Some (sym o.old_is);
      after = λ page i. let a = i.0 in let b = i.1 in kind_after page (omega arith) (omega arith) ∙ ap Some (sym o.new_is);
      elsewhere = λ page out. elsewhere_or page (λ low high. absurd (out (omega arith, omega arith)));
    }

-- the four cases, by the pages and the kind of a change, and by those of the call
cases_of : {A : List Area} {a : Area} {c : Change} {span : Span} {kind : Kind} {addr len : ℕ} {prot : Prot} → IsOf c span kind addr len prot
    → FourCases A a c.place.lo c.place.hi c.new ↔ FourCases A a (page_of addr) (end_page addr len) (protected_kind prot kind)
cases_of {A} {a} o = (
  λ way. coe 0 1 (i. FourCases A a (o.lo_is i) (o.hi_is i) (o.new_is i)) way,
  λ way. coe 1 0 (i. FourCases A a (o.lo_is i) (o.hi_is i) (o.new_is i)) way,
)

-- the plan of a caller that holds the area and has read the rows round it
module _ (c : CallerView) {span : Span} {row : Row} {kind : Kind} {slot next : ℕ} {before behind : Option Kind} {addr len : ℕ} {prot : Prot}
    (r : IsHeldRow c.seat span row kind slot next before behind addr len prot) where
  -- a call of one of the four ways may be numbered
  number_by : {change : Option Change} → c.change ≡ change → kind.sealed ≡ false → ((A : List Area) (a : Area) → IsAmong A a row kind before behind
      → a.kind ≡ kind → FourCases A a (page_of addr) (end_page addr len) (protected_kind prot kind)) → ((state left : List Area)
      → (protected_kind prot kind ≡ kind → left ≡ state) → ((d : Change) → IsOf d span kind addr len prot → IsChange state span d left)
      → Leaves state (OverArea span) (change_pending change) left) → MayNumber c (Protect addr len prot) Zero (OverArea span)
  number_by chosen unsealed way leaves start history state words m =
      let is = r.shows start history state words m in let w = way state (own r m is) (among r m is) refl in
      let left = (done_list r m is unsealed w).0 in (
        left,
        right r m is unsealed w,
        subst (λ (o : Option Change). Leaves state (OverArea span) (change_pending o) left) (sym chosen)
            (leaves state left (nothing_left r m is unsealed w) (change_left r m is unsealed w)),
      )

  -- so may one in a sealed area, refused for its first page, with nothing to store
  number_refused : c.change ≡ None → IsTrue kind.sealed → MayNumber c (Protect addr len prot) (Refused (Eperm (page_of addr))) (OverArea span)
  number_refused none sealed start history state words m = (
    state,
    sealed_right r m (r.shows start history state words m) sealed,
    subst (λ (o : Option Change). Leaves state (OverArea span) (change_pending o) state) (sym none) refl,
  )

  -- so may it with a reply that is that one
  number_as : {reply due : Reply} → reply ≡ due → MayNumber c (Protect addr len prot) due (OverArea span)
      → MayNumber c (Protect addr len prot) reply (OverArea span)
  number_as said number = subst (λ (r : Reply). MayNumber c (Protect addr len prot) r (OverArea span)) (sym said) number

  one_store : {d : Change} {reply : Reply} → reply ≡ Zero → c.change ≡ Some d → kind.sealed ≡ false
      → IsOf d span kind addr len prot → IsOneStore (slot_at r.read.layout row.index) next row before behind d
      → d.new ≢ d.old → IsNamedKind d.kind → MayChange c (Protect addr len prot) span d reply
  one_store {d} said chosen unsealed o store differs named = record {
    number = number_as said (number_by chosen unsealed (λ A a g e. (cases_of o).0
        (four_of A a (subst (λ (k : Kind). IsAmong A a row k before behind) (sym o.old_is) g) store)) (λ state left none change. change d o));
    said = said;
    chosen = chosen;
    differs = differs;
    round = record {
      row = row;
      next = next;
      before = before;
      behind = behind;
      held = subst (λ (s : Span). c.seat.held ≡ Some (alone s)) (sym o.span_is) r.held;
      round = subst (IsRound row) (sym o.span_is) r.round;
      pages = omega arith;
      limit = r.limit;
      read = r.read;
      reach = r.reach;
      kind = r.is_kind ∙ ap Some (sym o.old_is);
      named = named;
      read_before = r.read_before;
      read_behind = r.read_behind;
      store = store;
    };
  }

  -- the kind that the row gets has named bits
  named_by : {slot : ℕ} {d : Change} → IsNamedKind d.old → IsNamedKind d.new → IsOneStore slot next row before behind d → IsNamedKind d.kind
  named_by old new (whole index at is lo hi not_before not_behind) = subst IsNamedKind (sym is) new
  named_by old new (first_part index at is lo hi is_before) = subst IsNamedKind (sym is) old
  named_by old new (last_part index at is lo hi is_behind) = subst IsNamedKind (sym is) new

  -- the kind of a change of these pages is sealed as the row is
  sealed_as : {d : Change} {b : Bool} → IsOf d span kind addr len prot → d.old.sealed ≡ b → kind.sealed ≡ b
  sealed_as o is = ap (λ (k : Kind). k.sealed) (sym o.old_is) ∙ is

  -- a store of another kind that was chosen is one of the ways
  one_way : {chosen d : Change} {reply : Reply} → chosen.index ≡ slot → IsOf chosen span kind addr len prot → chosen.old.sealed ≡ false → IsLike chosen d
      → IsOneStore chosen.index next row before behind d → chosen.new ≢ chosen.old → reply ≡ Zero → c.change ≡ Some d
      → MayChange c (Protect addr len prot) span d reply
  one_way {d = d} at o unsealed like store differs said kept =
      let of_d = of_like like o in
      one_store said kept (sealed_as o unsealed) of_d (subst (λ (n : ℕ). IsOneStore n next row before behind d) (at ∙ r.slot_is) store)
      (other_kind like differs) (named_by (subst IsNamedKind (sym of_d.old_is) r.named_kind) (subst IsNamedKind (sym of_d.new_is) r.named) store)

  -- a way that was chosen for a change of these pages and kinds is what a plan over the area promises
  pub plan_says : {chosen : Change} (plan : AreaPlan) → chosen.index ≡ slot → IsOf chosen span kind addr len prot → IsChosen row next chosen before behind plan
      → c.change ≡ planned_change plan → IsAreaPlan c (Protect addr len prot) span (page_of addr) (end_page addr len) plan
  plan_says NotSimple at o is kept = λ start history state words m.
      let row_is = r.shows start history state words m in (
        one_kind r m row_is,
        not_simple r m row_is (sealed_as o is.0) (λ way. is.1 state (own r m row_is)
            (subst (λ (k : Kind). IsAmong state (own r m row_is) row k before behind) (sym o.old_is) (among r m row_is)) ((cases_of o).1 way)),
      )
  plan_says (Sealed reply) at o is kept =
      let said : reply ≡ Refused (Eperm (page_of addr)) = is.1 ∙ ap (λ (n : ℕ). Refused (Eperm n)) o.lo_is in
      (kept, number_as said (number_refused kept (sealed_as o is.0)), said)
  plan_says (Same reply) at o is kept =
      let same : protected_kind prot kind ≡ kind = sym o.new_is ∙ (is.1 ∙ o.old_is) in
      let number = number_by kept (sealed_as o is.0) (λ A a g e. nothing (same ∙ sym e)) (λ state left none change. none same) in
      (kept, number_as is.2 number, is.2)
  plan_says (SetKind d reply) at o is kept = one_way at o is.0 is.1 is.2 is.3 is.5 kept
  plan_says (MoveStart d reply) at o is kept = one_way at o is.0 is.1 is.2 is.3 is.4 kept
