-- Row words and area lists: the rows of an area list show its kinds, and rows that show kinds are those of one area
-- list.
use Rattle.std.proofs.Common.{◌≡◌, ◌≢◌, ℕ, zero, suc, ◌+◌, ◌<◌, ◌≤◌, List, [], ◌∷◌, ◌++◌, length, get_or, true, false, cond, sym, refl, ap, ◌∙◌, subst, arith}
use Rattle.std.proofs.Common.{inl, inr, length-append}
use Rattle.std.proofs.lemmas.Bool.{cases_lt, lt-ltb, le-ltb}
use Rattle.std.proofs.lemmas.List.Elements.{All-nil, All-cons, All-append, All-head, All-tail}
use Rattle.std.specs.Prelude.{All, Option, Some, None, nat_lt}
use Rattle.page_types.specs.declared.TheConstants.{LIMIT}
use Rattle.page_types.specs.declared.calls.Kind.{Kind}
use Rattle.page_types.specs.Named.{IsNamedKind}
use Rattle.space_model.specs.declared.areas.Area.{Area}
use Rattle.space_model.specs.Areas.{IsAreaList, HasNamedKinds, kind_at, gap_between, gaps_from, row_count}
use Rattle.space_model.proofs.AreaKinds.{kind_at-here, kind_at-before, kind_at-after, kind_at-below, IsAbove, LeadsTo, LeadsTo-above, only_one}
use Rattle.space_model.proofs.Changing.{kind_at-limit}
use Rattle.row_plans.specs.RowWords.{row_start, row_kind, row_word}
use Rattle.row_plans.specs.RowLists.{rows_start, DiffersFrom, ShowFrom, with_row, areas_from, gap_rows, rows_from, IsBareGap}
use Rattle.row_plans.proofs.ReadBack.{start_back, kind_back}

-- an option isn't none and a kind at once
pub some_none : (k : Kind) (o : Option Kind) → o ≡ None → o ≡ Some k → ⊥
some_none k o n e = cc

gap_there : (lo hi : ℕ) → lo < hi → gap_rows lo hi ≡ row_word lo None ∷ []
gap_there lo hi l = ap (λ b. cond b (row_word lo None ∷ []) []) (lt-ltb lo hi l)

no_gap : (lo hi : ℕ) → hi ≤ lo → gap_rows lo hi ≡ []
no_gap lo hi l = ap (λ b. cond b (row_word lo None ∷ []) []) (le-ltb lo hi l)

-- as many rows as the model counts
length-gap : (lo hi : ℕ) → length (gap_rows lo hi) ≡ gap_between lo hi
length-gap lo hi = elim (nat_lt lo hi) as (λ b. length (cond b (row_word lo None ∷ []) []) ≡ cond b 1 0) [ true ↦ refl | false ↦ refl ]

length-from : (page : ℕ) (A : List Area) → length (rows_from page A) ≡ length A + gaps_from page A
length-from page [] = length-gap page LIMIT ∙ omega arith
length-from page (a ∷ rest) =
    let r = length-from a.hi rest in let g = length-gap page a.lo in
    let e = length-append (gap_rows page a.lo) (row_word a.lo (Some a.kind) ∷ rows_from a.hi rest) in omega arith

-- the row words of an area list are as many as its rows
pub length-rows : (A : List Area) → length (rows_from 0 A) ≡ row_count A
length-rows A = length-from 0 A

-- a gap, and then rows that show on
with_gap : (lo hi : ℕ) (rest : List ℕ) (kinds : ℕ → Option Kind) → lo < hi → rows_start rest ≡ hi
    → ((p : ℕ) → lo ≤ p → p < hi → kinds p ≡ None) → DiffersFrom (row_word lo None) rest → ShowFrom hi rest kinds
    → ShowFrom lo (row_word lo None ∷ rest) kinds
with_gap lo hi rest kinds l s free differs show = (
  start_back lo None tt,
  omega (arith, l, s),
  differs,
  λ p from below. free p from (omega (arith, below, s)) ∙ sym (kind_back lo None tt),
  subst (λ x. ShowFrom x rest kinds) (sym s) show,
)

-- where the rows of an area list start
start_from : (page : ℕ) (A : List Area) → page ≤ LIMIT → IsAbove page A → HasNamedKinds A → rows_start (rows_from page A) ≡ page
start_from page [] le above named = elim (cases_lt page LIMIT) [
  | inl lt ↦ ap rows_start (gap_there page LIMIT lt) ∙ start_back page None tt
  | inr ge ↦ ap rows_start (no_gap page LIMIT ge) ∙ omega arith
]
start_from page (a ∷ rest) le above named = elim (cases_lt page a.lo) [
  | inl lt ↦ ap (λ l. rows_start (l ++ row_word a.lo (Some a.kind) ∷ rows_from a.hi rest)) (gap_there page a.lo lt) ∙ start_back page None tt
  | inr ge ↦ ap (λ l. rows_start (l ++ row_word a.lo (Some a.kind) ∷ rows_from a.hi rest)) (no_gap page a.lo ge)
      ∙ (start_back a.lo (Some a.kind) (All-head (λ x. IsNamedKind x.kind) a rest named) ∙ omega arith)
]

not_none : (word : ℕ) (k : Kind) → row_kind word ≡ Some k → (lo : ℕ) → row_kind word ≢ row_kind (row_word lo None)
not_none word k is lo e = let n = kind_back lo None tt in cc

-- the row after an area isn't of its kind
area_differs : (a : Area) (rest : List Area) (word : ℕ) → row_kind word ≡ Some a.kind → LeadsTo a rest → HasNamedKinds rest
    → DiffersFrom word (rows_from a.hi rest)
area_differs a [] word is leads named = elim (cases_lt a.hi LIMIT) [
  | inl lt ↦ subst (DiffersFrom word) (sym (gap_there a.hi LIMIT lt)) (not_none word a.kind is a.hi)
  | inr ge ↦ subst (DiffersFrom word) (sym (no_gap a.hi LIMIT ge)) tt
]
area_differs a (b ∷ more) word is leads named = elim (cases_lt a.hi b.lo) [
  | inl lt ↦ subst (λ l. DiffersFrom word (l ++ row_word b.lo (Some b.kind) ∷ rows_from b.hi more)) (sym (gap_there a.hi b.lo lt))
      (not_none word a.kind is a.hi)
  | inr ge ↦ subst (λ l. DiffersFrom word (l ++ row_word b.lo (Some b.kind) ∷ rows_from b.hi more)) (sym (no_gap a.hi b.lo ge))
      (λ e. let k = kind_back b.lo (Some b.kind) (All-head (λ x. IsNamedKind x.kind) b more named) in leads.differs (let o = leads.after in omega arith) cc)
]

-- the rows of an area list show its kinds
pub shows_from : (page : ℕ) (A : List Area) (kinds : ℕ → Option Kind) → page ≤ LIMIT → IsAreaList A → IsAbove page A
    → HasNamedKinds A → ((p : ℕ) → page ≤ p → kinds p ≡ kind_at A p) → ShowFrom page (rows_from page A) kinds
shows_from page [] kinds le areas above named same = elim (cases_lt page LIMIT) [
  | inl lt ↦ subst (λ l. ShowFrom page l kinds) (sym (gap_there page LIMIT lt)) (with_gap page LIMIT [] kinds lt refl (λ p from below. same p from) tt refl)
  | inr ge ↦ subst (λ l. ShowFrom page l kinds) (sym (no_gap page LIMIT ge)) (omega arith)
]
shows_from page (a ∷ rest) kinds le areas above named same =
    let has : a.lo < a.hi = areas.0.has_page in
    let fits : a.hi ≤ LIMIT = areas.0.below_limit in
    let kind : IsNamedKind a.kind = All-head (λ x. IsNamedKind x.kind) a rest named in
    let others : HasNamedKinds rest = All-tail (λ x. IsNamedKind x.kind) a rest named in
    let next : rows_start (rows_from a.hi rest) ≡ a.hi = start_from a.hi rest fits (LeadsTo-above a rest areas.1) others in
    let word = row_word a.lo (Some a.kind) in
    let says : row_kind word ≡ Some a.kind = kind_back a.lo (Some a.kind) kind in
    let tail : ShowFrom a.lo (word ∷ rows_from a.hi rest) kinds = (
      start_back a.lo (Some a.kind) kind,
      omega (arith, next),
      area_differs a rest word says areas.1 others,
      λ p from below. same p (omega arith) ∙ (kind_at-here a rest p from (omega (arith, next)) ∙ sym says),
      subst (λ x. ShowFrom x (rows_from a.hi rest) kinds) (sym next)
          (shows_from a.hi rest kinds fits areas.2 (LeadsTo-above a rest areas.1) others
          (λ p from. same p (omega arith) ∙ kind_at-after a rest p from)),
    ) in
    elim (cases_lt page a.lo) [
      | inl lt ↦ subst (λ l. ShowFrom page (l ++ word ∷ rows_from a.hi rest) kinds) (sym (gap_there page a.lo lt))
          (with_gap page a.lo (word ∷ rows_from a.hi rest) kinds lt (start_back a.lo (Some a.kind) kind)
          (λ p from below. same p from ∙ (kind_at-before a rest p below ∙ kind_at-below rest a.hi p areas.2 (LeadsTo-above a rest areas.1) (omega arith)))
          (λ e. not_none word a.kind says page (sym e)) tail)
      | inr ge ↦ subst (λ l. ShowFrom page (l ++ word ∷ rows_from a.hi rest) kinds) (sym (no_gap page a.lo ge))
          (let e : a.lo ≡ page = omega arith in subst (λ x. ShowFrom x (word ∷ rows_from a.hi rest) kinds) e tail)
    ]

-- a gap's word is the one that is written for it, and an area's word is no gap's
bare_gap : (lo hi : ℕ) → All IsBareGap (gap_rows lo hi)
bare_gap lo hi = elim (nat_lt lo hi) as (λ b. All IsBareGap (cond b (row_word lo None ∷ []) [])) [
  | true ↦ All-cons IsBareGap (row_word lo None) [] (λ _. omega arith) (All-nil IsBareGap)
  | false ↦ All-nil IsBareGap
]

-- so it is of the gaps among the row words of an area list
pub bare_from : (page : ℕ) (A : List Area) → HasNamedKinds A → All IsBareGap (rows_from page A)
bare_from page [] named = bare_gap page LIMIT
bare_from page (a ∷ rest) named =
    let says : row_kind (row_word a.lo (Some a.kind)) ≡ Some a.kind = kind_back a.lo (Some a.kind) (All-head (λ x. IsNamedKind x.kind) a rest named) in
    All-append IsBareGap (gap_rows page a.lo) (row_word a.lo (Some a.kind) ∷ rows_from a.hi rest) (bare_gap page a.lo)
    (All-cons IsBareGap (row_word a.lo (Some a.kind)) (rows_from a.hi rest)
    (λ none. absurd (some_none a.kind (row_kind (row_word a.lo (Some a.kind))) none says))
    (bare_from a.hi rest (All-tail (λ x. IsNamedKind x.kind) a rest named)))

-- what the areas of rows are
pub record AreNext (page : ℕ) (rows : List ℕ) (kinds : ℕ → Option Kind) (A : List Area) : Type 0 where
  -- they are an area list
  pub areas : IsAreaList A
  -- none starts below the page
  pub above : IsAbove page A
  -- from the page up to LIMIT they give these kinds
  pub same : (p : ℕ) → page ≤ p → p < LIMIT → kind_at A p ≡ kinds p

leads_to : (a : Area) (A : List Area) → IsAreaList A → IsAbove a.hi A → kind_at A a.hi ≢ Some a.kind → LeadsTo a A
leads_to a [] areas above not = tt
leads_to a (b ∷ rest) areas above not = record {
  after = above;
  differs = λ touch same. not (kind_at-here b rest a.hi (omega arith) (let h = areas.0.has_page in omega arith) ∙ ap (λ k. Some k) (sym same));
}

above_less : (low high : ℕ) (A : List Area) → low ≤ high → IsAbove high A → IsAbove low A
above_less low high [] le above = tt
above_less low high (a ∷ rest) le above = omega arith

-- rows start below LIMIT, and nothing at LIMIT
below_limit : (page word : ℕ) (rest : List ℕ) (kinds : ℕ → Option Kind) → ShowFrom page (word ∷ rest) kinds → page < LIMIT
below_limit page word [] kinds show = show.1
below_limit page word (v ∷ rest) kinds show = let r = below_limit (row_start v) v rest kinds show.4 in let h = show.1 in omega arith

-- rows that show kinds from a page on begin at or below LIMIT
pub starts_low : (page : ℕ) (rows : List ℕ) (kinds : ℕ → Option Kind) → ShowFrom page rows kinds → page ≤ LIMIT
starts_low page [] kinds show = omega arith
starts_low page (w ∷ rest) kinds show = let l = below_limit page w rest kinds show in omega arith

-- the kind at the start of the rows after one isn't that one's
next_differs : (word : ℕ) (rest : List ℕ) (kinds : ℕ → Option Kind) (A : List Area) (k : Kind) → row_kind word ≡ Some k
    → DiffersFrom word rest → ShowFrom (rows_start rest) rest kinds → AreNext (rows_start rest) rest kinds A
    → kind_at A (rows_start rest) ≢ Some k
next_differs word [] kinds A k is differs show next e = some_none k (kind_at A LIMIT) (kind_at-limit A next.areas LIMIT (omega arith)) e
next_differs word (v ∷ rest) kinds A k is differs show next e =
    differs (is ∙ (sym e ∙ (next.same (row_start v) (omega arith) (below_limit (row_start v) v rest kinds show) ∙ show.3 (row_start v) (omega arith) show.1)))

one_more : (page word : ℕ) (rest : List ℕ) (kinds : ℕ → Option Kind) (A : List Area) (o : Option Kind) → row_kind word ≡ o
    → ShowFrom page (word ∷ rest) kinds → AreNext (rows_start rest) rest kinds A
    → AreNext page (word ∷ rest) kinds (with_row (row_start word) o (rows_start rest) A)
one_more page word rest kinds A None is show next = let l = show.1 in record {
  areas = next.areas;
  above = above_less page (rows_start rest) A (omega arith) next.above;
  same = λ p from below. elim (cases_lt p (rows_start rest)) [
    | inl lt ↦ kind_at-below A (rows_start rest) p next.areas next.above lt ∙ sym (show.3 p from lt ∙ is)
    | inr ge ↦ next.same p ge below
  ];
}
one_more page word rest kinds A (Some k) is show next =
    let l = show.1 in let s = show.0 in
    let low = starts_low (rows_start rest) rest kinds show.4 in
    let a : Area = record { lo = row_start word; hi = rows_start rest; kind = k } in
    record {
      areas = (
        record { has_page = omega arith; below_limit = low },
        leads_to a A next.areas next.above (next_differs word rest kinds A k is show.2 show.4 next),
        next.areas,
      );
      above = omega arith;
      same = λ p from below. elim (cases_lt p (rows_start rest)) [
        | inl lt ↦ kind_at-here a A p (omega arith) lt ∙ sym (show.3 p from lt ∙ is)
        | inr ge ↦ kind_at-after a A p ge ∙ next.same p ge below
      ];
    }

-- the areas of rows that show kinds from a page on are in order, start no lower, and have these kinds
pub are_next : (page : ℕ) (rows : List ℕ) (kinds : ℕ → Option Kind) → ShowFrom page rows kinds → AreNext page rows kinds (areas_from rows)
are_next page [] kinds show = record { areas = tt; above = tt; same = λ p from below. absurd (omega arith) }
are_next page (word ∷ rest) kinds show = one_more page word rest kinds (areas_from rest) (row_kind word) refl show
    (are_next (rows_start rest) rest kinds show.4)

-- rows that show an area list's kinds are those of that list
pub areas_back : (rows : List ℕ) (A : List Area) → ShowFrom 0 rows (kind_at A) → IsAreaList A → areas_from rows ≡ A
areas_back rows A show areas =
    let next = are_next 0 rows (kind_at A) show in
    only_one (areas_from rows) A next.areas areas (λ p. elim (cases_lt p LIMIT) [
      | inl lt ↦ next.same p (omega arith) lt
      | inr ge ↦ kind_at-limit (areas_from rows) next.areas p ge ∙ sym (kind_at-limit A areas p ge)
    ])

-- what one row of those that show kinds says
pub record RowSays (rows : List ℕ) (kinds : ℕ → Option Kind) (i : ℕ) : Type 0 where
  -- it starts below LIMIT
  pub below : row_start (get_or rows i 0) < LIMIT
  -- its pages, up to where the next row starts, have its kind
  pub within : (p : ℕ) → row_start (get_or rows i 0) ≤ p → p < LIMIT
      → (i + 1 < length rows → p < row_start (get_or rows (i + 1) 0)) → kinds p ≡ row_kind (get_or rows i 0)
  -- the next row starts higher
  pub rises : i + 1 < length rows → row_start (get_or rows i 0) < row_start (get_or rows (i + 1) 0)
  -- and is of another kind
  pub differs : i + 1 < length rows → row_kind (get_or rows i 0) ≢ row_kind (get_or rows (i + 1) 0)

-- each row of those that show kinds says of its pages which kind they have
pub row_says : (page : ℕ) (rows : List ℕ) (kinds : ℕ → Option Kind) (i : ℕ) → ShowFrom page rows kinds → i < length rows → RowSays rows kinds i
row_says page [] kinds i show more = absurd (omega arith)
row_says page (w ∷ []) kinds zero show more = let s = show.0 in record {
  below = let b = show.1 in omega arith;
  within = λ p from low next. show.3 p (omega arith) low;
  rises = λ l. absurd (omega arith);
  differs = λ l. absurd (omega arith);
}
row_says page (w ∷ v ∷ rest) kinds zero show more = let s = show.0 in record {
  below = let b = below_limit page w (v ∷ rest) kinds show in omega arith;
  within = λ p from low next. show.3 p (omega arith) (next (omega arith));
  rises = λ l. let b = show.1 in omega arith;
  differs = λ l. show.2;
}
row_says page (w ∷ rest) kinds (suc i) show more =
    let e : i + 1 ≡ suc i = omega arith in
    let f : suc i + 1 ≡ suc (i + 1) = omega arith in
    let r = row_says (rows_start rest) rest kinds i show.4 (omega arith) in
    let g : get_or (w ∷ rest) (suc i + 1) 0 ≡ get_or rest (i + 1) 0 = ap (λ n. get_or (w ∷ rest) n 0) f in
    record {
      below = r.below;
      within = λ p from low next. r.within p from low (λ l. subst (λ x. p < row_start x) g (next (omega arith)));
      rises = λ l. subst (λ x. row_start (get_or rest i 0) < row_start x) (sym g) (r.rises (omega arith));
      differs = λ l. subst (λ x. row_kind (get_or rest i 0) ≢ row_kind x) (sym g) (r.differs (omega arith));
    }
