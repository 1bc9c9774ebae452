-- What one row of those that show kinds says of its pages, and what a search over the rows knows when it has come to
-- it.
use Rattle.std.proofs.Common.{◌≡◌, ◌≢◌, ℕ, zero, suc, ◌+◌, ◌<◌, ◌≤◌, List, [], ◌∷◌, ◌-◌, min, max, get_or, drop, length, true, false, sym, refl, ap, ◌∙◌, subst}
use Rattle.std.proofs.Common.{arith, inl, inr}
use Rattle.std.proofs.lemmas.Bool.{cases_lt}
use Rattle.std.specs.List.Sorted.{IsNonDecreasingBy}
use Rattle.std.specs.Prelude.{Option, None}
use Rattle.page_types.specs.declared.TheConstants.{LIMIT, LOWEST}
use Rattle.page_types.specs.declared.calls.Kind.{Kind}
use Rattle.space_model.specs.declared.sorts.Sort.{Sort}
use Rattle.space_model.specs.Sorts.{is_sort, NoneOf, IsEnd}
use Rattle.space_model.specs.Places.{FitsAt, IsHighestFit}
use Rattle.row_plans.specs.RowWords.{row_start, row_kind}
use Rattle.row_plans.specs.RowLists.{rows_start, ShowFrom}
use Rattle.row_plans.specs.Planning.{NoneEndsAbove, StartBefore}
use Rattle.row_plans.proofs.RowLists.{starts_low}

-- what one row of those that show kinds says of its pages
pub record RowPages (rows : List ℕ) (kinds : ℕ → Option Kind) (i start end : ℕ) (kind : Option Kind) : Type 0 where
  -- the rows from this one on start at its start
  pub begins : rows_start (drop i rows) ≡ start
  -- its end is where the next row starts, or LIMIT
  pub ends : end ≡ rows_start (drop (i + 1) rows)
  -- it has a page
  pub some : start < end
  -- it ends at or below LIMIT
  pub low : end ≤ LIMIT
  -- its pages have its kind
  pub all : (p : ℕ) → start ≤ p → p < end → kinds p ≡ kind

row_pages_at : (page : ℕ) (rows : List ℕ) (kinds : ℕ → Option Kind) (i : ℕ) → ShowFrom page rows kinds → i < length rows
    → RowPages rows kinds i (row_start (get_or rows i 0)) (rows_start (drop (i + 1) rows)) (row_kind (get_or rows i 0))
row_pages_at page [] kinds i show lt = absurd (omega arith)
row_pages_at page (w ∷ rest) kinds zero show lt =
    record {
      begins = refl;
      ends = refl;
      some = subst (λ (x : ℕ). x < rows_start rest) (sym show.0) show.1;
      low = starts_low (rows_start rest) rest kinds show.4;
      all = λ p low high. show.3 p (subst (λ (x : ℕ). x ≤ p) show.0 low) high;
    }
row_pages_at page (w ∷ rest) kinds (suc i) show lt =
    let r = row_pages_at (rows_start rest) rest kinds i show.4 (omega arith) in
    let e : suc i + 1 ≡ suc (i + 1) = omega arith in
    subst (λ (n : ℕ). RowPages (w ∷ rest) kinds (suc i) (row_start (get_or rest i 0)) (rows_start (drop n (w ∷ rest))) (row_kind (get_or rest i 0))) (sym e)
    (record { begins = r.begins; ends = ap (λ n. rows_start (drop n (w ∷ rest))) (sym e); some = r.some; low = r.low; all = r.all })

-- a row whose word was read has its pages from its start up to where the next row starts
pub row_pages : (rows : List ℕ) (kinds : ℕ → Option Kind) (i : ℕ) {start end : ℕ} {kind : Option Kind} → ShowFrom 0 rows kinds
    → i < length rows → start ≡ row_start (get_or rows i 0) → kind ≡ row_kind (get_or rows i 0)
    → end ≡ rows_start (drop (i + 1) rows) → RowPages rows kinds i start end kind
row_pages rows kinds i show lt s k e = rw (s, k, e) (row_pages_at 0 rows kinds i show lt)

-- behind the last row the next one starts at LIMIT
pub ends_all : (rows : List ℕ) (i : ℕ) → length rows ≤ i → rows_start (drop i rows) ≡ LIMIT
ends_all [] zero le = refl
ends_all [] (suc i) le = refl
ends_all (w ∷ rest) zero le = absurd (omega arith)
ends_all (w ∷ rest) (suc i) le = ends_all rest i (omega arith)

-- one row more has no such page
pub none_more : {rows : List ℕ} {kinds : ℕ → Option Kind} {i start end : ℕ} {kind : Option Kind} (sort : Sort) (lo : ℕ)
    → RowPages rows kinds i start end kind → is_sort sort kind ≡ false
    → NoneOf kinds sort lo (rows_start (drop i rows)) → NoneOf kinds sort lo (rows_start (drop (i + 1) rows))
none_more {start = start} sort lo r other none page from high =
    let b = r.begins in let e = r.ends in
    elim (cases_lt page start) [
      | inl lt ↦ none page from (omega arith)
      | inr ge ↦ ap (is_sort sort) (r.all page ge (omega arith)) ∙ other
    ]

-- or it has the lowest one, and the search ends there or at `hi`
pub end_here : {rows : List ℕ} {kinds : ℕ → Option Kind} {i start end : ℕ} {kind : Option Kind} (sort : Sort) (lo hi page result : ℕ)
    → RowPages rows kinds i start end kind → lo ≤ hi → lo < end → is_sort sort kind ≡ true
    → NoneOf kinds sort lo (rows_start (drop i rows)) → page ≡ max start lo → result ≡ min page hi → IsEnd kinds sort lo hi result
end_here {kinds = kinds} {start = start} sort lo hi page result r ordered some such none is low =
    let b = r.begins in let s = r.some in
    record {
      from = omega arith;
      within = omega arith;
      such = λ l.
          let here : result ≡ max start lo = omega arith in
          ap (λ p. is_sort sort (kinds p)) here ∙ (ap (is_sort sort) (r.all (max start lo) (omega arith) (omega arith)) ∙ such);
      none_below = λ q from high. none q from (omega arith);
    }

-- no page lies before the one with which a search begins
pub none_yet : (kinds : ℕ → Option Kind) (sort : Sort) (lo start : ℕ) → start ≤ lo → NoneOf kinds sort lo start
none_yet kinds sort lo start le page from high = absurd (omega arith)

-- where no page up to `hi` is of the sort, the search ends at `hi`
pub end_passed : (kinds : ℕ → Option Kind) (sort : Sort) (lo hi at : ℕ) → lo ≤ hi → NoneOf kinds sort lo at → hi ≤ at → IsEnd kinds sort lo hi hi
end_passed kinds sort lo hi at ordered none past = record {
  from = ordered;
  within = omega arith;
  such = λ l. absurd (omega arith);
  none_below = λ q from high. none q from (omega arith);
}

-- the page before a row isn't of its kind
row_before_at : (page : ℕ) (rows : List ℕ) (kinds : ℕ → Option Kind) (i : ℕ) → ShowFrom page rows kinds → suc i < length rows
    → kinds (row_start (get_or rows (suc i) 0) - 1) ≢ row_kind (get_or rows (suc i) 0)
row_before_at page [] kinds i show lt e = absurd (omega arith)
row_before_at page (w ∷ []) kinds i show lt e = absurd (omega arith)
row_before_at page (w ∷ v ∷ rest) kinds zero show lt e = let l = show.1 in show.2 (sym (show.3 (row_start v - 1) (omega arith) (omega arith)) ∙ e)
row_before_at page (w ∷ v ∷ rest) kinds (suc i) show lt e = row_before_at (row_start v) (v ∷ rest) kinds i show.4 (omega arith) e

first_at_zero : (rows : List ℕ) (kinds : ℕ → Option Kind) → ShowFrom 0 rows kinds → 0 < length rows → row_start (get_or rows 0 0) ≡ 0
first_at_zero [] kinds show lt = absurd (omega arith)
first_at_zero (w ∷ rest) kinds show lt = show.0

row_before_by : (rows : List ℕ) (kinds : ℕ → Option Kind) (i : ℕ) → ShowFrom 0 rows kinds → i < length rows
    → 0 < row_start (get_or rows i 0) → kinds (row_start (get_or rows i 0) - 1) ≢ row_kind (get_or rows i 0)
row_before_by rows kinds zero show lt more = let z = first_at_zero rows kinds show lt in absurd (omega arith)
row_before_by rows kinds (suc i) show lt more = row_before_at 0 rows kinds i show lt

-- the page before a row isn't of its kind
pub row_before : (rows : List ℕ) (kinds : ℕ → Option Kind) (i : ℕ) {start : ℕ} {kind : Option Kind} → ShowFrom 0 rows kinds
    → i < length rows → start ≡ row_start (get_or rows i 0) → kind ≡ row_kind (get_or rows i 0) → 0 < start → kinds (start - 1) ≢ kind
row_before rows kinds i show lt s k = rw (s, k) (row_before_by rows kinds i show lt)

-- a search for the highest place has come down to a row: the page before it is of another kind, and no place ends
-- behind it
pub record HasCome (rows : List ℕ) (kinds : ℕ → Option Kind) (i window pages start end : ℕ) (kind : Option Kind) : Type 0 where
  pub row : RowPages rows kinds i start end kind
  pub before : 0 < start → kinds (start - 1) ≢ kind
  pub ended : NoneEndsAbove kinds window pages end

-- a place that ends in a row lies in it, and the row is free: where none fits in the row and the window each place ends
-- before it, and otherwise the row's end, or the window's, has the highest one
module _ {rows : List ℕ} {kinds : ℕ → Option Kind} {i window pages start end top : ℕ} {kind : Option Kind}
    (come : HasCome rows kinds i window pages start end kind) (some : 0 < pages) (clipped : top ≡ min end window) where
  in_the_row : (s : ℕ) → s + pages ≤ end → ¬ (s + pages ≤ start) → FitsAt kinds window pages s → (kind ≡ None) × (start ≤ s)
  in_the_row s fits new f =
      let last : kinds (s + pages - 1) ≡ None = f.free (s + pages - 1) (omega arith) (omega arith) in
      let own : kinds (s + pages - 1) ≡ kind = come.row.all (s + pages - 1) (omega arith) (omega arith) in
      let free : kind ≡ None = sym own ∙ last in (
        free,
        elim (cases_lt s start) [
          | inl lt ↦ absurd (come.before (omega arith) (f.free (start - 1) (omega arith) (omega arith) ∙ sym free))
          | inr ge ↦ ge
        ],
      )

  -- where so many pages don't fit into a row, no place ends above the row's start
  pub ends_before : (kind ≡ None → max start LOWEST + pages ≤ top → ⊥) → NoneEndsAbove kinds window pages start
  ends_before no_fit s f =
      let e : s + pages ≤ end = come.ended s f in
      elim (cases_lt start (s + pages)) [
        | inl lt ↦ let i = in_the_row s e (omega arith) f in let l = f.low in let h = f.high in let g = i.1 in absurd (no_fit i.0 (omega arith))
        | inr ge ↦ ge
      ]

  -- where they fit, the place at the row's end, or the window's, is the highest
  pub ends_here : kind ≡ None → max start LOWEST + pages ≤ top → IsHighestFit kinds window pages (top - pages)
  ends_here free fits =
      record {
        fits =
            record {
              low = omega arith;
              high = omega arith;
              free = λ p above below. come.row.all p (omega arith) (omega arith) ∙ free;
            };
        highest = λ s f. let e : s + pages ≤ end = come.ended s f in let h = f.high in omega arith;
      }

-- past the first row there is no place
pub no_place : (kinds : ℕ → Option Kind) (window pages end : ℕ) → 0 < pages → end ≡ 0 → NoneEndsAbove kinds window pages end → (s : ℕ)
    → ¬ FitsAt kinds window pages s
no_place kinds window pages end some is ended = λ s f. let e : s + pages ≤ end = ended s f in absurd (omega arith)

-- rows begin at page 0, a row that starts below LIMIT is there, and no row starts before the one before it
pub first_row : (rows : List ℕ) (kinds : ℕ → Option Kind) → ShowFrom 0 rows kinds → (0 < length rows) × (rows_start rows ≡ 0)
first_row [] kinds show = let none : 0 ≡ LIMIT = show in absurd (omega arith)
first_row (w ∷ rest) kinds show = (omega arith, show.0)

-- where the rows left start below LIMIT, there is one
pub row_there : (rows : List ℕ) (i : ℕ) → rows_start (drop i rows) < LIMIT → i < length rows
row_there rows i low = elim (cases_lt i (length rows)) [
  | inl lt ↦ lt
  | inr ge ↦ let e = ends_all rows i ge in absurd (omega arith)
]

-- a row doesn't start before the one before it
pub next_start : (rows : List ℕ) (kinds : ℕ → Option Kind) (i : ℕ) → ShowFrom 0 rows kinds → rows_start (drop i rows) ≤ rows_start (drop (i + 1) rows)
next_start rows kinds i show = elim (cases_lt i (length rows)) [
  | inl lt ↦ let r = row_pages_at 0 rows kinds i show lt in let a = r.begins in let b = r.some in omega arith
  | inr ge ↦ let a = ends_all rows i ge in let b = ends_all rows (i + 1) (omega arith) in omega arith
]

-- the pages of the last of the rows that are left
pub last_pages : (rows : List ℕ) (kinds : ℕ → Option Kind) (i : ℕ) {start end : ℕ} {kind : Option Kind} → ShowFrom 0 rows kinds → 0 < i
    → i ≤ length rows → start ≡ row_start (get_or rows (i - 1) 0) → kind ≡ row_kind (get_or rows (i - 1) 0)
    → end ≡ rows_start (drop i rows) → RowPages rows kinds (i - 1) start end kind
last_pages rows kinds i show more there s k e =
    let n : i ≡ i - 1 + 1 = omega arith in row_pages rows kinds (i - 1) show (omega arith) s k (e ∙ ap (λ j. rows_start (drop j rows)) n)

-- the row that has a page has its kind
pub kind_there : (rows : List ℕ) (kinds : ℕ → Option Kind) (i page : ℕ) (kind : Option Kind) → ShowFrom 0 rows kinds → i < length rows
    → rows_start (drop i rows) ≤ page → page < rows_start (drop (i + 1) rows) → kind ≡ row_kind (get_or rows i 0) → kind ≡ kinds page
kind_there rows kinds i page kind show lt from until k =
    let r = row_pages_at 0 rows kinds i show lt in
    let b = r.begins in
    k ∙ sym (r.all page (omega arith) until)

-- later rows start higher
pub rises_from : (page : ℕ) (rows : List ℕ) (kinds : ℕ → Option Kind) (k d : ℕ) → ShowFrom page rows kinds → k < length rows
    → page ≤ row_start (get_or rows k d)
rises_from page [] kinds k d show lt = absurd (omega arith)
rises_from page (w ∷ rest) kinds zero d show lt = let s = show.0 in omega arith
rises_from page (w ∷ rest) kinds (suc k) d show lt =
    let l = show.1 in let r = rises_from (rows_start rest) rest kinds k d show.4 (omega arith) in omega arith

-- so their starts don't fall
pub starts_rise : (page : ℕ) (rows : List ℕ) (kinds : ℕ → Option Kind) → ShowFrom page rows kinds → IsNonDecreasingBy row_start rows
starts_rise page [] kinds show i j d l h = absurd (omega arith)
starts_rise page (w ∷ rest) kinds show zero zero d l h = omega arith
starts_rise page (w ∷ rest) kinds show zero (suc j) d l h =
    let s = show.0 in let b = show.1 in
    let r = rises_from (rows_start rest) rest kinds j d show.4 (omega arith) in omega arith
starts_rise page (w ∷ rest) kinds show (suc i) zero d l h = absurd (omega arith)
starts_rise page (w ∷ rest) kinds show (suc i) (suc j) d l h = starts_rise (rows_start rest) rest kinds show.4 i j d (omega arith) (omega arith)

-- nor those of more rows before it
pub starts_up : (rows : List ℕ) (kinds : ℕ → Option Kind) (i n : ℕ) → ShowFrom 0 rows kinds
    → rows_start (drop i rows) ≤ rows_start (drop (i + n) rows)
starts_up rows kinds i zero show =
    let e : i + 0 ≡ i = omega arith in
    subst (λ (j : ℕ). rows_start (drop i rows) ≤ rows_start (drop j rows)) (sym e) (omega arith)
starts_up rows kinds i (suc n) show =
    let e : i + n + 1 ≡ i + suc n = omega arith in
    let a = starts_up rows kinds i n show in
    let b = next_start rows kinds (i + n) show in
    subst (λ (j : ℕ). rows_start (drop i rows) ≤ rows_start (drop j rows)) e (omega arith)

-- a later row starts higher
pub rows_apart : (rows : List ℕ) (kinds : ℕ → Option Kind) (a b : ℕ) → ShowFrom 0 rows kinds → a < b → b < length rows
    → row_start (get_or rows a 0) < row_start (get_or rows b 0)
rows_apart rows kinds a b show lt there =
    let low = row_pages_at 0 rows kinds a show (omega arith) in
    let high = row_pages_at 0 rows kinds b show there in
    let some = low.some in let begins = high.begins in
    let at : a + 1 + (b - (a + 1)) ≡ b = omega arith in
    let up : rows_start (drop (a + 1) rows) ≤ rows_start (drop b rows) =
    subst (λ (n : ℕ). rows_start (drop (a + 1) rows) ≤ rows_start (drop n rows)) at (starts_up rows kinds (a + 1) (b - (a + 1)) show) in
    omega arith

-- where no row starts before a page, no page lies before the first row
pub none_from : (rows : List ℕ) (kinds : ℕ → Option Kind) (i p : ℕ) → ShowFrom 0 rows kinds → i ≡ 0 → p < rows_start (drop i rows) → ⊥
none_from rows kinds i p show is below =
    let f = (first_row rows kinds show).1 in
    let l : p < rows_start (drop 0 rows) = subst (λ (n : ℕ). p < rows_start (drop n rows)) is below in absurd (omega arith)

-- a row that starts behind page 0 isn't the first one
pub not_first : (rows : List ℕ) (kinds : ℕ → Option Kind) (i start : ℕ) → ShowFrom 0 rows kinds → rows_start (drop i rows) ≡ start → 0 < start → 0 < i
not_first rows kinds i start show begins some = elim (cases_lt 0 i) [
  | inl lt ↦ lt
  | inr ge ↦ absurd (none_from rows kinds i 0 show (omega arith) (omega arith))
]

-- behind a row of a span one row more starts before where the span goes on
pub next_come : (rows : List ℕ) (i at to hi : ℕ) → at ≡ min (rows_start (drop i rows)) hi → at < hi
    → to ≡ min (rows_start (drop (i + 1) rows)) hi → row_start (get_or rows i 0) < rows_start (drop (i + 1) rows)
    → rows_start (drop i rows) ≡ row_start (get_or rows i 0) → i < length rows → StartBefore rows to (i + 1)
next_come rows i at to hi starts below ends some begins lt = record {
  there = omega arith;
  ahead = omega arith;
  behind = λ l.
      let e : i + 1 - 1 ≡ i = omega arith in
      subst (λ (n : ℕ). rows_start (drop n rows) < to) (sym e) (omega arith);
}
