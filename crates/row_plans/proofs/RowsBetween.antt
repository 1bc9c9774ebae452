-- How many rows start between two pages, as a search or a change goes through them row by row.
use Rattle.std.proofs.Common.{ℕ, zero, suc, ◌≡◌, ◌+◌, ◌-◌, ◌<◌, ◌≤◌, ◌⊎◌, List, [], ◌∷◌, min, drop, length, get_or, inl, inr, refl, subst, arith}
use Rattle.std.proofs.lemmas.Bool.{cases_lt}
use Rattle.std.specs.Prelude.{Option}
use Rattle.page_types.specs.declared.calls.Kind.{Kind}
use Rattle.row_plans.specs.RowWords.{row_start}
use Rattle.row_plans.specs.RowLists.{rows_start, ShowFrom}
use Rattle.row_plans.specs.Planning.{StartBefore}
use Rattle.row_plans.specs.Loads.{rows_between, between_yes, between_no, between_within}
use Rattle.row_plans.proofs.Splices.{start_at}
use Rattle.row_plans.proofs.RowPages.{row_pages, starts_up}

-- a row that starts between two pages, and not between others among these, is one more
pub one_more : (rows : List ℕ) (i lo hi from to : ℕ) → from ≤ lo → hi ≤ to → i < length rows → from < row_start (get_or rows i 0)
    → row_start (get_or rows i 0) < to → (row_start (get_or rows i 0) ≤ lo) ⊎ (hi ≤ row_start (get_or rows i 0))
    → rows_between rows lo hi + 1 ≤ rows_between rows from to
one_more [] i lo hi from to low high lt above below out = absurd (omega arith)
one_more (w ∷ rest) zero lo hi from to low high lt above below out =
    let none = between_no lo hi (row_start w) out in
    let one = between_yes from to (row_start w) above below in
    let more = between_within rest lo hi from to low high in omega arith
one_more (w ∷ rest) (suc i) lo hi from to low high lt above below out =
    let one = between_within (w ∷ []) lo hi from to low high in
    let more = one_more rest i lo hi from to low high (omega arith) above below out in omega arith

-- going up, each row that starts before `hi` is one more
pub more_up : (rows : List ℕ) (i lo hi : ℕ) → i < length rows → lo < rows_start (drop i rows) → rows_start (drop i rows) < hi
    → rows_start (drop i rows) < rows_start (drop (i + 1) rows)
    → rows_between rows lo (min hi (rows_start (drop i rows))) + 1 ≤ rows_between rows lo (min hi (rows_start (drop (i + 1) rows)))
more_up rows i lo hi there above below up =
    let at : rows_start (drop i rows) ≡ row_start (get_or rows i 0) = start_at rows i there in
    one_more rows i lo (min hi (rows_start (drop i rows))) lo (min hi (rows_start (drop (i + 1) rows))) (omega arith) (omega arith) there (omega arith)
    (omega arith) (inr (omega arith))

-- going down, each row behind page 0 is one more
pub more_down : (rows : List ℕ) (i start end window : ℕ) → i < length rows → start ≡ row_start (get_or rows i 0) → 0 < start → start < end
    → start < window → rows_between rows (end - 1) window + 1 ≤ rows_between rows (start - 1) window
more_down rows i start end window there is some up low =
    one_more rows i (end - 1) window (start - 1) window (omega arith) (omega arith) there (omega arith) (omega arith) (inl (omega arith))

-- a row starts before the one behind it
row_up : (rows : List ℕ) (kinds : ℕ → Option Kind) (i : ℕ) → ShowFrom 0 rows kinds → i < length rows
    → rows_start (drop i rows) < rows_start (drop (i + 1) rows)
row_up rows kinds i show there =
    let r = row_pages rows kinds i show there refl refl refl in let begins = r.begins in let some = r.some in omega arith

-- rows one behind the other that start between two pages
run_between : (rows : List ℕ) (kinds : ℕ → Option Kind) (lo hi a n : ℕ) → ShowFrom 0 rows kinds → a + n ≤ length rows
    → lo < rows_start (drop a rows) → ((k : ℕ) → k < n → rows_start (drop (a + k) rows) < hi)
    → n ≤ rows_between rows lo (min hi (rows_start (drop (a + n) rows)))
run_between rows kinds lo hi a zero show there above below = omega arith
run_between rows kinds lo hi a (suc n) show there above below =
    let before = run_between rows kinds lo hi a n show (omega arith) above (λ k lt. below k (omega arith)) in
    let over = starts_up rows kinds a n show in
    let under = below n (omega arith) in
    let up = row_up rows kinds (a + n) show (omega arith) in
    let more = more_up rows (a + n) lo hi (omega arith) (omega arith) under up in
    let at : a + n + 1 ≡ a + suc n = omega arith in
    subst (λ (m : ℕ). suc n ≤ rows_between rows lo (min hi (rows_start (drop m rows)))) at (omega arith)

-- where the rows were gone through from one page up to another, as many of them start between
pub come_between : (rows : List ℕ) (kinds : ℕ → Option Kind) (lo hi begun last at : ℕ) → ShowFrom 0 rows kinds → StartBefore rows lo begun
    → StartBefore rows hi last → at ≡ begun - 1 → last ≤ at + 1 + rows_between rows (lo - 1) hi
come_between rows kinds lo hi begun last at show one two is = elim (cases_lt (at + 1) last) [
  | inr few ↦ omega arith
  | inl more ↦
      let there = two.there in let ahead = one.ahead in
      let up = row_up rows kinds at show (omega arith) in
      let second : begun + (at + 1 - begun) ≡ at + 1 = omega arith in
      let over : rows_start (drop begun rows) ≤ rows_start (drop (at + 1) rows) =
      subst (λ (m : ℕ). rows_start (drop begun rows) ≤ rows_start (drop m rows)) second (starts_up rows kinds begun (at + 1 - begun) show) in
      let under : (k : ℕ) → k < last - (at + 1) → rows_start (drop (at + 1 + k) rows) < hi =
      λ k lt.
      let same : at + 1 + k + (last - 1 - (at + 1 + k)) ≡ last - 1 = omega arith in
      let low : rows_start (drop (at + 1 + k) rows) ≤ rows_start (drop (last - 1) rows) =
      subst (λ (m : ℕ). rows_start (drop (at + 1 + k) rows) ≤ rows_start (drop m rows)) same
      (starts_up rows kinds (at + 1 + k) (last - 1 - (at + 1 + k)) show) in
      let high = two.behind (omega arith) in omega arith in
      let run = run_between rows kinds (lo - 1) hi (at + 1) (last - (at + 1)) show (omega arith) (omega arith) under in
      let within = between_within rows (lo - 1) (min hi (rows_start (drop (at + 1 + (last - (at + 1))) rows))) (lo - 1) hi (omega arith) (omega arith) in
      omega arith
]
