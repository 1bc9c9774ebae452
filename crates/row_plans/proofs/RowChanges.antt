-- What a change makes of rows, step by step: the row before it, the rows that come, and the rows that stay behind.
use Rattle.std.proofs.Common.{◌≡◌, ℕ, zero, suc, ◌+◌, ◌-◌, ◌<◌, ◌≤◌, List, [], ◌∷◌, ◌++◌, length, take, drop, min, sym, refl, subst, arith, inl, inr}
use Rattle.std.proofs.lemmas.Bool.{cases_lt}
use Rattle.std.proofs.lemmas.List.Elements.{All-append, All-take, All-drop}
use Rattle.std.specs.List.{splice}
use Rattle.std.specs.Prelude.{All, Option}
use Rattle.page_types.specs.declared.TheConstants.{LIMIT}
use Rattle.page_types.specs.declared.calls.Kind.{Kind}
use Rattle.row_plans.specs.RowLists.{rows_start, ShowFrom, IsBareGap}
use Rattle.row_plans.specs.Planning.{ShowTo, StartBefore, GoesOn}
use Rattle.row_plans.proofs.RowPages.{row_pages, first_row}
use Rattle.row_plans.proofs.PutRows.{kept_shows}
use Rattle.row_plans.proofs.Splices.{splice_shows}

-- of a splice all gaps are bare where they are in both lists
pub splice_gaps : (rows more : List ℕ) (first end : ℕ) → All IsBareGap rows → All IsBareGap more → All IsBareGap (splice rows first end more)
splice_gaps rows more first end bare more_bare =
    All-append IsBareGap (take first rows) (more ++ drop end rows) (All-take IsBareGap first rows bare)
    (All-append IsBareGap more (drop end rows) more_bare (All-drop IsBareGap end rows bare))

-- so many rows are no more
pub take_few : (n : ℕ) (rows : List ℕ) → length (take n rows) ≤ n
take_few zero rows = omega arith
take_few (suc n) [] = omega arith
take_few (suc n) (word ∷ rest) = let r = take_few n rest in omega arith

module _ (rows : List ℕ) (kinds : ℕ → Option Kind) (show : ShowFrom 0 rows kinds) (lo start begin : ℕ) (come : StartBefore rows lo start)
    (before : begin ≡ start - 1) where
  -- the row before the page, with which the rows that come begin, starts no higher
  pub begins_low : rows_start (drop begin rows) ≤ lo
  begins_low = elim (cases_lt 0 start) [
    | inl lt ↦
        let low : rows_start (drop (start - 1) rows) < lo = come.behind lt in
        subst (λ (n : ℕ). rows_start (drop n rows) ≤ lo) (sym before) (omega arith)
    | inr ge ↦
        let none : 0 ≡ begin = omega arith in
        let zero_start = (first_row rows kinds show).1 in
        subst (λ (n : ℕ). rows_start (drop n rows) ≤ lo) none (omega arith)
  ]

  -- and lower where there is another before it
  pub begins_below : 0 < begin → rows_start (drop begin rows) < lo
  begins_below some =
      let lt : 0 < start = omega arith in
      subst (λ (n : ℕ). rows_start (drop n rows) < lo) (sym before) (come.behind lt)

  -- so many rows start before that row
  own_start : StartBefore rows (rows_start (drop begin rows)) begin
  own_start = record {
    there = let l = come.there in omega arith;
    ahead = omega arith;
    behind = λ some.
        let there = come.there in
        let lt : begin - 1 < length rows = omega arith in
        let r = row_pages rows kinds (begin - 1) show lt refl refl refl in
        let starts = r.begins in let some_page = r.some in
        let next : begin - 1 + 1 ≡ begin = omega arith in
        let up : rows_start (drop (begin - 1) rows) < rows_start (drop (begin - 1 + 1) rows) = omega arith in
        subst (λ (n : ℕ). rows_start (drop (begin - 1) rows) < rows_start (drop n rows)) next up;
  }

  -- the row before the page shows what it showed
  pub begun_shows : (items : List ℕ) (others : ℕ → Option Kind) → items ≡ take (start - begin) (drop begin rows)
      → ((p : ℕ) → p < lo → others p ≡ kinds p) → ShowTo (rows_start (drop begin rows)) items lo others
  begun_shows items others is same =
      let low = begins_low in
      let least : min (rows_start (drop begin rows)) lo ≡ rows_start (drop begin rows) = omega arith in
      let all : ShowTo (min (rows_start (drop begin rows)) lo) (take (start - begin) (drop begin rows)) lo others =
      kept_shows rows begin start (rows_start (drop begin rows)) lo kinds others show own_start come (omega arith) (λ p above below. same p below) in
      subst (λ (l : List ℕ). ShowTo (rows_start (drop begin rows)) l lo others) (sym is)
      (subst (λ (x : ℕ). ShowTo x (take (start - begin) (drop begin rows)) lo others) least all)

  -- a splice that begins with that row shows the changed kinds
  pub made_shows : (more : List ℕ) (end last : ℕ) (after : ℕ → Option Kind) → lo ≤ LIMIT → ((p : ℕ) → p < lo → after p ≡ kinds p)
      → ShowTo (rows_start (drop begin rows)) more (rows_start (drop end rows)) after → GoesOn more (drop end rows)
      → last ≤ rows_start (drop end rows) → ((p : ℕ) → last ≤ p → p < LIMIT → after p ≡ kinds p)
      → ShowFrom 0 (splice rows begin end more) after
  made_shows more end last after limit below come_shows differs ahead behind =
      let there = come.there in let low = begins_low in
      splice_shows rows more begin end kinds after show (omega arith) (λ p lt. below p (omega arith))
      (λ some in_space. below (rows_start (drop begin rows)) (begins_below some))
      come_shows differs (λ p from high. behind p (omega arith) high)
