-- The highest place of free pages, found down the rows: no place ends in a row that hasn't so many free pages, and the
-- last row that has so many, before one that starts in the window, has the highest place at its end.
use Rattle.std.proofs.Common.{ℕ, zero, suc, ◌≡◌, ◌<◌, ◌≤◌, ◌+◌, ◌-◌, List, min, max, get_or, drop, length, refl, sym, subst, arith}
use Rattle.std.specs.Prelude.{Option, None, Some}
use Rattle.page_types.specs.declared.TheConstants.{LOWEST}
use Rattle.page_types.specs.declared.calls.Kind.{Kind}
use Rattle.space_model.specs.Places.{FitsAt, IsHighestFit}
use Rattle.row_plans.specs.RowWords.{row_start, row_kind}
use Rattle.row_plans.specs.RowLists.{rows_start, ShowFrom}
use Rattle.row_plans.specs.Planning.{NoneEndsAbove}
use Rattle.row_plans.specs.Gaps.{free_pages, free_of, HasNoGap, IsGapBefore}
use Rattle.row_plans.proofs.RowPages.{HasCome, row_pages, row_before, ends_before, ends_here, no_place, starts_up}

-- so many pages don't fit into a row that has fewer free pages
pub few_free : (kind : Option Kind) (start end top pages : ℕ) → free_pages kind start end < pages → top ≤ end → kind ≡ None
    → max start LOWEST + pages ≤ top → ⊥
few_free None start end top pages few within free fits = absurd (omega arith)
few_free (Some kind) start end top pages few within free fits = cc

-- a row that has some is free, and they end in it
pub are_free : (kind : Option Kind) (start end pages : ℕ) → 0 < pages → pages ≤ free_pages kind start end
    → (kind ≡ None) × (max start LOWEST + pages ≤ end)
are_free None start end pages some many = (refl, omega arith)
are_free (Some kind) start end pages some many = absurd (omega arith)

module _ (rows : List ℕ) (kinds : ℕ → Option Kind) (show : ShowFrom 0 rows kinds) (window pages : ℕ) (some : 0 < pages) where
  -- the search has come down to a row
  come : (n : ℕ) → n < length rows → NoneEndsAbove kinds window pages (rows_start (drop (n + 1) rows))
      → HasCome rows kinds n window pages (row_start (get_or rows n 0)) (rows_start (drop (n + 1) rows)) (row_kind (get_or rows n 0))
  come n there ended = record {
    row = row_pages rows kinds n show there refl refl refl;
    before = row_before rows kinds n show there refl refl;
    ended = ended;
  }

  -- and passes it
  pass : (n : ℕ) → n < length rows → free_of rows n < pages → NoneEndsAbove kinds window pages (rows_start (drop (n + 1) rows))
      → NoneEndsAbove kinds window pages (rows_start (drop n rows))
  pass n there few ended =
      let c = come n there ended in let end = rows_start (drop (n + 1) rows) in
      subst (λ (e : ℕ). NoneEndsAbove kinds window pages e) (sym c.row.begins)
      (ends_before {top = min end window} c some refl
      (few_free (row_kind (get_or rows n 0)) (row_start (get_or rows n 0)) end (min end window) pages few (omega arith)))

  -- or several
  down : (m d : ℕ) → m + d ≤ length rows → HasNoGap rows m (m + d) pages → NoneEndsAbove kinds window pages (rows_start (drop (m + d) rows))
      → NoneEndsAbove kinds window pages (rows_start (drop m rows))
  down m zero there few ended =
      let same : m + 0 ≡ m = omega arith in subst (λ (n : ℕ). NoneEndsAbove kinds window pages (rows_start (drop n rows))) same ended
  down m (suc d) there few ended =
      let same : m + suc d ≡ m + d + 1 = omega arith in
      let then = subst (λ (n : ℕ). NoneEndsAbove kinds window pages (rows_start (drop n rows))) same ended in
      down m d (omega arith) (record { few = λ k from until. few.few k from (omega arith) })
      (pass (m + d) (omega arith) (few.few (m + d) (omega arith) (omega arith)) then)

  -- so it comes down to the page at which a gap ends
  down_to : (m n : ℕ) → m ≤ n → n ≤ length rows → HasNoGap rows m n pages → NoneEndsAbove kinds window pages (rows_start (drop n rows))
      → NoneEndsAbove kinds window pages (rows_start (drop m rows))
  down_to m n up there few ended =
      let same : n ≡ m + (n - m) = omega arith in
      down m (n - m) (omega arith) (subst (λ (k : ℕ). HasNoGap rows m k pages) same few)
      (subst (λ (k : ℕ). NoneEndsAbove kinds window pages (rows_start (drop k rows))) same ended)

  -- which has the highest place
  pub gap_before : (n end : ℕ) → n ≤ length rows → rows_start (drop n rows) ≤ window → NoneEndsAbove kinds window pages (rows_start (drop n rows))
      → IsGapBefore rows n pages end → IsHighestFit kinds window pages (end - pages)
  gap_before n end there within ended gap =
      let before = gap.before in let ends = gap.ends in let behind = rows_start (drop (gap.row + 1) rows) in
      let c = come gap.row (omega arith) (down_to (gap.row + 1) n (omega arith) there gap.last ended) in
      let free = are_free (row_kind (get_or rows gap.row 0)) (row_start (get_or rows gap.row 0)) behind pages some gap.wide in
      let same : gap.row + 1 + (n - (gap.row + 1)) ≡ n = omega arith in
      let up : behind ≤ rows_start (drop n rows) =
      subst (λ (k : ℕ). behind ≤ rows_start (drop k rows)) same (starts_up rows kinds (gap.row + 1) (n - (gap.row + 1)) show) in
      subst (λ (e : ℕ). IsHighestFit kinds window pages (e - pages)) (sym ends)
      (ends_here {top = behind} c some (omega arith) free.0 free.1)

  -- where none has so many free pages there is no place
  pub none_before : (n : ℕ) → n ≤ length rows → NoneEndsAbove kinds window pages (rows_start (drop n rows)) → rows_start rows ≡ 0
      → HasNoGap rows 0 n pages → (s : ℕ) → ¬ FitsAt kinds window pages s
  none_before n there ended first few = no_place kinds window pages (rows_start rows) some first (down_to 0 n (omega arith) there few ended)
