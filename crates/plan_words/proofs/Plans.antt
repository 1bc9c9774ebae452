-- What the plan of a call says of the splice that it makes of the rows: it never takes the first row away without
-- another one.
use Rattle.std.proofs.Common.{◌≡◌, ℕ, zero, suc, ◌+◌, ◌<◌, ◌≤◌, List, [], ◌∷◌, drop, length, get_or}
use Rattle.std.proofs.Common.{sym, ap, ◌∙◌, arith, inl, inr}
use Rattle.std.proofs.lemmas.Bool.{cases_lt}
use Rattle.std.proofs.lemmas.List.{get_or-drop, nil_from_length}
use Rattle.std.specs.Prelude.{Option}
use Rattle.std.specs.List.{splice}
use Rattle.page_types.specs.declared.calls.Kind.{Kind}
use Rattle.page_types.specs.declared.calls.Call.{Call}
use Rattle.page_types.specs.declared.calls.Reply.{Reply}
use Rattle.space_model.specs.Areas.{kind_at}
use Rattle.row_plans.specs.RowWords.{row_start}
use Rattle.row_plans.specs.RowLists.{rows_start, ShowFrom, areas_from}
use Rattle.row_plans.specs.Plans.{IsRowList, IsPlan}
use Rattle.row_blocks.proofs.RowSplices.{length-splice}

-- rows that show kinds from a page on start there or behind it
start_above : (page : ℕ) (rows : List ℕ) (kinds : ℕ → Option Kind) (n : ℕ) → ShowFrom page rows kinds → n < length rows → page ≤ row_start (get_or rows n 0)
start_above page [] kinds n s lt = absurd (omega arith)
start_above page (w ∷ rest) kinds zero s lt = omega arith
start_above page (w ∷ rest) kinds (suc n) s lt = let r = start_above (rows_start rest) rest kinds n s.4 (omega arith) in omega arith

-- and those behind the first one start behind it
start_behind : (page : ℕ) (rows : List ℕ) (kinds : ℕ → Option Kind) (n : ℕ) → ShowFrom page rows kinds → 0 < n → n < length rows
    → page < row_start (get_or rows n 0)
start_behind page [] kinds n s some_row lt = absurd (omega arith)
start_behind page (w ∷ rest) kinds zero s some_row lt = absurd (omega arith)
start_behind page (w ∷ rest) kinds (suc n) s some_row lt =
    let r = start_above (rows_start rest) rest kinds n s.4 (omega arith) in omega arith

-- the first of rows that show kinds starts where they do
start_first : (page : ℕ) (rows : List ℕ) (kinds : ℕ → Option Kind) → ShowFrom page rows kinds → 0 < length rows → row_start (get_or rows 0 0) ≡ page
start_first page [] kinds s lt = absurd (omega arith)
start_first page (w ∷ rest) kinds s lt = s.0

module _ (rows more : List ℕ) (call : Call) (reply : Reply) (count p gone : ℕ) (list : IsRowList rows)
    (plan : IsPlan call reply count (splice rows p (p + gone) more) (areas_from rows)) (inside : p + gone ≤ length rows) where
  -- where a row goes or one comes, one comes or one stays before those that go
  pub plan_stays : 0 < p + gone + length more → 0 < p + length more
  plan_stays some_row = elim (cases_lt 0 (p + length more)) [
    | inl lt ↦ lt
    | inr none ↦
        let no_first : p ≡ 0 = omega arith in
        let no_more : more ≡ [] = nil_from_length more (omega arith) in
        let all = length-splice rows more p (p + gone) (omega arith) inside in
        let left : 0 < length (splice rows p (p + gone) more) = plan.shows.some in
        let from : p + gone ≡ gone = omega arith in
        let is : splice rows p (p + gone) more ≡ drop gone rows = λ i. splice rows (no_first i) (from i) (no_more i) in
        let at : gone + 0 ≡ gone = omega arith in
        let first : row_start (get_or rows gone 0) ≡ 0 = ap (λ (n : ℕ). row_start (get_or rows n 0)) (sym at) ∙ (ap row_start (sym (get_or-drop gone rows 0 0))
        ∙ (ap (λ (l : List ℕ). row_start (get_or l 0 0)) (sym is) ∙ start_first 0 (splice rows p (p + gone) more) (kind_at plan.left) plan.shows.show left)) in
        let later = start_behind 0 rows (kind_at (areas_from rows)) gone list.show (omega arith) (omega arith) in
        absurd (omega arith)
  ]
