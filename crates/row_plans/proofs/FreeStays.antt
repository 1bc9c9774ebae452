-- A row that changes among mapped pages leaves the free pages of each row as they are.
use Rattle.std.proofs.Common.{ℕ, ◌≡◌, ◌<◌, ◌≤◌, ◌+◌, ◌-◌, List, get_or, set, drop, length, refl, sym, ap, ◌∙◌, subst, arith, inl, inr}
use Rattle.std.proofs.lemmas.Bool.{cases_lt}
use Rattle.std.proofs.lemmas.List.{length-set, get_or-set_other}
use Rattle.std.specs.Prelude.{Option, None, Some}
use mathlib.Core.Logic.{dite}
use native.Mathlib.Decide.{ℕ_discrete}
use Rattle.page_types.specs.declared.TheConstants.{LIMIT}
use Rattle.page_types.specs.declared.calls.Kind.{Kind}
use Rattle.row_plans.specs.RowWords.{row_start, row_kind}
use Rattle.row_plans.specs.RowLists.{rows_start, ShowFrom}
use Rattle.row_plans.specs.Gaps.{free_pages, free_of}
use Rattle.row_plans.proofs.Splices.{start_at}
use Rattle.row_plans.proofs.RowPages.{row_pages, row_before, row_there, ends_all}

-- of two lists of rows, where each page that one shows free is free in the other one
module _ (rows others : List ℕ) (kinds shown : ℕ → Option Kind) (show : ShowFrom 0 rows kinds) (shows : ShowFrom 0 others shown)
    (agree : (p : ℕ) → p < LIMIT → shown p ≡ None → kinds p ≡ None) (n : ℕ) (there : n < length rows) (here : n < length others) where
  -- a row that ends at one page in both is free in the first one, if it is in the other one
  pub free_too : rows_start (drop (n + 1) others) ≡ rows_start (drop (n + 1) rows) → row_kind (get_or others n 0) ≡ None → row_kind (get_or rows n 0) ≡ None
  free_too end free =
      let r = row_pages rows kinds n show there refl refl refl in
      let o = row_pages others shown n shows here refl refl refl in
      let e : ℕ = rows_start (drop (n + 1) rows) in
      let some = r.some in let low = r.low in let other_some = o.some in
      sym (r.all (e - 1) (omega arith) (omega arith)) ∙ agree (e - 1) (omega arith) (o.all (e - 1) (omega arith) (omega arith) ∙ free)

  -- and then it doesn't start earlier in that one
  pub no_earlier : rows_start (drop (n + 1) others) ≡ rows_start (drop (n + 1) rows) → row_kind (get_or others n 0) ≡ None → row_kind (get_or rows n 0) ≡ None
      → row_start (get_or rows n 0) ≤ row_start (get_or others n 0)
  no_earlier end free own = elim (cases_lt (row_start (get_or others n 0)) (row_start (get_or rows n 0))) [
    | inr ge ↦ ge
    | inl lt ↦
        let r = row_pages rows kinds n show there refl refl refl in
        let o = row_pages others shown n shows here refl refl refl in
        let s : ℕ = row_start (get_or rows n 0) in
        let some = r.some in let low = r.low in
        let before = row_before rows kinds n show there refl refl (omega arith) in
        absurd (before (agree (s - 1) (omega arith) (o.all (s - 1) (omega arith) (omega arith) ∙ free) ∙ sym own))
  ]

  -- one that starts at one page in both, and is free, doesn't end later in that one
  pub no_later : row_start (get_or others n 0) ≡ row_start (get_or rows n 0) → row_kind (get_or others n 0) ≡ None → row_kind (get_or rows n 0) ≡ None
      → rows_start (drop (n + 1) others) ≤ rows_start (drop (n + 1) rows)
  no_later start free own = elim (cases_lt (rows_start (drop (n + 1) rows)) (rows_start (drop (n + 1) others))) [
    | inr ge ↦ ge
    | inl lt ↦
        let r = row_pages rows kinds n show there refl refl refl in
        let o = row_pages others shown n shows here refl refl refl in
        let e : ℕ = rows_start (drop (n + 1) rows) in
        let some = r.some in let limit = o.low in
        let next = row_there rows (n + 1) (omega arith) in
        let b = row_pages rows kinds (n + 1) show next refl refl refl in
        let begins : e ≡ row_start (get_or rows (n + 1) 0) = b.begins in
        let more = b.some in
        let free_there : kinds e ≡ None = agree e (omega arith) (o.all e (omega arith) (omega arith) ∙ free) in
        let free_before : kinds (e - 1) ≡ None = r.all (e - 1) (omega arith) (omega arith) ∙ own in
        let same : kinds e ≡ row_kind (get_or rows (n + 1) 0) = b.all e (omega arith) (omega arith) in
        let before = row_before rows kinds (n + 1) show next begins refl (omega arith) in
        absurd (before (free_before ∙ (sym free_there ∙ same)))
  ]

-- rows that are free in one list exactly if they are in the other one have as many free pages
same_free : (kind other : Option Kind) (start begin end until : ℕ) → (kind ≡ None → other ≡ None) → (other ≡ None → kind ≡ None)
    → (kind ≡ None → other ≡ None → (begin ≡ start) × (until ≡ end)) → free_pages other begin until ≡ free_pages kind start end
same_free None None start begin end until to from same = let s = same refl refl in let a = s.0 in let b = s.1 in omega arith
same_free None (Some other) start begin end until to from same = let e = to refl in absurd cc
same_free (Some kind) None start begin end until to from same = let e = from refl in absurd cc
same_free (Some kind) (Some other) start begin end until to from same = refl

module _ (rows : List ℕ) (kinds shown : ℕ → Option Kind) (k word : ℕ) (show : ShowFrom 0 rows kinds) (shows : ShowFrom 0 (set rows k word) shown)
    (stays : (p : ℕ) → p < LIMIT → shown p ≡ None → kinds p ≡ None) (stayed : (p : ℕ) → p < LIMIT → kinds p ≡ None → shown p ≡ None) where
  others : List ℕ
  others = set rows k word

  long : length others ≡ length rows
  unfolding others
  long = length-set rows k word

  same_word : (n : ℕ) → (n ≡ k → ⊥) → get_or others n 0 ≡ get_or rows n 0
  unfolding others
  same_word n differ = get_or-set_other rows k n word 0 differ

  same_end : (n : ℕ) → (n ≡ k → ⊥) → rows_start (drop n others) ≡ rows_start (drop n rows)
  same_end n differ = elim (cases_lt n (length rows)) [
    | inl lt ↦ let l = long in start_at others n (omega arith) ∙ (ap row_start (same_word n differ) ∙ sym (start_at rows n lt))
    | inr ge ↦ let l = long in ends_all others n (omega arith) ∙ sym (ends_all rows n ge)
  ]

  -- the row that changes
  changed_free : k < length rows → free_of others k ≡ free_of rows k
  unfolding others
  changed_free there =
      let l = long in
      let end = same_end (k + 1) (λ e. omega arith) in
      let to = free_too others rows shown kinds shows show stayed k (omega arith) there (sym end) in
      let from = free_too rows others kinds shown show shows stays k there (omega arith) end in
      same_free (row_kind (get_or rows k 0)) (row_kind (get_or others k 0)) (row_start (get_or rows k 0)) (row_start (get_or others k 0))
      (rows_start (drop (k + 1) rows)) (rows_start (drop (k + 1) others)) to from
      (λ own free.
      let a = no_earlier rows others kinds shown show shows stays k there (omega arith) end free own in
      let b = no_earlier others rows shown kinds shows show stayed k (omega arith) there (sym end) own free in
      (omega arith, end))

  -- the row before it
  before_free : (n : ℕ) → n + 1 ≡ k → n < length rows → free_of others n ≡ free_of rows n
  unfolding others
  before_free n next there =
      let l = long in
      let w = same_word n (λ e. omega arith) in
      let kind = ap row_kind w in
      same_free (row_kind (get_or rows n 0)) (row_kind (get_or others n 0)) (row_start (get_or rows n 0)) (row_start (get_or others n 0))
      (rows_start (drop (n + 1) rows)) (rows_start (drop (n + 1) others)) (λ free. kind ∙ free) (λ free. sym kind ∙ free)
      (λ own free.
      let start = ap row_start w in
      let a = no_later rows others kinds shown show shows stays n there (omega arith) start free own in
      let b = no_later others rows shown kinds shows show stayed n (omega arith) there (sym start) own free in
      (start, omega arith))

  -- so each row has as many free pages as before
  pub free_stays : (n : ℕ) → n < length rows → free_of (set rows k word) n ≡ free_of rows n
  unfolding others
  free_stays n there = dite (ℕ_discrete n k)
      (λ e. subst (λ (m : ℕ). free_of others m ≡ free_of rows m) (sym e) (changed_free (omega arith)))
      (λ differ. dite (ℕ_discrete (n + 1) k) (λ next. before_free n next there)
      (λ apart.
      let w = same_word n differ in let end = same_end (n + 1) apart in
      λ i. free_pages (row_kind (w i)) (row_start (w i)) (end i)))
