-- Blocks that are passed by the gaps that they tell, on the way down to one with so many free pages.
use Rattle.std.proofs.Common.{◌≡◌, ℕ, zero, suc, ◌+◌, ◌-◌, ◌/◌, ◌<◌, ◌≤◌, List, drop, sym, refl, ap, ◌∙◌, subst, arith, inl, inr}
use Rattle.std.proofs.lemmas.Bool.{cases_lt}
use Rattle.std.specs.Prelude.{Option, None, Some, MatchOption, slice_index}
use Rattle.row_plans.specs.RowWords.{row_start, row_kind}
use Rattle.row_plans.specs.RowLists.{rows_start}
use Rattle.row_plans.specs.Gaps.{free_pages, free_of, HasNoGap, IsGapBefore}
use Rattle.row_plans.proofs.Splices.{start_at}
use Rattle.row_blocks.specs.Blocks.{blocks_of, rows_of, body_at, rows_in, count_to, IsLaidOut}
use Rattle.row_blocks.specs.Gaps.{gap_of, IsLargestGap, GapsTold}
use Rattle.row_blocks.proofs.Counts.{count_up}
use Rattle.row_blocks.proofs.Places.{within, head_there, row_there}
use Rattle.row_blocks.proofs.GapRows.{free_is}

-- the word at the slot of a row is that row
pub slot_row : {nb : ℕ} {words : List ℕ} {i : ℕ} (k slot body : ℕ) → IsLaidOut nb words → i < blocks_of nb words → k ≤ rows_of nb words i
    → body ≡ body_at nb words i → (k ≡ 0 → slot ≡ i) → (0 < k → slot + 1 ≡ body + k)
    → slice_index words slot ≡ slice_index (rows_in nb words) (count_to nb words i + k)
slot_row {nb} {words} {i} zero slot body laid there within at first rest =
    ap (slice_index words) (first refl) ∙ sym (head_there nb words i laid there)
slot_row {nb} {words} {i} (suc k) slot body laid there within at first rest =
    let r = rest (omega arith) in
    let spare = laid.spare in
    let e : slot ≡ body_at nb words i - 1 + suc k = omega arith in
    ap (slice_index words) e ∙ sym (row_there nb words i laid there (suc k) (omega arith) within)

-- rows without so many free pages, one run behind the other
pub none_join : {rows : List ℕ} {a b c pages : ℕ} → HasNoGap rows a b pages → HasNoGap rows b c pages → HasNoGap rows a c pages
none_join {rows} {a} {b} {c} {pages} low high = record {
  few = λ n from until. elim (cases_lt n b) [ inl lt ↦ low.few n from lt | inr ge ↦ high.few n ge until ];
}

-- and behind the last row that has so many
pub before_join : {rows : List ℕ} {m n pages end : ℕ} → m ≤ n → IsGapBefore rows m pages end → HasNoGap rows m n pages → IsGapBefore rows n pages end
before_join {rows} {m} {n} {pages} {end} le gap none =
    let before = gap.before in
    record { row = gap.row; before = omega arith; wide = gap.wide; last = none_join gap.last none; ends = gap.ends }

-- the row before was read: it has so many free pages, or is passed
module _ {nb : ℕ} {words : List ℕ} {i k end pages place : ℕ} (laid : IsLaidOut nb words) (there : i < blocks_of nb words) (some : 0 < k)
    (low : k ≤ place) (within_block : place ≤ rows_of nb words i + 1) (ends : end ≡ rows_start (drop (count_to nb words i + k) (rows_in nb words)))
    (none : HasNoGap (rows_in nb words) (count_to nb words i + k) (count_to nb words i + place) pages)
    {word : ℕ} (read : word ≡ slice_index (rows_in nb words) (count_to nb words i + (k - 1))) where
  free_read : free_pages (row_kind word) (row_start word) end ≡ free_of (rows_in nb words) (count_to nb words i + (k - 1))
  free_read =
      let e : count_to nb words i + k ≡ count_to nb words i + (k - 1) + 1 = omega arith in
      free_is (rows_in nb words) (count_to nb words i + (k - 1)) read (ends ∙ ap (λ (n : ℕ). rows_start (drop n (rows_in nb words))) e)

  pub has_gap : pages ≤ free_pages (row_kind word) (row_start word) end
      → IsGapBefore (rows_in nb words) (count_to nb words i + place) pages end
  has_gap wide =
      let f = free_read in
      let e : count_to nb words i + k ≡ count_to nb words i + (k - 1) + 1 = omega arith in record {
        row = count_to nb words i + (k - 1);
        before = omega arith;
        wide = omega arith;
        last = record { few = λ n from until. none.few n (omega arith) until };
        ends = ends ∙ ap (λ (n : ℕ). rows_start (drop n (rows_in nb words))) e;
      }

  pub pass_row : free_pages (row_kind word) (row_start word) end < pages
      → HasNoGap (rows_in nb words) (count_to nb words i + (k - 1)) (count_to nb words i + place) pages
  pass_row few =
      let f = free_read in record {
        few = λ n from until. elim (cases_lt (count_to nb words i + (k - 1)) n) [
          | inl lt ↦ none.few n (omega arith) until
          | inr ge ↦
              let e : count_to nb words i + (k - 1) ≡ n = omega arith in
              subst (λ (m : ℕ). free_of (rows_in nb words) m < pages) e (omega arith)
        ];
      }

  pub row_begins : word / 64 ≡ rows_start (drop (count_to nb words i + (k - 1)) (rows_in nb words))
  row_begins =
      let lt = within nb words i laid there (k - 1) (omega arith) in
      ap row_start read ∙ sym (start_at (rows_in nb words) (count_to nb words i + (k - 1)) lt)

-- a run of rows whose largest gap has so many pages has a row that has so many
pub some_wide : {rows : List ℕ} {from until gap pages : ℕ} → 0 < pages → pages ≤ gap → IsLargestGap rows from until gap → HasNoGap rows from until pages → ⊥
some_wide some wide largest none =
    let l = largest.some (omega arith) in
    let few = none.few l.0 l.1 l.2 in
    let many = l.3 in
    absurd (omega arith)

module _ (nb : ℕ) (words : List ℕ) (pages : ℕ) (told : GapsTold nb words) where
  -- blocks that tell fewer pages have no row with so many
  pass_blocks : (i d : ℕ) → i + d ≤ blocks_of nb words → ((k : ℕ) → i ≤ k → k < i + d → gap_of nb words k < pages)
      → HasNoGap (rows_in nb words) (count_to nb words i) (count_to nb words (i + d)) pages
  pass_blocks i zero le few = record {
    few = λ n from until.
        let e : i + 0 ≡ i = omega arith in
        let c = ap (count_to nb words) e in absurd (omega arith);
  }
  pass_blocks i (suc d) le few =
      let before = pass_blocks i d (omega arith) (λ k a b. few k a (omega arith)) in record {
        few = λ n from until. elim (cases_lt n (count_to nb words (i + d))) [
          | inl lt ↦ before.few n from lt
          | inr ge ↦
              let e : i + suc d ≡ i + d + 1 = omega arith in
              let c = ap (count_to nb words) e in
              let most = (told (i + d) (omega arith)).most n ge (omega arith) in
              let g = few (i + d) (omega arith) (omega arith) in
              omega arith
        ];
      }

  pub none_between : (i j : ℕ) → i ≤ j → j ≤ blocks_of nb words → ((k : ℕ) → i ≤ k → k < j → gap_of nb words k < pages)
      → HasNoGap (rows_in nb words) (count_to nb words i) (count_to nb words j) pages
  none_between i j up le few =
      let e : i + (j - i) ≡ j = omega arith in
      subst (λ (n : ℕ). HasNoGap (rows_in nb words) (count_to nb words i) (count_to nb words n) pages) e
      (pass_blocks i (j - i) (omega arith) (λ k a b. few k a (omega arith)))

  -- where no block before tells so many pages, and no row of the own block has them, none has
  pub passed_all : (i : ℕ) {number : ℕ} → i < blocks_of nb words → ((k : ℕ) → k < i → gap_of nb words k < pages)
      → HasNoGap (rows_in nb words) (count_to nb words i) number pages → HasNoGap (rows_in nb words) 0 number pages
  passed_all i there few own = none_join (none_between 0 i (omega arith) (omega arith) (λ k a b. few k b)) own

  -- and where one does, the last row there that has them is the one
  pub passed_to : (i j : ℕ) {number : ℕ} (found : Option ℕ) → 0 < pages → i < blocks_of nb words → count_to nb words i ≤ number → j < i
      → pages ≤ gap_of nb words j → ((k : ℕ) → j < k → k < i → gap_of nb words k < pages)
      → HasNoGap (rows_in nb words) (count_to nb words i) number pages
      → MatchOption found (HasNoGap (rows_in nb words) (count_to nb words j) (count_to nb words (j + 1)) pages)
      (IsGapBefore (rows_in nb words) (count_to nb words (j + 1)) pages)
      → MatchOption found (HasNoGap (rows_in nb words) 0 number pages) (IsGapBefore (rows_in nb words) number pages)
  passed_to i j None some there low before wide few own none = absurd (some_wide some wide (told j (omega arith)) none)
  passed_to i j (Some end) some there low before wide few own gap =
      let up : count_to nb words (j + 1) ≤ count_to nb words i = count_up nb words (j + 1) i (omega arith) in
      before_join (omega arith) gap
      (none_join (none_between (j + 1) i (omega arith) (omega arith) (λ k a b. few k (omega arith) b)) own)
