-- The largest gap of a block, read row by row and stored in its body word.
use Rattle.std.proofs.Common.{◌≡◌, ℕ, suc, ◌+◌, ◌-◌, ◌*◌, ◌/◌, ◌%◌, ◌<◌, ◌≤◌, List, length, drop, max, sym, refl, ap, ◌∙◌, subst, arith, inl, inr}
use Rattle.std.proofs.lemmas.Bool.{cases_lt}
use Rattle.std.proofs.lemmas.List.{length-set, get_or-set_same, get_or-set_other, drop_all}
use Rattle.std.proofs.lemmas.List.Elements.{All-get_or}
use Rattle.std.specs.Prelude.{All, slice_index, slice_set}
use Rattle.page_types.specs.declared.TheConstants.{LIMIT}
use Rattle.row_plans.specs.RowWords.{row_start, row_kind}
use Rattle.row_plans.specs.RowLists.{rows_start}
use Rattle.row_plans.specs.Gaps.{free_pages, free_of}
use Rattle.row_plans.proofs.Splices.{start_at}
use Rattle.row_blocks.specs.Blocks.{blocks_of, rows_of, body_at, rows_in, rank, count_to, told, IsLaidOut}
use Rattle.row_blocks.specs.Gaps.{gap_of, IsLargestGap, TellsGap, IsSameButGaps}
use Rattle.row_blocks.proofs.Places.{within, head_there, row_there}
use Rattle.row_blocks.proofs.Slots.{length-rows_in}
use Rattle.row_blocks.proofs.Counts.{count_next}
use Rattle.row_blocks.proofs.GapRows.{free_is, free_low, largest_more}
use Rattle.row_blocks.proofs.KeptGaps.{rows_in_same, counts_same, largest_same}

-- what is so of all rows is so of each
pub each_low : (rows : List ℕ) → All (λ w. row_start w ≤ LIMIT) rows → (k : ℕ) → k < length rows → row_start (slice_index rows k) ≤ LIMIT
each_low rows all k lt = All-get_or (λ w. row_start w ≤ LIMIT) rows k 0 lt all

-- no row that is left starts above the limit
pub start_low : (rows : List ℕ) → ((k : ℕ) → k < length rows → row_start (slice_index rows k) ≤ LIMIT) → (n : ℕ) → rows_start (drop n rows) ≤ LIMIT
start_low rows low n = elim (cases_lt n (length rows)) [
  | inl lt ↦ let l = low n lt in let s = start_at rows n lt in omega arith
  | inr ge ↦ let s = ap rows_start (drop_all n rows ge) in omega arith
]

module _ {nb : ℕ} {words : List ℕ} {i : ℕ} (laid : IsLaidOut nb words) (there : i < blocks_of nb words) where
  -- where a block ends the next one starts
  pub end_inside : i + 1 < blocks_of nb words → row_start (slice_index words (i + 1)) ≡ rows_start (drop (count_to nb words (i + 1)) (rows_in nb words))
  end_inside more =
      let zero : count_to nb words (i + 1) + 0 ≡ count_to nb words (i + 1) = omega arith in
      let low = within nb words (i + 1) laid more 0 (omega arith) in
      let head : slice_index words (i + 1) ≡ slice_index (rows_in nb words) (count_to nb words (i + 1)) =
      sym (head_there nb words (i + 1) laid more) ∙ ap (slice_index (rows_in nb words)) zero in
      ap row_start head ∙ sym (start_at (rows_in nb words) (count_to nb words (i + 1)) (omega arith))

  -- or the rows end
  pub end_behind : blocks_of nb words ≤ i + 1 → LIMIT ≡ rows_start (drop (count_to nb words (i + 1)) (rows_in nb words))
  end_behind last =
      let all : i + 1 ≡ blocks_of nb words = omega arith in
      let long = length-rows_in nb words laid in
      let c = ap (count_to nb words) all in
      ap rows_start (sym (drop_all (count_to nb words (i + 1)) (rows_in nb words) (omega arith)))

  -- one row more of a block, whose next row was read
  pub more_read : {gap word next free now : ℕ} (k : ℕ) → k < rows_of nb words i → word ≡ slice_index (rows_in nb words) (count_to nb words i + k)
      → next ≡ slice_index words (body_at nb words i + k) → free ≡ free_pages (row_kind word) (row_start word) (next / 64) → now ≡ max gap free
      → IsLargestGap (rows_in nb words) (count_to nb words i) (count_to nb words i + k) gap
      → IsLargestGap (rows_in nb words) (count_to nb words i) (count_to nb words i + (k + 1)) now
      × (next ≡ slice_index (rows_in nb words) (count_to nb words i + (k + 1)))
  more_read {gap} {word} {next} {free} {now} k lt here behind is most largest =
      let rows : List ℕ = rows_in nb words in
      let spare = laid.spare in
      let at : body_at nb words i - 1 + (k + 1) ≡ body_at nb words i + k = omega arith in
      let up : count_to nb words i + k + 1 ≡ count_to nb words i + (k + 1) = omega arith in
      let is_next : next ≡ slice_index rows (count_to nb words i + (k + 1)) =
      behind ∙ (ap (slice_index words) (sym at) ∙ sym (row_there nb words i laid there (k + 1) (omega arith) (omega arith))) in
      let low = within nb words i laid there (k + 1) (omega arith) in
      let end : next / 64 ≡ rows_start (drop (count_to nb words i + k + 1) rows) =
      ap row_start is_next ∙ (sym (start_at rows (count_to nb words i + (k + 1)) low) ∙ ap (λ (n : ℕ). rows_start (drop n rows)) (sym up)) in
      let free_is_of : free ≡ free_of rows (count_to nb words i + k) = is ∙ free_is rows (count_to nb words i + k) here end in
      (subst (λ (n : ℕ). IsLargestGap rows (count_to nb words i) n now) up (largest_more (omega arith) free_is_of most largest), is_next)

  -- and the last one
  pub last_read : {gap word end free now k : ℕ} → k ≡ rows_of nb words i → word ≡ slice_index (rows_in nb words) (count_to nb words i + k)
      → end ≡ rows_start (drop (count_to nb words (i + 1)) (rows_in nb words)) → free ≡ free_pages (row_kind word) (row_start word) end → now ≡ max gap free
      → IsLargestGap (rows_in nb words) (count_to nb words i) (count_to nb words i + k) gap
      → IsLargestGap (rows_in nb words) (count_to nb words i) (count_to nb words (i + 1)) now
  last_read {gap} {word} {end} {free} {now} {k} all here ends is most largest =
      let rows : List ℕ = rows_in nb words in
      let next = count_next nb words i in
      let up : count_to nb words i + k + 1 ≡ count_to nb words (i + 1) = omega arith in
      let free_is_of : free ≡ free_of rows (count_to nb words i + k) =
      is ∙ free_is rows (count_to nb words i + k) here (ends ∙ ap (λ (n : ℕ). rows_start (drop n rows)) (sym up)) in
      subst (λ (n : ℕ). IsLargestGap rows (count_to nb words i) n now) up (largest_more (omega arith) free_is_of most largest)

-- the larger of two gaps that are low is low
pub max_low : {gap free now end : ℕ} → gap ≤ LIMIT → free ≤ end → end ≤ LIMIT → now ≡ max gap free → now ≤ LIMIT
max_low a b c e = omega arith

-- a body word that tells another gap, and the same else
pub record IsRetold (nb : ℕ) (one two : List ℕ) (i : ℕ) : Type 0 where
  pub same : IsSameButGaps nb one two
  pub others : (k : ℕ) → k < nb → (k ≡ i → ⊥) → told nb two k ≡ told nb one k
  pub tells : TellsGap nb two i

-- it was stored
pub retold : {nb : ℕ} {one two : List ℕ} (i gap : ℕ) → IsLaidOut nb one → i < nb
    → two ≡ slice_set one (128 * nb + 1 + i) (gap * 262144 + told nb one i % 262144)
    → IsLargestGap (rows_in nb one) (count_to nb one i) (count_to nb one (i + 1)) gap → IsRetold nb one two i
retold {nb} {one} {two} i gap laid lt stored largest =
    let place : ℕ = 128 * nb + 1 + i in
    let word : ℕ = gap * 262144 + told nb one i % 262144 in
    let wide = laid.wide in
    let here : slice_index two place ≡ word = ap (λ (l : List ℕ). slice_index l place) stored ∙ get_or-set_same one place word 0 (omega arith) in
    let other : (s : ℕ) → (s ≡ place → ⊥) → slice_index two s ≡ slice_index one s = λ (s : ℕ) (d : s ≡ place → ⊥).
    ap (λ (l : List ℕ). slice_index l s) stored ∙ get_or-set_other one place s word 0 d in
    let same : IsSameButGaps nb one two = record {
      long = ap length stored ∙ length-set one place word;
      same = λ s le. other s (λ e. omega arith);
      told = λ k. elim (cases_lt k i) [
        | inl low ↦ ap (λ (x : ℕ). x % 262144) (other (128 * nb + 1 + k) (λ e. omega arith))
        | inr ge ↦ elim (cases_lt i k) [
          | inl high ↦ ap (λ (x : ℕ). x % 262144) (other (128 * nb + 1 + k) (λ e. omega arith))
          | inr le ↦
              let e : k ≡ i = omega arith in
              subst (λ (n : ℕ). told nb two n % 262144 ≡ told nb one n % 262144) (sym e) (omega arith)
        ]
      ];
    } in
    record {
      same = same;
      others = λ k less differ. other (128 * nb + 1 + k) (λ e. differ (omega arith));
      tells = largest_same (rows_in_same same laid) (counts_same same i) (counts_same same (i + 1)) (omega arith) largest;
    }

-- or it tells that gap already
pub told_already : {nb : ℕ} {one two : List ℕ} (i : ℕ) {gap : ℕ} → two ≡ one → gap ≡ told nb one i / 262144
    → IsLargestGap (rows_in nb one) (count_to nb one i) (count_to nb one (i + 1)) gap → IsRetold nb one two i
told_already {nb} {one} {two} i same_words is largest =
    subst (λ (l : List ℕ). IsRetold nb one l i) (sym same_words) (record {
      same = record { long = refl; same = λ s le. refl; told = λ k. refl };
      others = λ k lt differ. refl;
      tells = subst (λ (g : ℕ). IsLargestGap (rows_in nb one) (count_to nb one i) (count_to nb one (i + 1)) g) is largest;
    })

-- nothing is retold yet
pub same_none : (nb : ℕ) (one : List ℕ) → IsSameButGaps nb one one
same_none nb one = record { long = refl; same = λ s le. refl; told = λ k. refl }

-- and one after another
pub same_on : {nb : ℕ} {one two three : List ℕ} → IsSameButGaps nb one two → IsSameButGaps nb two three → IsSameButGaps nb one three
same_on a b = record {
  long = b.long ∙ a.long;
  same = λ s le. b.same s le ∙ a.same s le;
  told = λ k. b.told k ∙ a.told k;
}
