-- The rows that a caller knows, by their positions, as `row_blocks` speaks of them: a row at a position has the number
-- that is known of it; and what the words have that show kinds.
use Rattle.std.proofs.Common.{◌≡◌, ℕ, zero, suc, ◌+◌, ◌<◌, ◌≤◌, List, [], ◌∷◌, length, get_or, cond, sym, ap, ◌∙◌, subst, arith}
use Rattle.std.proofs.lemmas.Bool.{lt-ltb, le-leb}
use Rattle.std.specs.Prelude.{Option, Some, None, ◌&&◌, slice_index}
use Rattle.page_types.specs.declared.TheConstants.{LIMIT}
use Rattle.page_types.specs.declared.calls.Kind.{Kind}
use Rattle.range_rw.specs.Contract.{SeatState}
use Rattle.row_plans.specs.RowWords.{row_start}
use Rattle.row_plans.specs.RowLists.{rows_start, ShowFrom}
use Rattle.row_plans.specs.Plans.{IsPlaceOf}
use Rattle.row_plans.proofs.RowLists.{starts_low}
use Rattle.row_blocks.specs.declared.positions.Position.{Position}
use Rattle.row_blocks.specs.Blocks.{blocks_of, rows_of, rank, IsLaidOut, rows_in as rows_by}
use Rattle.row_blocks.specs.Positions.{IsNextPlace}
use Rattle.row_blocks.proofs.Places.{head_there, within}
use Rattle.area_guard.specs.declared.guard.Pass.{Pass}
use Rattle.area_guard.specs.Reads.{known_count, known_rows, known_words}
use Rattle.plan_words.specs.Places.{number_in, number_at}
use Rattle.plan_words.specs.Writing.{KeepsRead, IsWriting}
use Rattle.plan_words.specs.Reading.{HasLoaded}
use Rattle.area_guard.specs.Reads.{KnowsWords}

-- a load is a reading
pub word_reads : {a b : SeatState Pass} → IsWriting a b → KeepsRead a.pass b.pass → known_words b.pass ≡ known_words a.pass
    → known_count b.pass ≡ known_count a.pass → KnowsWords b.pass → HasLoaded a b
word_reads w read words count knows = assumption

-- rows that show kinds start at or below the limit
pub starts_below : (page : ℕ) (rows : List ℕ) (kinds : ℕ → Option Kind) → ShowFrom page rows kinds → (k : ℕ) → k < length rows
    → row_start (get_or rows k 0) ≤ LIMIT
starts_below page [] kinds s k lt = absurd (omega arith)
starts_below page (w ∷ rest) kinds s zero lt = let l = starts_low (rows_start rest) rest kinds s.4 in omega arith
starts_below page (w ∷ rest) kinds s (suc k) lt = starts_below (rows_start rest) rest kinds s.4 k (omega arith)

-- and the first one at page 0
pub starts_first : (rows : List ℕ) (kinds : ℕ → Option Kind) → ShowFrom 0 rows kinds → 0 < length rows → row_start (get_or rows 0 0) ≡ 0
starts_first [] kinds s lt = absurd (omega arith)
starts_first (w ∷ rest) kinds s lt = s.0

number_there : (nb : ℕ) (words : List ℕ) (at : Position) → at.block < blocks_of nb words → at.place ≤ rows_of nb words at.block
    → number_in nb words at ≡ rank nb words at.block at.place
unfolding number_in
number_there nb words at there place =
    let x = lt-ltb at.block (blocks_of nb words) there in
    let y = le-leb at.place (rows_of nb words at.block) place in
    λ i. cond (x i && y i) (rank nb words at.block at.place) (length (rows_by nb words))

module _ (pass : Pass) {nb : ℕ} (blocks : pass.blocks ≡ nb) where
  -- the rows that are known
  pub rows_known : rows_by nb (known_words pass) ≡ known_rows pass
  rows_known = ap (λ (n : ℕ). rows_by n (known_words pass)) (sym blocks)

  -- a row at a position has its number
  pub number_known : (at : Position) → at.block < blocks_of nb (known_words pass) → at.place ≤ rows_of nb (known_words pass) at.block
      → rank nb (known_words pass) at.block at.place ≡ number_at pass at
  number_known at there place = sym (number_there nb (known_words pass) at there place) ∙ ap (λ (n : ℕ). number_in n (known_words pass) at) (sym blocks)

  -- which is below the number of rows
  pub number_low : (at : Position) → IsLaidOut nb (known_words pass) → at.block < blocks_of nb (known_words pass)
      → at.place ≤ rows_of nb (known_words pass) at.block → number_at pass at < length (known_rows pass)
  number_low at laid there place =
      let lt = within nb (known_words pass) at.block laid there at.place place in
      let e = number_known at there place in
      let l = ap length rows_known in
      omega arith

  -- the position behind a row is that of the next number
  pub next_known : (n : ℕ) (result : Option Position) → IsLaidOut nb (known_words pass) → IsNextPlace nb (known_words pass) n result
      → IsPlaceOf (known_rows pass) (λ (at : Position). number_at pass at) (n + 1) result
  next_known n None laid is = let l = ap length rows_known in omega arith
  next_known n (Some at) laid is =
      let e = number_known at is.there is.place in
      let lt = number_low at laid is.there is.place in
      (omega arith, omega arith)

  -- the first slot has the first row
  pub first_known : IsLaidOut nb (known_words pass) → (kinds : ℕ → Option Kind) → ShowFrom 0 (known_rows pass) kinds → 0 < length (known_rows pass)
      → row_start (slice_index (known_words pass) 0) ≡ 0
  first_known laid kinds show some_row =
      ap row_start (sym (head_there nb (known_words pass) 0 laid laid.some))
      ∙ (ap (λ (l : List ℕ). row_start (get_or l 0 0)) rows_known ∙ starts_first (known_rows pass) kinds show some_row)

  -- and all rows start at or below the limit
  pub low_known : (kinds : ℕ → Option Kind) → ShowFrom 0 (known_rows pass) kinds → (k : ℕ) → k < length (rows_by nb (known_words pass))
      → row_start (slice_index (rows_by nb (known_words pass)) k) ≤ LIMIT
  low_known kinds show = subst (λ (l : List ℕ). (k : ℕ) → k < length l → row_start (slice_index l k) ≤ LIMIT) (sym rows_known)
      (starts_below 0 (known_rows pass) kinds show)
