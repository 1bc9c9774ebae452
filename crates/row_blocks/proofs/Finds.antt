-- What halving comes to: the row at a place, and where the next one starts.
use Rattle.std.proofs.Common.{◌≡◌, ℕ, zero, suc, ◌+◌, ◌-◌, ◌*◌, ◌/◌, ◌^◌, ◌<◌, ◌≤◌, List, length, drop}
use Rattle.std.proofs.Common.{sym, ap, ◌∙◌, subst, arith, inl, inr}
use Rattle.std.proofs.Math.Nat.{pow-suc}
use Rattle.std.proofs.lemmas.Bool.{cases_lt}
use Rattle.std.proofs.lemmas.List.{length-append, drop_all}
use Rattle.std.specs.Prelude.{slice_index, min}
use Rattle.page_types.specs.declared.TheConstants.{LIMIT}
use Rattle.row_plans.specs.RowWords.{row_start}
use Rattle.row_plans.specs.RowLists.{rows_start}
use Rattle.row_plans.proofs.Splices.{start_at}
use Rattle.row_blocks.specs.Blocks.{pieces, blocks_of, rows_of, body_at, block, rows_in, rank, IsLaidOut}
use Rattle.row_blocks.proofs.Pieces.{at_piece, piece_ends}
use Rattle.row_blocks.proofs.Puts.{block_length, count_is}
use Rattle.row_blocks.proofs.Places.{within, row_there}

-- one step leaves at most half of the places, rounded up
halved : (size k : ℕ) → 1 < size → size ≤ 2 ^ k → (m : ℕ) × (k ≡ m + 1) × (size - size / 2 ≤ 2 ^ m)
halved size zero more few = absurd (omega arith)
halved size (suc m) more few = let p : 2 ^ suc m ≡ 2 ^ m * 2 = pow-suc 2 m in (m, omega arith, omega arith)

-- so many steps were made, and so many places of all are left
pub record HasHalved (start now size width : ℕ) : Type 0 where
  pub on : start ≤ now
  pub most : (m : ℕ) → size ≤ 2 ^ m → now ≤ start + m
  pub few : (m : ℕ) → size ≤ 2 ^ m → width ≤ 2 ^ (start + m - now)

-- none was made
pub halves_none : (start size : ℕ) → HasHalved start start size size
halves_none start size = record {
  on = omega arith;
  most = λ m le. omega arith;
  few = λ m le. let e : m ≡ start + m - start = omega arith in subst (λ (n : ℕ). size ≤ 2 ^ n) e le;
}

-- one step more
pub halves_on : (start now size width less : ℕ) → HasHalved start now size width → 1 < width → less ≤ width - width / 2 → HasHalved start (now + 1) size less
halves_on start now size width less h more half = record {
  on = omega arith;
  most = λ m le. let a = h.most m le in let b = halved width (start + m - now) more (h.few m le) in let e = b.1 in omega arith;
  few = λ m le.
      let a = h.most m le in
      let b = halved width (start + m - now) more (h.few m le) in
      let e : b.0 ≡ start + m - (now + 1) = omega arith in
      subst (λ (n : ℕ). less ≤ 2 ^ n) e (omega arith);
}

-- the same where the number of steps after it has a name
pub halves_to : (start now size width less : ℕ) {next : ℕ} → HasHalved start now size width → next ≡ now + 1 → 1 < width → less ≤ width - width / 2
    → HasHalved start next size less
halves_to start now size width less h is more half =
    subst (λ (n : ℕ). HasHalved start n size less) (sym is) (halves_on start now size width less h more half)

module _ {nb : ℕ} {words : List ℕ} (i : ℕ) (laid : IsLaidOut nb words) (there : i < blocks_of nb words) where
  -- where the next row starts
  pub end_there : (j end behind : ℕ) → j ≤ rows_of nb words i → ((k : ℕ) → k < length (rows_in nb words) → row_start (slice_index (rows_in nb words) k) ≤ LIMIT)
      → (j + 1 < rows_of nb words i + 1 → end ≡ row_start (slice_index words (body_at nb words i - 1 + (j + 1))))
      → (j + 1 ≡ rows_of nb words i + 1 → end ≡ behind) → (i + 1 < blocks_of nb words → behind ≡ row_start (slice_index words (i + 1)))
      → (i + 1 ≡ blocks_of nb words → LIMIT ≤ behind) → min end LIMIT ≡ rows_start (drop (rank nb words i j + 1) (rows_in nb words))
  end_there j end behind le low inside last next none =
      let rows : List ℕ = rows_in nb words in
      let l = block_length i laid (omega arith) in
      let joined = length-append (pieces (block nb words) i) (block nb words i) in
      let c = count_is i laid (omega arith) in
      elim (cases_lt j (rows_of nb words i)) [
        | inl less ↦
            let at : rank nb words i j + 1 ≡ rank nb words i (j + 1) = omega arith in
            let w = within nb words i laid there (j + 1) (omega arith) in
            let e : end ≡ row_start (slice_index rows (rank nb words i (j + 1))) =
            inside (omega arith) ∙ ap row_start (sym (row_there nb words i laid there (j + 1) (omega arith) (omega arith))) in
            let limit = low (rank nb words i (j + 1)) w in
            let m : min end LIMIT ≡ end = omega arith in
            m ∙ (e ∙ (sym (start_at rows (rank nb words i (j + 1)) w) ∙ ap (λ (n : ℕ). rows_start (drop n rows)) (sym at)))
        | inr ge ↦
            let at : rank nb words i j + 1 ≡ length (pieces (block nb words) (suc i)) = omega arith in
            let e : end ≡ behind = last (omega arith) in
            elim (cases_lt (suc i) (blocks_of nb words)) [
              | inl more ↦
                  let len : length (block nb words (suc i)) ≡ suc (rows_of nb words (suc i)) = block_length (suc i) laid (omega arith) in
                  let ends = piece_ends (block nb words) (suc i) (blocks_of nb words) more in
                  let r : ℕ = length (pieces (block nb words) (suc i)) in
                  let zero_more : r + 0 ≡ r = omega arith in
                  let one_more : i + 1 ≡ suc i = omega arith in
                  let head : slice_index rows r ≡ slice_index words (suc i) =
                  ap (slice_index rows) (sym zero_more) ∙ at_piece (block nb words) (suc i) (blocks_of nb words) 0 more (omega arith) in
                  let b : behind ≡ row_start (slice_index words (suc i)) = next (omega arith) ∙ ap (λ (n : ℕ). row_start (slice_index words n)) one_more in
                  let limit = low r (omega arith) in
                  let same : row_start (slice_index rows r) ≡ row_start (slice_index words (suc i)) = ap row_start head in
                  let m : min end LIMIT ≡ row_start (slice_index rows r) = omega arith in
                  m ∙ (sym (start_at rows r (omega arith)) ∙ ap (λ (n : ℕ). rows_start (drop n rows)) (sym at))
              | inr done ↦
                  let all : suc i ≡ blocks_of nb words = omega arith in
                  let whole : length (pieces (block nb words) (suc i)) ≡ length rows = ap (λ (n : ℕ). length (pieces (block nb words) n)) all in
                  let over = none (omega arith) in
                  let m : min end LIMIT ≡ LIMIT = omega arith in
                  m ∙ ap rows_start (sym (drop_all (rank nb words i j + 1) rows (omega arith)))
            ]
      ]
