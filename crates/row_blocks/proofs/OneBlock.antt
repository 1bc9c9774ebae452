-- A block that has one row more or some fewer, as the stores in its head, its body and its body word leave it.
use Rattle.std.proofs.Common.{◌≡◌, ◌≢◌, ℕ, ◌+◌, ◌-◌, ◌*◌, ◌/◌, ◌%◌, ◌<◌, ◌≤◌, List, [], ◌∷◌, length, take, drop}
use Rattle.std.proofs.Common.{refl, ap, ◌∙◌, arith, inl, inr}
use Rattle.std.specs.Prelude.{slice_index, slice_set}
use Rattle.std.specs.List.{splice}
use Rattle.std.proofs.lemmas.List.{length-set, get_or-set_same, get_or-set_other}
use Rattle.row_blocks.specs.Blocks.{blocks_of, body_of, rows_of, body_at, block, rows_in, rank, told, IsLaidOut}
use Rattle.row_blocks.specs.Moves.{IsPutIn, IsCutOut}
use Rattle.row_blocks.proofs.Puts.{OnlyBlock, same_runs, still_laid, rows_spliced, count_stays, body_word_stays}

-- what a splice of the rows of one block leaves of all, and how many rows the block has then
pub record IsSplicedBlock (nb : ℕ) (one two : List ℕ) (i from until : ℕ) (new : List ℕ) (rows : ℕ) : Type 0 where
  pub laid : IsLaidOut nb two
  pub spliced : rows_in nb two ≡ splice (rows_in nb one) (rank nb one i from) (rank nb one i until) new
  pub count : blocks_of nb two ≡ blocks_of nb one
  pub others : (k : ℕ) → k < nb → k ≢ i → told nb two k ≡ told nb one k
  pub left : rows_of nb two i ≡ rows

-- a block with its body word, once the body word tells another number of rows
module _ {nb : ℕ} {one : List ℕ} (middle : List ℕ) {two : List ℕ} (i word more : ℕ) (laid : IsLaidOut nb one) (there : i < blocks_of nb one)
    (long : length middle ≡ length one) (stored : two ≡ slice_set middle (128 * nb + 1 + i) word) where
  long_two : length two ≡ length one
  long_two = ap length stored ∙ (length-set middle (128 * nb + 1 + i) word ∙ long)

  other : (s : ℕ) → s ≢ 128 * nb + 1 + i → slice_index two s ≡ slice_index middle s
  other s differ = ap (λ (l : List ℕ). slice_index l s) stored ∙ get_or-set_other middle (128 * nb + 1 + i) s word 0 differ

  -- the body word is the one that was stored
  pub told_is : slice_index two (128 * nb + 1 + i) ≡ word
  told_is = ap (λ (x : List ℕ). slice_index x (128 * nb + 1 + i)) stored ∙ get_or-set_same middle (128 * nb + 1 + i) word 0 (omega arith)

  -- the words of the block are those that were laid
  pub block_is : word / 128 % 2048 ≡ body_of nb one i → word % 128 ≡ more → more ≤ 127
      → block nb two i ≡ slice_index middle i ∷ take more (drop (body_at nb one i) middle)
  block_is body count few =
      let b = laid.bodies i (omega arith) in
      let e = told_is in
      let same_body : body_of nb two i ≡ body_of nb one i = omega arith in
      let rows : slice_index two (128 * nb + 1 + i) % 128 ≡ more = omega arith in
      let head : slice_index two i ≡ slice_index middle i = other i (λ q. omega arith) in
      let after = long_two in
      let rest : take more (drop (body_at nb one i) two) ≡ take more (drop (body_at nb one i) middle) =
      same_runs two middle (body_at nb one i) (body_at nb one i) more (omega arith) (omega arith) (λ k l. other (body_at nb one i + k) (λ q. omega arith)) in
      rw (same_body, rows, head, rest) refl

  -- and nothing else has changed
  pub only_block : word / 128 % 2048 ≡ body_of nb one i → ((s : ℕ) → s ≢ i → s < body_at nb one i → slice_index middle s ≡ slice_index one s)
      → ((s : ℕ) → body_at nb one i + 127 ≤ s → slice_index middle s ≡ slice_index one s) → OnlyBlock nb one two i
  only_block body below above =
      let e = told_is in
      record {
        long = long_two;
        same = λ s differ apart away. other s apart ∙ elim away [ inl low ↦ below s differ low | inr high ↦ above s high ];
        body = omega arith;
      }

  -- a splice of its rows is one of all
  pub spliced_block : (from until : ℕ) (new : List ℕ) → from ≤ until → until ≤ rows_of nb one i + 1 → word / 128 % 2048 ≡ body_of nb one i → word % 128 ≡ more
      → more ≤ 127 → ((s : ℕ) → s ≢ i → s < body_at nb one i → slice_index middle s ≡ slice_index one s)
      → ((s : ℕ) → body_at nb one i + 127 ≤ s → slice_index middle s ≡ slice_index one s)
      → slice_index middle i ∷ take more (drop (body_at nb one i) middle) ≡ splice (block nb one i) from until new
      → IsSplicedBlock nb one two i from until new more
  spliced_block from until new ordered within body count few below above here =
      let only = only_block body below above in
      record {
        laid = still_laid laid there only;
        spliced = rows_spliced laid there only from until new ordered within (block_is body count few ∙ here);
        count = count_stays laid there only;
        others = body_word_stays laid there only;
        left = ap (λ (x : ℕ). x % 128) told_is ∙ count;
      }

-- by what was read of the body word: one row more
pub row_put : {nb : ℕ} {one loaded middle two : List ℕ} {i place w packed : ℕ} → IsLaidOut nb one → i < blocks_of nb one → rows_of nb one i < 127
    → place ≤ rows_of nb one i + 1 → loaded ≡ one → packed ≡ slice_index one (128 * nb + 1 + i)
    → IsPutIn loaded middle i (nb + 127 * (packed / 128 % 2048)) (packed % 128) place w → two ≡ slice_set middle (128 * nb + 1 + i) (packed + 1)
    → IsSplicedBlock nb one two i place place (w ∷ []) (rows_of nb one i + 1)
row_put {nb} {one} {middle} {i} {place} {w} laid there room within same read put more =
    let p = coe 0 1 (j. IsPutIn (same j) middle i (nb + 127 * (read j / 128 % 2048)) (read j % 128) place w) put in
    spliced_block middle i (slice_index one (128 * nb + 1 + i) + 1) (rows_of nb one i + 1) laid there p.long
    (more ∙ ap (λ (x : ℕ). slice_set middle (128 * nb + 1 + i) (x + 1)) read) place place (w ∷ []) (omega arith) within (omega arith) (omega arith)
    (omega arith) p.below (λ s le. p.above s (omega arith)) p.put

-- or some fewer
pub rows_cut : {nb : ℕ} {one loaded middle two : List ℕ} {i from until packed : ℕ} → IsLaidOut nb one → i < blocks_of nb one → from < until
    → until ≤ rows_of nb one i + 1 → until ≤ rows_of nb one i + from → loaded ≡ one → packed ≡ slice_index one (128 * nb + 1 + i)
    → IsCutOut loaded middle i (nb + 127 * (packed / 128 % 2048)) (packed % 128) from until
    → two ≡ slice_set middle (128 * nb + 1 + i) (packed - (until - from))
    → IsSplicedBlock nb one two i from until [] (rows_of nb one i - (until - from))
rows_cut {nb} {one} {middle} {i} {from} {until} laid there ordered within left same read cut less =
    let p = coe 0 1 (j. IsCutOut (same j) middle i (nb + 127 * (read j / 128 % 2048)) (read j % 128) from until) cut in
    spliced_block middle i (slice_index one (128 * nb + 1 + i) - (until - from)) (rows_of nb one i - (until - from)) laid there p.long
    (less ∙ ap (λ (x : ℕ). slice_set middle (128 * nb + 1 + i) (x - (until - from))) read) from until [] (omega arith) within (omega arith) (omega arith)
    (omega arith) p.below (λ s le. p.above s (omega arith)) p.cut
