-- What a split leaves: the same rows, in one block more.
use Rattle.std.proofs.Common.{◌≡◌, ◌≢◌, ℕ, zero, suc, ◌+◌, ◌-◌, ◌*◌, ◌/◌, ◌%◌, ◌<◌, ◌≤◌, List, ◌∷◌, ◌++◌, length, get_or, take, drop}
use Rattle.std.proofs.Common.{sym, ap, ◌∙◌, subst, arith, inl, inr}
use Rattle.std.proofs.Math.Seq.{take-add}
use Rattle.std.proofs.lemmas.Bool.{cases_lt}
use Rattle.std.proofs.lemmas.List.{append_assoc, drop-drop, drop_more, length-set, get_or-set_same, get_or-set_other}
use Rattle.std.specs.Prelude.{slice_index, slice_set}
use mathlib.Core.Logic.{dite}
use native.Mathlib.Decide.{ℕ_discrete}
use Rattle.row_blocks.specs.Moves.{IsCopied, IsPushed}
use Rattle.row_blocks.specs.Blocks.{pieces, blocks_of, body_of, rows_of, body_at, block, rows_in, IsLaidOut}
use Rattle.row_blocks.proofs.Pieces.{same_pieces}
use Rattle.row_blocks.proofs.Puts.{same_runs, same_block, elsewhere}

-- where one list is cut in two, the whole stays
pub piece_splits : (f g : ℕ → List ℕ) (k n : ℕ) → k < n → ((i : ℕ) → i < k → g i ≡ f i) → f k ≡ g k ++ g (suc k)
    → ((i : ℕ) → k < i → i < n → g (suc i) ≡ f i) → pieces g (suc n) ≡ pieces f n
piece_splits f g k zero lt before here behind = absurd (omega arith)
piece_splits f g k (suc n) lt before here behind = elim (cases_lt k n) [
  | inl less ↦
      let front : pieces g (suc n) ≡ pieces f n = piece_splits f g k n less before here (λ i a b. behind i a (omega arith)) in
      let last : g (suc n) ≡ f n = behind n less (omega arith) in
      λ j. front j ++ last j
  | inr ge ↦
      let e : k ≡ n = omega arith in
      let front : pieces g n ≡ pieces f n = same_pieces f g n (λ i l. before i (omega arith)) in
      let cut : f n ≡ g n ++ g (suc n) = subst (λ (m : ℕ). f m ≡ g m ++ g (suc m)) e here in
      append_assoc (pieces g n) (g n) (g (suc n)) ∙ (λ j. front j ++ sym cut j)
]

-- a row of a body, those before it and those behind
pub cut_run : (words : List ℕ) (at before behind : ℕ) → at + before < length words → take (before + (1 + behind)) (drop at words)
    ≡ take before (drop at words) ++ (get_or words (at + before) 0 ∷ take behind (drop (at + (before + 1)) words))
cut_run words at before behind wide =
    let d = drop-drop before at words in
    let m = drop_more words (at + before) 0 wide in
    let two : at + before + 1 ≡ at + (before + 1) = omega arith in
    let up : 1 + behind ≡ suc behind = omega arith in
    take-add before (1 + behind) (drop at words) ∙ ap (λ (l : List ℕ). take before (drop at words) ++ l)
    (ap (take (1 + behind)) (d ∙ m) ∙ (λ j. take (up j) (get_or words (at + before) 0 ∷ drop (two j) words)))

-- what stands after a split of a block at a place
pub record IsSplit (nb : ℕ) (one two : List ℕ) (i place : ℕ) : Type 0 where
  pub long : length two ≡ length one
  pub count : slice_index two (128 * nb) ≡ blocks_of nb one + 1
  pub told : (k : ℕ) → k < i → slice_index two (128 * nb + 1 + k) ≡ slice_index one (128 * nb + 1 + k)
  pub lower : slice_index two (128 * nb + 1 + i) + (rows_of nb one i - place + 1) ≡ slice_index one (128 * nb + 1 + i)
  pub upper : slice_index two (128 * nb + 1 + (i + 1)) ≡ 128 * body_of nb one (blocks_of nb one) + (rows_of nb one i - place)
  pub later : (k : ℕ) → i < k → k < blocks_of nb one → slice_index two (128 * nb + 1 + (k + 1)) ≡ slice_index one (128 * nb + 1 + k)
  pub free : (k : ℕ) → blocks_of nb one < k → k < nb → slice_index two (128 * nb + 1 + k) ≡ slice_index one (128 * nb + 1 + k)
  pub heads : (k : ℕ) → k ≤ i → slice_index two k ≡ slice_index one k
  pub head : slice_index two (i + 1) ≡ slice_index one (body_at nb one i + (place - 1))
  pub later_heads : (k : ℕ) → i < k → k < blocks_of nb one → slice_index two (k + 1) ≡ slice_index one k
  pub copied : (m : ℕ) → m < rows_of nb one i - place → slice_index two (body_at nb one (blocks_of nb one) + m) ≡ slice_index one (body_at nb one i + place + m)
  pub low : (s : ℕ) → nb ≤ s → s < body_at nb one (blocks_of nb one) → slice_index two s ≡ slice_index one s
  pub high : (s : ℕ) → body_at nb one (blocks_of nb one) + (rows_of nb one i - place) ≤ s → s < 128 * nb → slice_index two s ≡ slice_index one s

-- which block of those before a block comes from, counting the free one that it took
record ComesFrom (i count k m : ℕ) : Type 0 where
  low : k ≤ i → m ≡ k
  at : k ≡ i + 1 → m ≡ count
  later : i + 1 < k → k ≤ count → m + 1 ≡ k
  free : count < k → m ≡ k

comes_apart : {i count k l m : ℕ} → i < count → ComesFrom i count k m → ComesFrom i count l m → k ≡ l
comes_apart there one two = grind arith

module _ {nb : ℕ} {one two : List ℕ} {i place : ℕ} (laid : IsLaidOut nb one) (there : i < blocks_of nb one) (spare : blocks_of nb one < nb) (some : 0 < place)
    (within : place ≤ rows_of nb one i) (split : IsSplit nb one two i place) where
  -- the bodies are those that were, in another order
  comes : (k : ℕ) → k < nb → (m : ℕ) × (m < nb) × ComesFrom i (blocks_of nb one) k m × (body_of nb two k ≡ body_of nb one m)
  comes k lt = elim (cases_lt i k) [
    | inr low ↦ (k, lt, omega arith, grind (arith, split.told k, split.lower))
    | inl over ↦ dite (ℕ_discrete k (i + 1)) (λ e. (blocks_of nb one, spare, omega arith, grind (arith, split.upper)))
        (λ differ. elim (cases_lt (blocks_of nb one) k) [
          | inl free ↦ (k, lt, omega (arith, differ), grind (arith, split.free k free lt))
          | inr used ↦ (k - 1, omega arith, omega (arith, differ), grind (arith, differ, split.later (k - 1)))
        ])
  ]

  -- the words are laid out, one block more
  pub laid_split : IsLaidOut nb two
  laid_split =
      let wide = laid.wide in
      record {
        wide = omega arith;
        some = omega arith;
        spare = omega arith;
        bodies = λ k lt. let s = comes k lt in let b = laid.bodies s.0 s.1 in let e = s.3 in omega arith;
        apart = λ k l a b e.
            let s = comes k a in
            let t = comes l b in
            let same : s.0 ≡ t.0 = laid.apart s.0 t.0 s.1 t.1 (sym s.3 ∙ (e ∙ t.3)) in
            comes_apart there s.2 (subst (ComesFrom i (blocks_of nb one) l) (sym same) t.2);
      }

  -- the words of the bodies in use stand as they stood
  body_same : (k m : ℕ) → k < blocks_of nb one → m < rows_of nb one k → slice_index two (body_at nb one k + m) ≡ slice_index one (body_at nb one k + m)
  body_same k m lt few =
      let b = laid.bodies k (omega arith) in
      let away = elsewhere k (blocks_of nb one) m laid (omega arith) spare (λ e. omega arith) (omega arith) in
      grind (arith, split.low (body_at nb one k + m), split.high (body_at nb one k + m))

  -- blocks with the same body word and the same head are the same
  moved_block : (k l : ℕ) → k < blocks_of nb one → slice_index two (128 * nb + 1 + l) ≡ slice_index one (128 * nb + 1 + k)
      → slice_index two l ≡ slice_index one k → block nb two l ≡ block nb one k
  moved_block k l lt word head =
      let b = laid.bodies k (omega arith) in
      same_block nb one two k l (omega arith) split.long word head (λ m few. body_same k m lt few)

  -- the rows of the block are those of its two halves
  halves : block nb one i ≡ block nb two i ++ block nb two (suc i)
  halves =
      let wide = laid.wide in
      let b = laid.bodies i (omega arith) in
      let f = laid.bodies (blocks_of nb one) spare in
      let at : ℕ = body_at nb one i in
      let n : ℕ = rows_of nb one i in
      let lower = split.lower in
      let upper = split.upper in
      let next : i + 1 ≡ suc i = omega arith in
      let all : place - 1 + (1 + (n - place)) ≡ n = omega arith in
      let from : at + (place - 1 + 1) ≡ at + place = omega arith in
      let low_word : slice_index two (128 * nb + 1 + i) % 128 ≡ place - 1 = omega arith in
      let low_body : slice_index two (128 * nb + 1 + i) / 128 % 2048 ≡ body_of nb one i = omega arith in
      let high_word : slice_index two (128 * nb + 1 + (i + 1)) % 128 ≡ n - place = omega arith in
      let high_body : slice_index two (128 * nb + 1 + (i + 1)) / 128 % 2048 ≡ body_of nb one (blocks_of nb one) = omega arith in
      let long_two = split.long in
      let short : take (place - 1) (drop at two) ≡ take (place - 1) (drop at one) =
      same_runs two one at at (place - 1) (omega arith) (omega arith) (λ m l. body_same i m there (omega arith)) in
      let rest : take (n - place) (drop (body_at nb one (blocks_of nb one)) two) ≡ take (n - place) (drop (at + place) one) =
      same_runs two one (body_at nb one (blocks_of nb one)) (at + place) (n - place) (omega arith) (omega arith) split.copied in
      let head = split.heads i (omega arith) in
      let first : block nb two i ≡ slice_index one i ∷ take (place - 1) (drop at one) =
      (λ j. head j ∷ take (low_word j) (drop (nb + 127 * low_body j) two)) ∙ ap (λ (r : List ℕ). slice_index one i ∷ r) short in
      let second : block nb two (i + 1) ≡ slice_index one (at + (place - 1)) ∷ take (n - place) (drop (at + place) one) =
      (λ j. split.head j ∷ take (high_word j) (drop (nb + 127 * high_body j) two)) ∙ ap (λ (r : List ℕ). slice_index one (at + (place - 1)) ∷ r) rest in
      let cut : take n (drop at one) ≡ take (place - 1) (drop at one) ++ (slice_index one (at + (place - 1)) ∷ take (n - place) (drop (at + place) one)) =
      ap (λ (x : ℕ). take x (drop at one)) (sym all) ∙ (cut_run one at (place - 1) (n - place) (omega arith)
      ∙ ap (λ (x : ℕ). take (place - 1) (drop at one) ++ (slice_index one (at + (place - 1)) ∷ take (n - place) (drop x one))) from) in
      ap (λ (r : List ℕ). slice_index one i ∷ r) cut ∙ ((λ j. sym first j ++ sym second j) ∙ ap (λ (x : ℕ). block nb two i ++ block nb two x) next)

  -- and the rows are those that were
  pub rows_split : rows_in nb two ≡ rows_in nb one
  rows_split =
      let count : blocks_of nb two ≡ suc (blocks_of nb one) = omega arith in
      ap (pieces (block nb two)) count ∙ piece_splits (block nb one) (block nb two) i (blocks_of nb one) there
      (λ k lt. moved_block k k (omega arith) (split.told k lt) (split.heads k (omega arith))) halves (λ k over lt. let up : k + 1 ≡ suc k = omega arith in
      subst (λ (x : ℕ). block nb two x ≡ block nb one k) up (moved_block k (k + 1) lt (split.later k over lt) (split.later_heads k over lt)))

-- the rows that stay in their body stand as they stood
pub lower_stays : {nb : ℕ} {one copy : List ℕ} (i place m : ℕ) → IsLaidOut nb one → i < blocks_of nb one → blocks_of nb one < nb → m < 127
    → IsCopied one copy (body_at nb one i + place) (body_at nb one (blocks_of nb one)) (rows_of nb one i - place)
    → slice_index copy (body_at nb one i + m) ≡ slice_index one (body_at nb one i + m)
lower_stays {nb} {one} i place m laid there spare few c =
    let away = elsewhere i (blocks_of nb one) m laid (omega arith) spare (λ e. omega arith) few in
    grind (arith, c.below (body_at nb one i + m), c.above (body_at nb one i + m))

-- the five stores of a split, one after another
pub is_split : {nb : ℕ} {one copy heads told : List ℕ} {i place : ℕ} (lower : ℕ) → IsLaidOut nb one → i < blocks_of nb one → blocks_of nb one < nb → 0 < place
    → place ≤ rows_of nb one i → IsCopied one copy (body_at nb one i + place) (body_at nb one (blocks_of nb one)) (rows_of nb one i - place)
    → IsPushed copy heads (i + 1) (blocks_of nb one) (slice_index copy (body_at nb one i + (place - 1)))
    → IsPushed heads told (128 * nb + 1 + (i + 1)) (128 * nb + 1 + blocks_of nb one) (128 * body_of nb one (blocks_of nb one) + (rows_of nb one i - place))
    → lower + (rows_of nb one i - place + 1) ≡ slice_index one (128 * nb + 1 + i)
    → IsSplit nb one (slice_set (slice_set told (128 * nb + 1 + i) lower) (128 * nb) (blocks_of nb one + 1)) i place
is_split {nb} {one} {copy} {heads} {told} {i} {place} lower laid there spare some within c h t less =
    let long = c.long in
    let low = c.below in
    let n : ℕ = blocks_of nb one in
    let wide = laid.wide in
    let b = laid.bodies i (omega arith) in
    let f = laid.bodies n spare in
    let three : List ℕ = slice_set told (128 * nb + 1 + i) lower in
    let two : List ℕ = slice_set three (128 * nb) (n + 1) in
    let a = length-set told (128 * nb + 1 + i) lower in
    let z = length-set three (128 * nb) (n + 1) in
    let hl = h.long in
    let tl = t.long in
    let stays : (s : ℕ) → s ≢ 128 * nb + 1 + i → s ≢ 128 * nb → slice_index two s ≡ slice_index told s =
    λ (s : ℕ) (x : s ≢ 128 * nb + 1 + i) (y : s ≢ 128 * nb).
    get_or-set_other three (128 * nb) s (n + 1) 0 y ∙ get_or-set_other told (128 * nb + 1 + i) s lower 0 x in
    let before : (s : ℕ) → s < 128 * nb → slice_index two s ≡ slice_index heads s =
    λ (s : ℕ) (l : s < 128 * nb). stays s (λ e. omega arith) (λ e. omega arith) ∙ t.below s (omega arith) in
    let region : (s : ℕ) → nb ≤ s → s < 128 * nb → slice_index two s ≡ slice_index copy s =
    λ (s : ℕ) (from : nb ≤ s) (l : s < 128 * nb). before s l ∙ h.above s (omega arith) in
    let was : (k : ℕ) → slice_index heads (128 * nb + 1 + k) ≡ slice_index one (128 * nb + 1 + k) =
    λ (k : ℕ). h.above (128 * nb + 1 + k) (omega arith) ∙ c.above (128 * nb + 1 + k) (omega arith) in
    let head = lower_stays i place (place - 1) laid there spare (omega arith) c in
    let count = get_or-set_same three (128 * nb) (n + 1) 0 in
    let low_word = get_or-set_other three (128 * nb) (128 * nb + 1 + i) (n + 1) 0 (λ e. omega arith)
    ∙ get_or-set_same told (128 * nb + 1 + i) lower 0 (omega arith) in
    grind (arith, stays, before, region, was)

-- what was read of the layout: the body word of the block, how many blocks are in use, and the body word behind these
pub record HasRead (nb : ℕ) (one loaded : List ℕ) (i packed count free : ℕ) : Type 0 where
  pub same : loaded ≡ one
  pub read : packed ≡ slice_index one (128 * nb + 1 + i)
  pub counted : count ≡ blocks_of nb one
  pub freed : free ≡ slice_index one (128 * nb + 1 + count)

module _ {nb : ℕ} {one loaded : List ℕ} {i packed count free : ℕ} (r : HasRead nb one loaded i packed count free) where
  -- the word behind those in use has the body that is free
  body_read : free ≡ slice_index one (128 * nb + 1 + blocks_of nb one)
  body_read = r.freed ∙ ap (λ (n : ℕ). slice_index one (128 * nb + 1 + n)) r.counted

  -- this says from where and to where rows are copied
  pub split_copied : {copy : List ℕ} (place : ℕ)
      → IsCopied loaded copy (nb + 127 * (packed / 128 % 2048) + place) (nb + 127 * (free / 128 % 2048)) (packed % 128 - place)
      → IsCopied one copy (body_at nb one i + place) (body_at nb one (blocks_of nb one)) (rows_of nb one i - place)
  split_copied {copy} place copied =
      coe 0 1 (j. IsCopied (r.same j) copy (nb + 127 * (r.read j / 128 % 2048) + place) (nb + 127 * (body_read j / 128 % 2048)) (r.read j % 128 - place)) copied

  -- a word of the layout before the body words that move stands as it stood
  pub layout_still : (copy heads : List ℕ) {again told : List ℕ} (place head word s : ℕ) → IsLaidOut nb one → blocks_of nb one < nb → 128 * nb ≤ s
      → IsCopied loaded copy (nb + 127 * (packed / 128 % 2048) + place) (nb + 127 * (free / 128 % 2048)) (packed % 128 - place) → again ≡ copy
      → IsPushed again heads (i + 1) count head → IsPushed heads told (128 * nb + 1 + (i + 1)) (128 * nb + 1 + count) word
      → s < 128 * nb + 1 + (i + 1) → slice_index told s ≡ slice_index one s
  layout_still copy heads place head word s laid spare low copied same h t below =
      let body = laid.bodies (blocks_of nb one) spare in
      let read = body_read in
      let counted = r.counted in
      t.below s below
      ∙ (h.above s (omega arith)
      ∙ (ap (λ (l : List ℕ). slice_index l s) same ∙ (copied.above s (omega arith) ∙ ap (λ (l : List ℕ). slice_index l s) r.same)))

  -- and what stands after all stores
  pub split_done : {copy again heads told three two : List ℕ} {place head : ℕ} → IsLaidOut nb one → i < blocks_of nb one → blocks_of nb one < nb
      → 0 < place → place ≤ rows_of nb one i
      → IsCopied loaded copy (nb + 127 * (packed / 128 % 2048) + place) (nb + 127 * (free / 128 % 2048)) (packed % 128 - place) → again ≡ copy
      → head ≡ slice_index copy (nb + 127 * (packed / 128 % 2048) + (place - 1)) → IsPushed again heads (i + 1) count head
      → IsPushed heads told (128 * nb + 1 + (i + 1)) (128 * nb + 1 + count) (128 * (free / 128 % 2048) + (packed % 128 - place))
      → three ≡ slice_set told (128 * nb + 1 + i) (packed - (packed % 128 - place + 1)) → two ≡ slice_set three (128 * nb) (count + 1)
      → IsSplit nb one two i place
  split_done {copy} {heads} {told} {place} laid there spare some within copied as_copied first h t less more =
      let read = r.read in let body = body_read in
      let word = first ∙ ap (λ (x : ℕ). slice_index copy (nb + 127 * (x / 128 % 2048) + (place - 1))) read in
      let p = coe 0 1 (j. IsPushed (as_copied j) heads (i + 1) (r.counted j) (word j)) h in
      let q = coe 0 1 (j. IsPushed heads told (128 * nb + 1 + (i + 1)) (128 * nb + 1 + r.counted j) (128 * (body j / 128 % 2048) + (read j % 128 - place))) t in
      let stored = more ∙ (λ j. slice_set (less j) (128 * nb) (r.counted j + 1)) in
      subst (λ (l : List ℕ). IsSplit nb one l i place) (sym stored) (is_split (packed - (packed % 128 - place + 1)) laid there spare some within
      (split_copied place copied) p q (omega arith))

-- how many rows the two halves have
pub split_lower : {nb : ℕ} {one two : List ℕ} {i place : ℕ} → 0 < place → place ≤ rows_of nb one i → IsSplit nb one two i place → rows_of nb two i + 1 ≡ place
split_lower some within split = omega arith

-- and those of the upper half
pub split_upper : {nb : ℕ} {one two : List ℕ} {i place : ℕ} → place ≤ rows_of nb one i → IsSplit nb one two i place
    → rows_of nb two (i + 1) + place ≡ rows_of nb one i
split_upper within split = omega arith
