-- What a row that comes into a block makes of the block, and of all rows.
use Rattle.std.proofs.Common.{◌≡◌, ◌≢◌, ℕ, zero, suc, ◌+◌, ◌-◌, ◌*◌, ◌/◌, ◌%◌, ◌<◌, ◌≤◌, ◌⊎◌, List, [], ◌∷◌, ◌++◌, length, get_or, take, drop}
use Rattle.std.proofs.Common.{sym, refl, ap, ◌∙◌, subst, arith, inl, inr}
use Rattle.std.specs.Prelude.{slice_index}
use Rattle.std.specs.List.{splice}
use Rattle.std.proofs.Math.Seq.{take-add}
use Rattle.std.proofs.lemmas.List.{append_assoc, length-append, length-take-le, length-drop, take-append-drop, take_at, drop_at}
use Rattle.std.proofs.lemmas.List.{get_or-take, get_or-drop, take-take, drop-take, drop-drop, drop_more}
use Rattle.std.proofs.lemmas.Grind.{same_number_lists}
use Rattle.row_blocks.specs.Blocks.{pieces, blocks_of, body_of, rows_of, body_at, block, rows_in, count_to, rank, IsLaidOut}
use Rattle.row_blocks.proofs.Pieces.{one_changes, fewer_pieces}

-- words from one on, as long as there are so many
pub run_length : (words : List ℕ) (at n : ℕ) → at + n ≤ length words → length (take n (drop at words)) ≡ n
run_length words at n wide = let d = length-drop at words in length-take-le n (drop at words) (omega arith)

-- and each stands behind the one before
pub run_at : (words : List ℕ) (at n k : ℕ) → k < n → get_or (take n (drop at words)) k 0 ≡ get_or words (at + k) 0
run_at words at n k lt = get_or-take n (drop at words) k 0 lt ∙ get_or-drop at words k 0

-- words of two lists are the same where each is
pub same_runs : (xs ys : List ℕ) (at from n : ℕ) → at + n ≤ length xs → from + n ≤ length ys
    → ((k : ℕ) → k < n → get_or xs (at + k) 0 ≡ get_or ys (from + k) 0) → take n (drop at xs) ≡ take n (drop from ys)
same_runs xs ys at from n wide long same =
    let a = run_length xs at n wide in
    let b = run_length ys from n long in
    same_number_lists (take n (drop at xs)) (take n (drop from ys)) (omega arith)
    (λ k lt. run_at xs at n k (omega arith) ∙ (same k (omega arith) ∙ sym (run_at ys from n k (omega arith))))

-- a block with the same body word, head and rows is the same, whatever its number
pub same_block : (nb : ℕ) (one two : List ℕ) (k l : ℕ) → body_at nb one k + rows_of nb one k ≤ length one → length two ≡ length one
    → slice_index two (128 * nb + 1 + l) ≡ slice_index one (128 * nb + 1 + k) → slice_index two l ≡ slice_index one k
    → ((m : ℕ) → m < rows_of nb one k → slice_index two (body_at nb one k + m) ≡ slice_index one (body_at nb one k + m)) → block nb two l ≡ block nb one k
same_block nb one two k l wide long word head rest =
    (λ j. head j ∷ take (word j % 128) (drop (nb + 127 * (word j / 128 % 2048)) two))
    ∙ ap (λ (r : List ℕ). slice_index one k ∷ r) (same_runs two one (body_at nb one k) (body_at nb one k) (rows_of nb one k) (omega arith) wide rest)

-- the rows of a body, once some have gone, others stand there and those behind have moved
pub body_spliced : (old new u : List ℕ) (at p q r : ℕ) → p ≤ q → at + (q + r) ≤ length old → at + (p + (length u + r)) ≤ length new
    → ((k : ℕ) → k < p → get_or new (at + k) 0 ≡ get_or old (at + k) 0) → take (length u) (drop (at + p) new) ≡ u
    → ((k : ℕ) → k < r → get_or new (at + p + length u + k) 0 ≡ get_or old (at + q + k) 0)
    → take (p + (length u + r)) (drop at new) ≡ splice (take (q + r) (drop at old)) p q u
body_spliced old new u at p q r ordered wide long below here moved =
    let front = same_runs new old at at p (omega arith) (omega arith) below in
    let back = same_runs new old (at + p + length u) (at + q) r (omega arith) (omega arith) moved in
    let rest = ap (take (length u + r)) (drop-drop p at new) ∙ take-add (length u) r (drop (at + p) new) in
    let tail = ap (take r) (drop-drop (length u) (at + p) new) ∙ (back ∙ sym (drop-take q r (drop at old) ∙ ap (take r) (drop-drop q at old))) in
    let same = take-take p (q + r) (drop at old) (omega arith) in
    take-add p (length u + r) (drop at new) ∙ ((λ j. front j ++ rest j) ∙ (λ j. sym same j ++ (here j ++ tail j)))

-- a splice of one of three lists is one of the whole
splice_in : (a b c : List ℕ) {r : ℕ} (j m : ℕ) (w : List ℕ) → length a ≡ r → j ≤ m → m ≤ length b
    → a ++ (splice b j m w ++ c) ≡ splice (a ++ (b ++ c)) (r + j) (r + m) w
splice_in a b c {r} j m w long ordered there =
    let whole : (k : ℕ) → a ++ (b ++ c) ≡ (a ++ take k b) ++ (drop k b ++ c) =
    λ (k : ℕ). ap (λ (x : List ℕ). a ++ (x ++ c)) (sym (take-append-drop k b)) ∙ simp append_assoc in
    let front : (k : ℕ) → k ≤ length b → length (a ++ take k b) ≡ r + k = λ (k : ℕ) (le : k ≤ length b).
    let l = length-append a (take k b) in let t = length-take-le k b le in omega arith in
    let one : take (r + j) (a ++ (b ++ c)) ≡ a ++ take j b =
    ap (take (r + j)) (whole j) ∙ take_at (a ++ take j b) (drop j b ++ c) (r + j) (front j (omega arith)) in
    let two : drop (r + m) (a ++ (b ++ c)) ≡ drop m b ++ c = ap (drop (r + m)) (whole m) ∙ drop_at (a ++ take m b) (drop m b ++ c) (r + m) (front m there) in
    rw (one, two) (simp append_assoc)

-- a splice of the rows of one block is one of all rows
pub splice_in_piece : (f g : ℕ → List ℕ) (k n j m : ℕ) (w : List ℕ) → k < n → j ≤ m → m ≤ length (f k)
    → ((i : ℕ) → i < n → i ≢ k → g i ≡ f i) → g k ≡ splice (f k) j m w → pieces g n ≡ splice (pieces f n) (length (pieces f k) + j) (length (pieces f k) + m) w
splice_in_piece f g k n j m w lt ordered there same here =
    let r : ℕ = length (pieces f k) in
    let a : List ℕ = take r (pieces f n) in
    let c : List ℕ = drop (r + length (f k)) (pieces f n) in
    let old : pieces f n ≡ a ++ (f k ++ c) = one_changes f f k n lt (λ i l d. refl) in
    let new : pieces g n ≡ a ++ (g k ++ c) = one_changes f g k n lt same in
    let long : length a ≡ r = length-take-le r (pieces f n) (fewer_pieces f k n (omega arith)) in
    new ∙ (ap (λ (x : List ℕ). a ++ (x ++ c)) here ∙ (splice_in a (f k) c j m w long ordered there ∙ ap (λ (x : List ℕ). splice x (r + j) (r + m) w) (sym old)))

-- how many rows a block has
pub block_length : {nb : ℕ} {words : List ℕ} (i : ℕ) → IsLaidOut nb words → i < nb → length (block nb words i) ≡ suc (rows_of nb words i)
block_length {nb} {words} i laid lt =
    let b = laid.bodies i lt in
    let w = laid.wide in
    let r = run_length words (body_at nb words i) (rows_of nb words i) (omega arith) in
    omega arith

-- so many rows as the blocks count
pub count_is : {nb : ℕ} {words : List ℕ} (n : ℕ) → IsLaidOut nb words → n ≤ nb → length (pieces (block nb words) n) ≡ count_to nb words n
count_is zero laid le = refl
count_is {nb} {words} (suc n) laid le =
    let l = length-append (pieces (block nb words) n) (block nb words n) in
    let b = block_length n laid (omega arith) in
    let r = count_is n laid (omega arith) in
    omega arith

-- a word of one body is none of another one
pub elsewhere : {nb : ℕ} {words : List ℕ} (k i m : ℕ) → IsLaidOut nb words → k < nb → i < nb → k ≢ i → m < 127
    → (body_at nb words k + m < body_at nb words i) ⊎ (body_at nb words i + 127 ≤ body_at nb words k + m)
elsewhere {nb} {words} k i m laid lt there differ few = grind (arith, laid.apart k i lt there)

-- words with the same block count and the same bodies are laid out as before
pub still_laid_out : {nb : ℕ} {one two : List ℕ} → IsLaidOut nb one → length two ≡ length one → blocks_of nb two ≡ blocks_of nb one
    → ((k : ℕ) → k < nb → body_of nb two k ≡ body_of nb one k) → IsLaidOut nb two
still_laid_out laid long count same = grind arith

-- only one block has changed: its head, its body and its body word
pub record OnlyBlock (nb : ℕ) (one two : List ℕ) (i : ℕ) : Type 0 where
  pub long : length two ≡ length one
  pub same : (s : ℕ) → s ≢ i → s ≢ 128 * nb + 1 + i → (s < body_at nb one i) ⊎ (body_at nb one i + 127 ≤ s) → slice_index two s ≡ slice_index one s
  pub body : body_of nb two i ≡ body_of nb one i

module _ {nb : ℕ} {one two : List ℕ} {i : ℕ} (laid : IsLaidOut nb one) (there : i < blocks_of nb one) (only : OnlyBlock nb one two i) where
  -- as many blocks are in use
  pub count_stays : blocks_of nb two ≡ blocks_of nb one
  count_stays = let b = laid.bodies i (omega arith) in only.same (128 * nb) (λ e. omega arith) (λ e. omega arith) (inr (omega arith))

  -- the other body words stand as they stood
  pub body_word_stays : (k : ℕ) → k < nb → k ≢ i → slice_index two (128 * nb + 1 + k) ≡ slice_index one (128 * nb + 1 + k)
  body_word_stays k lt differ =
      let b = laid.bodies i (omega arith) in
      only.same (128 * nb + 1 + k) (λ e. omega arith) (λ e. differ (omega arith)) (inr (omega arith))

  -- and so do the other blocks
  pub other_block : (k : ℕ) → k < nb → k ≢ i → block nb two k ≡ block nb one k
  other_block k lt differ =
      let c = laid.bodies k lt in
      same_block nb one two k k (omega arith) only.long (body_word_stays k lt differ) (only.same k differ (λ e. omega arith) (inl (omega arith)))
      (λ m l. only.same (body_at nb one k + m) (λ e. omega arith) (λ e. omega arith) (elsewhere k i m laid lt (omega arith) differ (omega arith)))

  body_stays : (k : ℕ) → k < nb → body_of nb two k ≡ body_of nb one k
  body_stays k lt = grind (arith, only.body, body_word_stays k lt)

  -- the words are laid out
  pub still_laid : IsLaidOut nb two
  still_laid = still_laid_out laid only.long count_stays body_stays

  -- and a splice of the rows of the block is one of all rows
  pub rows_spliced : (j m : ℕ) (w : List ℕ) → j ≤ m → m ≤ rows_of nb one i + 1 → block nb two i ≡ splice (block nb one i) j m w
      → rows_in nb two ≡ splice (rows_in nb one) (rank nb one i j) (rank nb one i m) w
  rows_spliced j m w ordered below here =
      let l = block_length i laid (omega arith) in
      ap (pieces (block nb two)) count_stays ∙ splice_in_piece (block nb one) (block nb two) i (blocks_of nb one) j m w there ordered (omega arith)
      (λ k lt d. other_block k (omega arith) d) here ∙ ap (λ (r : ℕ). splice (rows_in nb one) (r + j) (r + m) w) (count_is i laid (omega arith))

-- where the head goes, a row of the body takes its place
pub cut_head : (old : List ℕ) (at n h until : ℕ) → 0 < until → until ≤ n → at + n ≤ length old
    → get_or old (at + (until - 1)) 0 ∷ drop until (take n (drop at old)) ≡ splice (h ∷ take n (drop at old)) 0 until []
cut_head old at n h until some there wide =
    let t : List ℕ = take n (drop at old) in
    let long = run_length old at n wide in
    let up : suc (until - 1) ≡ until = omega arith in
    let back : until - 1 + 1 ≡ until = omega arith in
    let e : drop (until - 1) t ≡ get_or t (until - 1) 0 ∷ drop (until - 1 + 1) t = drop_more t (until - 1) 0 (omega arith) in
    let w : get_or t (until - 1) 0 ≡ get_or old (at + (until - 1)) 0 = run_at old at n (until - 1) (omega arith) in
    subst (λ (m : ℕ). get_or old (at + (until - 1)) 0 ∷ drop until t ≡ splice (h ∷ t) 0 m []) up
    (sym (e ∙ (ap (λ (x : ℕ). x ∷ drop (until - 1 + 1) t) w ∙ ap (λ (m : ℕ). get_or old (at + (until - 1)) 0 ∷ drop m t) back)))
