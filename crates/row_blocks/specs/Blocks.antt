-- Rows in blocks. The first row of each block, its head, stands in the directory of heads and nowhere else; the others
-- stand in the block's body, of 127 words. Which words are rows, and in which order, is told by the block count and by
-- a body word a block: 2^18 times the largest gap of the block (`Gaps`), 128 times the number of its body, which is
-- below 2048, and how many rows stand there. The form is this project's own; a reader may rely on each row being one
-- word.
use Rattle.std.specs.Prelude.{ℕ, zero, suc, ◌≡◌, ◌<◌, ◌≤◌, ◌+◌, ◌*◌, ◌/◌, ◌%◌, List, [], ◌∷◌, ◌++◌, length, take, drop, slice_index}

-- the first lists of a family, one behind the other
abbrev pub pieces : (ℕ → List ℕ) → ℕ → List ℕ
pieces f zero = []
pieces f (suc n) = pieces f n ++ f n

-- n numbers from one on
abbrev pub run : ℕ → ℕ → List ℕ
run from zero = []
run from (suc n) = from ∷ run (suc from) n

-- how many blocks are in use, of nb
abbrev pub blocks_of : ℕ → List ℕ → ℕ
blocks_of nb words = slice_index words (128 * nb)

-- the body word of a block
abbrev pub told : ℕ → List ℕ → ℕ → ℕ
told nb words i = slice_index words (128 * nb + 1 + i)

-- the body of a block, how many rows stand there, and the place of the first of them
abbrev pub body_of : ℕ → List ℕ → ℕ → ℕ
body_of nb words i = slice_index words (128 * nb + 1 + i) / 128 % 2048

abbrev pub rows_of : ℕ → List ℕ → ℕ → ℕ
rows_of nb words i = slice_index words (128 * nb + 1 + i) % 128

abbrev pub body_at : ℕ → List ℕ → ℕ → ℕ
body_at nb words i = nb + 127 * body_of nb words i

-- the places of the rows of a block, and their words
abbrev pub slots_of : ℕ → List ℕ → ℕ → List ℕ
slots_of nb words i = i ∷ run (body_at nb words i) (rows_of nb words i)

abbrev pub block : ℕ → List ℕ → ℕ → List ℕ
block nb words i = slice_index words i ∷ take (rows_of nb words i) (drop (body_at nb words i) words)

-- the slots in use and the rows, in order of pages
abbrev pub slots_in : ℕ → List ℕ → List ℕ
slots_in nb words = pieces (slots_of nb words) (blocks_of nb words)

abbrev pub rows_in : ℕ → List ℕ → List ℕ
rows_in nb words = pieces (block nb words) (blocks_of nb words)

-- how many rows the first blocks have
abbrev pub count_to : ℕ → List ℕ → ℕ → ℕ
count_to nb words zero = 0
count_to nb words (suc n) = count_to nb words n + (1 + rows_of nb words n)

-- how many rows stand before place j of block i
abbrev pub rank : ℕ → List ℕ → ℕ → ℕ → ℕ
rank nb words i j = count_to nb words i + j

-- each body is of one block, or free
pub record AreBodies (nb : ℕ) (words : List ℕ) : Type 0 where
  pub there : (i : ℕ) → i < nb → body_of nb words i < nb
  pub apart : (i j : ℕ) → i < nb → j < nb → body_of nb words i ≡ body_of nb words j → i ≡ j

-- the words are laid out in blocks: bodies differ, also those that are free
pub record IsLaidOut (nb : ℕ) (words : List ℕ) : Type 0 where
  pub wide : 129 * nb + 1 ≤ length words
  pub some : 0 < blocks_of nb words
  pub spare : blocks_of nb words ≤ nb
  pub bodies : (i : ℕ) → i < nb → body_of nb words i < nb
  pub apart : (i j : ℕ) → i < nb → j < nb → body_of nb words i ≡ body_of nb words j → i ≡ j

-- a slot stands right behind another one
pub record IsNext (nb : ℕ) (words : List ℕ) (s t k : ℕ) : Type 0 where
  pub there : k + 1 < length (slots_in nb words)
  pub one : slice_index (slots_in nb words) k ≡ s
  pub next : slice_index (slots_in nb words) (k + 1) ≡ t
