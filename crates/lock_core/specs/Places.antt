-- The words of a layout by name, each with its place, and that all places differ.
-- A word of the lock, or of the layer above it, is named by what it is; the places are those of `specs/Words.antt`.
-- This project's own profile.
use Rattle.std.specs.Prelude.{◌≡◌, ℕ, suc, ◌+◌, ◌*◌, ◌%◌, ◌^◌, ◌<◌, ◌==◌, Bool, Some, None}
use Rattle.lock_core.specs.Words.{cell_place, epoch_place, lo_place, hi_place, home_place, client_place, word_count, word_of, node_of}

-- how many seats and how many client words a layout has
pub record Counts : Type 0 where
  pub seats : ℕ
  pub client : ℕ

-- a word by what it is
pub data Word : Type 0 where
  head : Word
  epoch : ℕ → Word
  lo : ℕ → Word
  hi : ℕ → Word
  next : ℕ → Word
  home : ℕ → Word
  client : ℕ → Word

abbrev pub place_of : Counts → Word → ℕ
place_of c head = cell_place c.seats 0
place_of c (epoch s) = epoch_place s
place_of c (lo n) = lo_place c.seats n
place_of c (hi n) = hi_place c.seats n
place_of c (next n) = cell_place c.seats (suc n)
place_of c (home n) = home_place c.seats n
place_of c (client i) = client_place c.seats i

-- the word is there
abbrev pub IsThere : Counts → Word → Type 0
IsThere c head = Unit {0}
IsThere c (epoch s) = s < c.seats
IsThere c (lo n) = n < 16 * c.seats
IsThere c (hi n) = n < 16 * c.seats
IsThere c (next n) = n < 16 * c.seats
IsThere c (home n) = n < 16 * c.seats
IsThere c (client i) = i < c.client

-- words that differ have places that differ, and each place is below the number of words
pub record PlacesDiffer : Type 0 where
  pub differ : (c : Counts) (a b : Word) → IsThere c a → IsThere c b → place_of c a ≡ place_of c b → a ≡ b
  pub within : (c : Counts) (a : Word) → IsThere c a → place_of c a < word_count c.seats + c.client

-- the code of a node gives the node and the mark back; a word that names a node is that node's code, with the mark
-- that it has; the other words are 0 and 1, the end without the mark and with it
pub record CodesReadBack : Type 0 where
  pub node : (n : ℕ) (marked : Bool) → node_of (word_of n marked) ≡ Some n
  pub mark : (n : ℕ) (marked : Bool) → (word_of n marked % 2 == 1) ≡ marked
  pub within : (n : ℕ) (marked : Bool) → n < 2 ^ 32 → word_of n marked < 2 ^ 33 + 2
  pub back : (w n : ℕ) → node_of w ≡ Some n → w ≡ word_of n (w % 2 == 1)
  pub end : (w : ℕ) → node_of w ≡ None → w < 2
