-- What a caller has read of rows under its range, what it knows of them where it holds everything, and what is so of
-- what it has read while others change rows beside that range. A row's boundary may move there, but never over a held
-- page: so a row that was read stays on its side of each page that is held, and is as it was read where such a page
-- touches it. The definitions are this project's own; the range lock is that of Kogan, Dice and Issa, EuroSys 2020.
use Rattle.std.specs.Prelude.{ℕ, ◌≡◌, ◌<◌, ◌≤◌, ◌+◌, ◌*◌, ◌==◌, ◌⊎◌, ◌↔◌, if◌then◌else◌, Option, Some, None, List, [], ◌∷◌, ◌++◌, drop, length, slice_index}
use Rattle.page_types.specs.declared.TheConstants.{LIMIT}
use Rattle.lock_core.specs.declared.range.Mode.TheVariants.{Writer}
use Rattle.lock_core.specs.declared.range.Held.{Held}
use Rattle.area_guard.specs.declared.guard.ReadRow.{ReadRow}
use Rattle.area_guard.specs.declared.guard.Pass.{Pass}
use Rattle.row_plans.specs.RowWords.{row_start, row_kind}
use Rattle.row_blocks.specs.Blocks.{blocks_of, rows_of, IsLaidOut, rows_in as rows_by}
use Rattle.row_blocks.specs.Gaps.{GapsTold}
use Rattle.area_guard.specs.Rows.{nb_in, slots_of, slots_to, IsRowOf}

-- all pages, held as a writer
abbrev pub everything : Held
everything = record { range = record { lo = 0; hi = LIMIT }; mode = Writer }

-- a page lies in a held range
abbrev pub IsHeldPage : Option Held → ℕ → Type 0
IsHeldPage held page = (h : Held) × (held ≡ Some h) × (h.range.lo ≤ page) × (page < h.range.hi)

-- the slots in which rows stand by a layout, where one is known
abbrev pub slots_by : Option (List ℕ) → List ℕ
slots_by None = []
slots_by (Some layout) = slots_of layout

-- a noted layout, or no words
abbrev pub layout_by : Option (List ℕ) → List ℕ
layout_by None = []
layout_by (Some layout) = layout

-- a row was read like that, among others
abbrev pub HasRead : List ReadRow → ℕ → ℕ → Type 0
HasRead [] index word = ⊥
HasRead (r ∷ rest) index word = ((r.index ≡ index) × (r.word ≡ word)) ⊎ HasRead rest index word

-- the words in these slots as a caller notes them
abbrev pub noted_at : List ℕ → List ℕ → List ReadRow
noted_at words [] = []
noted_at words (slot ∷ rest) = record { index = slot; word = slice_index words (3 + slot) } ∷ noted_at words rest

-- the word that was read last of a row, or 0
abbrev pub word_of : List ReadRow → ℕ → ℕ
word_of [] index = 0
word_of (r ∷ rest) index = if r.index == index then r.word else word_of rest index

-- the words that were read last of the rows in these slots
unfoldable pub words_of : List ReadRow → List ℕ → List ℕ
words_of rows [] = []
words_of rows (slot ∷ rest) = word_of rows slot ∷ words_of rows rest

-- the row count that a caller knows
abbrev pub known_count : Pass → ℕ
known_count pass = slice_index (layout_by pass.laid) 0

-- the words of the blocks that a caller knows: those of all slots, and behind them the layout but for the row count
abbrev pub known_words : Pass → List ℕ
known_words pass = words_of pass.rows (slots_to pass.blocks) ++ drop 1 (layout_by pass.laid)

-- the rows that these words have
abbrev pub known_rows : Pass → List ℕ
known_rows pass = rows_by pass.blocks (known_words pass)

-- the caller knows all words of the blocks: it has read, or stored, the word of each slot, and the layout
pub record KnowsWords (pass : Pass) : Type 0 where
  pub layout : List ℕ
  pub laid : pass.laid ≡ Some layout
  pub long : length layout ≡ pass.blocks + 2
  pub slots : (slot : ℕ) → slot < 128 * pass.blocks → (word : ℕ) × HasRead pass.rows slot word

-- the words that it knows are laid out in blocks; one block is free, block 0 has at most 64 rows, and each body word
-- tells the largest gap of its block
pub record KnowsBlocks (pass : Pass) : Type 0 where
  pub laid : IsLaidOut pass.blocks (known_words pass)
  pub free : blocks_of pass.blocks (known_words pass) < pass.blocks
  pub short : rows_of pass.blocks (known_words pass) 0 < 64
  pub told : GapsTold pass.blocks (known_words pass)

-- it knows all rows that there are
pub record KnowsRows (pass : Pass) : Type 0 where
  pub words : KnowsWords pass
  pub blocks : KnowsBlocks pass
  pub counted : known_count pass ≡ length (known_rows pass)

-- a row that was read stands still, in a slot, as far as held pages tell: it starts on the same side of each of them;
-- where it starts at one or right behind one, it starts there; where one lies in it, it has its kind; and where
-- everything is held, its word is the same
pub record StillStands (held : Option Held) (words : List ℕ) (r : ReadRow) : Type 0 where
  pub slot : r.index < 128 * nb_in words
  pub side : (page : ℕ) → IsHeldPage held page → (row_start r.word ≤ page) ↔ (row_start (slice_index words (3 + r.index)) ≤ page)
  pub start : (page : ℕ) → IsHeldPage held page → (page ≡ row_start r.word) ⊎ (page + 1 ≡ row_start r.word)
      → row_start (slice_index words (3 + r.index)) ≡ row_start r.word
  pub kind : (page : ℕ) → IsHeldPage held page → IsRowOf words page r.index → row_kind (slice_index words (3 + r.index)) ≡ row_kind r.word
  pub word : held ≡ Some everything → slice_index words (3 + r.index) ≡ r.word
