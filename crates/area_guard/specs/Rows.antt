-- The row words among the client words, and what they show: the kind of each page. Rows stand in blocks, as
-- `row_blocks` has it, in words from client word 3 on. `RowsShow` takes the kinds as a function from pages, so that
-- rows which lag behind the history at some pages are said by another function and not by another definition.
use Rattle.std.specs.Prelude.{Bool, ℕ, ◌≡◌, ◌<◌, ◌≤◌, ◌+◌, ◌-◌, ◌*◌, ◌/◌, ◌%◌, ◌==◌, ◌⊎◌, if◌then◌else◌, All, Option, Some, None, List, ◌∷◌, length}
use Rattle.std.specs.Prelude.{take, drop, slice_index}
use mathlib.Core.Option.{some}
use lib.ListN.{get_elem?}
use Rattle.atomic_table.specs.Seated.{TableId}
use Rattle.page_types.specs.declared.TheConstants.{ROWS}
use Rattle.page_types.specs.declared.calls.Kind.{Kind}
use Rattle.row_plans.specs.RowWords.{row_start}
use Rattle.row_plans.specs.RowLists.{ShowFrom, IsBareGap}
use Rattle.row_blocks.specs.Blocks.{pieces, run, blocks_of, rows_of, IsLaidOut, rows_in as rows_by}
use Rattle.row_blocks.specs.Gaps.{GapsTold}

-- how many blocks there is room for: the last word before the sixteen quotas tells it. It is never stored after the
-- opening
abbrev pub nb_in : List ℕ → ℕ
nb_in words = slice_index words (length words - 17)

-- whether the space keeps its history: 1 in the word before that one. It is never stored after the opening
abbrev pub keeps_in : List ℕ → Bool
keeps_in words = slice_index words (length words - 18) == 1

-- the row words among the client words: those of the blocks, which stand from word 3 on
abbrev pub rows_in : List ℕ → List ℕ
rows_in words = rows_by (nb_in words) (drop 3 words)

-- the place of the number word over so many blocks: behind the layout, with seven unused words before it and seven
-- behind it. So no other word that a step reads is in its line of memory, which has eight words
abbrev pub number_place : ℕ → ℕ
number_place nb = 11 + 129 * nb

-- how many blocks a table has room for: 8 to 2048, in steps of 8. The opening chooses the number of words so that it
-- tells this, with any number of lists
unfoldable pub blocks_by : TableId → ℕ
blocks_by table = 8 * (table.words % 257)

-- whether the space of a table keeps its history, which the opening has the number of words tell as well
unfoldable pub keeps_by : TableId → Bool
keeps_by table = (table.words / 257) % 2 == 0

-- how many rows there is always room for in so many blocks
abbrev pub room_of : ℕ → ℕ
room_of nb = (129 * (nb - 2) - 1) / 2

-- the layout: the words that say which words are rows, and in which order. They are the row count, the block count, and
-- a body word for each block
abbrev pub layout_in : List ℕ → List ℕ
layout_in words = slice_index words 2 ∷ take (nb_in words + 1) (drop (3 + 128 * nb_in words) words)

-- the place of a word of the layout, among the client words over so many blocks
abbrev pub IsLayoutPlace : ℕ → ℕ → Type 0
IsLayoutPlace nb place = (place ≡ 2) ⊎ ((3 + 128 * nb ≤ place) × (place < 4 + 129 * nb))

-- the slots of a block by a layout: its head, and those of its body
abbrev pub block_slots : List ℕ → ℕ → List ℕ
block_slots layout i = i ∷ run (length layout - 2 + 127 * (slice_index layout (2 + i) / 128 % 2048)) (slice_index layout (2 + i) % 128)

-- the slots in which rows stand by a layout, in order of pages: the row of slot s is client word 3 + s
abbrev pub slots_of : List ℕ → List ℕ
slots_of layout = pieces (block_slots layout) (slice_index layout 1)

-- the slot of the row of that number by a layout: place j of block i has the number 128 * i + j, which rises with the
-- order of pages
abbrev pub slot_at : List ℕ → ℕ → ℕ
slot_at layout index =
    if index % 128 == 0 then index / 128
    else (length layout - 2 + 127 * (slice_index layout (2 + index / 128) / 128 % 2048) + index % 128 - 1)

-- the slots in which rows stand
abbrev pub slots_in : List ℕ → List ℕ
slots_in words = slots_of (layout_in words)

-- all slots of so many blocks, in use or not
abbrev pub slots_to : ℕ → List ℕ
slots_to nb = run 0 (128 * nb)

-- the row words show these kinds of the pages below LIMIT. They stand in blocks, as many as the row count; there is
-- room for these before the last seventeen words; one block is free, block 0 has at most 64 rows, and each body word
-- tells the largest gap of its block
pub record RowsShow (words : List ℕ) (kinds : ℕ → Option Kind) : Type 0 where
  pub room : 36 + 129 * nb_in words ≤ length words
  pub some : 0 < slice_index words 2
  pub few : slice_index words 2 ≤ ROWS
  pub show : ShowFrom 0 (rows_in words) kinds
  pub gaps : All IsBareGap (rows_in words)
  pub laid : IsLaidOut (nb_in words) (drop 3 words)
  pub counted : slice_index words 2 ≡ length (slots_in words)
  pub free : blocks_of (nb_in words) (drop 3 words) < nb_in words
  pub short : rows_of (nb_in words) (drop 3 words) 0 < 64
  pub told : GapsTold (nb_in words) (drop 3 words)

-- one of these slots
abbrev pub IsOneOf : List ℕ → ℕ → Type 0
IsOneOf slots slot = (k : ℕ) × (get_elem? slots k ≡ some slot)

-- one of them and the one behind it
abbrev pub AreNeighbours : List ℕ → ℕ → ℕ → Type 0
AreNeighbours slots slot next = (k : ℕ) × (get_elem? slots k ≡ some slot) × (get_elem? slots (k + 1) ≡ some next)

-- the first of them
abbrev pub IsFirstOf : List ℕ → ℕ → Type 0
IsFirstOf slots slot = get_elem? slots 0 ≡ some slot

-- the last of them
abbrev pub IsLastOf : List ℕ → ℕ → Type 0
IsLastOf slots slot = (k : ℕ) × (get_elem? slots k ≡ some slot) × (k + 1 ≡ length slots)

-- the slot behind one of them, or None behind the last one
abbrev pub IsNextOf : List ℕ → ℕ → Option ℕ → Type 0
IsNextOf slots slot None = IsLastOf slots slot
IsNextOf slots slot (Some next) = AreNeighbours slots slot next

-- the slot before one of them, or None before the first one
abbrev pub IsPreviousOf : List ℕ → ℕ → Option ℕ → Type 0
IsPreviousOf slots slot None = IsFirstOf slots slot
IsPreviousOf slots slot (Some previous) = AreNeighbours slots previous slot

-- a slot is in reach of a table with room for so many blocks: there is a client word for a row in it
abbrev pub IsInReach : ℕ → ℕ → Type 0
IsInReach nb slot = slot < 128 * nb

-- a row stands in that slot
abbrev pub IsSlot : List ℕ → ℕ → Type 0
IsSlot words slot = IsOneOf (slots_in words) slot

-- the row in the slot is followed by the one in the next
abbrev pub IsNext : List ℕ → ℕ → ℕ → Type 0
IsNext words slot next = AreNeighbours (slots_in words) slot next

-- the row of a page, told by its slot, is the last one that starts at or before it
pub record IsRowOf (words : List ℕ) (page slot : ℕ) : Type 0 where
  pub there : IsSlot words slot
  pub from : row_start (slice_index words (3 + slot)) ≤ page
  pub last : (next : ℕ) → IsNext words slot next → page < row_start (slice_index words (3 + next))
