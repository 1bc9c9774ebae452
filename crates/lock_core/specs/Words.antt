-- The words of the list lock by what they are, where each stands, and their codes. A list of words is read as a
-- `Heap`, functions from cells, nodes and seats to words; the rules of the machine and its invariant speak of heaps,
-- and only the lines of the step table name places. This project's own profile; the mark in the low bit of a node's
-- next word follows Harris 2001 and Kogan, Dice and Issa 2020.
use Rattle.std.specs.Prelude.{◌≡◌, ℕ, zero, suc, ◌+◌, ◌-◌, ◌*◌, ◌/◌, ◌%◌, ◌==◌, Bool, if◌then◌else◌, List, slice_index, Option, Some, None}
use Rattle.lock_core.specs.declared.range.Mode.{Mode}
use Rattle.lock_core.specs.declared.range.Mode.TheVariants.{Reader, Writer}

-- the place of a cell: of the head, or of the next word of a node
abbrev pub cell_place : ℕ → ℕ → ℕ
cell_place seats zero = 0
cell_place seats (suc n) = seats + 3 + 4 * n

-- the place of the epoch of a seat
abbrev pub epoch_place : ℕ → ℕ
epoch_place s = 1 + s

-- the places of the lo, hi and home words of a node
abbrev pub lo_place : ℕ → ℕ → ℕ
lo_place seats n = seats + 1 + 4 * n

abbrev pub hi_place : ℕ → ℕ → ℕ
hi_place seats n = seats + 2 + 4 * n

abbrev pub home_place : ℕ → ℕ → ℕ
home_place seats n = seats + 4 + 4 * n

-- how many words a lock of so many seats has, client words aside; the client words follow them
abbrev pub word_count : ℕ → ℕ
word_count seats = 1 + 65 * seats

-- the place of a client word
abbrev pub client_place : ℕ → ℕ → ℕ
client_place seats i = 1 + 65 * seats + i

-- the next word that names node n
abbrev pub word_of : ℕ → Bool → ℕ
word_of n marked = if marked then 2 * suc n + 1 else 2 * suc n

-- the node that a next word names, low bit aside
abbrev pub node_of : ℕ → Option ℕ
node_of w = if w / 2 == 0 then None else Some (w / 2 - 1)

-- the node that a next word names, where it has no low bit
abbrev pub plain_node_of : ℕ → Option ℕ
plain_node_of w = if w % 2 == 0 then node_of w else None

-- the hi word of a range's end and a mode
abbrev pub hi_word : ℕ → Mode → ℕ
hi_word hi Reader = 2 * hi
hi_word hi Writer = 2 * hi + 1

-- the mode that a hi word says
abbrev pub mode_of : ℕ → Mode
mode_of w = if w % 2 == 1 then Writer else Reader

-- the words by what they are: next by cell, lo, hi and home by node, epoch by seat
pub record Heap : Type 0 where
  pub next : ℕ → ℕ
  pub lo : ℕ → ℕ
  pub hi : ℕ → ℕ
  pub home : ℕ → ℕ
  pub epoch : ℕ → ℕ

abbrev pub heap_of : ℕ → List ℕ → Heap
heap_of seats words =
    record {
      next = λ c. slice_index words (cell_place seats c);
      lo = λ n. slice_index words (lo_place seats n);
      hi = λ n. slice_index words (hi_place seats n);
      home = λ n. slice_index words (home_place seats n);
      epoch = λ s. slice_index words (epoch_place s);
    }

-- the target that a cell's word names
abbrev pub to : Heap → ℕ → ℕ
to h c = h.next c / 2

-- a node is marked by the low bit of its own next word
abbrev pub IsMarked : Heap → ℕ → Type 0
IsMarked h n = h.next (suc n) % 2 ≡ 1

abbrev pub IsUnmarked : Heap → ℕ → Type 0
IsUnmarked h n = h.next (suc n) % 2 ≡ 0

-- the cell of a cursor's previous node, or the head
abbrev pub cell_of : Option ℕ → ℕ
cell_of None = 0
cell_of (Some n) = suc n
