-- The table of the list lock's steps: eighteen lines, by the names of `Step`. A line says when a step is enabled in the
-- stepping seat's view, which one word it touches and what that becomes, and the view afterwards by the value that
-- the word had. A step whose premises fail isn't enabled; an exchange that finds another value is a step too. Link,
-- Unlink and Mark follow Kogan, Dice and Issa 2020, and QuickLink, QuickUnlink and Settle their fast path; epochs,
-- homes and the barrier are this project's own profile.
use Rattle.std.specs.Prelude.{◌≡◌, ◌≢◌, ◌⊎◌, ℕ, suc, ◌+◌, ◌-◌, ◌*◌, ◌%◌, ◌^◌, ◌<◌, ◌≤◌, ◌==◌, if◌then◌else◌, List, [], ◌∷◌, Option, Some, None}
use Rattle.view_lists.specs.Counted.{times}
use Rattle.lock_core.specs.declared.range.Mode.{Mode}
use Rattle.lock_core.specs.declared.views.View.{View}
use Rattle.lock_core.specs.declared.views.Cursor.{Cursor}
use Rattle.lock_core.specs.declared.views.Todo.TheVariants.{Done}
use Rattle.lock_core.specs.declared.views.Own.TheVariants.{Nothing}
use Rattle.lock_core.specs.declared.steps.Step.{Step}
use Rattle.lock_core.specs.declared.steps.Step.TheVariants.{Enter, Leave, ReadEpoch, ReadHome, GiveHome, FillLo, FillHi}
use Rattle.lock_core.specs.declared.steps.Step.TheVariants.{Aim, ClearHome, Walk, ReadLo, ReadHi, Link, Unlink, Mark}
use Rattle.lock_core.specs.declared.steps.Step.TheVariants.{QuickLink, QuickUnlink, Settle}
use Rattle.lock_core.specs.Words.{cell_place, epoch_place, lo_place, hi_place, home_place, hi_word, cell_of, plain_node_of}
use Rattle.lock_core.specs.Nodes.{Filled, Listed, filling, listed}
use Rattle.lock_core.specs.Views.{next_epoch, entered, left, epoch_read, home_read, gave_home, lo_filled, hi_filled}
use Rattle.lock_core.specs.Views.{aimed_at, taken, walk_cell, walked, lo_read, hi_read, dropped, todo_of, linked}
use Rattle.lock_core.specs.Views.{unlinked, marked, quick_linked, quick_unlinked, settled}

-- one operation on one word, and the view afterwards by what the word was
pub record Plan : Type 0 where
  pub place : ℕ
  pub write : ℕ → ℕ
  pub view : ℕ → View

abbrev pub loads : ℕ → (ℕ → View) → Plan
loads place view = record { place = place; write = λ w. w; view = view }

abbrev pub stores : ℕ → ℕ → View → Plan
stores place x view = record { place = place; write = λ _. x; view = λ _. view }

abbrev pub adds_one : ℕ → View → Plan
adds_one place view = record { place = place; write = λ w. w + 1; view = λ _. view }

-- an epoch's addition wraps
abbrev pub counts_on : ℕ → View → Plan
counts_on place view = record { place = place; write = next_epoch; view = λ _. view }

-- an exchange from the first value to the second, with the view where it succeeds and where it fails
abbrev pub exchanges : ℕ → ℕ → ℕ → View → View → Plan
exchanges place old new won lost =
    record {
      place = place;
      write = λ w. if w == old then new else w;
      view = λ w. if w == old then won else lost;
    }

-- a cursor is at its place: at the end, or before a node whose lower end was compared
abbrev pub IsAtPlace : Cursor → Type 0
IsAtPlace c = (c.cur ≡ 0) ⊎ (c.next ≡ None) × (c.lo ≢ None)

-- the word at which Aim aims: 0 without a cursor, otherwise that of a cursor at its place, which has no low bit
abbrev pub Aims : Option Cursor → ℕ → Type 0
Aims None w = w ≡ 0
Aims (Some c) w = (w ≡ c.cur) × (c.cur % 2 ≡ 0) × IsAtPlace c

-- the line of each step, for seat s of so many seats with this view
pub data IsLine (seats s : ℕ) (v : View) : Step → Plan → Type 0 where
  -- adds 1 to the own epoch, outside an operation
  enter : v.epoch % 2 ≡ 0 → v.hand ≡ None →
      IsLine seats s v Enter (counts_on (epoch_place s) (entered v))
  -- adds 1 to the own epoch, inside an operation, unless the own node is between its link and the end of its validation
  leave : v.epoch % 2 ≡ 1 → v.hand ≡ None → ((k : Listed) → v.own ≡ listed k → k.todo ≡ Done) →
      IsLine seats s v Leave (counts_on (epoch_place s) (left v))
  -- loads the epoch of another seat, while nodes wait for the barrier
  read_epoch : (j : ℕ) → v.epoch % 2 ≡ 0 → v.homes ≢ [] → j < seats → j ≢ s →
      IsLine seats s v (ReadEpoch j) (loads (epoch_place j) (epoch_read s v j))
  -- loads the home word of a used node that isn't a candidate already
  read_home : (n : ℕ) → v.epoch % 2 ≡ 0 → 1 ≤ times n v.used → times n v.homes ≡ 0 →
      IsLine seats s v (ReadHome n) (loads (home_place seats n) (home_read seats v n))
  -- stores 1 in the home word of the node in hand
  give_home : (n : ℕ) → v.hand ≡ Some n →
      IsLine seats s v GiveHome (stores (home_place seats n) 1 (gave_home v))
  -- stores the lower end, while there is no aim and no cursor
  fill_lo : (f : Filled) (lo : ℕ) → v.own ≡ filling f → f.aimed ≡ None → v.cursor ≡ None →
      IsLine seats s v (FillLo lo) (stores (lo_place seats f.node) lo (lo_filled v f lo))
  -- stores the higher end and the mode, above a lower end that is known
  fill_hi : (f : Filled) (lo hi : ℕ) (mode : Mode) → v.own ≡ filling f → f.lo ≡ Some lo → lo < hi → hi ≤ 2 ^ 62 → f.aimed ≡ None → v.cursor ≡ None →
      IsLine seats s v (FillHi hi mode) (stores (hi_place seats f.node) (hi_word hi mode) (hi_filled v f hi mode))
  -- stores the cursor's word, or 0, in the own next word
  aim : (f : Filled) (lo hi w : ℕ) → v.own ≡ filling f → f.lo ≡ Some lo → f.hi ≡ Some hi → Aims v.cursor w →
      IsLine seats s v Aim (stores (cell_place seats (suc f.node)) w (aimed_at v f w))
  -- takes the first ready node and stores 0 in its home word
  clear_home : (n : ℕ) (rest : List ℕ) → v.own ≡ Nothing → v.epoch % 2 ≡ 0 → v.ready ≡ n ∷ rest →
      IsLine seats s v (ClearHome n) (stores (home_place seats n) 0 (taken v n rest))
  -- loads the word at which a cursor begins, or the next word of the cursor's node
  walk : (cell : ℕ) → v.epoch % 2 ≡ 1 → v.hand ≡ None → walk_cell v.own v.cursor ≡ Some cell →
      IsLine seats s v Walk (loads (cell_place seats cell) (walked v v.cursor))
  -- loads the lower end of the cursor's node, whose next word is known and has no mark
  read_lo : (c : Cursor) (y n : ℕ) → v.cursor ≡ Some c → plain_node_of c.cur ≡ Some y → c.next ≡ Some n → n % 2 ≡ 0 →
      IsLine seats s v ReadLo (loads (lo_place seats y) (lo_read v c))
  -- loads its higher end too, and judges the node; a seat that fills a node knows its own ends
  read_hi : (c : Cursor) (y n lo : ℕ) → v.cursor ≡ Some c → plain_node_of c.cur ≡ Some y → c.next ≡ Some n → n % 2 ≡ 0 → c.lo ≡ Some lo →
      ((f : Filled) → v.own ≡ filling f → (f.lo ≢ None) × (f.hi ≢ None)) →
      IsLine seats s v ReadHi (loads (hi_place seats y) (hi_read v c y n lo))
  -- exchanges the cursor's word for the own node, at the cursor's place and where the own node is aimed at that word
  link : (f : Filled) (c : Cursor) (lo hi : ℕ) → v.own ≡ filling f → v.cursor ≡ Some c → f.lo ≡ Some lo → f.hi ≡ Some hi
      → f.aimed ≡ Some c.cur → c.cur % 2 ≡ 0 → IsAtPlace c →
      IsLine seats s v Link (exchanges (cell_place seats (cell_of c.prev)) c.cur (2 * suc f.node) (linked v f.node lo hi f.mode (todo_of f.mode)) (dropped v))
  -- exchanges the cursor's word for the next word of the cursor's node, which is marked, without the mark
  unlink : (c : Cursor) (y n : ℕ) → v.cursor ≡ Some c → plain_node_of c.cur ≡ Some y → c.next ≡ Some n → n % 2 ≡ 1 → v.hand ≡ None →
      IsLine seats s v Unlink (exchanges (cell_place seats (cell_of c.prev)) c.cur (n - 1) (unlinked v c y (n - 1)) (dropped v))
  -- adds the mark to the next word of the own node
  mark : (k : Listed) → v.own ≡ listed k →
      IsLine seats s v Mark (adds_one (cell_place seats (suc k.node)) (marked v k.node))
  -- exchanges an empty head for the own node with the low bit, outside an operation
  quick_link : (f : Filled) (lo hi : ℕ) → v.own ≡ filling f → f.lo ≡ Some lo → f.hi ≡ Some hi → f.aimed ≡ Some 0 → v.epoch % 2 ≡ 0 →
      IsLine seats s v QuickLink (exchanges 0 0 (2 * suc f.node + 1) (quick_linked v f.node lo hi f.mode) v)
  -- exchanges the head with the own node and the low bit for an empty head
  quick_unlink : (k : Listed) → v.own ≡ listed k → k.todo ≡ Done → v.hand ≡ None →
      IsLine seats s v QuickUnlink (exchanges 0 (2 * suc k.node + 1) 0 (quick_unlinked v k.node) v)
  -- exchanges the head that the cursor found with the low bit for the same without it
  settle : (c : Cursor) → v.cursor ≡ Some c → c.prev ≡ None → c.cur % 2 ≡ 1 →
      IsLine seats s v Settle (exchanges 0 c.cur (c.cur - 1) (settled v c) (dropped v))
