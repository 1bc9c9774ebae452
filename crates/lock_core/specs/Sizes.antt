-- What the type of a state keeps, whatever steps were made: sizes, and that every node and seat that it names is
-- there. It is what a step needs to be safe and to take no memory: lists of different nodes of one seat are no longer
-- than the room that was reserved for them. This project's own profile.
use Rattle.std.specs.Prelude.{◌≡◌, ◌≢◌, ℕ, suc, ◌+◌, ◌*◌, ◌/◌, ◌%◌, ◌<◌, ◌≤◌, ◌==◌, if◌then◌else◌, List, length, slice_get, option_map, Option, Some, None}
use Rattle.view_lists.specs.Counted.{times}
use Rattle.lock_core.specs.Range.{Interval, IsRange}
use Rattle.lock_core.specs.declared.range.Mode.{Mode}
use Rattle.lock_core.specs.declared.views.Todo.{Todo}
use Rattle.lock_core.specs.declared.views.Todo.TheVariants.{FromHead}
use Rattle.lock_core.specs.declared.views.Own.{Own}
use Rattle.lock_core.specs.declared.views.Own.TheVariants.{Nothing, Filling, Linked}
use Rattle.lock_core.specs.declared.views.View.{View}
use Rattle.lock_core.specs.declared.views.Cursor.{Cursor}
use Rattle.lock_core.specs.Words.{Heap, to, word_count}
use Rattle.lock_core.specs.Nodes.{Filled, Listed, filling, listed, own_times}
use Rattle.lock_core.specs.Machine.{Machine, heap}

-- node n is there
abbrev pub IsNode : ℕ → ℕ → Type 0
IsNode seats n = n < 16 * seats

-- the node that a next word names, if it names one, is there
abbrev pub NamesNode : ℕ → ℕ → Type 0
NamesNode seats w = w / 2 ≤ 16 * seats

-- the nodes that a cursor names are there
pub record IsCursorThere (seats : ℕ) (c : Cursor) : Type 0 where
  pub prev : (n : ℕ) → c.prev ≡ Some n → IsNode seats n
  pub cur : NamesNode seats c.cur
  pub next : (w : ℕ) → c.next ≡ Some w → NamesNode seats w

-- of its own node a view knows a hi only with a lo below it, the hi at most 2^62, and an aim only with both
pub record IsFilledInOrder (f : Filled) : Type 0 where
  pub hi : (hi : ℕ) → f.hi ≡ Some hi → (lo : ℕ) × (f.lo ≡ Some lo) × IsRange lo hi
  pub aimed : (w : ℕ) → f.aimed ≡ Some w → (f.lo ≢ None) × (f.hi ≢ None)

-- the own node, the ready and the used nodes of seat i are different nodes of this seat, and the homes are different
-- nodes of the used ones
pub record AreNodesSized (i : ℕ) (own : Own) (ready used homes : List ℕ) : Type 0 where
  pub nodes : (x : ℕ) → own_times x own + times x ready + times x used ≤ (if x / 16 == i then 1 else 0)
  pub homes_used : (x : ℕ) → times x homes ≤ times x used

-- of an own node that is being filled what is known is known in order, and its aim names a node that is there, or the
-- end
pub record IsOwnSized (seats : ℕ) (own : Own) : Type 0 where
  pub filled : (f : Filled) → own ≡ filling f → IsFilledInOrder f
  pub aim_there : (f : Filled) (w : ℕ) → own ≡ filling f → f.aimed ≡ Some w → NamesNode seats w

-- what the view of seat i keeps by itself, whatever the words are
pub record IsViewSized (seats i : ℕ) (v : View) : Type 0 where
  pub notes : length v.notes ≡ seats
  pub passed : length v.passed ≡ seats
  pub nodes : AreNodesSized i v.own v.ready v.used v.homes
  pub own : IsOwnSized seats v.own
  pub hand : (x : ℕ) → v.hand ≡ Some x → IsNode seats x
  pub cursor : (c : Cursor) → v.cursor ≡ Some c → IsCursorThere seats c

-- an own node whose next word is aimed, or that is linked
abbrev pub bound_node : Own → Option ℕ
bound_node Nothing = None
bound_node (Filling node lo hi mode aimed) = option_map (λ _. node) aimed
bound_node (Linked node range mode todo) = Some node

-- its next word has no low bit
abbrev pub IsOwnEven : Heap → Own → Type 0
IsOwnEven h own = (n : ℕ) → bound_node own ≡ Some n → h.next (suc n) % 2 ≡ 0

-- what is kept of the whole state
pub record IsSized (m : Machine) : Type 0 where
  pub some : 0 < m.seats
  pub few : m.seats ≤ 16
  pub words : length m.words ≡ word_count m.seats
  pub views : length m.views ≡ m.seats
  pub cells : (c : ℕ) → c ≤ 16 * m.seats → to (heap m) c ≤ 16 * m.seats
  pub each : (i : ℕ) (v : View) → slice_get m.views i ≡ Some v → IsViewSized m.seats i v
  pub even : (i : ℕ) (v : View) → slice_get m.views i ≡ Some v → IsOwnEven (heap m) v.own

-- what a seat may rely on of its own view whatever other seats do, in every state that a lock may be in
pub record IsViewSound (seats i : ℕ) (v : View) : Type 0 where
  pub sized : IsViewSized seats i v
  -- outside an operation there is no cursor
  pub outside : v.epoch % 2 ≡ 0 → v.cursor ≡ None
  -- a cursor with the low bit is at the head and knows nothing
  pub at_head : (c : Cursor) → v.cursor ≡ Some c → c.cur % 2 ≡ 1 → (c.prev ≡ None) × (c.next ≡ None) × (c.lo ≡ None)
  -- a writer that validates isn't at the end before it comes to its own node
  pub not_at_end : (k : Listed) (c : Cursor) → v.own ≡ listed k → k.todo ≡ FromHead → v.cursor ≡ Some c → c.cur / 2 ≢ 0
  -- where its next word or its lower end is known, a cursor is at a node
  pub next_node : (c : Cursor) (n : ℕ) → v.cursor ≡ Some c → c.next ≡ Some n → c.cur / 2 ≢ 0
  pub lo_node : (c : Cursor) (lo : ℕ) → v.cursor ≡ Some c → c.lo ≡ Some lo → c.cur / 2 ≢ 0

-- what seat s may rely on when it makes a step: all that it names is there, and there is room in its lists
pub record MayStep (seats s : ℕ) (v : View) : Type 0 where
  pub few : seats ≤ 16
  pub seat : s < seats
  pub filling : (node : ℕ) (lo hi : Option ℕ) (mode : Mode) (aimed : Option ℕ) → v.own ≡ Filling node lo hi mode aimed → IsNode seats node
  pub ends : (node lo hi : ℕ) (mode : Mode) (aimed : Option ℕ) → v.own ≡ Filling node (Some lo) (Some hi) mode aimed → IsRange lo hi
  pub linked : (node : ℕ) (range : Interval) (mode : Mode) (todo : Todo) → v.own ≡ Linked node range mode todo → IsNode seats node
  pub hand : (x : ℕ) → v.hand ≡ Some x → IsNode seats x
  pub prev : (c : Cursor) (p : ℕ) → v.cursor ≡ Some c → c.prev ≡ Some p → IsNode seats p
  pub cur : (c : Cursor) → v.cursor ≡ Some c → NamesNode seats c.cur
  pub first : (n : ℕ) → slice_get v.ready 0 ≡ Some n → IsNode seats n
  pub used : (n : ℕ) → 1 ≤ times n v.used → IsNode seats n
  pub notes : length v.notes ≡ seats
  pub passed : length v.passed ≡ seats
  pub ready_room : (node : ℕ) (lo hi : Option ℕ) (mode : Mode) (aimed : Option ℕ) → v.own ≡ Filling node lo hi mode aimed → length v.ready < 16
  pub used_room : (node : ℕ) (range : Interval) (mode : Mode) (todo : Todo) → v.own ≡ Linked node range mode todo → length v.used < 16
  pub release_room : length v.ready + length v.homes ≤ 16
  pub home_room : (n : ℕ) → 1 ≤ times n v.used → times n v.homes ≡ 0 → length v.ready + length v.homes < 16
