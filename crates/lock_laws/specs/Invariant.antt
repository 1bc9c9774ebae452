-- The invariant of the list lock, in nine parts, over the words as a heap and the views by seat. Every kind of step
-- keeps all parts together, in every interleaving; from them follow exclusion and that no node is used again while a
-- seat may reach it. The parts speak of targets and cells as `specs/Paths.antt` has them, and of places of nodes by
-- counts. The argument for the list is that of Kogan, Dice and Issa 2020; homes, epochs and the barrier are this
-- project's own profile.
use Rattle.std.specs.Prelude.{◌≡◌, ◌≢◌, ◌⊎◌, ℕ, suc, ◌+◌, ◌*◌, ◌/◌, ◌%◌, ◌≤◌, ◌==◌, true, if◌then◌else◌, List, slice_get, Option, Some, None}
use Rattle.lock_core.specs.Counted.{times}
use Rattle.lock_core.specs.Range.{IsRange, Overlaps}
use Rattle.lock_core.specs.declared.range.Mode.TheVariants.{Reader, Writer}
use Rattle.lock_core.specs.declared.views.View.{View}
use Rattle.lock_core.specs.declared.views.Cursor.{Cursor}
use Rattle.lock_core.specs.declared.views.Todo.{Todo}
use Rattle.lock_core.specs.declared.views.Todo.TheVariants.{Forward, FromHead, Done}
use Rattle.lock_core.specs.declared.compare.Verdict.TheVariants.{Past, Stop}
use Rattle.lock_laws.specs.Paths.{Reach, PathEnds}
use Rattle.lock_core.specs.Words.{Heap, to, cell_of, hi_word, IsMarked, IsUnmarked}
use Rattle.lock_core.specs.Nodes.{Filled, Listed, filling, listed, own_times}
use Rattle.lock_core.specs.Compare.{compared}
use Rattle.lock_core.specs.StepTable.{IsAtPlace}
use Rattle.lock_core.specs.Sizes.{IsFilledInOrder}

-- the view of seat i is v
abbrev pub IsViewOf : List View → ℕ → View → Type 0
IsViewOf views i v = slice_get views i ≡ Some v

-- the chain is the path of the head
abbrev pub InChain : Heap → ℕ → Type 0
InChain h x = Reach (to h) x (to h 0)

-- the targets that a cursor names: its previous node, its own, and that of a next word that it knows
abbrev pub Names : Cursor → ℕ → Type 0
Names c t = (t ≡ cell_of c.prev) ⊎ ((t ≡ c.cur / 2) ⊎ (n : ℕ) × (c.next ≡ Some n) × (t ≡ n / 2))

-- a view with this cursor may reach node x: it names a target from which x is reached
pub record MayReach (h : Heap) (c : Cursor) (x : ℕ) : Type 0 where
  pub target : ℕ
  pub named : Names c target
  pub reach : Reach (to h) x target

-- The first part, order. Along a path nodes stand by their lower ends, and a writer ends before the next node starts
pub record IsBefore (h : Heap) (a c : ℕ) : Type 0 where
  pub starts : h.lo a ≤ h.lo c
  pub clear : h.hi a % 2 ≡ 1 → h.hi a / 2 ≤ h.lo c

pub record IsOrdered (h : Heap) (t : ℕ) : Type 0 where
  pub ends : PathEnds (to h) t
  pub sorted : (a c : ℕ) → Reach (to h) a t → to h (suc a) ≡ suc c → IsBefore h a c

pub record Order (h : Heap) (views : List View) : Type 0 where
  pub chain : IsOrdered h (to h 0)
  pub seen : (i : ℕ) (v : View) (c : Cursor) (t : ℕ) → IsViewOf views i v → v.cursor ≡ Some c → Names c t → IsOrdered h t

-- The second part, places. Each node is ready, being filled, in the chain, in one hand or at home: a used node is
-- marked in the chain, in a hand, or has home word 1
pub record InHand (views : List View) (x : ℕ) : Type 0 where
  pub seat : ℕ
  pub view : View
  pub at : IsViewOf views seat view
  pub hand : view.hand ≡ Some x

pub record IsUsed (views : List View) (x : ℕ) : Type 0 where
  pub seat : ℕ
  pub view : View
  pub at : IsViewOf views seat view
  pub used : times x view.used ≡ 1

pub record IsLinked (views : List View) (x : ℕ) : Type 0 where
  pub seat : ℕ
  pub view : View
  pub at : IsViewOf views seat view
  pub own : Listed
  pub is : view.own ≡ listed own
  pub node : own.node ≡ x

pub record Places (h : Heap) (views : List View) : Type 0 where
  -- each node of a seat is its own node, ready or used, once
  pub once : (i x : ℕ) (v : View) → IsViewOf views i v → own_times x v.own + times x v.ready + times x v.used ≡ (if x / 16 == i then 1 else 0)
  pub homes : (i x : ℕ) (v : View) → IsViewOf views i v → times x v.homes ≤ times x v.used
  pub at_home : (i x : ℕ) (v : View) → IsViewOf views i v → 1 ≤ times x v.homes → h.home x ≡ 1
  pub linked : (i : ℕ) (v : View) (k : Listed) → IsViewOf views i v → v.own ≡ listed k → InChain h k.node × IsUnmarked h k.node
  -- a chain node is unmarked exactly where it is its owner's linked node; otherwise it is used
  pub chain : (x : ℕ) → InChain h x → (IsMarked h x × IsUsed views x) ⊎ (IsUnmarked h x × IsLinked views x)
  pub in_hand : (x : ℕ) → InHand views x → IsUsed views x × (h.home x ≡ 0)
  pub one_hand : (x : ℕ) (a b : InHand views x) → a.seat ≡ b.seat
  pub used : (i x : ℕ) (v : View) → IsViewOf views i v → times x v.used ≡ 1 → (InChain h x × IsMarked h x) ⊎ (InHand views x ⊎ (h.home x ≡ 1))
  pub apart : (x : ℕ) → InChain h x → InHand views x → ⊥
  pub chain_home : (x : ℕ) → InChain h x → h.home x ≡ 0
  pub filling_home : (i : ℕ) (v : View) (f : Filled) → IsViewOf views i v → v.own ≡ filling f → h.home f.node ≡ 0

-- The third part, fields. What a view knows of itself and of its cursor's node is so of the words
pub record IsKnown (h : Heap) (f : Filled) : Type 0 where
  pub lo : (lo : ℕ) → f.lo ≡ Some lo → h.lo f.node ≡ lo
  pub hi : (hi : ℕ) → f.hi ≡ Some hi → h.hi f.node ≡ hi_word hi f.mode
  pub aimed : (w : ℕ) → f.aimed ≡ Some w → h.next (suc f.node) ≡ w
  pub in_order : IsFilledInOrder f

pub record IsWritten (h : Heap) (k : Listed) : Type 0 where
  pub lo : h.lo k.node ≡ k.range.lo
  pub hi : h.hi k.node ≡ hi_word k.range.hi k.mode

-- the range in the words of a node is one
abbrev pub HasRange : Heap → ℕ → Type 0
HasRange h x = IsRange (h.lo x) (h.hi x / 2)

pub record IsRead (h : Heap) (c : Cursor) : Type 0 where
  -- where its next word or its lower end is known, a cursor is at a node
  pub next_node : (n : ℕ) → c.next ≡ Some n → c.cur / 2 ≢ 0
  pub lo_node : (lo : ℕ) → c.lo ≡ Some lo → c.cur / 2 ≢ 0
  pub lo : (lo y : ℕ) → c.lo ≡ Some lo → c.cur / 2 ≡ suc y → lo ≡ h.lo y
  -- a next word with the mark stays so
  pub marked : (n : ℕ) → c.next ≡ Some n → n % 2 ≡ 1 → n ≡ h.next (c.cur / 2)
  -- no unmarked chain node is reached from the next word alone
  pub next : (n x : ℕ) → c.next ≡ Some n → InChain h x → IsUnmarked h x → Reach (to h) x (n / 2) → Reach (to h) x (to h (c.cur / 2))

pub record Fields (h : Heap) (views : List View) : Type 0 where
  pub epoch : (i : ℕ) (v : View) → IsViewOf views i v → v.epoch ≡ h.epoch i
  pub filled : (i : ℕ) (v : View) (f : Filled) → IsViewOf views i v → v.own ≡ filling f → IsKnown h f
  pub linked : (i : ℕ) (v : View) (k : Listed) → IsViewOf views i v → v.own ≡ listed k → IsWritten h k
  pub cursor : (i : ℕ) (v : View) (c : Cursor) → IsViewOf views i v → v.cursor ≡ Some c → IsRead h c
  pub even : (i : ℕ) (v : View) → IsViewOf views i v → v.epoch % 2 ≡ 0 → v.cursor ≡ None
  pub chain_range : (x : ℕ) → InChain h x → HasRange h x
  pub range : (i x : ℕ) (v : View) (c : Cursor) → IsViewOf views i v → v.cursor ≡ Some c → MayReach h c x → HasRange h x

-- The fourth part, fast path. Where the head has the low bit one node stands alone, and a view may reach it only by
-- naming just that node with the low bit
pub record IsHeldBy (views : List View) (x : ℕ) : Type 0 where
  pub seat : ℕ
  pub view : View
  pub at : IsViewOf views seat view
  pub own : Listed
  pub is : view.own ≡ listed own
  pub node : own.node ≡ x
  pub done : own.todo ≡ Done

pub record IsAlone (h : Heap) (views : List View) : Type 0 where
  pub node : ℕ
  pub first : to h 0 ≡ suc node
  pub last : to h (suc node) ≡ 0
  pub rest : IsMarked h node ⊎ IsHeldBy views node
  pub unseen : (i : ℕ) (v : View) (c : Cursor) → IsViewOf views i v → v.cursor ≡ Some c → MayReach h c node → c.cur ≡ 2 * suc node + 1

pub record FastPath (h : Heap) (views : List View) : Type 0 where
  pub alone : h.next 0 % 2 ≡ 1 → IsAlone h views
  pub kept : (i x : ℕ) (v : View) (c : Cursor) → IsViewOf views i v → v.cursor ≡ Some c → MayReach h c x →
      InChain h x ⊎ (IsMarked h x ⊎ (c.cur ≡ 2 * suc x + 1))
  pub cursor : (i : ℕ) (v : View) (c : Cursor) → IsViewOf views i v → v.cursor ≡ Some c → c.cur % 2 ≡ 1 →
      (c.prev ≡ None) × (c.next ≡ None) × (c.lo ≡ None)

-- The fifth part, way. The cursor of a seat that fills a node has gone past its previous node, and at its place it
-- stops before its node
pub record Way (h : Heap) (views : List View) : Type 0 where
  pub past : (i : ℕ) (v : View) (c : Cursor) (f : Filled) (lo hi p : ℕ) → IsViewOf views i v → v.cursor ≡ Some c →
      v.own ≡ filling f → f.lo ≡ Some lo → f.hi ≡ Some hi → c.prev ≡ Some p →
      compared f.mode lo hi (h.lo p) (h.hi p) ≡ Past
  pub stop : (i : ℕ) (v : View) (c : Cursor) (f : Filled) (lo hi y : ℕ) → IsViewOf views i v → v.cursor ≡ Some c →
      v.own ≡ filling f → f.lo ≡ Some lo → f.hi ≡ Some hi → IsAtPlace c → c.cur / 2 ≡ suc y →
      compared f.mode lo hi (h.lo y) (h.hi y) ≡ Stop

-- The seventh part, to see, is used by the sixth. A validation still has node x to see: from where it begins, or from
-- its cursor on
abbrev pub first_cell_of : Todo → ℕ → ℕ
first_cell_of Forward n = suc n
first_cell_of FromHead n = 0
first_cell_of Done n = 0

abbrev pub SeesFrom : Heap → ℕ → Option ℕ → ℕ → Type 0
SeesFrom h cur None x = Reach (to h) x (cur / 2)
SeesFrom h cur (Some n) x = (cur / 2 ≡ suc x) ⊎ Reach (to h) x (n / 2)

abbrev pub HasToSee : Heap → Listed → Option Cursor → ℕ → Type 0
HasToSee h k None x = Reach (to h) x (to h (first_cell_of k.todo k.node))
HasToSee h k (Some c) x = SeesFrom h c.cur c.next x

-- a writer that validates still has its own node to see
abbrev pub ToSee : Heap → List View → Type 0
ToSee h views = (i : ℕ) (v : View) (k : Listed) → IsViewOf views i v → v.own ≡ listed k → k.todo ≡ FromHead → HasToSee h k v.cursor k.node

-- The sixth part, pairs. Of an overlapping reader and writer in the chain one still has the other to see (by order
-- the reader stands before the writer)
abbrev pub Pairs : Heap → List View → Type 0
Pairs h views =
    (i j : ℕ) (v u : View) (r w : Listed) → IsViewOf views i v → IsViewOf views j u → v.own ≡ listed r → u.own ≡ listed w →
    r.mode ≡ Reader → w.mode ≡ Writer → Overlaps r.range w.range →
    ((r.todo ≡ Forward) × HasToSee h r v.cursor w.node) ⊎ ((w.todo ≡ FromHead) × HasToSee h w u.cursor r.node)

-- The eighth part, barrier. A seat that was passed, or has another epoch than was noted, may reach no node of the homes
abbrev pub IsOut : Heap → View → ℕ → Type 0
IsOut h v j = (slice_get v.passed j ≡ Some true) ⊎ ((n : ℕ) × (slice_get v.notes j ≡ Some (Some n)) × (h.epoch j ≢ n))

abbrev pub Barrier : Heap → List View → Type 0
Barrier h views =
    (i j x : ℕ) (v u : View) (c : Cursor) → IsViewOf views i v → IsViewOf views j u → u.cursor ≡ Some c →
    1 ≤ times x v.homes → IsOut h v j → MayReach h c x → ⊥

-- The ninth part, no reuse. No view may reach a node that is ready or being filled
abbrev pub IsIdle : View → ℕ → Type 0
IsIdle v x = (1 ≤ times x v.ready) ⊎ ((f : Filled) × (v.own ≡ filling f) × (f.node ≡ x))

abbrev pub NoReuse : Heap → List View → Type 0
NoReuse h views =
    (i j x : ℕ) (v u : View) (c : Cursor) → IsViewOf views i v → IsViewOf views j u → u.cursor ≡ Some c →
    IsIdle v x → MayReach h c x → ⊥

pub record LockInvariant (h : Heap) (views : List View) : Type 0 where
  pub order : Order h views
  pub places : Places h views
  pub fields : Fields h views
  pub fast_path : FastPath h views
  pub way : Way h views
  pub pairs : Pairs h views
  pub to_see : ToSee h views
  pub barrier : Barrier h views
  pub no_reuse : NoReuse h views
