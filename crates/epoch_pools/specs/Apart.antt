-- What the running rule comes to between any two steps, for who knows only the table's words and the seats' views: each
-- list is in a state that the list lock may be in, no two ranges that count conflict, and nobody reaches a node that is
-- ready or that its seat has taken. Exclusion is that of Kogan, Dice and Issa 2020; several lists, homes and barrier
-- are this project's own profile.
use Rattle.std.specs.Prelude.{◌≡◌, ℕ, ◌*◌, ◌<◌, List, map, take, drop, length, Some}
use mathlib.Core.Option.{some}
use lib.ListN.{get_elem?}
use Rattle.atomic_table.specs.Table.{State}
use Rattle.lock_core.specs.Grants.{Grants, IsExclusive}
use Rattle.list_cuts.specs.Cut.{Regions, list_count}
use Rattle.lock_core.specs.declared.views.Cursor.{Cursor}
use Rattle.lock_core.specs.Words.{Heap, heap_of, word_count}
use Rattle.lock_laws.specs.Laws.{IsLock}
use Rattle.lock_laws.specs.Invariant.{MayReach, IsIdle}
use Rattle.epoch_pools.specs.declared.views.SeatLists.{SeatLists}
use Rattle.epoch_pools.specs.declared.views.ListView.{ListView}
use Rattle.epoch_pools.specs.Beside.{core_at, grant_in}
use Rattle.epoch_pools.specs.Running.{machine_at, cores_of, Stands, IsRunningList}

-- the words of list i, by what they are
abbrev pub list_heap : ℕ → ℕ → List ℕ → Heap
list_heap i seats words = heap_of seats (take (word_count seats) (drop (i * word_count seats) words))

module _ {P : Type 0} where
  -- what belongs to a seat's number is in that view of the table
  pub record IsSeen (views : List (ListView P)) (p : SeatLists P) : Type 0 where
    pub id : ℕ
    pub view : ListView P
    pub at : get_elem? views id ≡ some view
    pub place : ℕ
    pub has : get_elem? view.parts place ≡ some p

  -- each of a table's parts is in one view, and each part in a view is that of its number
  pub record AreSeen (seats : ℕ) (views : List (ListView P)) (parts : List (SeatLists P)) : Type 0 where
    pub count : length parts ≡ seats
    pub seen : (p : SeatLists P) → IsSeen views p → get_elem? parts p.number ≡ some p
    pub stands : (n : ℕ) → n < seats → (id : ℕ) × Stands views id n

  -- the words of each list, with what the seats know of it by number, are a state that the list lock may be in
  abbrev pub KeepsLock : (Grants → List ℕ → List P → Type 0) → Type 0
  KeepsLock holds = (c : Regions) (seats clients : ℕ) (s : State (Unit {0}) (ListView P)) → IsRunningList c seats clients holds s
      → (parts : List (SeatLists P)) × AreSeen seats s.views parts × ((i : ℕ) → i < list_count c → IsLock (machine_at i seats s.words (map cores_of parts)))

  -- a moment between two steps, by seat number: no two ranges that count conflict, the guard's rule holds, and each
  -- seat's range and pass are those of the one view that it is in
  pub record IsApart (lists seats : ℕ) (holds : Grants → List ℕ → List P → Type 0) (words : List ℕ) (views : List (ListView P))
      (grants : Grants) (passes : List P) : Type 0 where
    pub grant_count : length grants ≡ seats
    pub pass_count : length passes ≡ seats
    pub exclusive : IsExclusive grants
    pub guard : holds grants words passes
    pub seen : (p : SeatLists P) → IsSeen views p → (get_elem? grants p.number ≡ some (grant_in lists p)) × (get_elem? passes p.number ≡ some p.pass)
    pub stands : (n : ℕ) → n < seats → (id : ℕ) × Stands views id n

  -- the rule gives such a moment in every state that meets it
  abbrev pub KeepsApart : (Grants → List ℕ → List P → Type 0) → Type 0
  KeepsApart holds = (c : Regions) (seats clients : ℕ) (s : State (Unit {0}) (ListView P)) → IsRunningList c seats clients holds s
      → (grants : Grants) × (passes : List P) × IsApart (list_count c) seats holds (drop (list_count c * word_count seats) s.words) s.views grants passes

  -- a node of a list that one seat has ready there, or is filling, is none that any seat may reach there: neither one
  -- that its cursor names, nor one to which next words lead from there. So it is with a node that was just taken
  abbrev pub KeepsNoReuse : (Grants → List ℕ → List P → Type 0) → Type 0
  KeepsNoReuse holds = (c : Regions) (seats clients : ℕ) (s : State (Unit {0}) (ListView P)) → IsRunningList c seats clients holds s
      → (i : ℕ) → i < list_count c → (owner other : SeatLists P) → IsSeen s.views owner → IsSeen s.views other
      → (x : ℕ) → IsIdle (core_at i owner.cores) x
      → (cursor : Cursor) → (core_at i other.cores).cursor ≡ Some cursor → ¬ (MayReach (list_heap i seats s.words) cursor x)
