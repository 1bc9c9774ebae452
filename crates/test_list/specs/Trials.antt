-- What a trial leaves of a hand: it is of the same list and number. So a row of hands stays in order whatever steps
-- each of them made. The words are this project's own.
use Rattle.std.specs.Prelude.{◌≡◌, ℕ, ◌%◌, List, None}
use mathlib.Core.Option.{some}
use lib.ListN.{get_elem?}
use Rattle.atomic_table.specs.Seated.{TableId}
use Rattle.lock_core.specs.declared.views.View.{View}
use Rattle.lock_core.specs.declared.views.Todo.TheVariants.{Done}
use Rattle.lock_core.specs.Nodes.{Listed, listed}
use Rattle.epoch_pools.specs.Hands.{HandState, IsIdle}

-- a hand of the same list and number
pub record IsSameHand {P : Type 0} (before after : HandState P) : Type 0 where
  pub table : after.table ≡ before.table
  pub number : after.part.number ≡ before.part.number

-- hands of one list, in order of their numbers
abbrev pub AreInOrder : {P : Type 0} → TableId → List (HandState P) → Type 0
AreInOrder {P} table hands = (k : ℕ) (h : HandState P) → get_elem? hands k ≡ some h → (h.table ≡ table) × (h.part.number ≡ k)

-- each of the hands is idle
abbrev pub AreAllIdle : {P : Type 0} → List (HandState P) → Type 0
AreAllIdle {P} hands = (k : ℕ) (h : HandState P) → get_elem? hands k ≡ some h → IsIdle h.part.core

-- outside, with a linked node whose range is held
pub record IsHolding (v : View) : Type 0 where
  pub own : Listed
  pub is : v.own ≡ listed own
  pub done : own.todo ≡ Done
  pub outside : v.epoch % 2 ≡ 0
  pub hand : v.hand ≡ None
