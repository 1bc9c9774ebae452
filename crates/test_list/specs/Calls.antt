-- What a trial of a call leaves of a hand, and what is asked of its view beside the conditions of the calls. The order
-- of the calls is that of Kogan, Dice and Issa 2020.
use Rattle.std.specs.Prelude.{◌≡◌, ℕ, ◌*◌, ◌≤◌, Option, Some, None}
use Rattle.lock_core.specs.declared.views.View.{View}
use Rattle.lock_core.specs.declared.views.Cursor.{Cursor}
use Rattle.lock_core.specs.declared.views.Own.{Own}
use Rattle.lock_core.specs.declared.views.Todo.{Todo}
use Rattle.lock_core.specs.declared.views.Todo.TheVariants.{Done}
use Rattle.lock_core.specs.Words.{plain_node_of}
use Rattle.lock_core.specs.Nodes.{Listed, listed}
use Rattle.lock_core.specs.Views.{todo_of}
use Rattle.epoch_pools.specs.Hands.{HandState}
use Rattle.test_list.specs.Trials.{IsSameHand, IsHolding}
use Rattle.test_list.specs.declared.kept.Kept.{Kept}
use Rattle.test_list.specs.declared.kept.Kept.TheVariants.{Held, Met, Stuck}

-- a call leaves a hand of the same list and number; where it may not be made, it leaves the hand as it was
pub record IsTried {P A : Type 0} (before after : HandState P) (answer : Option A) : Type 0 where
  pub same : IsSameHand before after
  pub refused : answer ≡ None → after ≡ before

-- a node is linked and has this still to do, which is the validation of its mode
pub record IsDue (own : Own) (todo : Todo) : Type 0 where
  pub node : Listed
  pub is : own ≡ listed node
  pub first : node.todo ≡ todo_of node.mode
  pub due : todo ≡ node.todo

-- a range is held
pub record IsHeld (own : Own) : Type 0 where
  pub node : Listed
  pub is : own ≡ listed node
  pub done : node.todo ≡ Done

-- the cursor knows the next word of its node, and may still look at all nodes
pub record IsAtKnownNode (seats : ℕ) (c : Cursor) : Type 0 where
  pub node : ℕ
  pub at : plain_node_of c.cur ≡ Some node
  pub word : ℕ
  pub next : c.next ≡ Some word
  pub few : c.seen ≤ 16 * seats

-- a try that says so has left a range held, and the hand outside
abbrev pub IsKept : Kept → View → Type 0
IsKept Held v = IsHolding v
IsKept Met v = Unit {0}
IsKept Stuck v = Unit {0}
