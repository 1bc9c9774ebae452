-- In which order the calls on a list are made, as conditions on a hand's view. The view says where the hand stands: a
-- walk begins without a cursor, and stops with one at its place; a link takes the cursor away, and so does a lost
-- exchange; a linked node has its validation still to do until its range is held. So a caller who forgets a call, or
-- makes it twice, meets a condition that the view denies. The order is that of Kogan, Dice and Issa 2020.
use Rattle.std.specs.Prelude.{◌≡◌, ◌≢◌, ◌⊎◌, ℕ, ◌*◌, ◌%◌, ◌≤◌, true, Option, Some, None}
use Rattle.lock_core.specs.declared.views.View.{View}
use Rattle.lock_core.specs.declared.views.Cursor.{Cursor}
use Rattle.lock_core.specs.declared.views.Own.{Own}
use Rattle.lock_core.specs.declared.views.Own.TheVariants.{Nothing, Filling, Linked}
use Rattle.lock_core.specs.declared.views.Todo.TheVariants.{Forward, FromHead, Done}
use Rattle.lock_core.specs.Words.{plain_node_of}
use Rattle.lock_core.specs.Nodes.{Filled, Listed, filling, listed}
use Rattle.lock_core.specs.Views.{todo_of}
use Rattle.lock_core.specs.StepTable.{IsAtPlace}
use Rattle.lock_core.specs.Machine.{may_leave}
use Rattle.epoch_pools.specs.declared.views.SeatPart.{SeatPart}

-- outside its epoch, with no unlinked node still to be given home
pub record IsOutside (v : View) : Type 0 where
  pub even : v.epoch % 2 ≡ 0
  pub hand : v.hand ≡ None

-- inside its epoch, likewise
pub record IsInside (v : View) : Type 0 where
  pub odd : v.epoch % 2 ≡ 1
  pub hand : v.hand ≡ None

-- a node is being filled, and both its ends are known
pub record HasEnds (own : Own) : Type 0 where
  pub node : Filled
  pub is : own ≡ filling node
  pub lo : ℕ
  pub hi : ℕ
  pub low : node.lo ≡ Some lo
  pub high : node.hi ≡ Some hi

-- a node is linked, and its validation is the one of its mode and has still to be done
pub record HasToValidate (own : Own) : Type 0 where
  pub node : Listed
  pub is : own ≡ listed node
  pub todo : node.todo ≡ todo_of node.mode

-- a cursor at its place, whose word has no low bit
pub record StandsAtPlace (o : Option Cursor) : Type 0 where
  pub cursor : Cursor
  pub is : o ≡ Some cursor
  pub even : cursor.cur % 2 ≡ 0
  pub place : IsAtPlace cursor

-- the own node may be compared with others: there is none, or its ends are known, or it has still to be validated
abbrev pub OwnMayWalk : Own → Type 0
OwnMayWalk Nothing = Unit {0}
OwnMayWalk (Filling node lo hi mode aimed) = HasEnds (Filling node lo hi mode aimed)
OwnMayWalk (Linked node range mode todo) = todo ≡ todo_of mode

-- a writer that validates hasn't come to its own node yet
abbrev pub IsAhead : Own → ℕ → Type 0
IsAhead Nothing y = Unit {0}
IsAhead (Filling node lo hi mode aimed) y = Unit {0}
IsAhead (Linked node range mode Forward) y = Unit {0}
IsAhead (Linked node range mode FromHead) y = node ≢ y
IsAhead (Linked node range mode Done) y = Unit {0}

-- on its way, with the cursor at a node
pub record StandsAt (v : View) : Type 0 where
  pub inside : IsInside v
  pub own : OwnMayWalk v.own
  pub cursor : Cursor
  pub is : v.cursor ≡ Some cursor
  pub node : ℕ
  pub at : plain_node_of cursor.cur ≡ Some node
  pub ahead : IsAhead v.own node

-- and that node's next word is known
pub record KnowsNext (v : View) (word : ℕ) : Type 0 where
  pub stands : StandsAt v
  pub next : stands.cursor.next ≡ Some word

-- at a node in conflict: the cursor stays there, with the node's next word known, and may still look at all nodes
pub record StandsInConflict (seats : ℕ) (v : View) : Type 0 where
  pub word : ℕ
  pub knows : KnowsNext v word
  pub few : knows.stands.cursor.seen ≤ 16 * seats

-- `fill`: the node was just taken
pub record MayFill (v : View) (n : ℕ) : Type 0 where
  pub own : Filled
  pub is : v.own ≡ filling own
  pub node : own.node ≡ n
  pub aimed : own.aimed ≡ None
  pub cursor : v.cursor ≡ None

-- `walk`: the node is filled and not linked, and this is the first walk of the epoch, or an exchange was lost
pub record MayWalk (v : View) : Type 0 where
  pub inside : IsInside v
  pub own : HasEnds v.own
  pub cursor : v.cursor ≡ None

-- a node is aimed at the word of a cursor at its place, or at the end where there is no cursor
pub record MayAim (v : View) : Type 0 where
  pub own : HasEnds v.own
  pub place : (v.cursor ≡ None) ⊎ StandsAtPlace v.cursor

-- `link`: the walk came to the node's place
pub record MayLink (v : View) : Type 0 where
  pub inside : IsInside v
  pub own : HasEnds v.own
  pub place : StandsAtPlace v.cursor

-- `validate`: the node is linked and not held yet, and this is the first time, or an exchange was lost, or a reader
-- met a conflict
pub record MayValidate (seats : ℕ) (v : View) : Type 0 where
  pub inside : IsInside v
  pub own : HasToValidate v.own
  pub begins : (v.cursor ≡ None) ⊎ ((own.node.todo ≡ Forward) × StandsInConflict seats v)

-- `end`: the own node isn't between its link and the end of its validation
pub record MayEnd (v : View) : Type 0 where
  pub inside : IsInside v
  pub own : may_leave v.own ≡ true

-- `sweep`: there is no own node
pub record MaySweep (v : View) : Type 0 where
  pub outside : IsOutside v
  pub own : v.own ≡ Nothing

-- `quick_link`: the node is filled, outside the epoch
pub record MayQuickLink (v : View) : Type 0 where
  pub even : v.epoch % 2 ≡ 0
  pub own : HasEnds v.own

-- the own node is linked; where its range is held the pass is at rest
pub record MayMark {P : Type 0} (is_at_rest : P → Type 0) (p : SeatPart P) : Type 0 where
  pub node : Listed
  pub is : p.core.own ≡ listed node
  pub rest : node.todo ≡ Done → is_at_rest p.pass

-- a range is held and the pass is at rest, and no unlinked node has still to be given home
pub record MayQuickUnlink {P : Type 0} (is_at_rest : P → Type 0) (p : SeatPart P) : Type 0 where
  pub node : Listed
  pub is : p.core.own ≡ listed node
  pub held : node.todo ≡ Done
  pub hand : p.core.hand ≡ None
  pub rest : is_at_rest p.pass
