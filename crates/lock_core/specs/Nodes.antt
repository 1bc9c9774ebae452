-- Own nodes as records. `Own` is an enum of the code; a rule that speaks of a node being filled or linked names its
-- parts by these records. An own node is counted beside the lists of a view, so that a node that is counted once over
-- all of them is at one place and nowhere twice. This project's own profile.
use Rattle.std.specs.Prelude.{ℕ, ◌==◌, if◌then◌else◌, Option, Some, None}
use Rattle.lock_core.specs.Range.{Interval}
use Rattle.lock_core.specs.declared.range.Mode.{Mode}
use Rattle.lock_core.specs.declared.views.Todo.{Todo}
use Rattle.lock_core.specs.declared.views.Own.{Own}
use Rattle.lock_core.specs.declared.views.Own.TheVariants.{Nothing, Filling, Linked}

-- a node that is being filled, with what is known of its words
pub record Filled : Type 0 where
  pub node : ℕ
  pub lo : Option ℕ
  pub hi : Option ℕ
  pub mode : Mode
  pub aimed : Option ℕ

-- a node that is linked, with its range and what is still to do
pub record Listed : Type 0 where
  pub node : ℕ
  pub range : Interval
  pub mode : Mode
  pub todo : Todo

abbrev pub filling : Filled → Own
filling f = Filling f.node f.lo f.hi f.mode f.aimed

abbrev pub listed : Listed → Own
listed k = Linked k.node k.range k.mode k.todo

abbrev pub filled_of : Own → Option Filled
filled_of (Filling node lo hi mode aimed) = Some (record { node = node; lo = lo; hi = hi; mode = mode; aimed = aimed })
filled_of Nothing = None
filled_of (Linked node range mode todo) = None

abbrev pub listed_of : Own → Option Listed
listed_of (Linked node range mode todo) = Some (record { node = node; range = range; mode = mode; todo = todo })
listed_of Nothing = None
listed_of (Filling node lo hi mode aimed) = None

-- once where x is the own node, otherwise 0
abbrev pub own_times : ℕ → Own → ℕ
own_times x Nothing = 0
own_times x (Filling node lo hi mode aimed) = if node == x then 1 else 0
own_times x (Linked node range mode todo) = if node == x then 1 else 0
