-- What several steps ask of a view before they go on. Only functions inside this crate have it in their contracts:
-- the table and the plan ask the same part by part. This project's own profile.
use Rattle.std.specs.Prelude.{ℕ, Option, Some, None}
use Rattle.lock_core.specs.declared.fill.Aimed.{Aimed}
use Rattle.lock_core.specs.declared.views.Cursor.{Cursor}
use Rattle.lock_core.specs.declared.views.Own.{Own}
use Rattle.lock_core.specs.declared.views.Own.TheVariants.{Nothing, Filling, Linked}
use Rattle.lock_core.specs.Words.{plain_node_of}

-- a node that is filled and aimed, so that all is known of it
abbrev pub aimed_of : Own → Option Aimed
aimed_of (Filling node (Some lo) (Some hi) mode (Some w)) = Some (record { node = node; lo = lo; hi = hi; mode = mode; aimed = w })
aimed_of (Filling node None hi mode aimed) = None
aimed_of (Filling node (Some lo) None mode aimed) = None
aimed_of (Filling node (Some lo) (Some hi) mode None) = None
aimed_of Nothing = None
aimed_of (Linked node range mode todo) = None

-- a cursor, the node that it names and that node's next word, where all three are known
abbrev pub met_of : Option Cursor → Option (Cursor × ℕ × ℕ)
met_of None = None
met_of (Some c) = met_with c (plain_node_of c.cur) c.next
  where
    met_with : Cursor → Option ℕ → Option ℕ → Option (Cursor × ℕ × ℕ)
    met_with c None next = None
    met_with c (Some y) None = None
    met_with c (Some y) (Some n) = Some (c, y, n)
