-- How long a path is that ends. A path is followed over next words until it meets the end; one that ends comes to no
-- node twice, so that it has no more nodes than there are. The list of Kogan, Dice and Issa 2020; the count of nodes
-- is this project's own profile.
use Rattle.std.specs.Prelude.{ℕ, suc, ◌*◌, ◌≤◌, List, [], ◌∷◌, length}
use Rattle.lock_laws.specs.Paths.{PathEnds, end, on}
use Rattle.lock_core.specs.Words.{to}
use Rattle.lock_core.specs.Machine.{Machine, heap}
use Rattle.lock_laws.specs.Laws.{IsLock}

-- the nodes of a path that ends, in order
abbrev pub path_nodes : (to : ℕ → ℕ) (t : ℕ) → PathEnds to t → List ℕ
path_nodes to t end = []
path_nodes to t (on {n = n} e) = n ∷ path_nodes to (to (suc n)) e

-- a path that ends has no more nodes than the lock has
abbrev pub PathsAreShort : Type 0
PathsAreShort = (m : Machine) (t : ℕ) (ends : PathEnds (to (heap m)) t) → IsLock m → t ≤ 16 * m.seats → length (path_nodes (to (heap m)) t ends) ≤ 16 * m.seats
