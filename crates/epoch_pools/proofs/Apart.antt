-- The parts of a running list by number: what the views of its machines are.
use Rattle.std.proofs.Common.{◌≡◌, ℕ, List, map, Some}
use Rattle.std.specs.Prelude.{slice_get}
use mathlib.Core.Option.{some}
use lib.ListN.{get_elem?}
use Rattle.atomic_table.specs.Table.{State}
use Rattle.atomic_table.proofs.Lists.{at_map}
use Rattle.lock_core.specs.Grants.{Grants}
use Rattle.list_cuts.specs.Cut.{Regions}
use Rattle.lock_core.proofs.ByPlace.{to_get}
use Rattle.epoch_pools.specs.declared.views.SeatLists.{SeatLists}
use Rattle.epoch_pools.specs.declared.views.ListView.{ListView}
use Rattle.epoch_pools.specs.Beside.{core_at}
use Rattle.epoch_pools.specs.Running.{cores_of, Ruled}
use Rattle.epoch_pools.specs.Apart.{IsSeen, AreSeen}

module _ {P : Type 0} (c : Regions) (seats clients : ℕ) (holds : Grants → List ℕ → List P → Type 0) (s : State (Unit {0}) (ListView P))
    (parts : List (SeatLists P)) (owner : ℕ → ℕ) (r : Ruled c seats clients holds s parts owner) where
  -- what is seen of a number is its part
  pub seen_part : (p : SeatLists P) → IsSeen s.views p → get_elem? parts p.number ≡ some p
  seen_part p i = (r.owned i.id i.view i.at i.place p i.has).0

  -- what the machine of list i has of that number is the view of the part that is seen
  pub seen_core : (i : ℕ) (p : SeatLists P) → IsSeen s.views p → slice_get (map (core_at i) (map cores_of parts)) p.number ≡ Some (core_at i p.cores)
  seen_core i p seen = to_get (map (core_at i) (map cores_of parts)) p.number (core_at i p.cores)
      (at_map (core_at i) (map cores_of parts) p.number p.cores (at_map cores_of parts p.number p (seen_part p seen)))

  -- the parts are those that are seen, one for each number
  pub are_seen : AreSeen seats s.views parts
  are_seen = record { count = r.count; seen = seen_part; stands = λ n less. (owner n, r.stands n less) }
