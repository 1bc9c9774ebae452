use Rattle.std.proofs.Common.{◌≡◌, take, map}
use Rattle.lock_core.specs.declared.views.View.{View}
use Rattle.lock_core.specs.Machine.{grants_from, held_at}
use Rattle.lock_core.proofs.state.grants_of.Given as goal

-- the list has the grants of the views that were looked at, and the count is theirs
abbrev pub invariant-loop-view : goal.invariant-loop-view
invariant-loop-view l = record {
  seat : l.seat ≡ l.view-index;
  list : l.list.items ≡ grants_from 0 (map (λ (v : View). held_at v.own) (take l.view-index l.views));
}
