-- A seat as the calls on one list see it: the view of that list, and beside it all else that belongs to the seat, in
-- the place of the pass. A step in the list changes what stands beside it only where it gives a range back that counts
-- there. So a clause which says that the pass stays says that the other lists stay too. This project's own profile.
use Rattle.std.specs.Prelude.{◌≡◌, ℕ, ◌==◌, true, if◌then◌else◌, List, slice_get, slice_set, Option, unwrap_or}
use Rattle.lock_core.specs.declared.range.Held.{Held}
use Rattle.lock_core.specs.declared.views.View.{View}
use Rattle.lock_core.specs.Machine.{held_at, start_view}
use Rattle.epoch_pools.specs.declared.views.SeatLists.{SeatLists}
use Rattle.epoch_pools.specs.declared.views.SeatPart.{SeatPart}
use Rattle.epoch_pools.specs.declared.views.Beside.{Beside}
use Rattle.epoch_pools.specs.Standings.{is_counted, standing_back, counted_of}

-- in the place of a view that stands elsewhere
abbrev pub blank : View
blank = start_view 0 0

-- the view of list i among the views of all lists
abbrev pub core_at : ℕ → List View → View
core_at i cores = unwrap_or (slice_get cores i) blank

module _ {P : Type 0} where
  -- what list i holds of a seat, and the range that counts
  abbrev pub held_in : SeatLists P → ℕ → Option Held
  held_in w i = held_at (core_at i w.cores).own

  abbrev pub grant_in : ℕ → SeatLists P → Option Held
  grant_in lists w = counted_of lists w.standing (held_in w)

  -- what a hand shows that is turned to list i
  abbrev pub shown : ℕ → ℕ → SeatLists P → SeatPart (Beside P)
  shown lists i w =
      record {
        number = w.number;
        seats = w.seats;
        core = core_at i w.cores;
        pass = record { lists = lists; list = i; others = slice_set w.cores i blank; standing = w.standing; pass = w.pass };
        trace = record w.trace { list = i };
      }

  -- the view of list i, as a hand shows it
  abbrev pub shown_core : SeatPart (Beside P) → ℕ → View
  shown_core p i = if i == p.pass.list then p.core else core_at i p.pass.others

  -- what counts, as a hand shows it
  abbrev pub shown_grant : SeatPart (Beside P) → Option Held
  shown_grant p = counted_of p.pass.lists p.pass.standing (λ i. held_at (shown_core p i).own)

  -- the pass of the layer above
  abbrev pub inner_pass : SeatPart (Beside P) → P
  inner_pass p = p.pass.pass

  -- the same with another pass of the layer above
  abbrev pub beside_with : Beside P → P → Beside P
  beside_with b pass = record { lists = b.lists; list = b.list; others = b.others; standing = b.standing; pass = pass }

  -- what stands beside a list once its range is given back
  abbrev pub given_back : (P → P) → Beside P → Beside P
  given_back rested b =
      record {
        lists = b.lists;
        list = b.list;
        others = b.others;
        standing = standing_back b.standing b.list;
        pass = if is_counted b.lists b.standing b.list then rested b.pass else b.pass;
      }

  -- with what beside it a list's range may be given back: with a pass at rest, where the range counts
  abbrev pub may_give_back : (P → Type 0) → Beside P → Type 0
  may_give_back is_at_rest b = is_counted b.lists b.standing b.list ≡ true → is_at_rest b.pass
