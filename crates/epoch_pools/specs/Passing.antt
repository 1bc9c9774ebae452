-- The look by which what a seat holds comes to count, where a table has several lists: one load of the head of a list,
-- made behind the own link. A narrow range is linked in its list and looks at list 0; a wide one is linked in list 0
-- and looks at each list that it takes, in rising order. Where the head names no node, or the seat holds its range in
-- that list too, nobody holds a range in conflict there, and who links later looks later. This project's own profile.
use Rattle.std.specs.Prelude.{◌≡◌, ◌≢◌, ◌⊎◌, ℕ, ◌+◌, ◌<◌, ◌≤◌, ◌==◌, ◌||◌, Bool, true, if◌then◌else◌, [], Some}
use Rattle.atomic_table.specs.Table.{Me}
use Rattle.list_cuts.specs.Cut.{Regions, list_count, Takes, TakesOne}
use Rattle.lock_core.specs.declared.range.Held.{Held}
use Rattle.lock_core.specs.Machine.{held_at}
use Rattle.epoch_pools.specs.declared.passing.LookKind.{LookKind}
use Rattle.epoch_pools.specs.declared.passing.LookKind.TheVariants.{Plain, Count, Pass}
use Rattle.epoch_pools.specs.declared.record.Record.{Record}
use Rattle.epoch_pools.specs.declared.views.SeatPart.{SeatPart}
use Rattle.epoch_pools.specs.declared.views.Beside.{Beside}
use Rattle.epoch_pools.specs.declared.views.ListView.{ListView}
use Rattle.epoch_pools.specs.declared.views.Standing.{Standing}
use Rattle.epoch_pools.specs.declared.views.Standing.TheVariants.{Free, Narrow, Wide}
use Rattle.epoch_pools.specs.Record.{occupied_at}
use Rattle.epoch_pools.specs.Standings.{passed_by}
use Rattle.epoch_pools.specs.Beside.{shown_core}
use Rattle.epoch_pools.specs.Hands.{shown_of}
use Rattle.epoch_pools.specs.Running.{IsOneLeft}

-- the record after a look: it is a step, and of no kind of the list lock's
abbrev pub look_trace : Record → Record
look_trace t = record t { taken = t.taken + 1; away = [] }

-- the same after a look at that list: where it wasn't clear, the record has the look
abbrev pub seen_trace : ℕ → Bool → Record → Record
seen_trace at clear t = record t { taken = t.taken + 1; away = []; occupied = occupied_at t at clear }

-- whether a look of that kind leaves its standing whatever it finds: one of a seat that holds its range there too, or
-- one by which nothing comes to count
abbrev pub held_too : LookKind → Bool
held_too Plain = true
held_too (Count held) = held
held_too (Pass up held) = held

module _ {P : Type 0} where
  -- the standing that a look of that kind leaves where it finds the list clear
  abbrev pub standing_of : LookKind → SeatPart (Beside P) → Standing
  standing_of Plain p = p.pass.standing
  standing_of (Count held) p = Narrow p.pass.list
  standing_of (Pass up held) p = Wide up

  -- the hand's list holds a narrow range, which doesn't count yet
  pub record MayCount (c : Regions) (p : SeatPart (Beside P)) : Type 0 where
    pub several : 1 < p.pass.lists
    pub standing : p.pass.standing ≡ Free
    pub range : Held
    pub held : held_at p.core.own ≡ Some range
    pub takes : TakesOne c range.range p.pass.list

  -- list 0, to which the hand is turned, holds a range that has that list still to pass, and behind it none before `up`
  pub record MayPass (c : Regions) (p : SeatPart (Beside P)) (list up : ℕ) : Type 0 where
    pub several : 1 < p.pass.lists
    pub first : p.pass.list ≡ 0
    pub standing : (p.pass.standing ≡ Free) ⊎ ((passed : ℕ) × (p.pass.standing ≡ Wide passed))
    pub range : Held
    pub held : held_at p.core.own ≡ Some range
    pub from : passed_by p.pass.standing ≤ list
    pub below : list < up
    pub most : up ≤ p.pass.lists
    pub others : (other : ℕ) → passed_by p.pass.standing ≤ other → other < up → other ≢ list → Takes c range.range other → ⊥

  -- the seat holds in that list what it holds in the list to which it is turned
  pub record HoldsToo (p : SeatPart (Beside P)) (list : ℕ) : Type 0 where
    pub range : Held
    pub own : held_at p.core.own ≡ Some range
    pub too : held_at (shown_core p list).own ≡ Some range

  -- what a hand shows after a look that left this standing
  abbrev pub after_look : SeatPart (Beside P) → Standing → SeatPart (Beside P)
  after_look p standing =
      record {
        number = p.number;
        seats = p.seats;
        core = p.core;
        pass = record { lists = p.pass.lists; list = p.pass.list; others = p.pass.others; standing = standing; pass = p.pass.pass };
        trace = look_trace p.trace;
      }

  -- the standing after a look, which is the new one where the list is clear
  abbrev pub standing_by : Bool → Standing → SeatPart (Beside P) → Standing
  standing_by clear standing p = if clear then standing else p.pass.standing

  -- what a hand shows after a look at that list: the new standing where the list is clear, and otherwise the one
  -- before, with the look in the record
  abbrev pub after_look_at : ℕ → Bool → Standing → SeatPart (Beside P) → SeatPart (Beside P)
  after_look_at at clear standing p =
      record {
        number = p.number;
        seats = p.seats;
        core = p.core;
        pass = record {
          lists = p.pass.lists;
          list = p.pass.list;
          others = p.pass.others;
          standing = standing_by clear standing p;
          pass = p.pass.pass;
        };
        trace = seen_trace at clear p.trace;
      }

  -- a look says to its seat how many lists there are, and that its range counts, or has passed, where the list was
  -- found empty or holds it too
  pub record IsLookPlay (begin : P) (c : Regions) (lists i at : ℕ) (standing : Standing) (too : Bool) (me : Me (Unit {0}) (ListView P)) (found : ℕ)
      (me' : Me (Unit {0}) (ListView P)) : Type 0 where
    pub many : lists ≡ list_count c
    pub left : IsOneLeft begin me me'
    pub shows : shown_of begin lists i me'.0.parts
        ≡ after_look_at at (too || found == 0) standing (shown_of begin lists i me.0.parts)

  -- a look that the seat may make at a list: the one of a narrow range at list 0, or that of a wide one at the next
  -- list that it takes, or one by which nothing comes to count. `too` says that the seat holds its range there too, or
  -- that nothing comes to count
  pub data IsLook (c : Regions) (p : SeatPart (Beside P)) (list : ℕ) : Standing → Bool → Type 0 where
    narrow : (too : Bool) → MayCount c p → list ≡ 0 → (too ≡ true → HoldsToo p list) → IsLook c p list (Narrow p.pass.list) too
    wide : (up : ℕ) (too : Bool) → MayPass c p list up → (too ≡ true → HoldsToo p list) → IsLook c p list (Wide up) too
    glance : IsLook c p list p.pass.standing true
