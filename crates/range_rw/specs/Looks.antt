-- The look by which a held range comes to count in a table of several lists, said alike of a narrow range and of a wide
-- one. `own` is the list that holds the range, list 0 for a wide one; `at` is the list that is looked at, list 0 for a
-- narrow one. This project's own profile.
use Rattle.std.specs.Prelude.{◌≡◌, ◌≢◌, ◌⊎◌, ◌↔◌, ℕ, zero, suc, ◌+◌, ◌*◌, ◌<◌, ◌≤◌, Bool, false, length, Result, IfErr, OnOk, OnErr}
use Rattle.atomic_table.specs.Seated.{TableId}
use Rattle.list_cuts.specs.Cut.{Regions, Takes, TakesOne, TakesTwo}
use Rattle.lock_core.specs.Range.{Interval}
use Rattle.lock_core.specs.declared.range.Held.{Held}
use Rattle.epoch_pools.specs.declared.views.SeatPart.{SeatPart}
use Rattle.epoch_pools.specs.declared.views.Beside.{Beside}
use Rattle.epoch_pools.specs.declared.views.Standing.{Standing}
use Rattle.epoch_pools.specs.declared.views.Standing.TheVariants.{Free, Narrow, Wide}
use Rattle.epoch_pools.specs.Beside.{shown_core}
use Rattle.epoch_pools.specs.Passing.{MayCount, MayPass, after_look_at}
use Rattle.epoch_pools.specs.Standings.{is_counted, passed_by, standing_back}
use Rattle.range_rw.specs.declared.refusals.NotHeld.{NotHeld}
use Rattle.range_rw.specs.Contract.{AsksOnly, Finds, IsLongRefusal, IsReadyLeft, Meets, TakesMany, WorksIn}
use Rattle.range_rw.specs.Several.{HasLists, IsLaterInLists, HoldsAlone, HoldsIn, IsCauseAt, HasSpent, IsWorkFor}

-- how the range stands once that list is clear: a narrow one counts, and a wide one has passed all below `up`
unfoldable pub standing_for : ℕ → ℕ → Standing
standing_for zero up = Wide up
standing_for (suc own) up = Narrow (suc own)

-- the list that holds a range where there are several: it takes that one alone, or it takes more, and that is list 0
pub record IsHome (c : Regions) (range : Interval) (lists own : ℕ) : Type 0 where
  pub several : 1 < lists
  pub there : own < lists
  pub narrow : own ≢ 0 → TakesOne c range own
  pub wide : own ≡ 0 → TakesTwo c range

module _ {P : Type 0} where
  -- the range that the hand's list holds may be looked for there
  pub record MayLook (c : Regions) (own at up : ℕ) (p : SeatPart (Beside P)) : Type 0 where
    pub turned : p.pass.list ≡ own
    pub pass : own ≡ 0 → MayPass c p at up
    pub count : own ≢ 0 → MayCount c p
    pub first : own ≢ 0 → at ≡ 0

  -- a narrow range has list 0 still to look at, and nothing of it counts yet
  pub record IsNarrowDue (c : Regions) (range : Interval) (p : SeatPart (Beside P)) (own at : ℕ) : Type 0 where
    pub low : 0 < own
    pub there : own < p.pass.lists
    pub first : at ≡ 0
    pub takes : TakesOne c range own
    pub free : p.pass.standing ≡ Free

  -- a wide one, which list 0 holds, has that list still to pass, and behind it none before `up`
  pub record IsWideDue (c : Regions) (range : Interval) (p : SeatPart (Beside P)) (own at up : ℕ) : Type 0 where
    pub first : own ≡ 0
    pub low : 0 < at
    pub standing : (p.pass.standing ≡ Free) ⊎ ((passed : ℕ) × (p.pass.standing ≡ Wide passed))
    pub from : passed_by p.pass.standing ≤ at
    pub below : at < up
    pub most : up ≤ p.pass.lists
    pub others : (other : ℕ) → passed_by p.pass.standing ≤ other → other < up → other ≢ at → Takes c range other → ⊥

  -- the list `at` is the next that the range has to look at
  abbrev pub IsDue : Regions → Interval → ℕ → ℕ → ℕ → SeatPart (Beside P) → Type 0
  IsDue c range own at up p = IsNarrowDue c range p own at ⊎ IsWideDue c range p own at up

  -- the range that list holds has still to look at all lists that it takes, of so many
  pub record IsToLook (c : Regions) (n own : ℕ) (asked : Held) (p : SeatPart (Beside P)) : Type 0 where
    pub lists : HasLists c n p
    pub home : IsHome c asked.range n own
    pub holds : HoldsAlone own asked p
    pub free : p.pass.standing ≡ Free

  -- a look at that list, which was clear or not: where it was the seat stands so. The record has this step
  abbrev pub IsLookAt : ℕ → Bool → Standing → SeatPart (Beside P) → SeatPart (Beside P) → Type 0
  IsLookAt at clear s p q = q ≡ after_look_at at clear s p

  -- one step was made, which left that list, or a step of this call found the list not empty
  abbrev pub LooksOnce : ℕ → SeatPart (Beside P) → SeatPart (Beside P) → Type 0
  LooksOnce at p q = ((q.trace.taken ≡ p.trace.taken + 1) × (shown_core q at ≡ shown_core p at)) ⊎ Finds p.trace.taken at q.trace

  -- a step of this call found that list not empty, and the record has more such steps than before
  abbrev pub MeetsMore : ℕ → SeatPart (Beside P) → SeatPart (Beside P) → Type 0
  MeetsMore at p q = (length p.trace.occupied < length q.trace.occupied) × Finds p.trace.taken at q.trace

  -- what a look at the list `at` comes to, for a range that the list `own` holds and that is to stand so then; where
  -- that list isn't empty it is swept, and the range is linked there too
  pub record LooksAt {A : Type 0} (table : TableId) (own at : ℕ) (asked : Held) (stands : Standing) (result : Result A NotHeld) (p q : SeatPart (Beside P)) :
      Type 0 where
    -- the seat is the same, and asks for that range alone
    pub later : IsLaterInLists p q
    pub asks : AsksOnly asked p.trace.asked q.trace.asked
    -- the ready nodes of that list are as before, or without the first, and each other list is as before
    pub ready : IsReadyLeft (shown_core p at).ready (shown_core q at).ready
    pub only : (j : ℕ) → j ≢ at → shown_core q j ≡ shown_core p j
    -- the range is held alone, and stands so
    pub done : OnOk result (HoldsAlone own asked q × (q.pass.standing ≡ stands))
    -- or it is held still, and stands as before, by a cause in that list
    pub kept : OnErr result (HoldsIn own asked q × (q.pass.standing ≡ p.pass.standing))
    pub cause : IfErr result (IsCauseAt table at p q asked)
    pub long : IfErr result (λ why. IsLongRefusal why ↔ HasSpent q)

  -- what the looks at all lists come to that a range has to look at which the list `own` holds, where so many may be
  -- made again
  pub record LooksAtAll {A : Type 0} (table : TableId) (c : Regions) (own looks : ℕ) (asked : Held) (result : Result A NotHeld) (p q : SeatPart (Beside P)) :
      Type 0 where
    -- the call works for that range, and has the list that holds it as before
    pub work : IsWorkFor c asked p q
    pub home : shown_core q own ≡ shown_core p own
    -- each list's ready nodes are as before, or without the first
    pub ready : looks ≡ 0 → (j : ℕ) → IsReadyLeft (shown_core p j).ready (shown_core q j).ready
    -- the range is held alone, and counts
    pub done : OnOk result (HoldsAlone own asked q × (q.pass.standing ≡ standing_for own q.pass.lists))
    -- or it is held still and doesn't count, and nothing stands for it once it is given back
    pub kept : OnErr result (HoldsIn own asked q × (is_counted q.pass.lists q.pass.standing own ≡ false) × (standing_back q.pass.standing own ≡ Free))
    -- by a cause in one of the other lists
    pub cause : IfErr result (λ why. looks ≡ 0 → (i : ℕ) × (i ≢ own) × (i < p.pass.lists) × WorksIn c asked.range i × IsCauseAt table i p q asked why)
    pub long : IfErr result (λ why. IsLongRefusal why ↔ HasSpent q)
    -- each other list is as before, or a step of this call found it not empty
    pub apart : (j : ℕ) → j ≢ own → (shown_core q j ≡ shown_core p j) ⊎ Finds p.trace.taken j q.trace
    -- one step was made for each list that the range takes, or the call met another
    pub few : OnOk result ((k : ℕ) → TakesMany c asked.range k → (q.trace.taken ≤ p.trace.taken + k) ⊎ Meets p.trace.taken q.trace)
    -- its steps are so many for each of them, and for each look that is made again
    pub each : (k : ℕ) → TakesMany c asked.range k → q.trace.taken ≤ p.trace.taken + (55 + 193 * p.seats) * (k + looks)
    pub narrow : own ≢ 0 → q.trace.taken ≤ p.trace.taken + 55 + 193 * p.seats
    -- a refused call met another, and a wide range was refused once more than looks were to be made again
    pub met : OnErr result (Meets p.trace.taken q.trace)
    pub more : OnErr result (own ≡ 0 → length p.trace.occupied + looks < length q.trace.occupied)
