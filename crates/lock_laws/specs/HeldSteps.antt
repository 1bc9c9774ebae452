-- What a step makes of the held ranges: at most its own seat's grant is gained or given back, and no other changes. A
-- seat gains the range of its own node alone, and only where it held nothing; the layer above the lock needs just
-- that to keep its own rule. Readers and writers hold their ranges as in Kogan, Dice and Issa 2020; the fast path
-- follows the same paper.
use Rattle.std.specs.Prelude.{◌≡◌, ◌≢◌, ◌⊎◌, ℕ, suc, ◌+◌, ◌*◌, slice_get, slice_set, Some, None}
use Rattle.lock_core.specs.Grants.{IsFree}
use Rattle.lock_core.specs.declared.range.Held.{Held}
use Rattle.lock_core.specs.declared.views.View.{View}
use Rattle.lock_core.specs.declared.views.Own.{Own}
use Rattle.lock_core.specs.declared.views.Todo.TheVariants.{Done}
use Rattle.lock_core.specs.declared.steps.Step.{Step}
use Rattle.lock_core.specs.declared.steps.Step.TheVariants.{Walk, ReadHi, Unlink, Mark, QuickLink, QuickUnlink}
use Rattle.lock_core.specs.Nodes.{Filled, Listed, filling, listed}
use Rattle.lock_core.specs.Machine.{Machine, heap, after, held_by_seat}
use Rattle.lock_laws.specs.Laws.{IsLock}

-- the range and mode of an own node that is linked, or that is being filled and has both ends
abbrev pub OwnHeld : Own → Held → Type 0
OwnHeld own h =
    ((k : Listed) × (own ≡ listed k) × (h ≡ record { range = k.range; mode = k.mode }))
    ⊎ ((f : Filled) × (lo : ℕ) × (hi : ℕ) × (own ≡ filling f) × (f.lo ≡ Some lo) × (f.hi ≡ Some hi) ×
    (h ≡ record { range = record { lo = lo; hi = hi }; mode = f.mode }))

-- no grant changes
abbrev pub HoldsOn : Machine → Machine → Type 0
HoldsOn m next = held_by_seat next ≡ held_by_seat m

-- the seat held nothing, and holds the range of its own node now
pub record Gains (m next : Machine) (s : ℕ) : Type 0 where
  pub view : View
  pub at : slice_get m.views s ≡ Some view
  pub held : Held
  pub own : OwnHeld view.own held
  pub nothing : slice_get (held_by_seat m) s ≡ Some None
  pub gained : held_by_seat next ≡ slice_set (held_by_seat m) s (Some held)

-- the seat holds nothing now
abbrev pub GivesBack : Machine → Machine → ℕ → Type 0
GivesBack m next s = held_by_seat next ≡ slice_set (held_by_seat m) s None

-- what every step of a kind does to the grants
abbrev pub EachStep : Step → (Machine → Machine → ℕ → Type 0) → Type 0
EachStep step does = (m next : Machine) (s : ℕ) → after m s step ≡ Some next → does m next s

-- the kinds of step by which a seat gives back
abbrev pub IsGiving : Step → Type 0
IsGiving Mark = Unit {0}
IsGiving QuickUnlink = Unit {0}
IsGiving _ = ⊥

-- a step of any kind changes no grant, or its seat gains, or it is of a giving kind and its seat holds nothing now
abbrev pub Change : Step → Machine → Machine → ℕ → Type 0
Change step m next s = HoldsOn m next ⊎ (Gains m next s ⊎ (IsGiving step × GivesBack m next s))

abbrev pub StepsChangeOneGrant : Type 0
StepsChangeOneGrant = (step : Step) → EachStep step (Change step)

-- In which case a step has which outcome. Where a sentence is so, the first, and otherwise the second
abbrev pub Where : Type 0 → Type 0 → Type 0 → Type 0
Where P A B = (P × A) ⊎ ((P → ⊥) × B)

-- the validation of the seat's own node comes to its end by the step: a reader's at the end of the list or where it
-- stops, a writer's at its own node
pub record Arrives (m next : Machine) (s : ℕ) : Type 0 where
  pub before : View
  pub at : slice_get m.views s ≡ Some before
  pub view : View
  pub now : slice_get next.views s ≡ Some view
  pub own : Listed
  pub was : before.own ≡ listed own
  pub todo : own.todo ≢ Done
  pub is : view.own ≡ listed (record own { todo = Done })

-- the list is empty
abbrev pub FindsEmpty : Machine → Type 0
FindsEmpty m = (heap m).next 0 ≡ 0

-- the seat's own node stands alone in the list, as QuickLink put it there
pub record StandsAlone (m : Machine) (s : ℕ) : Type 0 where
  pub view : View
  pub at : slice_get m.views s ≡ Some view
  pub own : Listed
  pub is : view.own ≡ listed own
  pub head : (heap m).next 0 ≡ 2 * suc own.node + 1

-- the seat holds something
abbrev pub IsHolding : Machine → ℕ → Type 0
IsHolding m s = (h : Held) × (slice_get (held_by_seat m) s ≡ Some (Some h))

-- the seat gains, and what it gains conflicts with no other grant
abbrev pub GainsFree : Machine → Machine → ℕ → Type 0
GainsFree m next s = (g : Gains m next s) × IsFree (held_by_seat m) s g.held

-- a step gains exactly where a sentence is so
abbrev pub MayGain : Type 0 → Machine → Machine → ℕ → Type 0
MayGain P m next s = Where P (GainsFree m next s) (HoldsOn m next)

-- a step gives back exactly where a sentence is so
abbrev pub MayGiveBack : Type 0 → Machine → Machine → ℕ → Type 0
MayGiveBack P m next s = Where P (GivesBack m next s) (HoldsOn m next)

-- what a step of each kind does to the grants
abbrev pub GrantsAfter : Step → Machine → Machine → ℕ → Type 0
GrantsAfter Walk m next s = MayGain (Arrives m next s) m next s
GrantsAfter ReadHi m next s = MayGain (Arrives m next s) m next s
GrantsAfter Unlink m next s = MayGain (Arrives m next s) m next s
GrantsAfter QuickLink m next s = MayGain (FindsEmpty m) m next s
GrantsAfter Mark m next s = MayGiveBack (IsHolding m s) m next s
GrantsAfter QuickUnlink m next s = MayGiveBack (StandsAlone m s) m next s
GrantsAfter _ m next s = HoldsOn m next

abbrev pub StepsChangeGrants : Type 0
StepsChangeGrants = (step : Step) (m next : Machine) (s : ℕ) → IsLock m → after m s step ≡ Some next → GrantsAfter step m next s
