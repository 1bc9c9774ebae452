-- What a caller has seen in a call: the state of the address space after so many entries, and how many of them were
-- under everything. Each such number was found in the number word by a load of the call, which the caller's pass keeps,
-- and what is said of it is said of the one history, whose beginning the caller has seen.
use Rattle.std.specs.Prelude.{ℕ, ◌≡◌, ◌≤◌, ◌⊎◌, ◌++◌, Some, List, [], ◌∷◌, take, length}
use Rattle.space_model.specs.declared.areas.Area.{Area}
use Rattle.space_model.specs.History.{StateAfter}
use Rattle.range_rw.specs.Contract.{SeatState}
use Rattle.lock_core.specs.declared.range.Mode.TheVariants.{Reader}
use Rattle.area_guard.specs.declared.guard.Look.{Look}
use Rattle.area_guard.specs.declared.guard.Pass.{Pass}
use Rattle.area_rows.specs.History.{StartsWith, whole_count, IsAtRest}
use Rattle.area_rows.specs.Callers.{CallerView}

-- the state after the first entries that the caller has seen, so many, is like that
abbrev pub IsAfter : SeatState Pass → ℕ → (List Area → Type 0) → Type 0
IsAfter s m what = (A : List Area) × StateAfter s.pass.start (take m s.pass.seen) A × what A

-- so many of the first entries that the caller has seen were numbered under everything
abbrev pub HasWhole : SeatState Pass → ℕ → ℕ → Type 0
HasWhole s m n = whole_count (take m s.pass.seen) ≡ n

-- since then the caller has made these looks at the history, the last one first
abbrev pub HasMade : SeatState Pass → List Look → SeatState Pass → Type 0
HasMade before looks after = after.pass.looks ≡ looks ++ before.pass.looks

-- since then it has made some looks, or none
abbrev pub KeepsLooks : SeatState Pass → SeatState Pass → Type 0
KeepsLooks before after = (looks : List Look) × HasMade before looks after

-- one of these looks found so many entries
abbrev pub IsFoundBy : List Look → ℕ → Type 0
IsFoundBy [] m = ⊥
IsFoundBy (look ∷ earlier) m = (look.found ≡ m) ⊎ IsFoundBy earlier m

-- a look since then found so many entries
abbrev pub IsFoundSince : SeatState Pass → ℕ → SeatState Pass → Type 0
IsFoundSince before m after = (looks : List Look) × HasMade before looks after × IsFoundBy looks m

-- the first look since then was made while the caller held these pages as a reader
abbrev pub LooksFirst : SeatState Pass → ℕ → ℕ → SeatState Pass → Type 0
LooksFirst before lo hi after = (later : List Look) × (first : Look) × HasMade before (later ++ first ∷ []) after
    × (first.held ≡ Some (record { range = record { lo = lo; hi = hi }; mode = Reader }))

-- the caller has looked at the history, and that is all: it has numbered what it had, has written it, and has seen what
-- it had seen, or more
pub record HasLooked (before after : CallerView) : Type 0 where
  pub table : after.seat.table ≡ before.seat.table
  pub number : after.seat.number ≡ before.seat.number
  pub start : after.seat.pass.start ≡ before.seat.pass.start
  pub mine : after.seat.pass.mine ≡ before.seat.pass.mine
  pub more : StartsWith after.seat.pass.seen before.seat.pass.seen
  pub looks : KeepsLooks before.seat after.seat
  pub rest : IsAtRest after.seat.pass
  pub taken : before.seat.trace.taken ≤ after.seat.trace.taken
  pub left : after.left ≡ before.left

-- so many entries were there at a look since then
abbrev pub IsLookedAt : SeatState Pass → ℕ → SeatState Pass → Type 0
IsLookedAt before m after = (length before.pass.seen ≤ m) × (m ≤ length after.pass.seen) × IsFoundSince before m after
