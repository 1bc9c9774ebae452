-- What calls leave of a crew, which is all callers of one space in order of their numbers: each is of
-- the same table and number, holds nothing, and has made the calls that were asked for. This is the trials' own.
use Rattle.std.specs.Prelude.{◌≡◌, ◌+◌, ◌-◌, ◌<◌, None, List, length, ℕ}
use mathlib.Core.Option.{some}
use lib.ListN.{get_elem?}
use Rattle.area_rows.specs.Callers.{CallerView, AreIdle}
use Rattle.atomic_table.specs.Seated.{TableId}

-- the caller is idle after a call as it was before: it may make its next call, or be closed
pub record IsIdleAgain (before after : CallerView) : Type 0 where
  pub table : after.seat.table ≡ before.seat.table
  pub number : after.seat.number ≡ before.seat.number
  pub held : after.seat.held ≡ None

-- all callers of a space of so many, each idle
pub record IsCrew (table : TableId) (seats : ℕ) (callers : List CallerView) : Type 0 where
  pub count : length callers ≡ seats
  pub some : 0 < seats
  pub idle : AreIdle table callers

-- the caller made so many calls, or as many as it could: each one that got a number is an entry more of its own
pub record HasCalled (calls : ℕ) (before after : CallerView) : Type 0 where
  pub left : after.left ≡ before.left - calls
  pub kept : length after.seat.pass.mine + after.left ≡ length before.seat.pass.mine + before.left

-- each caller of a crew did
abbrev pub HaveCalled : ℕ → List CallerView → List CallerView → Type 0
HaveCalled calls before after = (k : ℕ) (a b : CallerView) → get_elem? before k ≡ some a → get_elem? after k ≡ some b → HasCalled calls a b

-- of the caller of that number in a crew it is so, before and after
abbrev pub OfCaller : ℕ → List CallerView → List CallerView → (CallerView → CallerView → Type 0) → Type 0
OfCaller k before after what = (a b : CallerView) → get_elem? before k ≡ some a → get_elem? after k ≡ some b → what a b
