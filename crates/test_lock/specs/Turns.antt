-- What a number of turns leaves of a seat beside that it is back: how many steps it made, how much it has brought in,
-- how often its writers were inside, and that nobody is inside now. The words are this project's own.
use Rattle.std.specs.Prelude.{◌≡◌, ℕ, ◌+◌, ◌%◌, ◌==◌, ◌≤◌, if◌then◌else◌, List, ◌++◌, replicate, false}
use mathlib.Core.Option.{some}
use lib.ListN.{get_elem?}
use Rattle.lock_core.specs.declared.range.Mode.{Mode}
use Rattle.lock_core.specs.declared.range.Mode.TheVariants.{Reader, Writer}
use Rattle.range_rw.specs.Contract.{SeatState}
use Rattle.test_lock.specs.declared.tally.Brought.{Brought}
use Rattle.test_lock.specs.declared.turnstile.Visits.{Visits}

-- a seat made so many steps or more in between
abbrev pub HasMade : {P : Type 0} → ℕ → SeatState P → SeatState P → Type 0
HasMade n before after = before.trace.taken + n ≤ after.trace.taken

-- each seat of a list did
abbrev pub HaveMade : {P : Type 0} → ℕ → List (SeatState P) → List (SeatState P) → Type 0
HaveMade {P} n before after = (k : ℕ) (a b : SeatState P) → get_elem? before k ≡ some a → get_elem? after k ≡ some b → HasMade n a b

-- a seat has brought in so much in between
abbrev pub HasAdded : ℕ → SeatState Brought → SeatState Brought → Type 0
HasAdded n before after = after.pass.amount ≡ before.pass.amount + n

-- each seat of a list has
abbrev pub HaveAdded : ℕ → List (SeatState Brought) → List (SeatState Brought) → Type 0
HaveAdded n before after = (k : ℕ) (a b : SeatState Brought) → get_elem? before k ≡ some a → get_elem? after k ≡ some b → HasAdded n a b

-- the log of a pass after so many visits for errand 1 as a writer, or so many looks as a reader, which leave it as it
-- was
abbrev pub log_after : Mode → ℕ → List ℕ → List ℕ
log_after Writer n log = replicate n 1 ++ log
log_after Reader n log = log

-- a seat has made so many visits or looks in between
abbrev pub HasVisited : Mode → ℕ → SeatState Visits → SeatState Visits → Type 0
HasVisited mode n before after = after.pass.log ≡ log_after mode n before.pass.log

-- the seats with an even number visit as writers, the others as readers
abbrev pub mode_at : ℕ → Mode
mode_at k = if k % 2 == 0 then Writer else Reader

-- each seat of a list has, in its place's mode
abbrev pub HaveVisited : ℕ → List (SeatState Visits) → List (SeatState Visits) → Type 0
HaveVisited n before after = (k : ℕ) (a b : SeatState Visits) → get_elem? before k ≡ some a → get_elem? after k ≡ some b → HasVisited (mode_at k) n a b

-- no writer of these seats is inside
abbrev pub IsOutside : List (SeatState Visits) → Type 0
IsOutside seats = (k : ℕ) (s : SeatState Visits) → get_elem? seats k ≡ some s → s.pass.inside ≡ false
