-- What a caller sees of an event count: the table with its number of seats, a seat with all the steps that it has made,
-- and which steps each call makes. A call is told by its steps alone, each with the value that its word had, so a step
-- too many, or one left out, isn't the call.
use Rattle.std.specs.Prelude.{◌≡◌, ℕ, ◌<◌, ◌≤◌, Bool, false, List, [], ◌∷◌, ◌++◌}
use Rattle.atomic_table.specs.Seated.{TableId}
use Rattle.event_count.specs.declared.records.EventStep.{EventStep}
use Rattle.event_count.specs.declared.records.EventStep.TheVariants.{Counted, Read, Left, Asked, Advanced}
use Rattle.event_count.specs.declared.table.EventFault.{EventFault}
use Rattle.event_count.specs.declared.table.EventFault.TheVariants.{Seats, Memory}
use Rattle.event_count.specs.declared.calls.Notified.{Notified}
use Rattle.event_count.specs.declared.calls.Notified.TheVariants.{Nobody, Woke}

-- an event count: its table, and how many seats it has
pub record EventShape : Type 0 where
  pub table : TableId
  pub seats : ℕ

-- a seat: its table, whether it is counted, and its steps
pub record SeatView : Type 0 where
  pub table : TableId
  pub counted : Bool
  pub steps : List EventStep

-- a seat of a new table
abbrev pub new_seat : TableId → SeatView
new_seat table = record { table = table; counted = false; steps = [] }

-- an event count has from 1 to 16 seats
abbrev pub IsSeatCount : ℕ → Type 0
IsSeatCount n = (0 < n) × (n ≤ 16)

-- why none is opened for so many seats
abbrev pub IsEventFault : ℕ → EventFault → Type 0
IsEventFault seats (Seats n) = (n ≡ seats) × ¬ (IsSeatCount seats)
IsEventFault seats Memory = IsSeatCount seats

-- it counted itself, and then read the event word
abbrev pub Prepares : List EventStep → ℕ → List EventStep → Type 0
Prepares before seen after = (n : ℕ) × (n < 16) × (after ≡ before ++ Counted n ∷ Read seen ∷ [])

-- it counted itself out, and nothing else
abbrev pub Cancels : List EventStep → List EventStep → Type 0
Cancels before after = (n : ℕ) × (0 < n) × (after ≡ before ++ Left n ∷ [])

-- it found nobody counted, and did nothing else; or it found so many and advanced the event word
abbrev pub Notifies : List EventStep → Notified → List EventStep → Type 0
Notifies before Nobody after = after ≡ before ++ Asked 0 ∷ []
Notifies before (Woke n) after = (e : ℕ) × (0 < n) × (n ≤ 16) × (after ≡ before ++ Asked n ∷ Advanced e ∷ [])
