-- What one step of a running list is. At any moment that meets the rule, a step that the seat's view of a list enables
-- is one of the pure machine on that list's words, by its line of the step table of `lock_core`. So it is of each of
-- the eighteen kinds, after Kogan, Dice and Issa 2020; pools, barrier and several lists are this project's own profile.
-- A look at a head is a step of the record and none of these: `Passing` says what it is.
use Rattle.std.specs.Prelude.{◌≡◌, ℕ, ◌+◌, ◌*◌, ◌<◌, List, map, slice_index, slice_set, Some}
use Rattle.atomic_table.specs.Table.{State}
use Rattle.lock_core.specs.Grants.{Grants}
use Rattle.list_cuts.specs.Cut.{Regions, list_count}
use Rattle.lock_core.specs.declared.steps.Step.{Step}
use Rattle.lock_core.specs.Words.{word_count}
use Rattle.lock_core.specs.StepTable.{IsLine}
use Rattle.lock_core.specs.Machine.{after}
use Rattle.lock_core.specs.Operations.{IsEnabled}
use Rattle.epoch_pools.specs.declared.views.SeatLists.{SeatLists}
use Rattle.epoch_pools.specs.declared.views.ListView.{ListView}
use Rattle.epoch_pools.specs.Beside.{core_at}
use Rattle.epoch_pools.specs.Running.{machine_at, cores_of, line_in, lists_after, IsRunningList}
use Rattle.epoch_pools.specs.Apart.{IsSeen, AreSeen}

module _ {P : Type 0} where
  -- the place in the table of the word of a step in list i, and the value that the step finds there
  abbrev pub place_in : ℕ → SeatLists P → ℕ → Step → ℕ
  place_in seats p i step = i * word_count seats + (line_in p i step).place

  abbrev pub found_at : ℕ → List ℕ → SeatLists P → ℕ → Step → ℕ
  found_at seats words p i step = slice_index words (place_in seats p i step)

  -- a step of a seat in list i, at a moment with these words and parts by number: its plan is a line of the step table,
  -- and the list's state after the operation is the machine's after that step
  pub record IsOneLine (lists : ℕ) (rested : P → P) (seats : ℕ) (words : List ℕ) (parts : List (SeatLists P)) (p : SeatLists P) (i : ℕ)
      (step : Step) : Type 0 where
    pub line : IsLine seats p.number (core_at i p.cores) step (line_in p i step)
    pub steps : after (machine_at i seats words (map cores_of parts)) p.number step
        ≡ Some (machine_at i seats (slice_set words (place_in seats p i step) ((line_in p i step).write (found_at seats words p i step)))
        (map cores_of (slice_set parts p.number (lists_after lists rested p i step (found_at seats words p i step)))))

  -- so it is of each step that a seat's view of a list enables, on a word of that list
  abbrev pub StepsAreLines : (Grants → List ℕ → List P → Type 0) → (P → P) → Type 0
  StepsAreLines holds rested = (c : Regions) (seats clients : ℕ) (s : State (Unit {0}) (ListView P)) → IsRunningList c seats clients holds s
      → (i : ℕ) → i < list_count c → (p : SeatLists P) → IsSeen s.views p → (step : Step) → IsEnabled p.seats p.number (core_at i p.cores) step
      → (line_in p i step).place < word_count seats
      → (parts : List (SeatLists P)) × AreSeen seats s.views parts × IsOneLine (list_count c) rested seats s.words parts p i step
