-- A step of a running list is one of the pure machine, by its line of the step table.
use Rattle.std.proofs.Common.{◌≡◌, ℕ, ◌<◌, List, map, set, sym, ap, ◌∙◌, subst}
use Rattle.std.specs.Prelude.{Some}
use Rattle.std.proofs.lemmas.List.{map-set}
use mathlib.Core.Option.{some}
use lib.ListN.{get_elem?}
use Rattle.atomic_table.specs.Table.{State}
use Rattle.atomic_table.proofs.Lists.{at_map}
use Rattle.lock_core.specs.Grants.{Grants}
use Rattle.list_cuts.specs.Cut.{Regions, list_count}
use Rattle.lock_core.specs.declared.views.View.{View}
use Rattle.lock_core.specs.declared.steps.Step.{Step}
use Rattle.lock_core.specs.Words.{word_count}
use Rattle.lock_core.specs.StepTable.{Plan}
use Rattle.lock_core.specs.Machine.{plan}
use Rattle.lock_core.specs.Operations.{IsEnabled}
use Rattle.lock_core.proofs.Enabled.{is_planned}
use Rattle.lock_core.proofs.Table.{line_of_plan}
use Rattle.epoch_pools.specs.declared.views.SeatLists.{SeatLists}
use Rattle.epoch_pools.specs.declared.views.ListView.{ListView}
use Rattle.epoch_pools.specs.Beside.{core_at}
use Rattle.epoch_pools.specs.Running.{machine_at, cores_of, line_in, lists_after, Ruled}
use Rattle.epoch_pools.specs.Apart.{IsSeen}
use Rattle.epoch_pools.specs.Lines.{IsOneLine, place_in, found_at}
use Rattle.epoch_pools.proofs.Apart.{seen_part}
use Rattle.epoch_pools.proofs.Frames as frames

module _ {P : Type 0} (c : Regions) (seats clients : ℕ) (holds : Grants → List ℕ → List P → Type 0) (rested : P → P) (s : State (Unit {0}) (ListView P))
    (parts : List (SeatLists P)) (owner : ℕ → ℕ) (r : Ruled c seats clients holds s parts owner) where
  -- at a moment that meets the rule each enabled step is one line, and a step of the list's machine
  pub is_one_line : (i : ℕ) → i < list_count c → (p : SeatLists P) → IsSeen s.views p → (step : Step) → IsEnabled p.seats p.number (core_at i p.cores) step
      → (line_in p i step).place < word_count seats → IsOneLine (list_count c) rested seats s.words parts p i step
  is_one_line i less p seen step may low = let here : get_elem? parts p.number ≡ some p = seen_part c seats clients holds s parts owner r p seen in
      let many : p.seats ≡ seats = r.same p.number p here in let all : List (List View) = map cores_of parts in
      let line : Plan = line_in p i step in
      let enabled : plan seats p.number (core_at i p.cores) step ≡ Some line =
      subst (λ n. plan n p.number (core_at i p.cores) step ≡ Some line) many (is_planned p.seats p.number (core_at i p.cores) step may) in
      let at_step : frames.IsStepIn (list_count c) seats s.words all p.number i p.cores step line = record {
        locks = r.lists_are.apart.locks;
        here = at_map cores_of parts p.number p here;
        many = r.lists_are.apart.many p.number p here;
        less = less;
        enabled = enabled;
        low = low;
      } in let y : ℕ = found_at seats s.words p i step in let q : SeatLists P = lists_after (list_count c) rested p i step y in
      record {
        line = line_of_plan seats p.number (core_at i p.cores) step line enabled;
        steps = frames.stepped at_step ∙ ap (λ m. Some m) (frames.this at_step
            ∙ ap (λ (l : List (List View)). machine_at i seats (set s.words (place_in seats p i step) (line.write y)) l) (sym
            (map-set cores_of parts p.number q)));
      }
