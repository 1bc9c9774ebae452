use Rattle.std.proofs.Common.{ap, arith}
use Rattle.range_rw.proofs.SeatLists.{first_new, second_new}
use Rattle.example_ranges.proofs.tries.open_two.Goals as goal

-- both seats are of the table that was opened
pub returns-clause-tables : goal.returns-clause-tables
returns-clause-tables c = let new = c.in_ok-table.ensures.seats in (
  ap (λ s. s.table) (first_new _ (λ _. tt) c.in_ok-table.seats.items c.remove-first.result (omega (arith, new.0)) new.1 c.remove-first.ensures.value),
  ap (λ s. s.table) (second_new _ (λ _. tt) c.in_ok-table.seats.items _ c.remove-second.result new.0 new.1
      c.remove-first.ensures.items c.remove-second.ensures.value),
)

-- neither seat holds anything
pub returns-clause-free : goal.returns-clause-free
returns-clause-free c = let new = c.in_ok-table.ensures.seats in (
  ap (λ s. s.held) (first_new _ (λ _. tt) c.in_ok-table.seats.items c.remove-first.result (omega (arith, new.0)) new.1 c.remove-first.ensures.value),
  ap (λ s. s.held) (second_new _ (λ _. tt) c.in_ok-table.seats.items _ c.remove-second.result new.0 new.1
      c.remove-first.ensures.items c.remove-second.ensures.value),
)
