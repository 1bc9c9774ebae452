use Rattle.std.proofs.Common.{◌≡◌}
use Rattle.std.specs.List.{All}
use Rattle.range_c.specs.Behind.{RecordingSeat}
use Rattle.range_c.proofs.shelf.Shelf.of.Given as goal

-- each place so far is for the seats of that table
abbrev pub invariant-loop : goal.invariant-loop
invariant-loop l = All (λ (p : RecordingSeat). p ≡ l.highest) l.places.items
