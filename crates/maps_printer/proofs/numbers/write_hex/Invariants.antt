-- The digits that are written are the last ones, and the rest of the number makes those before them.
use Rattle.std.proofs.Common.{◌≡◌, ◌≤◌, length, drop, false}
use Rattle.std.specs.Fmt.{digits_onto}
use Rattle.maps_printer.specs.Numbers.{hex_digits}
use Rattle.maps_printer.proofs.numbers.write_hex.Given as goal

-- what holds before each digit; the room is 64 digits long
abbrev pub invariant-loop-at : goal.invariant-loop-at
invariant-loop-at l = (l.at ≤ 64) × (length l.digits ≡ 64) × (digits_onto l.at 16 false l.rest (drop l.at l.digits) ≡ hex_digits l.n)

-- each digit is written one place before the last one
abbrev pub decreases-loop-at : goal.decreases-loop-at
decreases-loop-at l = l.at
