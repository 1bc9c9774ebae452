use Rattle.std.proofs.Common.{arith, ap, ◌∙◌, drop_of_length-le, false}
use Rattle.std.specs.Fmt.{digits_onto}
use Rattle.maps_printer.proofs.Hex.{spell-hex, length-hex_digits}
use Rattle.maps_printer.proofs.numbers.write_hex.Goals as goal

-- at the start no digit is written, and the whole number is left
pub loop-at-init : goal.loop-at-init
loop-at-init c = (
  omega arith,
  c.told-digits,
  ap (digits_onto 64 16 false c.args.n) (drop_of_length-le c.args.digits.now {i = 64} (omega (arith, c.told-digits))) ∙ spell-hex c.args.n,
)

-- the number has at most sixteen digits
pub returns-after-loop-at-clause-short : goal.returns-after-loop-at-clause-short
returns-after-loop-at-clause-short c = length-hex_digits c.args.n (omega arith)

-- so it has where no rest is left
pub returns-then-rest-eq0-clause-short : goal.returns-then-rest-eq0-clause-short
returns-then-rest-eq0-clause-short c = length-hex_digits c.args.n (omega arith)
