use Rattle.std.proofs.Common.{arith}
use Rattle.range_sets.proofs.set.SetSeat.new.Goals as goal

-- the first seat holds nothing, as its place says
pub invariant_of-result : goal.invariant_of-result
invariant_of-result g c = c.requires.free 0 c.args.a (omega arith)

-- the second seat holds nothing
pub invariant_of-result-2 : goal.invariant_of-result-2
invariant_of-result-2 g c = c.requires.free 1 c.args.a (omega arith)

-- the third seat holds nothing
pub invariant_of-result-3 : goal.invariant_of-result-3
invariant_of-result-3 g c = c.requires.free 2 c.args.a (omega arith)

-- the fourth seat holds nothing
pub invariant_of-result-4 : goal.invariant_of-result-4
invariant_of-result-4 g c = c.requires.free 3 c.args.a (omega arith)
