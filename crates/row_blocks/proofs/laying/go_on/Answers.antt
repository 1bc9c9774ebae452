use Rattle.std.proofs.Common.{arith}
use Rattle.row_blocks.proofs.Counts.{next_there}
use Rattle.row_blocks.proofs.laying.go_on.Goals as goal

-- a row stands behind the block, so there is one behind it
pub body_of-body-requires-clause-there : goal.body_of-body-requires-clause-there
body_of-body-requires-clause-there g c = let next = next_there c.requires.laid c.requires.there c.requires.place (omega arith) c.requires.more in omega arith

-- and it is in use
pub returns-clause-there : goal.returns-clause-there
returns-clause-there g c = next_there c.requires.laid c.requires.there c.requires.place (omega arith) c.requires.more
