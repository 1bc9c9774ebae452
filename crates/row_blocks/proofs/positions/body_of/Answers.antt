use Rattle.std.proofs.Common.{ℕ, ◌+◌, ◌*◌, ◌/◌, ◌%◌, ap}
use Rattle.row_blocks.proofs.positions.body_of.Goals as goal

-- the body word tells where the body stands
pub returns-clause-at : goal.returns-clause-at
returns-clause-at g c = ap (λ (x : ℕ). c.args.blocks + 127 * (x / 128 % 2048)) c.load-packed.ensures.word

-- and how many rows stand there
pub returns-clause-rows : goal.returns-clause-rows
returns-clause-rows g c = ap (λ (x : ℕ). x % 128) c.load-packed.ensures.word
