use Rattle.raw_logs.proofs.SieveFacts.{is_next, next_rest, skipped}
use Rattle.raw_logs.proofs.lines.Sieve.skip.Goals as goal

-- a text less is left
pub returns-clause-is : goal.returns-clause-is
returns-clause-is c = skipped c.requires.is (is_next c.args.self.now c.index-end.result.now c.requires.is c.requires.left c.index-end.ensures)

-- the others are
pub returns-clause-rest : goal.returns-clause-rest
returns-clause-rest c = λ line more. next_rest (is_next c.args.self.now c.index-end.result.now c.requires.is c.requires.left c.index-end.ensures)
