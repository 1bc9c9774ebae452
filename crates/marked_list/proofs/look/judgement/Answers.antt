use Rattle.std.proofs.Common.{rules}
use Rattle.marked_list.proofs.look.judgement.Goals as goal

-- a cursor whose next word is known names a node
pub conflict-requires-clause-node : goal.conflict-requires-clause-node
conflict-requires-clause-node c = c.requires.node c.in_ok-cursor.cursor (search rules) (search rules)
