use Rattle.lock_laws.proofs.Sound.{reads_range, finds_other}
use Rattle.lock_laws.proofs.laws.loads_find.Goals as goal

-- the ends that are loaded of a cursor's node are those of a range
pub returns-clause-range : goal.returns-clause-range
returns-clause-range c = λ m i v cursor y lo l at is node low. reads_range m l i v at cursor is y node lo low

-- an unmarked node of a cursor is another seat's, or the own linked one
pub returns-clause-other : goal.returns-clause-other
returns-clause-other c = λ m i v cursor y l at is node even. finds_other m l i v at cursor is y node even
