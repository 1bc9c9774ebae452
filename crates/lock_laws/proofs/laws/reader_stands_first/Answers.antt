use Rattle.lock_laws.proofs.Exclusion.{reader_first}
use Rattle.lock_laws.proofs.laws.reader_stands_first.Goals as goal

-- a linked reader stands before each linked writer that it overlaps
pub returns : goal.returns
returns c = λ m i j v u r w l at at' own own' reader writer over. reader_first m i j v u r w l at at' own own' reader writer over
