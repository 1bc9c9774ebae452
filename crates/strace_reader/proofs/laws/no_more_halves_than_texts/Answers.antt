use Rattle.strace_reader.proofs.KeptCounts.{few_kept}
use Rattle.strace_reader.proofs.laws.no_more_halves_than_texts.Goals as goal

-- no count of kept halves is above that of the texts
pub returns : goal.returns
returns c = few_kept
