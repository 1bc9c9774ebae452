use Rattle.strace_reader.proofs.OneFeed.{one_answer}
use Rattle.strace_reader.proofs.laws.fed_texts_have_one_outcome.Goals as goal

-- each text that is fed behind others has one outcome at most
pub returns : goal.returns
returns c = one_answer
