use Rattle.strace_reader.proofs.NamedCalls.{named_answer}
use Rattle.strace_reader.proofs.laws.fed_calls_are_named.Goals as goal

-- each call that a text answers behind others has named bits alone
pub returns : goal.returns
returns c = named_answer
