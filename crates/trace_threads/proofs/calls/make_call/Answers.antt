use Rattle.trace_threads.proofs.Answering.{protect_answer}
use Rattle.trace_threads.proofs.calls.make_call.Goals as goal

-- a change of protection with an entry is the call of its line
pub returns-in-Given : goal.returns-in-Given
returns-in-Given g c = record {
  answer = protect_answer c.args.caller.now c.args.line c.in-Given.entry c.in-Given.path c.make_protect.new.caller c.in-Given.ensures.answer;
}
