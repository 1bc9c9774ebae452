use Rattle.std.proofs.Common.{arith}
use Rattle.trace_driver.proofs.DealtLemmas.{one_dealt, named_dealt}
use Rattle.trace_driver.proofs.dealing.deal_line.Goals as goal

-- the line is behind those of its worker
pub returns-clause-dealt : goal.returns-clause-dealt
returns-clause-dealt c = λ lines so_far. one_dealt c.args.threads c.worker_of-worker.result lines c.args.line.now c.args.all.now.items
    c.index_mut.result.now c.push.new.self c.played_line.result c.worker_of-worker.ensures.is c.worker_of-worker.ensures.low
    c.played_line.ensures.is c.index_mut.ensures.value c.in_ok-push.ensures.items so_far

-- and its call has named bits alone, as theirs have
pub returns-clause-named : goal.returns-clause-named
returns-clause-named c = named_dealt c.worker_of-worker.result c.args.all.now.items c.index_mut.result.now c.push.new.self
    c.played_line.result (let w = c.worker_of-worker.ensures.low in let n = c.requires.count in omega (arith, c.args.all.now.ok.0))
    c.index_mut.ensures.value c.in_ok-push.ensures.items c.played_line.ensures.named
