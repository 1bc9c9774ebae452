use Rattle.std.proofs.Common.{sym, ap, ◌+◌, ◌%◌, ◌^◌}
use Rattle.test_lock.proofs.Tallying.{may_write, was_written}
use Rattle.test_lock.proofs.adds.write_next.Goals as goal

-- the seat holds the word as a writer, and the value is the next after the one that it read
pub store_as_uncounted-requires-clause-allowed : goal.store_as_uncounted-requires-clause-allowed
store_as_uncounted-requires-clause-allowed c = may_write c.args.seat.now.number c.args.seat.now.held c.args.seat.now.pass
    ((c.args.count + 1) % 2 ^ 64) c.requires.held c.requires.known.0 (ap (λ n. (n + 1) % 2 ^ 64) (sym c.requires.known.1))

-- the pass knows what was stored
pub returns-clause-known : goal.returns-clause-known
returns-clause-known c = was_written c.args.seat.now.number c.args.seat.now.held c.args.seat.now.pass ((c.args.count + 1) % 2 ^ 64) _ _
    c.store_as_uncounted.ensures.made.1
