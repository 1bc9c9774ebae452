use Rattle.std.proofs.Common.{refl, arith}
use Rattle.raw_logs.specs.Numbering.{IsLater}
use Rattle.raw_logs.proofs.FirstThreads.{thread_found, each_more, no_thread}
use Rattle.raw_logs.proofs.numbering.first_thread.Goals as goal

-- this one didn't come later
pub returns-in-Some : goal.returns-in-Some
returns-in-Some c = λ log all known.
    let found = c.in-Some.ensures log all known in
    thread_found (IsLater log all) c.args.lines.now c.lines.place _ _ _ (omega (arith, c.lines-test.true, c.len-place-end.ensures))
    c.in_ok-text.ensures refl found.0 found.1 found.2
    (c.lines.invariant log all known)

-- this one did
pub lines-preserved : goal.lines-preserved
lines-preserved c = λ log all known.
    each_more (IsLater log all) c.args.lines.now c.lines.place _ (omega (arith, c.lines-test.true, c.len-place-end.ensures))
    c.in_ok-text.ensures (c.lines.invariant log all known)
    (c.in_default.ensures log all known)

-- each did
pub returns : goal.returns
returns c = λ log all known.
    no_thread (IsLater log all) c.args.lines.now c.lines.place (omega (arith, c.lines-test.false, c.len-place-end.ensures)) (c.lines.invariant log all known)
