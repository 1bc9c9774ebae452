use Rattle.std.proofs.Common.{refl}
use Rattle.trace_driver.proofs.CheckLemmas.{stands_over, stands_ended, stands_on, one_too_many}
use Rattle.trace_driver.proofs.checking.LogReading.take.Goals as goal

-- a line behind the log is taken
pub returns-then-self-clause-taken : goal.returns-then-self-clause-taken
returns-then-self-clause-taken c front stands = stands_over front c.args.line.now c.args.self.now stands c.if-self.true c.if-line-gt-LINE_LIMIT.false

-- the first line behind the log is taken
pub returns-then-not-begins_log-clause-taken : goal.returns-then-not-begins_log-clause-taken
returns-then-not-begins_log-clause-taken c front stands = stands_ended front c.args.line.now c.args.self.now _ stands
    (λ begins. let yes = c.begins_log.ensures.1 begins in absurd (cc (yes, c.if-not-begins_log.true))) c.if-line-gt-LINE_LIMIT.false refl

-- a line of the log that is one too many ends the run
pub returns-then-self-ge-LINES_LIMIT-clause-stopped : goal.returns-then-self-ge-LINES_LIMIT-clause-stopped
returns-then-self-ge-LINES_LIMIT-clause-stopped c front stands =
    one_too_many front c.args.line.now c.args.self.now stands c.if-self.false (c.begins_log.ensures.0 c.if-not-begins_log.false)
    c.if-line-gt-LINE_LIMIT.false c.if-self-ge-LINES_LIMIT.true

-- a line of the log is taken
pub returns-clause-taken : goal.returns-clause-taken
returns-clause-taken c front stands =
    stands_on front c.args.line.now c.args.self.now _ stands c.if-self.false (c.begins_log.ensures.0 c.if-not-begins_log.false)
    c.if-line-gt-LINE_LIMIT.false c.if-self-ge-LINES_LIMIT.false c.if-self.false refl
