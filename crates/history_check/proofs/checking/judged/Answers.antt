use Rattle.std.proofs.Common.{◌∙◌, arith, refl, ap}
use Rattle.line_parts.specs.Lines.{lines_of}
use Rattle.history_check.proofs.OneVerdict.{one_verdict}
use Rattle.history_check.proofs.Reaching.{reached_end, reached_more, reached_none, reached_rest, reached_wrong}
use Rattle.history_check.proofs.checking.judged.Goals as goal

-- at first no line is right
pub log-init : goal.log-init
log-init c = (reached_none _ _ _ c.new-seen.ensures, omega (arith, c.new-seen.ensures.number))

-- a line that begins otherwise ends the log
pub returns-then-not-begins_log-clause-found : goal.returns-then-not-begins_log-clause-found
returns-then-not-begins_log-clause-found c =
    reached_rest _ _ _ c.in-Some.line.now _ c.log.seen c.log.space _ _ c.in-Some.ensures.line
    (c.as_slice.ensures.value ∙ c.into_areas-areas.ensures.list) c.log.invariant.0
    (λ b. let yes = c.begins_log.ensures.1 b in absurd cc) c.rest_verdict.ensures

-- and no other verdict is right
pub returns-then-not-begins_log-clause-only : goal.returns-then-not-begins_log-clause-only
returns-then-not-begins_log-clause-only c v = one_verdict _ _ _ v (returns-then-not-begins_log-clause-found c)

-- the line is wrong
pub returns-in-Some-take-clause-found : goal.returns-in-Some-take-clause-found
returns-in-Some-take-clause-found c =
    reached_wrong _ _ _ c.in-Some.line.now _ c.log.seen _ c.log.space _ _ c.in-Some-take.why c.in-Some.ensures.line c.log.invariant.0
    (c.begins_log.ensures.0 c.if-not-begins_log.false) c.in-Some-take.is c.take.ensures

-- and no other verdict is right
pub returns-in-Some-take-clause-only : goal.returns-in-Some-take-clause-only
returns-in-Some-take-clause-only c v = one_verdict _ _ _ v (returns-in-Some-take-clause-found c)

-- one more line is right
pub log-preserved : goal.log-preserved
log-preserved c =
    let more = reached_more _ _ _ c.in-Some.line.now _ c.log.seen _ c.log.space _ _ c.in-Some.ensures.line c.log.invariant.0
    (c.begins_log.ensures.0 c.if-not-begins_log.false) c.in_default-take.is c.take.ensures in
    (more.0, omega (arith, more.1, c.log.invariant.1, c.in-Some.ensures.shorter))

-- the text ends with the log
pub returns-clause-found : goal.returns-clause-found
returns-clause-found c = reached_end _ _ _ c.log.seen c.log.space (ap lines_of (c.in_default.ensures.none.0 refl)) c.log.invariant.0

-- and no other verdict is right
pub returns-clause-only : goal.returns-clause-only
returns-clause-only c v = one_verdict _ _ _ v (returns-clause-found c)
