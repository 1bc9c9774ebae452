use Rattle.history_check.proofs.LinesBack.{no_ends, ends_are, in_order, in_bounds, span_is}
use Rattle.history_check.proofs.held.span.Goals as goal

-- a text without two ends is that of no span
pub returns-in_default : goal.returns-in_default
returns-in_default c = λ s a b e. absurd (no_ends s c.args.text.now a b e c.in_default.ensures)

-- ends that are out of order are those of no span
pub returns-then-lo-hi : goal.returns-then-lo-hi
returns-then-lo-hi c = λ s a b e. absurd (in_order s _ _ (ends_are s c.args.text.now c.in-Some.lo c.in-Some.hi a b e c.in-Some.ensures) c.if-lo-hi.true)

-- nor are ends that are too high
pub returns-then-hi-gt-LIMIT : goal.returns-then-hi-gt-LIMIT
returns-then-hi-gt-LIMIT c = λ s a b e.
    absurd (in_bounds s _ _ (ends_are s c.args.text.now c.in-Some.lo c.in-Some.hi a b e c.in-Some.ensures) c.if-hi-gt-LIMIT.true)

-- the span with these ends
pub returns : goal.returns
returns c = λ s a b e. span_is s _ _ (ends_are s c.args.text.now c.in-Some.lo c.in-Some.hi a b e c.in-Some.ensures) _ _
