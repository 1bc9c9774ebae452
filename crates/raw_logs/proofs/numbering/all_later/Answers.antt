use Rattle.std.proofs.Common.{refl, arith}
use Rattle.line_parts.specs.Lines.{lines_of}
use Rattle.raw_logs.proofs.GivenNumbers.{later_none, later_more, later_all}
use Rattle.raw_logs.proofs.numbering.all_later.Goals as goal

-- no line was looked at
pub lines-init : goal.lines-init
lines-init c = later_none _ _ c.in_ok-found.ensures

-- a line more
pub lines-preserved : goal.lines-preserved
lines-preserved c =
    later_more (lines_of c.args.whole.now) c.args.lines.now c.lines.place _ _ _ _ (omega (arith, c.lines-test.true, c.len-place-end.ensures))
    c.in_ok-text.ensures refl c.lines.invariant
    c.in_ok-add_given.ensures

-- all lines
pub returns : goal.returns
returns c = later_all _ c.args.lines.now c.lines.place _ (omega (arith, c.lines-test.false, c.len-place-end.ensures)) c.lines.invariant
