use Rattle.std.proofs.Common.{arith}
use Rattle.raw_logs.specs.Numbering.{HasBrackets}
use Rattle.raw_logs.proofs.Decided.{is_so, is_not, decides_true, decides_false}
use Rattle.raw_logs.proofs.TextLists.{none_more, none_of_all, text_there}
use Rattle.raw_logs.proofs.numbering.some_bracketed.Goals as goal

-- this one is
pub returns-then-has_brackets : goal.returns-then-has_brackets
returns-then-has_brackets c =
    decides_true (
      _,
      text_there c.args.lines.now c.lines.place _ (omega (arith, c.lines-test.true, c.len-place-end.ensures)) c.in_ok-text.ensures,
      is_so c.has_brackets.result c.has_brackets.ensures c.if-has_brackets.true,
    )

-- this one isn't either
pub lines-preserved : goal.lines-preserved
lines-preserved c =
    none_more HasBrackets c.args.lines.now c.lines.place _ (omega (arith, c.lines-test.true, c.len-place-end.ensures)) c.in_ok-text.ensures c.lines.invariant
    (is_not c.has_brackets.result c.has_brackets.ensures c.if-has_brackets.false)

-- none is
pub returns : goal.returns
returns c =
    decides_false (none_of_all HasBrackets c.args.lines.now c.lines.place (omega (arith, c.lines-test.false, c.len-place-end.ensures)) c.lines.invariant)
