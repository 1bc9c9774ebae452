use Rattle.std.proofs.Common.{arith}
use Rattle.raw_logs.specs.Numbering.{IsBareCall}
use Rattle.raw_logs.proofs.Decided.{is_so, is_not, decides_true, decides_false}
use Rattle.raw_logs.proofs.TextLists.{none_more, none_of_all, text_there}
use Rattle.raw_logs.proofs.numbering.some_bare_call.Goals as goal

-- this one is
pub returns-then-is_bare_call : goal.returns-then-is_bare_call
returns-then-is_bare_call c =
    decides_true (
      _,
      text_there c.args.lines.now c.lines.place _ (omega (arith, c.lines-test.true, c.len-place-end.ensures)) c.in_ok-text.ensures,
      is_so c.is_bare_call.result c.is_bare_call.ensures c.if-is_bare_call.true,
    )

-- this one isn't either
pub lines-preserved : goal.lines-preserved
lines-preserved c =
    none_more IsBareCall c.args.lines.now c.lines.place _ (omega (arith, c.lines-test.true, c.len-place-end.ensures)) c.in_ok-text.ensures c.lines.invariant
    (is_not c.is_bare_call.result c.is_bare_call.ensures c.if-is_bare_call.false)

-- none is
pub returns : goal.returns
returns c =
    decides_false (none_of_all IsBareCall c.args.lines.now c.lines.place (omega (arith, c.lines-test.false, c.len-place-end.ensures)) c.lines.invariant)
