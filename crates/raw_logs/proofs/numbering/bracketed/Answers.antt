use Rattle.raw_logs.proofs.Decided.{is_so}
use Rattle.raw_logs.proofs.NumberFacts.{whole_body, none_in_brackets, in_brackets}
use Rattle.raw_logs.proofs.numbering.bracketed.Goals as goal

-- nothing was cut off
pub returns-then-body-text : goal.returns-then-body-text
returns-then-body-text c =
    none_in_brackets c.args.text.now (whole_body c.args.text.now c.cut-pid.result.0 c.cut-pid.result.1.now c.cut-pid.ensures c.if-body-text.true)

-- a number in brackets was
pub returns-else-body-text : goal.returns-else-body-text
returns-else-body-text c =
    in_brackets c.args.text.now c.cut-pid.result.0 c.cut-pid.result.1.now
    (is_so c.begins_with.result c.begins_with.ensures c.if-not-begins_with.false) c.cut-pid.ensures c.if-body-text.false
