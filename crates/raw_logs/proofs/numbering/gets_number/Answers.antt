use Rattle.std.proofs.Common.{rules, ◌≢◌, []}
use Rattle.raw_logs.proofs.Decided.{is_not}
use Rattle.raw_logs.proofs.NumberFacts.{gets_by}
use Rattle.raw_logs.proofs.numbering.gets_number.Goals as goal

-- it hangs on the number alone
pub returns : goal.returns
returns c =
    let filled : c.args.text.now ≢ [] = search rules in
    gets_by c.args.text.now c.has_no_number.result c.has_no_number.ensures filled (is_not c.is_unread.result c.is_unread.ensures c.if-is_unread.false)
