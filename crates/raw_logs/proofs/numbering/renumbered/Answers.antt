use Rattle.std.proofs.Common.{refl, inr}
use Rattle.raw_logs.proofs.Decided.{is_so, is_not}
use Rattle.raw_logs.proofs.NumberFacts.{plain_number, loses_changes, gets_changes, nothing_changes}
use Rattle.raw_logs.proofs.numbering.renumbered.Goals as goal

-- the brackets are taken away
pub returns-in-Some : goal.returns-in-Some
returns-in-Some c =
    loses_changes c.args.first c.args.text.now _
    (plain_number c.args.text.now c.in-Some.pid c.cut.result.0 c.in-Some.ensures.0 c.cut.result.1.now _ c.in-Some.ensures.1 c.cut.ensures refl)

-- the text gets its number
pub returns-then-gets_number : goal.returns-then-gets_number
returns-then-gets_number c =
    gets_changes c.args.first _ c.args.text.now _ c.in-Some-first.is (is_so c.gets_number.result c.gets_number.ensures c.if-gets_number.true) refl

-- it doesn't
pub returns : goal.returns
returns c =
    nothing_changes c.args.first c.args.text.now c.in_default.ensures (inr (is_not c.gets_number.result c.gets_number.ensures c.if-gets_number.false))
