use Rattle.raw_lines.proofs.RunFacts.{behind_none, behind_yes, behind_shorter}
use Rattle.raw_lines.proofs.fields.behind_field.Goals as goal

-- where no field stands behind the spaces, the text has none
pub returns-in_err-rest-clause-is : goal.returns-in_err-rest-clause-is
returns-in_err-rest-clause-is c = rw c.from_residual.ensures (behind_none c.args.text.now c.skip_spaces.result.now c.skip_spaces.ensures c.in_err-rest.ensures)

-- behind a field and its spaces this is left
pub returns-clause-is : goal.returns-clause-is
returns-clause-is c =
    let k = c.in_ok-rest.ensures in
    behind_yes c.args.text.now c.skip_spaces.result.now k.0 c.in_ok-rest.rest.now c.skip_spaces-2.result.now c.skip_spaces.ensures k.1 k.2
    c.skip_spaces-2.ensures

-- and it is shorter
pub returns-clause-shorter : goal.returns-clause-shorter
returns-clause-shorter c =
    let k = c.in_ok-rest.ensures in
    behind_shorter c.args.text.now c.skip_spaces-2.result.now
    (behind_yes c.args.text.now c.skip_spaces.result.now k.0 c.in_ok-rest.rest.now c.skip_spaces-2.result.now c.skip_spaces.ensures k.1 k.2
    c.skip_spaces-2.ensures)
