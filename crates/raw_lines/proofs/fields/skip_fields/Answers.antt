use Rattle.raw_lines.specs.Fields.{one_field, last_field}
use Rattle.raw_lines.proofs.fields.skip_fields.Goals as goal

-- one field more is passed
pub fields-preserved : goal.fields-preserved
fields-preserved c = λ rest h. c.fields.invariant rest (one_field c.in-Some.ensures.is h)

-- where no field is left, all of them were passed
pub returns : goal.returns
returns c = c.fields.invariant c.fields.left.now (last_field c.in_default.ensures.is)
