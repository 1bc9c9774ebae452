use Rattle.std.proofs.Common.{Some, sym}
use Rattle.space_model.proofs.Splicing.{end_of-last}
use Rattle.space_model.proofs.splice.end_of.Goals as goal

-- the end of a list is that of its last area
pub returns-in-Some : goal.returns-in-Some
returns-in-Some c = sym (end_of-last c.args.areas.now (Some c.in-Some.area.now) c.in-Some.ensures.value)
