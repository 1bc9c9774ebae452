use Rattle.std.proofs.Common.{sym, ◌∙◌}
use Rattle.range_rw.proofs.Calls.{traversal_on}
use Rattle.range_rw.proofs.Insertion.{to_validate}
use Rattle.range_rw.proofs.inserting.insert_and_validate.Goals as goal

-- the node that was linked has its validation to do
pub validate_and_mark-requires : goal.validate_and_mark-requires
validate_and_mark-requires g c = let w = c.walk_and_link in record {
  order = to_validate c.in-Some.walked c.requires.order w.ensures.later c.in-Some.ensures.ends (sym c.is_place.ensures ∙ c.if-not-is_place.false);
}

-- the walk with its link, and the validation, are in one epoch
pub returns-clause-later : goal.returns-clause-later
returns-clause-later g c = traversal_on c.walk_and_link.ensures.later c.validate_and_mark.ensures.later
