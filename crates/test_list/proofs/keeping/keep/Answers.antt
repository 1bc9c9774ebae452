use Rattle.test_list.proofs.OwnNodes.{kept_if}
use Rattle.test_list.proofs.keeping.keep.Goals as goal

-- a try that ends by an answer has not said that the range is held
pub returns-in-Some-ends_with-clause-held : goal.returns-in-Some-ends_with-clause-held
returns-in-Some-ends_with-clause-held c = kept_if c.in-Some-ends_with.kept c.make_call.new.hand.part.core c.in-Some-ends_with.ensures
