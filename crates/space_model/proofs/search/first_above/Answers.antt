use Rattle.std.proofs.Common.{◌∙◌}
use Rattle.space_model.proofs.Halving.{first_of_rest}
use Rattle.space_model.proofs.search.first_above.Goals as goal

-- the first area behind the cut is the first that ends above the page
pub returns : goal.returns
returns c =
    first_of_rest c.args.areas.now c.args.page c.cut_by_end.result.0.now c.cut_by_end.result.1.now c.copied.result
    c.cut_by_end.ensures (c.copied.ensures ∙ c.first.ensures.value)
