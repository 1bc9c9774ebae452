use Rattle.std.proofs.Common.{Some, ap, ◌∙◌}
use Rattle.raw_trace.specs.Order.{of_others}
use Rattle.raw_trace.specs.Waiting.{entries_in}
use Rattle.raw_trace.proofs.Waits.{took_of, taken_others, kept_left}
use Rattle.raw_trace.proofs.waiting.Waiting.take_of.Goals as goal

-- the others are kept as they were
pub invariant_of-self : goal.invariant_of-self
invariant_of-self c =
    kept_left c.self.inside.pages c.self.inside.longest c.self.inside.pieces _ (Some (c.page_of-page.result, c.args.process)) c.self.invariant
    c.remove_at.ensures.ordered c.remove_at.ensures.left

-- the call of the process
pub returns-clause-some : goal.returns-clause-some
returns-clause-some c =
    (took_of c.self.inside.pages c.self.inside.longest c.args.process c.page_of-page.result c.self.inside.pieces.entries _ _ _ c.self.view_is
    c.page_of-page.ensures
    c.self.invariant.bound c.self.invariant.known c.remove_at.ensures.was c.remove_at.ensures.left).some

-- there is none
pub returns-clause-none : goal.returns-clause-none
returns-clause-none c =
    (took_of c.self.inside.pages c.self.inside.longest c.args.process c.page_of-page.result c.self.inside.pieces.entries _ _ _ c.self.view_is
    c.page_of-page.ensures
    c.self.invariant.bound c.self.invariant.known c.remove_at.ensures.was c.remove_at.ensures.left).none

-- all that are left are of others
pub returns-clause-others : goal.returns-clause-others
returns-clause-others c =
    ap entries_in c.remove_at.ensures.left
    ∙ taken_others c.self.inside.pages c.self.inside.longest c.args.process c.page_of-page.result c.self.inside.pieces.entries c.page_of-page.ensures
    c.self.invariant.bound
    c.self.invariant.known c.self.invariant.ordered ∙ ap (of_others c.args.process) c.self.view_is
