use Rattle.std.proofs.Common.{◌∙◌, ap}
use Rattle.raw_trace.specs.Order.{frees_for, freed, meet, Entry}
use Rattle.raw_trace.specs.Waiting.{entry, first_key}
use Rattle.raw_trace.proofs.Waits.{took_first, kept_left}
use Rattle.raw_trace.proofs.waiting.Waiting.take_that_frees.Goals as goal

-- the others are kept as they were
pub invariant_of-self : goal.invariant_of-self
invariant_of-self c =
    kept_left c.self.inside.pages c.self.inside.longest c.self.inside.pieces _ c.key_that_frees-place.result c.self.invariant
    c.remove_at.ensures.ordered c.remove_at.ensures.left

-- the first that frees pages
pub returns-clause-some : goal.returns-clause-some
returns-clause-some c =
    (took_first (λ (o : Entry). frees_for o (entry c.args.piece.now)) c.self.inside.pieces.entries _ c.key_that_frees-place.result _ _ c.self.view_is
    c.self.invariant.ordered
    (c.key_that_frees-place.ensures ∙ ap (λ p. first_key (λ (o : Entry). meet (freed o.call) p) c.self.inside.pieces.entries) c.taken.ensures)
    c.remove_at.ensures.was c.remove_at.ensures.left).some

-- there is none
pub returns-clause-none : goal.returns-clause-none
returns-clause-none c =
    (took_first (λ (o : Entry). frees_for o (entry c.args.piece.now)) c.self.inside.pieces.entries _ c.key_that_frees-place.result _ _ c.self.view_is
    c.self.invariant.ordered
    (c.key_that_frees-place.ensures ∙ ap (λ p. first_key (λ (o : Entry). meet (freed o.call) p) c.self.inside.pieces.entries) c.taken.ensures)
    c.remove_at.ensures.was c.remove_at.ensures.left).none
