use Rattle.std.proofs.Common.{◌^◌, List, sym, subst}
use Rattle.std.specs.Prelude.{IfOk, replicate}
use Rattle.list_cuts.specs.Cut.{Regions, list_count}
use Rattle.space_model.specs.declared.areas.Area.{Area}
use Rattle.area_rows.specs.Callers.{AreNewCallersIn}
use Rattle.space_c.specs.Behind.{IsNewBehind}
use Rattle.space_c.proofs.opening.open_over.Goals as goal

-- the callers are those of an empty space over that cut
pub first_state-requires-clause-new : goal.first_state-requires-clause-new
first_state-requires-clause-new c = subst (λ (z : List Area × Regions). AreNewCallersIn (list_count z.1) c.in-Ok.space.table z.0
    (replicate c.args.callers (2 ^ 56)) c.in-Ok.spare.items) (λ i. (c.new-start.ensures i, sym c.in-Ok.ensures.cut i)) c.in-Ok.ensures.callers

-- what is behind its first handle is what is behind one over that cut
pub returns-in-Ok-clause-opened : goal.returns-in-Ok-clause-opened
returns-in-Ok-clause-opened c =
    subst (λ (k : Regions). IfOk c.first_state.result (λ b. IsNewBehind k c.args.callers b.value)) c.in-Ok.ensures.cut c.first_state.ensures.opened
