use Rattle.std.proofs.Common.{IfSome, ◌≤◌, ◌+◌, subst, arith}
use Rattle.space_model.proofs.InBlocks.{gaps_next}
use Rattle.space_model.proofs.blocks.widest.Goals as goal

-- the gap behind the next area isn't longer than the longest one so far
pub areas-preserved-in-Some-first : goal.areas-preserved-in-Some-first
areas-preserved-in-Some-first c =
    gaps_next _ _ _ _ _ _ c.in-Some.ensures.cases.0 (omega (arith, c.max-gap.ensures))
    (subst (λ o. IfSome o (λ b. b.lo ≤ c.in-Some.area.now.hi + c.max-gap.result)) c.in-Some-first.ensures.value
    (omega (arith, c.max-gap.ensures, c.saturating_sub.ensures))) c.areas.invariant

-- behind the last area there is none
pub areas-preserved : goal.areas-preserved
areas-preserved c =
    gaps_next _ _ _ _ _ _ c.in-Some.ensures.cases.0 (omega arith)
    (subst (λ o. IfSome o (λ b. b.lo ≤ c.in-Some.area.now.hi + c.areas.gap)) c.in_default-first.ensures.value tt) c.areas.invariant
