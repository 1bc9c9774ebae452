use Rattle.std.proofs.Common.{inl, inr, refl, sym, subst, ◌∙◌}
use Rattle.raw_logs.proofs.Decided.{is_so, is_not}
use Rattle.raw_trace.specs.Places.{IsGood}
use Rattle.raw_trace.proofs.settling.left_out.Goals as goal

-- with the mark it is good
pub returns-then-is_good : goal.returns-then-is_good
returns-then-is_good c =
    let h = c.requires in
    let s = c.in_ok-settled.ensures in
    inl ((h.0, h.1, h.2, subst IsGood (c.as_slice.ensures.value ∙ s.0) (is_so c.is_good.result c.is_good.ensures c.if-is_good.true)), s.0, refl)

-- it isn't
pub returns : goal.returns
returns c =
    let s = c.in_ok-settled.ensures in
    inr (
      (λ g. is_not c.is_good.result c.is_good.ensures c.if-is_good.false (subst IsGood (sym (c.as_slice.ensures.value ∙ s.0)) g)),
      s.0,
      s.1,
    )
