use Rattle.std.proofs.Common.{List, ℕ, subst, ◌∙◌}
use Rattle.std.proofs.lemmas.Result.{IfOk-weaker}
use Rattle.raw_trace.specs.Places.{IsGood}
use Rattle.raw_logs.proofs.Decided.{is_so, is_not}
use Rattle.raw_trace.proofs.GoodLines.{half_returns, half_unread, unread_as}
use Rattle.raw_trace.proofs.settling.unreturned.Goals as goal

-- as a call that never returned it is good
pub returns-then-is_good : goal.returns-then-is_good
returns-then-is_good c =
    let h = c.requires in
    half_returns c.args.half.now h.0 h.1 h.2 h.3 h.4 _ _ c.as_slice.ensures.value c.in_ok-line.ensures
    (is_so c.is_good.result c.is_good.ensures c.if-is_good.true)

-- it isn't
pub returns : goal.returns
returns c =
    let h = c.requires in
    IfOk-weaker c.unread.result _ _
    (λ s e. unread_as c.args.half.now s
    (half_unread c.args.half.now h.0 h.1 h.2 h.3 h.4 (subst (λ (x : List ℕ). ¬ IsGood x) (c.as_slice.ensures.value ∙ c.in_ok-line.ensures)
    (is_not c.is_good.result c.is_good.ensures c.if-is_good.false))) e)
    c.unread.ensures
