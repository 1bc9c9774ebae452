use Rattle.std.proofs.Common.{refl, inl, rules}
use Rattle.std.proofs.lemmas.Result.{IfOk-weaker}
use Rattle.raw_trace.specs.Places.{IsUndone}
use Rattle.raw_logs.proofs.Decided.{is_so, is_not}
use Rattle.raw_trace.proofs.GoodLines.{whole_unread, unread_as, kept_as, left_as}
use Rattle.raw_trace.proofs.settling.as_it_is.Goals as goal

-- the line stays
pub returns-then-is_still : goal.returns-then-is_still
returns-then-is_still c =
    IfOk-weaker c.kept.result _ _
    (λ s e. kept_as c.args.line.now s
    (c.requires.whole, (is_so c.is_still.result c.is_still.ensures c.if-is_still.true, c.undone.ensures.none (search rules)), c.requires.short) e)
    c.kept.ensures

-- it doesn't
pub returns : goal.returns
returns c =
    let w = c.requires.whole in
    IfOk-weaker c.unread.result _ _
    (λ s e. unread_as c.args.line.now s
    (whole_unread c.args.line.now w.0 w.1 w.2 (c.undone.ensures.none (search rules)) (is_not c.is_still.result c.is_still.ensures c.if-is_still.false)) e)
    c.unread.ensures

-- it shows itself
pub left_out-requires : goal.left_out-requires
left_out-requires c = (c.args.line.now, inl refl, rw c.in-Some.is at c.undone.ensures.some)

-- it changed nothing
pub returns-in-Some : goal.returns-in-Some
returns-in-Some c =
    let u : IsUndone c.args.line.now c.in-Some.why = rw c.in-Some.is at c.undone.ensures.some in
    IfOk-weaker c.left_out.result _ _ (λ s e. left_as c.args.line.now c.in-Some.why s (c.args.line.now, inl refl, u) e) c.left_out.ensures
