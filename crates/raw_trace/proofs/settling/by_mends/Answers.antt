use Rattle.std.proofs.Common.{ℕ, List, inr, subst, ◌∙◌, sym, rules}
use Rattle.std.proofs.lemmas.Result.{IfOk-weaker}
use Rattle.raw_lines.specs.Mends.{IsMended}
use Rattle.raw_logs.proofs.Decided.{is_so, is_not}
use Rattle.raw_trace.specs.Places.{Shows, IsUndone}
use Rattle.raw_trace.proofs.GoodLines.{mend_good, mend_unread, refused_unread, unread_as, left_as}
use Rattle.raw_trace.proofs.settling.by_mends.Goals as goal

-- no mend applies
pub returns-in_default : goal.returns-in_default
returns-in_default c =
    IfOk-weaker c.unread.result _ _
    (λ s e. unread_as c.args.line.now s
    (refused_unread c.args.line.now c.args.bad c.requires.refused (λ other m why u. c.in_ok-other.ensures.only (search rules) other m)
    (λ other m. absurd (c.in_ok-other.ensures.only (search rules) other m))) e)
    c.unread.ensures

-- the mended line changed nothing
pub left_out-requires : goal.left_out-requires
left_out-requires c =
    let m : IsMended c.args.line.now c.in-Some.other.items = rw c.in-Some.is at c.in_ok-other.ensures.mended in
    let u : IsUndone c.as_slice-shown.result.now c.in-Some-undone.why = rw c.in-Some-undone.is at c.undone.ensures.some in (
      c.in-Some.other.items,
      inr (c.args.bad, c.requires.refused, c.requires.short, m),
      subst (λ (x : List ℕ). IsUndone x c.in-Some-undone.why) c.as_slice-shown.ensures.value u,
    )

pub returns-in-Some-undone : goal.returns-in-Some-undone
returns-in-Some-undone c =
    let m : IsMended c.args.line.now c.in-Some.other.items = rw c.in-Some.is at c.in_ok-other.ensures.mended in
    let u : IsUndone c.as_slice-shown.result.now c.in-Some-undone.why = rw c.in-Some-undone.is at c.undone.ensures.some in
    IfOk-weaker c.left_out.result _ _
    (λ s e. left_as c.args.line.now c.in-Some-undone.why s (
      c.in-Some.other.items,
      inr (c.args.bad, c.requires.refused, c.requires.short, m),
      subst (λ (x : List ℕ). IsUndone x c.in-Some-undone.why) c.as_slice-shown.ensures.value u,
    ) e)
    c.left_out.ensures

-- the mended line is good
pub returns-then-is_good : goal.returns-then-is_good
returns-then-is_good c =
    let m : IsMended c.args.line.now c.in-Some.other.items = rw c.in-Some.is at c.in_ok-other.ensures.mended in
    mend_good c.args.line.now c.args.bad _ _ c.requires.refused c.requires.short m c.as_slice-shown.ensures.value
    (is_so c.is_good.result c.is_good.ensures c.if-is_good.true)

-- it isn't
pub returns : goal.returns
returns c =
    let m : IsMended c.args.line.now c.in-Some.other.items = rw c.in-Some.is at c.in_ok-other.ensures.mended in
    IfOk-weaker c.unread-2.result _ _
    (λ s e. unread_as c.args.line.now s
    (mend_unread c.args.line.now c.args.bad _ _ c.requires.refused m c.as_slice-shown.ensures.value (c.undone.ensures.none (search rules))
    (is_not c.is_good.result c.is_good.ensures c.if-is_good.false)) e)
    c.unread-2.ensures
