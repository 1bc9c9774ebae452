use Rattle.std.proofs.Common.{◌≡◌, true, arith, sym, subst, ◌∙◌, true≢false}
use Rattle.space_model.specs.Starts.{same_option}
use Rattle.space_model.proofs.Counting.{same_option-true, same_option-same}
use Rattle.area_changes.specs.Touching.{AreBelow}
use Rattle.area_changes.proofs.Adding.{below_same, below_joined}
use Rattle.area_changes.proofs.changes.add.Goals as goal

-- pages whose kind stays add no change
pub returns-then-same_option : goal.returns-then-same_option
returns-then-same_option c before after h was is =
    let same = same_option-true _ _ (sym c.if-same_option.ensures) in
    below_same before after _ c.args.change.hi _ h (omega (arith, c.requires)) (λ page l r. was page l r ∙ same ∙ sym (is page l r))

-- others are one more change, or lengthen the last one
pub returns : goal.returns
returns c before after h was is =
    let d = c.args.change in
    subst (AreBelow before after d.hi) (sym c.in_ok-join.ensures)
    (below_joined before after d _ c.requires h was is
    (λ same. true≢false (sym (subst (λ o. same_option d.before o ≡ true) same (same_option-same d.before)) ∙ sym c.if-same_option.ensures)))
