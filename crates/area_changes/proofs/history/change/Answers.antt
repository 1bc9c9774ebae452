use Rattle.std.proofs.Common.{sym, subst}
use Rattle.space_model.specs.Answers.{Answers}
use Rattle.space_model.specs.Areas.{kind_at}
use Rattle.space_model.proofs.OneAnswer.{one_answer}
use Rattle.space_model.proofs.SomeAnswer.{leaves_areas}
use Rattle.area_changes.specs.Touching.{AreBelow, AreRuns}
use Rattle.area_changes.proofs.Running.{changes_in}
use Rattle.area_changes.proofs.history.change.Goals as goal

-- the reply is the one that the call has
pub returns-clause-answer : goal.returns-clause-answer
returns-clause-answer c =
    let A = c.args.space.now in let call = c.args.call.now in
    let same = (one_answer A call c.step_under.result.0 c.args.reply _ _ c.step_under.ensures.answer c.requires.right.1).0 in
    subst (λ r. Answers A call r c.step_under.new.self) same c.step_under.ensures.answer

-- the changes are those of the touched pages, since no other page changed
pub returns-clause-changes : goal.returns-clause-changes
returns-clause-changes c =
    let A = c.args.space.now in let B = c.step_under.new.self in let call = c.args.call.now in
    let same = (one_answer A call c.step_under.result.0 c.args.reply _ _ c.step_under.ensures.answer c.requires.right.1).0 in
    let answer = subst (λ r. Answers A call r B) same c.step_under.ensures.answer in
    let t = c.pages_of_call-pages.result in let old = c.step_under.ensures.in_order in
    changes_in A B t _ _ _ _ t.first t.ordered t.second (λ page out. c.pages_of_call-pages.ensures B page answer old (leaves_areas A call _ B old answer) out)
    c.in_ok-note_runs.ensures c.in_ok-note_runs-2.ensures
    (λ before lo hi runs begun.
    c.in_ok-compare_runs.ensures before lo hi (subst (λ l. AreRuns before lo l hi) (sym c.as_slice.ensures.value) runs)
    (subst (AreBelow before (kind_at B) lo) (sym c.clear.ensures.items) begun))
    (λ before lo hi runs begun.
    c.in_ok-compare_runs-2.ensures before lo hi (subst (λ l. AreRuns before lo l hi) (sym c.as_slice-2.ensures.value) runs) begun)
