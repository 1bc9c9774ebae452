use Rattle.std.proofs.Common.{sym, subst}
use Rattle.space_model.specs.Areas.{kind_at}
use Rattle.area_changes.specs.Touching.{AreBelow, HasKind}
use Rattle.area_changes.proofs.Running.{runs_at}
use Rattle.area_changes.proofs.runs.compare_runs.Goals as goal

-- with one run more the list has its changes too
pub runs-preserved : goal.runs-preserved
runs-preserved c before lo hi all begun =
    let run = c.run-item.result in
    let stand = c.runs.invariant before lo hi all begun in
    let next = runs_at before c.args.runs.now c.runs.run-index stand.0 hi run c.runs-test.true c.run-item.is stand.1 in (
      run.pages.hi,
      next.2,
      c.in_ok-compare_run.ensures before (subst (λ n. HasKind before n run.pages.hi run.kind) (sym next.0) next.1)
          (subst (λ n. AreBelow before (kind_at c.args.space.now) n c.runs.list.items) (sym next.0) stand.2),
    )
