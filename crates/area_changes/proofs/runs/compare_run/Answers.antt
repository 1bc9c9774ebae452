use Rattle.std.proofs.Common.{◌<◌, ◌≡◌, arith}
use Rattle.space_model.specs.Areas.{kind_at}
use Rattle.area_changes.proofs.runs.compare_run.Goals as goal

-- with the pages of one run more the list has their changes too
pub runs-preserved : goal.runs-preserved
runs-preserved c =
    let new = c.run_from-new.result in
    let from : new.pages.lo ≡ c.runs.at = c.run_from-new.ensures.from in
    let some : new.pages.lo < new.pages.hi = new.pages.ordered in
    let end : c.hi-end.result ≡ new.pages.hi = c.hi-end.ensures in (
      omega (arith, c.runs.invariant.0, from, some, end),
      omega (arith, c.run_from-new.ensures.within, end),
      λ before was begun.
          c.in_ok-add.ensures before (kind_at c.args.space.now) (c.runs.invariant.2 before was begun)
          (λ page l r. was page (omega (arith, c.runs.invariant.0, l)) (omega (arith, r, end, c.run_from-new.ensures.within, c.hi-hi.ensures)))
          (λ page l r. c.run_from-new.ensures.kind page l (omega (arith, r, end))),
    )
